use Rattle.std.proofs.Common.{◌≡◌, ◌∙◌, ◌≤◌, ◌-◌, ℕ, List, ap, drop, length, length-drop, sym, arith}
use Rattle.std.proofs.lemmas.List.{take_all}
use Rattle.std.specs.Prelude.{codes, nat_eq, true}
use Rattle.std.specs.List.{starts_with}
use Rattle.intent_journal.proofs.JournalRead.{head_there}
use Rattle.intent_journal.proofs.reading.body_head.Goals as goal

pub returns : goal.returns
returns c = λ journal is.
    let long : 13 ≤ length c.args.front.now = omega arith in
    let letters : starts_with nat_eq (drop 1 c.args.front.now) (codes "QDJ1") ≡ true =
    ap (λ (l : List ℕ). starts_with nat_eq l (codes "QDJ1")) (sym (take_all (length c.args.front.now - 1) (drop 1 c.args.front.now) (omega (arith, length-drop 1 c.args.front.now)))) ∙ sym c.starts_with.ensures.value ∙ c.if-not-starts_with.false in
    head_there c.args.front.now journal is long letters c.u32_at.result c.u32_at-2.result c.u32_at.ensures c.u32_at-2.ensures
