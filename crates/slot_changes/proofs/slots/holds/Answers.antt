use Rattle.std.proofs.Common.{◌≢◌, true≢false, length, sym, ap, ◌∙◌}
use Rattle.std.proofs.lemmas.Bool.{eqb-true, eq-eqb}
use Rattle.slot_changes.proofs.SlotValues.{may_then, then_may, then_some}
use Rattle.slot_changes.proofs.slots.holds.Goals as goal

pub returns-then-is_empty : goal.returns-then-is_empty
returns-then-is_empty c = (
  λ no. absurd (true≢false (sym no)),
  λ is. absurd (then_some c.args.kind c.args.message.now is (ap length (sym c.as_slice.ensures.same) ∙ eqb-true (length c.as_slice.result.now) 0 (sym c.is_empty.ensures ∙ c.if-is_empty.true))),
)

pub returns : goal.returns
returns c =
    let some : length c.args.message.now.msgid ≢ 0 = λ none. true≢false (sym (c.is_empty.ensures ∙ eq-eqb (length c.as_slice.result.now) 0 (ap length c.as_slice.ensures.same ∙ none)) ∙ c.if-is_empty.false) in
    (λ yes. may_then c.args.kind c.args.message.now some (c.may_hold.ensures.0 yes), λ is. c.may_hold.ensures.1 (then_may c.args.kind c.args.message.now is))
