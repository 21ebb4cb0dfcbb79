-- The verdict by the rules before the conference's, and then by those.
use Rattle.std.proofs.Common.{◌≡◌, ℕ, Bool, Option, Some, None, List, ◌++◌, sym, ap, ◌∙◌}
use Rattle.qwk_blocks.specs.declared.message.QwkMessage.{QwkMessage}
use Rattle.jam_records.specs.declared.message.Message.{Message}
use Rattle.netmail_rules.specs.Draft.{draft_of}
use Rattle.netmail_rules.specs.Verdict.{unless_refused, plain_verdict}
use Rattle.netmail_rules.specs.Rules.{first_refusing, rules_before, rules_in}
use Rattle.netmail_rules.specs.declared.rule.Rule.{Rule}
use Rattle.netmail_rules.specs.declared.verdict.Verdict.TheVariants.{Refused}
use Rattle.netmail_rules.specs.declared.view.View.{View}
use Rattle.netmail_rules.proofs.RuleLists.{refused_before, refused_behind}

pub refused_first : (v : View) (m : QwkMessage) (now : ℕ) (rules : List (Rule × Bool)) (r : Rule) → rules ≡ rules_before v m → Some r ≡ first_refusing rules → Refused r ≡ plain_verdict v m now
unfolding plain_verdict
refused_first v m now rules r is first =
    let d : Message = draft_of v m now in
    ap (λ o. unless_refused o d) (sym (refused_before (rules_before v m) (rules_in v v.conference m d) r (sym (first ∙ ap first_refusing is))))

-- no rule before refuses, and this is the first of the conference's
pub judged_later : (v : View) (m : QwkMessage) (now : ℕ) (rules : List (Rule × Bool)) (draft : Message) (o : Option Rule) → rules ≡ rules_before v m → None ≡ first_refusing rules
    → draft ≡ draft_of v m now → o ≡ first_refusing (rules_in v v.conference m draft) → unless_refused o draft ≡ plain_verdict v m now
unfolding plain_verdict
judged_later v m now rules draft o is first made later =
    let d : Message = draft_of v m now in
    let all : first_refusing (rules_in v v.conference m d) ≡ first_refusing (rules_before v m ++ rules_in v v.conference m d) = sym (refused_behind (rules_before v m) (rules_in v v.conference m d) (sym (first ∙ ap first_refusing is))) in
    ap (λ p. unless_refused p draft) later ∙ (ap (λ (x : Message). unless_refused (first_refusing (rules_in v v.conference m x)) x) made ∙ ap (λ p. unless_refused p d) all)
