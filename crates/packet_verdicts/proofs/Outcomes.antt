-- One message more is judged.
use Rattle.std.proofs.Common.{◌≡◌, ℕ, [], ap}
use Rattle.std.specs.Prelude.{Option, Some, None}
use Rattle.jam_records.specs.declared.message.Message.{Message}
use Rattle.netmail_rules.specs.long_names.Plain.{plain}
use Rattle.netmail_rules.specs.Draft.{draft_of}
use Rattle.netmail_rules.specs.Rules.{first_refusing, rules_of}
use Rattle.netmail_rules.specs.Verdict.{unless_refused, plain_verdict, verdict}
use Rattle.netmail_rules.specs.declared.rule.Rule.{Rule}
use Rattle.netmail_rules.specs.declared.verdict.Verdict.TheVariants.{Post}
use Rattle.netmail_rules.specs.declared.view.View.{View}
use Rattle.qwk_blocks.specs.declared.message.QwkMessage.{QwkMessage}

was_draft : (o : Option Rule) (d e : Message) → Post e ≡ unless_refused o d → e ≡ d
was_draft None d e is = cc
was_draft (Some r) d e is = absurd (cc)

-- a draft has no msgid yet
pub no_msgid : (v : View) (m : QwkMessage) (now : ℕ) (draft : Message) → Post draft ≡ verdict v m now → draft.msgid ≡ []
unfolding plain_verdict draft_of
no_msgid v m now draft is = ap (λ (d : Message). d.msgid) (was_draft (first_refusing (rules_of v (plain m) (draft_of v (plain m) now))) (draft_of v (plain m) now) draft is)
