-- The verdict on an uploaded message.
use Rattle.std.specs.Prelude.{ℕ, Option, Some, None}
use Rattle.long_names.specs.Plain.{plain}
use Rattle.qwk_blocks.specs.declared.message.QwkMessage.{QwkMessage}
use Rattle.jam_records.specs.declared.message.Message.{Message}
use Rattle.netmail_rules.specs.Draft.{draft_of}
use Rattle.netmail_rules.specs.Rules.{first_refusing, rules_of}
use Rattle.netmail_rules.specs.declared.rule.Rule.{Rule}
use Rattle.netmail_rules.specs.declared.verdict.Verdict.{Verdict}
use Rattle.netmail_rules.specs.declared.verdict.Verdict.TheVariants.{Post, Refused}
use Rattle.netmail_rules.specs.declared.view.View.{View}

-- the draft, unless a rule refuses
abbrev pub unless_refused : Option Rule → Message → Verdict
unless_refused (Some rule) draft = Refused rule
unless_refused None draft = Post draft

-- the first rule that refuses a message as it is read, or the draft
unfoldable pub plain_verdict : View → QwkMessage → ℕ → Verdict
plain_verdict v m now = unless_refused (first_refusing (rules_of v m (draft_of v m now))) (draft_of v m now)

-- the verdict on a message of a packet
abbrev pub verdict : View → QwkMessage → ℕ → Verdict
verdict v m now = plain_verdict v (plain m) now
