-- The verdict, by the conference that takes a message and then by its rules; and whether there is a tag.
use Rattle.std.proofs.Common.{◌≡◌, ℕ, Option, Some, None, List, ap, ◌∙◌}
use Rattle.std.specs.Borrow.{Bor}
use Rattle.std.specs.Option.{is_some, option_copied}
use Rattle.jam_records.specs.declared.message.Message.{Message}
use Rattle.netmail_rules.specs.Rules.{first_refusing}
use Rattle.setup_file.specs.declared.fields.SetupFields.{SetupFields}
use Rattle.fts_packet.specs.Draft.{tossed_draft}
use Rattle.fts_packet.specs.Lines.{tag_of}
use Rattle.fts_packet.specs.Tossed.{place_for, missing, toss_rules, tossed_unless_refused, verdict_by_place, toss_verdict}
use Rattle.fts_packet.specs.declared.packet.FtsMessage.{FtsMessage}
use Rattle.fts_packet.specs.declared.rule.TossRule.{TossRule}
use Rattle.fts_packet.specs.declared.toss.TossDraft.TheVariants.{Refused}

-- no conference takes the message
pub refused_first : (s : SetupFields) (m : FtsMessage) (now : ℕ) (r : TossRule) → None ≡ place_for (tag_of m.lines) s → r ≡ missing (tag_of m.lines) → Refused r ≡ toss_verdict s m now
unfolding toss_verdict
refused_first s m now r none is = ap Refused is ∙ ap (verdict_by_place m (tossed_draft m now)) none

-- one takes it
pub judged_later : (s : SetupFields) (m : FtsMessage) (now place : ℕ) (draft : Message) (o : Option TossRule) → Some place ≡ place_for (tag_of m.lines) s → draft ≡ tossed_draft m now
    → o ≡ first_refusing (toss_rules m draft) → tossed_unless_refused o place draft ≡ toss_verdict s m now
unfolding toss_verdict
judged_later s m now place draft o some made first =
    ap (λ p. tossed_unless_refused p place draft) first
    ∙ (ap (λ (x : Message). verdict_by_place m x (Some place)) made ∙ ap (verdict_by_place m (tossed_draft m now)) some)

-- a text is there where what it is lent from is
pub some_copied : (o : Option (Bor (List ℕ))) (p : Option (List ℕ)) → option_copied o ≡ p → is_some o ≡ is_some p
some_copied None p e = ap is_some e
some_copied (Some text) p e = ap is_some e
