-- What becomes of a packed message: the first of the rules from area to length that refuses it, or its draft, and the
-- place of the conference that it goes to.
use Rattle.std.specs.Prelude.{ℕ, List, [], ◌∷◌, length, position, take, Option, Some, None, Bool, true, false, not, ◌&&◌, nat_lt}
use Rattle.std.specs.Str.{str_eq_ignore_ascii_case}
use Rattle.jam_records.specs.declared.message.Kind.{Kind}
use Rattle.jam_records.specs.declared.message.Kind.TheVariants.{Local, Echo, Net}
use Rattle.jam_records.specs.declared.message.Message.{Message}
use Rattle.jam_layout.specs.Marks.{is_net}
use Rattle.netmail_rules.specs.AddressLine.{is_plain}
use Rattle.netmail_rules.specs.Rules.{names_nobody, first_refusing}
use Rattle.setup_file.specs.declared.conference.Conference.{Conference}
use Rattle.setup_file.specs.declared.fields.SetupFields.{SetupFields}
use Rattle.fts_packet.specs.Draft.{tossed_draft}
use Rattle.fts_packet.specs.Lines.{tag_of}
use Rattle.fts_packet.specs.declared.packet.FtsMessage.{FtsMessage}
use Rattle.fts_packet.specs.declared.rule.TossRule.{TossRule}
use Rattle.fts_packet.specs.declared.rule.TossRule.TheVariants as rule
use Rattle.fts_packet.specs.declared.toss.TossDraft.{TossDraft}
use Rattle.fts_packet.specs.declared.toss.TossDraft.TheVariants.{Post, Refused}

abbrev pub is_echo : Kind → Bool
is_echo Local = false
is_echo Echo = true
is_echo Net = false

-- echomail goes to an echo conference of the tag's name, and net mail to a net conference
abbrev pub takes_tag : Option (List ℕ) → Conference → Bool
takes_tag (Some tag) c = is_echo c.kind && str_eq_ignore_ascii_case c.name tag
takes_tag None c = is_net c.kind

-- the place of the first such conference, among the 255 that places are counted for; a valid setup has at most 64
abbrev pub place_for : Option (List ℕ) → SetupFields → Option ℕ
place_for tag s = position (takes_tag tag) (take 255 s.conferences)

-- no conference takes the message
abbrev pub missing : Option (List ℕ) → TossRule
missing (Some tag) = rule.Area
missing None = rule.Net

-- the rules of a message that a conference takes, in their order, each with whether it refuses
abbrev pub toss_rules : FtsMessage → Message → List (TossRule × Bool)
toss_rules m draft =
    (rule.To, names_nobody m.to)
    ∷ (rule.From, names_nobody m.from)
    ∷ (rule.Subject, not (is_plain m.subject))
    ∷ (rule.Length, nat_lt 16384 (length draft.body))
    ∷ []

-- the draft in a place, unless a rule refuses
abbrev pub tossed_unless_refused : Option TossRule → ℕ → Message → TossDraft
tossed_unless_refused (Some refusing) place draft = Refused refusing
tossed_unless_refused None place draft = Post place draft

-- the verdict of a message with this draft, by the place that takes it
abbrev pub verdict_by_place : FtsMessage → Message → Option ℕ → TossDraft
verdict_by_place m draft None = Refused (missing (tag_of m.lines))
verdict_by_place m draft (Some place) = tossed_unless_refused (first_refusing (toss_rules m draft)) place draft

unfoldable pub toss_verdict : SetupFields → FtsMessage → ℕ → TossDraft
toss_verdict s m now = verdict_by_place m (tossed_draft m now) (place_for (tag_of m.lines) s)
