-- What becomes of the messages of a type 2 packet, one after the other.
use Rattle.std.specs.Prelude.{ℕ, ◌+◌, List, [], ◌∷◌, ◌++◌, length, Option, Some, None, Bool, not, ◌&&◌, ◌==◌, if◌then◌else◌}
use Rattle.std.specs.List.{list_any}
use Rattle.board_layout.specs.Board.{Board}
use Rattle.fts_packet.specs.RuleWord.{toss_word}
use Rattle.fts_packet.specs.Tossed.{toss_verdict}
use Rattle.fts_packet.specs.declared.packet.FtsMessage.{FtsMessage}
use Rattle.fts_packet.specs.declared.rule.TossRule.{TossRule}
use Rattle.fts_packet.specs.declared.rule.TossRule.TheVariants.{Dupe, Full}
use Rattle.fts_packet.specs.declared.toss.TossDraft.{TossDraft}
use Rattle.fts_packet.specs.declared.toss.TossDraft.TheVariants.{Post, Refused}
use Rattle.jam_records.specs.declared.message.Message.{Message}
use Rattle.jam_threads.specs.Children.{has_msgid}
use Rattle.mail_intake.specs.Lines.{posted_line, refused_line}
use Rattle.mail_intake.specs.Room.{is_full}
use Rattle.board_layout.specs.Lookups.{slots_in}
use Rattle.mail_intake.specs.packet_verdicts.Views.{next_number}
use Rattle.post_changes.specs.Posted.{spread}
use Rattle.post_changes.specs.slot_changes.Msgids.{number_of_place}

-- its msgid isn't absent, and a message that the conference holds has it, the posts before it included
abbrev pub is_dupe : Board → List (ℕ × Message) → ℕ × Message → Bool
is_dupe b posts post = not (length post.1.msgid == 0) && list_any (has_msgid post.1.msgid) (slots_in (spread posts b) post.0)

-- the rule, of the last two, that refuses a post behind others
abbrev pub last_rule : Board → List (ℕ × Message) → ℕ × Message → Option TossRule
last_rule b posts post = if is_dupe b posts post then Some Dupe else (if is_full b posts post then Some Full else None)

-- the lines and the posts so far, and those with one message more, which a rule refuses or none
abbrev pub posted_as : Board → ℕ → List ℕ × List (ℕ × Message) → ℕ × Message → Option TossRule → List ℕ × List (ℕ × Message)
posted_as b at so_far post (Some rule) = (so_far.0 ++ refused_line at (toss_word rule), so_far.1)
posted_as b at so_far post None = (so_far.0 ++ posted_line at (number_of_place post.0 b) (next_number (spread so_far.1 b) post.0), so_far.1 ++ post ∷ [])

abbrev pub tossed_as : Board → ℕ → List ℕ × List (ℕ × Message) → TossDraft → List ℕ × List (ℕ × Message)
tossed_as b at so_far (Refused rule) = (so_far.0 ++ refused_line at (toss_word rule), so_far.1)
tossed_as b at so_far (Post place m) = posted_as b at so_far (place, m) (last_rule b so_far.1 (place, m))

-- those of messages that are tossed at a moment, the first of which has a place
unfoldable pub tossed_from : Board → ℕ → ℕ → List ℕ × List (ℕ × Message) → List FtsMessage → List ℕ × List (ℕ × Message)
tossed_from b now at so_far [] = so_far
tossed_from b now at so_far (m ∷ messages) = tossed_from b now (at + 1) (tossed_as b at so_far (toss_verdict b.ledger.setup m now)) messages

-- those of a packet, whose places count from 1
abbrev pub tossed : Board → ℕ → List FtsMessage → List ℕ × List (ℕ × Message)
tossed b now messages = tossed_from b now 1 ([], []) messages
