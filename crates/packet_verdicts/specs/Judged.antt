-- What becomes of the messages of a packet, one after the other.
use Rattle.std.specs.Prelude.{ℕ, ◌+◌, ◌-◌, List, [], ◌∷◌, ◌++◌, fold, count_by, Option, Some, None, Bool, true, false}
use Rattle.board_layout.specs.Board.{Board}
use Rattle.jam_records.specs.declared.message.Message.{Message}
use Rattle.netmail_rules.specs.Rules.{new_bytes}
use Rattle.netmail_rules.specs.declared.rule.Rule.TheVariants.{Conference}
use Rattle.netmail_rules.specs.declared.verdict.Verdict.{Verdict}
use Rattle.netmail_rules.specs.declared.verdict.Verdict.TheVariants as verdict
use Rattle.netmail_rules.specs.declared.view.ConferenceView.{ConferenceView}
use Rattle.qwk_blocks.specs.declared.message.QwkMessage.{QwkMessage}
use Rattle.post_changes.specs.Posted.{spread}
use Rattle.packet_verdicts.specs.Views.{addressed_place, view_of, verdict_on}
use Rattle.packet_verdicts.specs.declared.outcome.Outcome.{Outcome}
use Rattle.packet_verdicts.specs.declared.outcome.Outcome.TheVariants.{Posted, Refused}

-- What the verdict makes of a message: a draft gets the next number of the conference that the rules see. A message
-- of no conference has no draft.
abbrev pub outcome_of : Option ConferenceView → Verdict → Outcome
outcome_of c (verdict.Refused rule) = Refused rule
outcome_of None (verdict.Post draft) = Refused Conference
outcome_of (Some c) (verdict.Post draft) = Posted c.number (c.slots + 1)

-- the posts with the draft, for the place of its conference, at the end
abbrev pub posts_after : Option ℕ → Verdict → List (ℕ × Message) → List (ℕ × Message)
posts_after place (verdict.Refused rule) posts = posts
posts_after None (verdict.Post draft) posts = posts
posts_after (Some place) (verdict.Post draft) posts = posts ++ (place, draft) ∷ []

-- the room that is left behind a draft for the conference that the rules see
abbrev pub room_left : Option ConferenceView → Message → ℕ → ℕ
room_left None draft room = room
room_left (Some c) draft room = room - new_bytes draft c.msgid_len

-- the outcomes and the posts so far, and those with a message more, judged on the board with these posts
abbrev pub judged_next : Board → ℕ → ℕ → List Outcome × List (ℕ × Message) → QwkMessage → List Outcome × List (ℕ × Message)
judged_next b id now so_far m =
    let board = spread so_far.1 b in
    (so_far.0 ++ outcome_of (view_of board id m).conference (verdict_on board id m now) ∷ [], posts_after (addressed_place m.header.number b) (verdict_on board id m now) so_far.1)

-- the outcomes of the messages that a user uploads at a moment, and the posts of those that are accepted
unfoldable pub judged : Board → ℕ → ℕ → List QwkMessage → List Outcome × List (ℕ × Message)
judged b id now messages = fold (judged_next b id now) ([], []) messages

-- the outcome is a refusal
abbrev pub is_refused : Outcome → Bool
is_refused (Posted conference number) = false
is_refused (Refused rule) = true

-- how many of the outcomes are refusals
abbrev pub refused_count : List Outcome → ℕ
refused_count outcomes = count_by is_refused outcomes
