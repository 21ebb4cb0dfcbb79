-- The outline of a board is judged as the board.
use Rattle.std.proofs.Common.{◌≡◌, ℕ, ◌+◌, ◌-◌, cond, List, [], ◌∷◌, ◌++◌, length, Option, Some, None, refl, sym, ap, ◌∙◌}
use Rattle.std.specs.Prelude.{fold, slice_get, option_map, unwrap_or}
use Rattle.board_layout.proofs.OutlineLaws.{outline_again, outline_size}
use Rattle.board_layout.specs.Board.{Board}
use Rattle.board_layout.specs.Outlines.{board_outline}
use Rattle.board_layout.specs.Valid.{board_limit}
use Rattle.board_layout.specs.Lookups.{message_at}
use Rattle.board_ledger.specs.Uploads.{upload_size}
use Rattle.board_ledger.specs.declared.user.User.{User}
use Rattle.board_layout.specs.jam_layout.Outlines.{message_outline}
use Rattle.jam_records.specs.declared.message.Message.{Message}
use Rattle.netmail_rules.specs.Verdict.{verdict}
use Rattle.netmail_rules.specs.declared.view.ConferenceView.{ConferenceView}
use Rattle.netmail_rules.specs.declared.view.View.{View}
use Rattle.offered_packets.proofs.OutlineLaws.{outline_count, outline_message, outline_sees}
use Rattle.post_changes.proofs.EachPost.{posted_outline}
use Rattle.post_changes.specs.Posted.{spread}
use Rattle.qwk_blocks.specs.declared.message.QwkMessage.{QwkMessage}
use Rattle.setup_file.specs.declared.conference.Conference.{Conference as SetupConference}
use Rattle.post_changes.specs.slot_changes.Msgids.{msgid_in}
use Rattle.packet_verdicts.specs.Judged.{outcome_of, posts_after, judged_next, judged}
use Rattle.packet_verdicts.specs.Views.{user_with, addressed_place, conference_view, conference_seen, msgid_at, reply_at, reply_seen, room_of, view_with, view_of}
use Rattle.packet_verdicts.specs.declared.outcome.Outcome.{Outcome}

-- ---- what the rules see of a board
one_view : (b : Board) (u : User) (place : ℕ) (c : SetupConference) → conference_view (board_outline b) u place c ≡ conference_view b u place c
one_view b u place c = λ i. record (conference_view b u place c) { slots = outline_count b place i; msgid_len = length (msgid_in place b (outline_count b place i + 1)) }

view_there : (b : Board) (u : User) (place : ℕ) (c : Option SetupConference) → option_map (conference_view (board_outline b) u place) c ≡ option_map (conference_view b u place) c
view_there b u place None = refl
view_there b u place (Some c) = ap (λ (v : ConferenceView). Some v) (one_view b u place c)

conference_outline : (b : Board) (u : User) (place : Option ℕ) → conference_seen (board_outline b) u place ≡ conference_seen b u place
conference_outline b u None = refl
conference_outline b u (Some place) = view_there b u place (slice_get b.ledger.setup.conferences place)

msgid_there : (m : Option Message) → unwrap_or (option_map (λ m. m.msgid) (option_map message_outline m)) [] ≡ unwrap_or (option_map (λ m. m.msgid) m) []
msgid_there None = refl
msgid_there (Some m) = refl

msgid_outline : (b : Board) (place number : ℕ) → msgid_at (board_outline b) place number ≡ msgid_at b place number
msgid_outline b place number = ap (λ (m : Option Message). unwrap_or (option_map (λ m. m.msgid) m) []) (outline_message b place number) ∙ msgid_there (message_at b place number)

one_reply : (b : Board) (id place number : ℕ) → reply_at (board_outline b) id place number ≡ reply_at b id place number
unfolding reply_at
one_reply b id place number = λ i. cond (outline_sees b id place number i) (msgid_outline b place number i) []

reply_outline : (b : Board) (id : ℕ) (place reference : Option ℕ) → reply_seen (board_outline b) id place reference ≡ reply_seen b id place reference
reply_outline b id None reference = refl
reply_outline b id (Some place) None = refl
reply_outline b id (Some place) (Some number) = one_reply b id place number

room_outline : (b : Board) → room_of (board_outline b) ≡ room_of b
room_outline b = ap (λ size. board_limit - (size + upload_size)) (outline_size b)

place_outline : (b : Board) (number : Option ℕ) → addressed_place number (board_outline b) ≡ addressed_place number b
place_outline b None = refl
place_outline b (Some number) = refl

pub outline_view : (b : Board) (id : ℕ) (m : QwkMessage) → view_of (board_outline b) id m ≡ view_of b id m
outline_view b id m =
    ap (λ (place : Option ℕ). view_with b.ledger (user_with id b) (conference_seen (board_outline b) (user_with id b) place) (reply_seen (board_outline b) id place m.header.reference) (room_of (board_outline b))) (place_outline b m.header.number)
    ∙ (λ i. view_with b.ledger (user_with id b) (conference_outline b (user_with id b) (addressed_place m.header.number b) i) (reply_outline b id (addressed_place m.header.number b) m.header.reference i) (room_outline b i))

-- ---- verdicts
pub outline_spread : (b : Board) (posts : List (ℕ × Message)) → board_outline (spread posts (board_outline b)) ≡ board_outline (spread posts b)
outline_spread b posts = posted_outline (board_outline b) b (outline_again b) posts b.ledger

view_next : (b : Board) (posts : List (ℕ × Message)) (id : ℕ) (m : QwkMessage) → view_of (spread posts (board_outline b)) id m ≡ view_of (spread posts b) id m
view_next b posts id m =
    sym (outline_view (spread posts (board_outline b)) id m) ∙ (ap (λ (o : Board). view_of o id m) (outline_spread b posts) ∙ outline_view (spread posts b) id m)

next_outline : (b : Board) (id now : ℕ) (so_far : List Outcome × List (ℕ × Message)) (m : QwkMessage) → judged_next (board_outline b) id now so_far m ≡ judged_next b id now so_far m
next_outline b id now so_far m =
    let view : View = view_of (spread so_far.1 (board_outline b)) id m in
    ap (λ (place : Option ℕ). (so_far.0 ++ outcome_of view.conference (verdict view m now) ∷ [], posts_after place (verdict view m now) so_far.1)) (place_outline b m.header.number)
    ∙ ap (λ (v : View). (so_far.0 ++ outcome_of v.conference (verdict v m now) ∷ [], posts_after (addressed_place m.header.number b) (verdict v m now) so_far.1)) (view_next b so_far.1 id m)

pub outline_judged : (b : Board) (id now : ℕ) (messages : List QwkMessage) → judged (board_outline b) id now messages ≡ judged b id now messages
unfolding judged
outline_judged b id now messages = λ i. fold (λ so_far m. next_outline b id now so_far m i) ([], []) messages
