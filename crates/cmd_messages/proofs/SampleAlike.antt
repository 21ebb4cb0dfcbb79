-- A sample is made alike, and decided alike, on boards with one outline.
use Rattle.std.proofs.Common.{◌≡◌, ℕ, zero, suc, ◌+◌, Bool, List, [], ◌∷◌, ◌++◌, length, map, Option, Some, None, refl, sym, ap, ◌∙◌}
use Rattle.std.specs.Prelude.{nat_lt, option_map, unwrap_or, ◌||◌, ◌==◌, if◌then◌else◌}
use Rattle.std.proofs.lemmas.List.{length-map}
use Rattle.cmd_board.proofs.LikeTurns.{deciding, decided_on, refuses_on}
use Rattle.cmd_board.specs.Enroll.{first_refusal}
use Rattle.cmd_board.specs.Turns.{refuses}
use Rattle.board_layout.proofs.OneOutline.{alike_ledger, alike_size}
use Rattle.board_layout.specs.Board.{Board}
use Rattle.board_layout.specs.Outlines.{board_outline}
use Rattle.board_layout.specs.Valid.{board_limit}
use Rattle.board_ledger.specs.declared.ledger.Ledger.{Ledger}
use Rattle.jam_layout.specs.Marks.{is_net}
use Rattle.jam_layout.specs.Outlines.{message_outline, outline, slot_outline}
use Rattle.jam_layout.specs.declared.conference.ConferenceContents.{ConferenceContents}
use Rattle.jam_records.specs.declared.message.Message.{Message}
use Rattle.cmd_board.proofs.mail_board.EachNext.{changed_alike}
use Rattle.cmd_board.specs.mail_board.Changes.{changed}
use Rattle.cmd_board.specs.mail_board.Held.{AreAlike}
use Rattle.cmd_board.specs.mail_board.declared.change.Change.{Change}
use Rattle.cmd_board.specs.mail_board.declared.change.Change.TheVariants.{Spread}
use Rattle.packet_verdicts.proofs.offered_packets.OutlineLaws.{outline_count, outline_message}
use Rattle.board_layout.specs.Lookups.{slots_in, message_at}
use Rattle.packet_verdicts.specs.Views.{msgid_at}
use Rattle.post_changes.specs.Posted.{spread}
use Rattle.cmd_board.specs.shelf_files.declared.refusal.Refusal.{Refusal}
use Rattle.cmd_board.specs.shelf_files.declared.refusal.Refusal.TheVariants.{Count, Size}
use Rattle.cmd_board.proofs.ChangeExits.{carried}
use Rattle.cmd_board.proofs.PlaceAlike.{bare, kind_alike}
use Rattle.cmd_messages.specs.Draws.{draws_of}
use Rattle.cmd_messages.specs.Sample.{last_msgid, recipient_name, drawn_replyid, sample_refusals, sample_turn, sampled, sampled_line, sampled_message, sampled_post, sampled_posts, sampling, slot_counts, slots_case}
use Rattle.cmd_messages.specs.declared.draws.Draws.{Draws}

-- ---- the last message of a place
msgid_there : (m : Option Message) → unwrap_or (option_map (λ (x : Message). x.msgid) (option_map message_outline m)) [] ≡ unwrap_or (option_map (λ (x : Message). x.msgid) m) []
msgid_there None = refl
msgid_there (Some m) = refl

last_outline : (place : ℕ) (b : Board) → last_msgid place (board_outline b) ≡ last_msgid place b
last_outline place b =
    ap (msgid_at (board_outline b) place) (outline_count b place)
    ∙ (ap (λ (m : Option Message). unwrap_or (option_map (λ (x : Message). x.msgid) m) []) (outline_message b place (length (slots_in b place))) ∙ msgid_there (message_at b place (length (slots_in b place))))

-- ---- one message
module _ (a b : Board) (alike : AreAlike a b) where
  last_alike : (place : ℕ) → last_msgid place a ≡ last_msgid place b
  last_alike place = sym (last_outline place a) ∙ (ap (last_msgid place) alike ∙ last_outline place b)

  draws_alike : (seed behind : ℕ) → draws_of seed behind a ≡ draws_of seed behind b
  draws_alike seed behind = ap (λ (l : Ledger). draws_of seed behind (bare l)) (alike_ledger a b alike)

  message_alike : (seed now number : ℕ) (d : Draws) → sampled_message seed now number d a ≡ sampled_message seed now number d b
  message_alike seed now number d =
      let to : recipient_name d.recipient a ≡ recipient_name d.recipient b = ap (λ (l : Ledger). recipient_name d.recipient (bare l)) (alike_ledger a b alike) in
      let replyid : drawn_replyid d a ≡ drawn_replyid d b = λ i. if d.reply == 0 then last_alike d.place i else [] in
      λ i. record (sampled_message seed now number d b) { to = to i; replyid = replyid i; private = is_net (kind_alike a b alike d.place i) }

  post_alike : (seed now behind : ℕ) → sampled_post seed now behind a ≡ sampled_post seed now behind b
  post_alike seed now behind =
      (λ i. ((draws_alike seed behind i).place, sampled_message seed now (behind + 1) (draws_alike seed behind i) a))
      ∙ ap (λ (m : Message). ((draws_of seed behind b).place, m)) (message_alike seed now (behind + 1) (draws_of seed behind b))

-- ---- all messages
posts_alike : (seed now : ℕ) (a b : Board) → AreAlike a b → (count : ℕ) → sampled_posts seed now a count ≡ sampled_posts seed now b count
unfolding sampled_posts
posts_alike seed now a b alike zero = refl
posts_alike seed now a b alike (suc n) =
    let before = posts_alike seed now a b alike n in
    let posts : List (ℕ × Message) = sampled_posts seed now b n in
    (λ i. before i ++ sampled_post seed now n (spread (before i) a) ∷ [])
    ∙ ap (λ (p : ℕ × Message). posts ++ p ∷ []) (post_alike (spread posts a) (spread posts b) (changed_alike a b alike (Spread posts)) seed now n)

-- ---- the refusals, by the slots of each conference and the size of the next board
counts_outline : (conferences : List ConferenceContents) → map (λ (c : ConferenceContents). length c.slots) (map outline conferences) ≡ map (λ (c : ConferenceContents). length c.slots) conferences
counts_outline [] = refl
counts_outline (c ∷ conferences) = λ i. length-map c.slots slot_outline i ∷ counts_outline conferences i

counts_alike : (a b : Board) → AreAlike a b → slot_counts a ≡ slot_counts b
counts_alike a b alike = sym (counts_outline a.conferences) ∙ (ap slot_counts alike ∙ counts_outline b.conferences)

abbrev refusals_by : ℕ → List ℕ → ℕ → List (Bool × Refusal)
refusals_by count slots size = (count == 0 || nat_lt 5000 count, Count) ∷ (map slots_case slots ++ (nat_lt board_limit size, Size size) ∷ [])

module _ (seed count now : ℕ) where
  decides : (b : Board) (found : Option Refusal) → sampling seed count now b found ≡ deciding (sampled seed count now) (sampled_line count) b found
  decides b None = refl
  decides b (Some why) = refl

  module _ (a b : Board) (alike : AreAlike a b) where
    next_alike : AreAlike (sampled seed count now a) (sampled seed count now b)
    next_alike = ap (λ (posts : List (ℕ × Message)). board_outline (spread posts a)) (posts_alike seed now a b alike count) ∙ changed_alike a b alike (Spread (sampled_posts seed now b count))

    first_same : first_refusal (sample_refusals seed count now a) ≡ first_refusal (sample_refusals seed count now b)
    first_same =
        λ i. first_refusal (refusals_by count (counts_alike (sampled seed count now a) (sampled seed count now b) next_alike i) (alike_size (sampled seed count now a) (sampled seed count now b) next_alike i))

    -- the turn of the one by the refusal of the other
    turn_is : sample_turn seed count now (Some a) ≡ deciding (sampled seed count now) (sampled_line count) a (first_refusal (sample_refusals seed count now b))
    turn_is = ap (sampling seed count now a) first_same ∙ decides a (first_refusal (sample_refusals seed count now b))

    was_is : sample_turn seed count now (Some b) ≡ deciding (sampled seed count now) (sampled_line count) b (first_refusal (sample_refusals seed count now b))
    was_is = decides b (first_refusal (sample_refusals seed count now b))

    pub sample_refused : (why : Refusal) → sample_turn seed count now (Some b) ≡ refuses why (Some b) → sample_turn seed count now (Some a) ≡ refuses why (Some a)
    sample_refused why e = turn_is ∙ refuses_on (sampled seed count now) (sampled_line count) a b (first_refusal (sample_refusals seed count now b)) why (sym was_is ∙ e)

    pub sample_taken : (change : Change) (text : List ℕ) → change ≡ Spread (sampled_posts seed now b count) → sample_turn seed count now (Some b) ≡ carried change b text → sample_turn seed count now (Some a) ≡ carried change a text
    sample_taken change text is e =
        let same : changed change a ≡ sampled seed count now a = ap (λ (k : Change). changed k a) is ∙ ap (λ (posts : List (ℕ × Message)). spread posts a) (sym (posts_alike seed now a b alike count)) in
        turn_is ∙ decided_on (sampled seed count now) (changed change) (sampled_line count) text a b (first_refusal (sample_refusals seed count now b)) same (sym was_is ∙ e)
