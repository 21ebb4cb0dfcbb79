-- What becomes of the messages of a packet is the same on boards with one outline.
use Rattle.std.proofs.Common.{◌≡◌, ℕ, ◌+◌, ◌||◌, ◌&&◌, cond, List, [], ◌∷◌, ◌++◌, length, map, Option, Some, None, refl, sym, ap, ◌∙◌}
use Rattle.std.specs.Prelude.{◌==◌, not}
use Rattle.std.specs.List.{list_any}
use Rattle.cmd_board.specs.Turns.{Turn}
use Rattle.board_layout.proofs.OneOutline.{alike_ledger}
use Rattle.board_layout.specs.Board.{Board}
use Rattle.board_layout.specs.Outlines.{board_outline}
use Rattle.board_ledger.specs.declared.ledger.Ledger.{Ledger}
use Rattle.fts_packet.specs.Tossed.{toss_verdict}
use Rattle.fts_packet.specs.declared.packet.FtsMessage.{FtsMessage}
use Rattle.fts_packet.specs.declared.rule.TossRule.{TossRule}
use Rattle.fts_packet.specs.declared.rule.TossRule.TheVariants.{Dupe, Full}
use Rattle.fts_packet.specs.declared.toss.TossDraft.{TossDraft}
use Rattle.fts_packet.specs.declared.toss.TossDraft.TheVariants.{Post, Refused}
use Rattle.jam_layout.specs.Outlines.{slot_outline}
use Rattle.jam_records.specs.declared.message.Message.{Message}
use Rattle.jam_records.specs.declared.message.Slot.{Slot}
use Rattle.jam_records.specs.declared.message.Slot.TheVariants.{Gone, Held}
use Rattle.jam_threads.specs.Children.{has_msgid}
use Rattle.cmd_board.proofs.mail_board.EachNext.{changed_alike}
use Rattle.cmd_board.specs.mail_board.Changes.{changed}
use Rattle.cmd_board.specs.mail_board.Held.{AreAlike}
use Rattle.cmd_board.specs.mail_board.declared.change.Change.{Change}
use Rattle.cmd_board.specs.mail_board.declared.change.Change.TheVariants.{Spread}
use Rattle.mail_intake.proofs.RoomAlike.{count_alike, full_alike}
use Rattle.mail_intake.specs.Lines.{intake_text, posted_line}
use Rattle.cmd_board.proofs.ChangeExits.{carried}
use Rattle.cmd_board.proofs.PlaceAlike.{bare}
use Rattle.mail_intake.proofs.offered_packets.OutlineLaws.{outline_slots}
use Rattle.board_layout.specs.Lookups.{slots_in}
use Rattle.post_changes.specs.Posted.{spread}
use Rattle.shelf_files.specs.Halts.{done}
use Rattle.post_changes.specs.slot_changes.Msgids.{number_of_place}
use Rattle.cmd_toss.specs.Toss.{tossing}
use Rattle.cmd_toss.specs.Tossed.{is_dupe, last_rule, posted_as, tossed, tossed_as, tossed_from}

-- ---- the msgids of slots
one_id : (id : List ℕ) (s : Slot) → has_msgid id (slot_outline s) ≡ has_msgid id s
one_id id Gone = refl
one_id id (Held m) = refl

any_id : (id : List ℕ) (slots : List Slot) → list_any (has_msgid id) (map slot_outline slots) ≡ list_any (has_msgid id) slots
any_id id [] = refl
any_id id (s ∷ slots) = λ i. one_id id s i || any_id id slots i

ids_outline : (b : Board) (place : ℕ) (id : List ℕ) → list_any (has_msgid id) (slots_in b place) ≡ list_any (has_msgid id) (slots_in (board_outline b) place)
ids_outline b place id = sym (ap (list_any (has_msgid id)) (outline_slots b place) ∙ any_id id (slots_in b place))

ids_alike : (a b : Board) → AreAlike a b → (place : ℕ) (id : List ℕ) → list_any (has_msgid id) (slots_in a place) ≡ list_any (has_msgid id) (slots_in b place)
ids_alike a b alike place id = ids_outline a place id ∙ (ap (λ (o : Board). list_any (has_msgid id) (slots_in o place)) alike ∙ sym (ids_outline b place id))

module _ (a b : Board) (alike : AreAlike a b) where
  -- ---- the last two rules behind posts
  dupe_alike : (posts : List (ℕ × Message)) (post : ℕ × Message) → is_dupe a posts post ≡ is_dupe b posts post
  dupe_alike posts post = ap (λ known. not (length post.1.msgid == 0) && known) (ids_alike (spread posts a) (spread posts b) (changed_alike a b alike (Spread posts)) post.0 post.1.msgid)

  rule_alike : (posts : List (ℕ × Message)) (post : ℕ × Message) → last_rule a posts post ≡ last_rule b posts post
  rule_alike posts post = λ i. cond (dupe_alike posts post i) (Some Dupe) (cond (full_alike a b alike posts post i) (Some Full) None)

  -- ---- one message more
  number_alike : (place : ℕ) → number_of_place place a ≡ number_of_place place b
  number_alike place = ap (λ (l : Ledger). number_of_place place (bare l)) (alike_ledger a b alike)

  post_alike : (at : ℕ) (so_far : List ℕ × List (ℕ × Message)) (post : ℕ × Message) (rule : Option TossRule) → posted_as a at so_far post rule ≡ posted_as b at so_far post rule
  post_alike at so_far post (Some rule) = refl
  post_alike at so_far post None = λ i. (so_far.0 ++ posted_line at (number_alike post.0 i) (count_alike a b alike so_far.1 post.0 i + 1), so_far.1 ++ post ∷ [])

  draft_alike : (at : ℕ) (so_far : List ℕ × List (ℕ × Message)) (draft : TossDraft) → tossed_as a at so_far draft ≡ tossed_as b at so_far draft
  draft_alike at so_far (Refused rule) = refl
  draft_alike at so_far (Post place m) = post_alike at so_far (place, m) (last_rule a so_far.1 (place, m)) ∙ ap (posted_as b at so_far (place, m)) (rule_alike so_far.1 (place, m))

  next_alike : (now at : ℕ) (so_far : List ℕ × List (ℕ × Message)) (m : FtsMessage) → tossed_as a at so_far (toss_verdict a.ledger.setup m now) ≡ tossed_as b at so_far (toss_verdict b.ledger.setup m now)
  next_alike now at so_far m =
      draft_alike at so_far (toss_verdict a.ledger.setup m now) ∙ ap (λ (l : Ledger). tossed_as b at so_far (toss_verdict l.setup m now)) (alike_ledger a b alike)

  from_alike : (now at : ℕ) (so_far : List ℕ × List (ℕ × Message)) (messages : List FtsMessage) → tossed_from a now at so_far messages ≡ tossed_from b now at so_far messages
  unfolding tossed_from
  from_alike now at so_far [] = refl
  from_alike now at so_far (m ∷ messages) =
      from_alike now (at + 1) (tossed_as a at so_far (toss_verdict a.ledger.setup m now)) messages
      ∙ ap (λ (next : List ℕ × List (ℕ × Message)). tossed_from b now (at + 1) next messages) (next_alike now at so_far m)

  tossed_alike : (now : ℕ) (messages : List FtsMessage) → tossed a now messages ≡ tossed b now messages
  tossed_alike now messages = from_alike now 1 ([], []) messages

  -- ---- the turn
  pub tossing_alike : (now : ℕ) (messages : List FtsMessage) (change : Change) (text : List ℕ) → change ≡ Spread (tossed b now messages).1 → tossing now b messages ≡ carried change b text → tossing now a messages ≡ carried change a text
  tossing_alike now messages change text is e =
      let board : spread (tossed a now messages).1 a ≡ changed change a =
      ap (λ (all : List ℕ × List (ℕ × Message)). spread all.1 a) (tossed_alike now messages) ∙ sym (ap (λ (k : Change). changed k a) is) in
      let reply = ap (λ (all : List ℕ × List (ℕ × Message)). done (intake_text (length messages) all)) (tossed_alike now messages) ∙ ap (λ (t : Turn). t.reply) e in
      λ i. record { board = Some (board i); reply = reply i }

-- the change posts what was taken
pub posts_change : (now : ℕ) (b : Board) (messages : List FtsMessage) (lines : List ℕ) (posts : List (ℕ × Message)) → (lines, posts) ≡ tossed b now messages → Spread posts ≡ Spread (tossed b now messages).1
posts_change now b messages lines posts is = ap (λ (all : List ℕ × List (ℕ × Message)). Spread all.1) is
