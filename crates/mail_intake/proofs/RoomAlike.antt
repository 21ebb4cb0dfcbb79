-- Boards with one outline have as much room behind posts.
use Rattle.std.proofs.Common.{◌≡◌, ℕ, ◌||◌, List, [], ◌∷◌, ◌++◌, length, sym, ap, ◌∙◌}
use Rattle.std.specs.Prelude.{nat_le, nat_lt}
use Rattle.board_layout.proofs.OneOutline.{alike_ledger, alike_size}
use Rattle.board_layout.specs.Board.{Board}
use Rattle.board_layout.specs.Outlines.{board_outline}
use Rattle.board_layout.specs.Valid.{board_limit}
use Rattle.board_ledger.specs.declared.ledger.Ledger.{Ledger}
use Rattle.board_layout.specs.jam_layout.Limits.{slot_limit}
use Rattle.jam_records.specs.declared.message.Message.{Message}
use Rattle.mail_intake.specs.Room.{is_full}
use Rattle.packet_verdicts.proofs.offered_packets.OutlineLaws.{outline_count}
use Rattle.board_layout.specs.Lookups.{slots_in}
use Rattle.post_changes.proofs.EachPost.{posted_outline}
use Rattle.post_changes.specs.Posted.{posted_with, spread}

slots_alike : (a b : Board) → board_outline a ≡ board_outline b → (place : ℕ) → length (slots_in a place) ≡ length (slots_in b place)
slots_alike a b alike place = sym (outline_count a place) ∙ (ap (λ (o : Board). length (slots_in o place)) alike ∙ outline_count b place)

module _ (a b : Board) (alike : board_outline a ≡ board_outline b) where
  posts_alike : (posts : List (ℕ × Message)) → board_outline (spread posts a) ≡ board_outline (spread posts b)
  posts_alike posts = posted_outline a b alike posts a.ledger ∙ ap (λ (l : Ledger). board_outline (posted_with l posts b)) (alike_ledger a b alike)

  pub count_alike : (posts : List (ℕ × Message)) (place : ℕ) → length (slots_in (spread posts a) place) ≡ length (slots_in (spread posts b) place)
  count_alike posts place = slots_alike (spread posts a) (spread posts b) (posts_alike posts) place

  pub full_alike : (posts : List (ℕ × Message)) (post : ℕ × Message) → is_full a posts post ≡ is_full b posts post
  full_alike posts post =
      let more : List (ℕ × Message) = posts ++ post ∷ [] in
      λ i. nat_le slot_limit (count_alike posts post.0 i) || nat_lt board_limit (alike_size (spread more a) (spread more b) (posts_alike more) i)
