-- How many bytes posts add to the files of a board, place by place.
use Rattle.std.proofs.Common.{◌≡◌, ℕ, ◌+◌, List, [], ◌∷◌, length, min, refl, sym, ap, ◌∙◌, arith}
use Rattle.std.specs.Prelude.{sum_by}
use Rattle.std.proofs.lemmas.List.Sums.{sum_by-cons}
use Rattle.board_layout.specs.Board.{Board, board_with}
use Rattle.board_layout.specs.Layout.{base_size, board_size}
use Rattle.board_layout.specs.Renewed.{contents_of}
use Rattle.board_layout.specs.Valid.{IsBoard}
use Rattle.board_layout.proofs.SizeLaws.{size_in}
use Rattle.board_ledger.specs.Ledger.{ledger_text}
use Rattle.board_ledger.specs.Uploads.{upload_size}
use Rattle.board_ledger.specs.declared.upload.UploadRecord.{UploadRecord}
use Rattle.board_layout.specs.jam_base.Contents.{Contents}
use Rattle.jam_records.specs.declared.message.Message.{Message}
use Rattle.post_changes.proofs.PlacePosts.{posted_bytes}
use Rattle.post_changes.proofs.PostLaws.{old_conferences, old_shapes, posted_size}
use Rattle.post_changes.proofs.RecordLaws.{record_length, record_shapes}
use Rattle.post_changes.specs.Posted.{all_posted, posted_in, posts_in, upload_record, spread, uploaded, with_record}
use Rattle.slot_changes.proofs.SlotBytes.{message_size}
use Rattle.slot_changes.specs.Msgids.{all_identified, msgid_in}

-- ---- the places
-- what the posts in a place add to its base
abbrev pub place_bytes : Board → List (ℕ × Message) → ℕ → Contents → ℕ
place_bytes b posts place base = sum_by message_size (all_identified (msgid_in place b) (length base.conference.slots + 1) (posts_in place posts))

-- and all to the bases, the first of which is in this place
abbrev pub all_bytes : Board → List (ℕ × Message) → ℕ → List Contents → ℕ
all_bytes b posts place [] = 0
all_bytes b posts place (base ∷ bases) = place_bytes b posts place base + all_bytes b posts (place + 1) bases

all_grow : (b : Board) (posts : List (ℕ × Message)) (place : ℕ) (bases : List Contents) → sum_by base_size (all_posted b posts place bases) ≡ sum_by base_size bases + all_bytes b posts place bases
all_grow b posts place [] = refl
all_grow b posts place (base ∷ bases) = omega (
  arith,
  posted_bytes b posts place base,
  all_grow b posts (place + 1) bases,
  sum_by-cons base_size (posted_in b posts place base) (all_posted b posts (place + 1) bases),
  sum_by-cons base_size base bases,
)

-- a sum that stays at its last value
min_more : (size more rest most : ℕ) → min (min (size + min more most) most + rest) most ≡ min (size + (more + rest)) most
min_more size more rest most = omega arith

-- what the posts in the next place add is added
pub place_step : (b : Board) (posts : List (ℕ × Message)) (place size new total most : ℕ) (left rest : List Contents) (base : Contents) → left ≡ base ∷ rest → new ≡ min (size + min (place_bytes b posts place base) most) most
    → min (size + all_bytes b posts place left) most ≡ total → min (new + all_bytes b posts (place + 1) rest) most ≡ total
place_step b posts place size new total most left rest base is added so_far =
    ap (λ (n : ℕ). min (n + all_bytes b posts (place + 1) rest) most) added
    ∙ (min_more size (place_bytes b posts place base) (all_bytes b posts (place + 1) rest) most
    ∙ (ap (λ (bases : List Contents). min (size + all_bytes b posts place bases) most) (sym is) ∙ so_far))

-- ---- the board
module _ (b : Board) (posts : List (ℕ × Message)) (ok : IsBoard b) where
  was_size : board_size b ≡ length (ledger_text b.ledger) + sum_by base_size (contents_of b)
  was_size =
      let board : board_with b.ledger (contents_of b) ≡ b = λ i. record { ledger = b.ledger; conferences = old_conferences b posts b.ledger ok refl i } in
      ap board_size (sym board) ∙ size_in b.ledger (contents_of b) (old_shapes b posts b.ledger ok refl)

  pub spread_bytes : board_size (spread posts b) ≡ board_size b + all_bytes b posts 0 (contents_of b)
  spread_bytes = omega (arith, was_size, posted_size b posts b.ledger ok refl, all_grow b posts 0 (contents_of b))

  pub uploaded_bytes : (user : ℕ) (digest : List ℕ) (refused : ℕ) → length digest ≡ 32 → board_size (uploaded user digest refused posts b) ≡ board_size (spread posts b) + upload_size
  uploaded_bytes user digest refused same =
      let r : UploadRecord = upload_record user digest refused posts in
      omega (arith, posted_size b posts b.ledger ok refl, posted_size b posts (with_record r b.ledger) ok (record_shapes b.ledger r), record_length b.ledger r ok.ledger same)
