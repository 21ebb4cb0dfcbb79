-- A change of a board by posts, place by place.
use Rattle.std.specs.Prelude.{◌≡◌, ℕ, ◌+◌, ◌*◌, ◌≤◌, List, length, take, count_by, nat_lt, sum_by, unwrap_or}
use Rattle.slot_changes.specs.board_changes.Outlined.{GatheredEach}
use Rattle.slot_changes.specs.board_changes.declared.change.BoardChange.{BoardChange}
use Rattle.board_layout.specs.Board.{Board, shapes_of}
use Rattle.board_layout.specs.Layout.{base_files}
use Rattle.board_layout.specs.Outlines.{board_outline}
use Rattle.board_layout.specs.Renewed.{contents_of, renewed}
use Rattle.board_layout.specs.Valid.{IsBoard}
use Rattle.board_ledger.specs.Ledger.{ledger_text}
use Rattle.board_ledger.specs.declared.ledger.Ledger.{Ledger}
use Rattle.intent_journal.specs.Patches.{byte_count}
use Rattle.intent_journal.specs.declared.patch.Patch.{Patch}
use Rattle.board_layout.specs.jam_layout.Layout.{files_size}
use Rattle.jam_records.specs.declared.message.Message.{Message}
use Rattle.post_changes.specs.Posted.{posted_with}

-- how many posts are in the first places
abbrev pub posts_before : ℕ → List (ℕ × Message) → ℕ
posts_before count posts = count_by (λ post. nat_lt post.0 count) posts

-- how many bytes the ledger and the files of the first places have
abbrev pub size_before : ℕ → Board → ℕ
size_before count b = length (ledger_text b.ledger) + sum_by files_size (take count (base_files b))

-- how much the patches of the first places put, and those of the ledger before them, of which there are two at most
pub record SpentSoFar (b : Board) (posts : List (ℕ × Message)) (count : ℕ) (l : Ledger) (patches : List Patch) : Type 0 where
  pub few : length patches ≤ 2 + 5 * posts_before count posts
  pub grown : size_before count b + byte_count patches ≤ size_before count (posted_with l posts b) + (4 + 12 * posts_before count posts)

-- the ledger behind a change of a board: that of the change, or where it has none, the board's
abbrev pub next_ledger : Board → BoardChange → Ledger
next_ledger b change = unwrap_or change.ledger b.ledger

-- By the ledger behind the change the next board is valid, and its conferences have the same shapes. Of the first
-- places the change has the bases with their posts. It has the patches of their files, for each board with the outline
-- of this one.
pub record Posting (b : Board) (posts : List (ℕ × Message)) (count : ℕ) (change : BoardChange) : Type 0 where
  pub shapes : shapes_of (next_ledger b change) ≡ shapes_of b.ledger
  pub next : IsBoard (posted_with (next_ledger b change) posts b)
  pub bases : renewed (take count (contents_of b)) change.bases ≡ take count (contents_of (board_outline (posted_with (next_ledger b change) posts b)))
  pub counted : length change.bases ≡ count
  pub gathered : GatheredEach b (posted_with (next_ledger b change) posts) count change.intent
  pub spent : SpentSoFar b posts count (next_ledger b change) change.intent
