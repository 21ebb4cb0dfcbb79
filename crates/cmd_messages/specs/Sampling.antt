-- What is known between two messages of a sample, and what is found before it is appended.
use Rattle.std.specs.Prelude.{◌≡◌, ℕ, ◌<◌, ◌*◌, length, slice_index, All, Some, Result, Ok, Err}
use Rattle.cmd_board.specs.Halts.{StopsBy}
use Rattle.cmd_board.specs.Turns.{refuses}
use Rattle.cmd_board.specs.declared.halt.BoardHalt.{BoardHalt}
use Rattle.board_layout.specs.Board.{Board}
use Rattle.cmd_board.specs.mail_board.Changes.{changed, Fits}
use Rattle.cmd_board.specs.mail_board.Written.{IsPosting}
use Rattle.cmd_board.specs.mail_board.declared.change.Change.{Change}
use Rattle.cmd_board.specs.mail_board.declared.change.Change.TheVariants.{Spread}
use Rattle.packet_verdicts.specs.Typed.{IsTypedPost}
use Rattle.post_changes.specs.Posted.{posts_in}
use Rattle.cmd_messages.specs.Draws.{drawn_number}
use Rattle.cmd_messages.specs.Sample.{sample_turn, sampled_line, sampled_posts}
use Rattle.cmd_messages.specs.declared.posts.Sampling.{Sampling}
use Rattle.cmd_board.specs.shelf_files.Halts.{done}

-- the posts are the first ones of the sample, the last number is that of the last of them, and the posts of each place
-- are counted
pub record IsSampling (b : Board) (s : Sampling) : Type 0 where
  pub number : s.numbers.last ≡ drawn_number s.seed (4 * length s.posts)
  pub posts : s.posts ≡ sampled_posts s.seed s.moment b (length s.posts)
  pub places : length s.posted.items ≡ 64
  pub counts : (place : ℕ) → place < 64 → slice_index s.posted.items place ≡ length (posts_in place s.posts)
  pub typed : All IsTypedPost s.posts

-- a change that fits, posts messages and takes the turn, the one that appends the sample; or the refusal, or memory ran out
abbrev pub MaySample : ℕ → ℕ → ℕ → Board → Result Change BoardHalt → Type 0
MaySample seed count now b (Ok change) =
    Fits change b × (sample_turn seed count now (Some b) ≡ record { board = Some (changed change b); reply = done (sampled_line count) })
    × IsPosting change × (change ≡ Spread (sampled_posts seed now b count))
MaySample seed count now b (Err e) = StopsBy (λ why. sample_turn seed count now (Some b) ≡ refuses why (Some b)) e
