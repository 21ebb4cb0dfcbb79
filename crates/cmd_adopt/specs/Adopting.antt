-- What is known between two records of another tool's base, and what is found before its messages are posted.
use Rattle.std.specs.Prelude.{◌≡◌, ℕ, List, Some, Result, Ok, Err, All, IsTrue}
use Rattle.cmd_board.specs.Halts.{StopsBy}
use Rattle.cmd_board.specs.declared.halt.BoardHalt.{BoardHalt}
use Rattle.board_layout.specs.Board.{Board}
use Rattle.jam_adopt.specs.declared.found.Found.{Found}
use Rattle.jam_adopt.specs.declared.found.FoundVerdict.{FoundVerdict}
use Rattle.jam_adopt.specs.declared.found.FoundVerdict.TheVariants as verdict
use Rattle.cmd_board.specs.mail_board.Changes.{changed, Fits}
use Rattle.cmd_board.specs.mail_board.Written.{IsPosting}
use Rattle.cmd_board.specs.mail_board.declared.change.Change.TheVariants.{Spread}
use Rattle.mail_intake.specs.Tallies.{IsTally}
use Rattle.cmd_adopt.specs.Adopt.{adopting}
use Rattle.cmd_adopt.specs.Adopted.{adopted}
use Rattle.cmd_adopt.specs.declared.adopted.Adopted.{Adopted}
use Rattle.cmd_adopt.specs.declared.adopting.Adopting.{Adopting}
use Rattle.shelf_files.specs.Halts.{done}
use Rattle.post_changes.specs.slot_changes.Values.{has_right_texts, is_right_body}

-- the texts of the record's message are such as a conference may hold; its msgid may be missing
abbrev pub IsRight : FoundVerdict → Type 0
IsRight (verdict.Taken m) = IsTrue (has_right_texts m) × IsTrue (is_right_body m.body)
IsRight (verdict.Refused rule) = Unit {0}

abbrev pub AreRight : List Found → Type 0
AreRight records = All (λ found. IsRight found.verdict) records

-- the lines and the posts are those of the records so far, and there is room for the posts
pub record AreAdopted (conference place : ℕ) (b : Board) (records : List Found) (a : Adopted) : Type 0 where
  pub so_far : (a.lines, a.tally.posts) ≡ adopted conference place b records
  pub tally : IsTally b a.tally

-- it is the change that posts what was taken
abbrev pub TakesOver : ℕ → ℕ → List Found → Board → Adopting → Type 0
TakesOver conference place records b a = a.change ≡ Spread (adopted conference place b records).1

-- a change that fits, posts messages and takes the turn, or memory ran out
abbrev pub MayAdopt : ℕ → ℕ → List Found → Board → Result Adopting BoardHalt → Type 0
MayAdopt conference place records b (Ok a) =
    Fits a.change b × (adopting conference place b records ≡ record { board = Some (changed a.change b); reply = done a.reply }) × IsPosting a.change
MayAdopt conference place records b (Err e) = StopsBy (λ why. ⊥) e
