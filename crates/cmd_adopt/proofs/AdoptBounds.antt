-- An adoption writes no more than the messages that it posts may.
use Rattle.std.proofs.Common.{◌≡◌, ℕ, List, Option, Some, Ok, refl, sym, ◌∙◌}
use Rattle.cmd_board.proofs.WriteLaws.{turned_within, WritesFound}
use Rattle.cmd_board.specs.Kept.{IsOutlined}
use Rattle.cmd_board.specs.State.{State, Stores, migrated}
use Rattle.cmd_board.specs.WriteBound.{KeepsWriteBound}
use Rattle.board_layout.specs.Board.{Board}
use Rattle.board_layout.specs.Valid.{IsBoard}
use Rattle.board_layout.specs.Lookups.{place_of}
use Rattle.door_outside.specs.Disk.{Disk}
use Rattle.door_outside.specs.Shelf as Shelf
use Rattle.intent_journal.specs.Journal.{IsClosed}
use Rattle.intent_journal.specs.Recovered.{recovered}
use Rattle.jam_adopt.specs.declared.found.Found.{Found}
use Rattle.cmd_board.proofs.mail_board.EachNext.{changed_alike}
use Rattle.cmd_board.proofs.mail_board.PostedSlots.{posting_keeps}
use Rattle.cmd_board.specs.mail_board.Changes.{changed}
use Rattle.cmd_board.specs.mail_board.Written.{WritesFew}
use Rattle.cmd_board.proofs.ChangeExits.{carried}
use Rattle.cmd_board.proofs.PlaceAlike.{place_alike}
use Rattle.cmd_adopt.proofs.AdoptActs.{adopt_turns}
use Rattle.cmd_adopt.proofs.AdoptAlike.{adopting_alike}
use Rattle.cmd_adopt.proofs.AdoptExits.{Turns, placed}
use Rattle.cmd_adopt.specs.Adopt.{adopts}
use Rattle.cmd_adopt.specs.Adopting.{MayAdopt, TakesOver}
use Rattle.cmd_adopt.specs.BaseFiles.{base_of}
use Rattle.cmd_adopt.specs.declared.adopting.Adopting.{Adopting}

module _ (old mid new : Disk) (shelf : Shelf.ShelfFiles) (closed : IsClosed (old.files 1)) (found : WritesFound old mid.wrote) (kept : Option Board)
    (stands : (state : State) → Stores state (recovered old.files) → IsOutlined (migrated state) kept) (b : Board) (kept_is : kept ≡ Some b) (ok : IsBoard b) where
  pub adopt_within : (conference : ℕ) (prefix : List ℕ) (place : ℕ) → place_of conference b ≡ Some place → (records : List Found) → Ok records ≡ base_of shelf prefix → (a : Adopting) → MayAdopt conference place records b (Ok a) → TakesOver conference place records b a
      → WritesFew a.change b mid.wrote new.wrote → KeepsWriteBound (adopts conference prefix) old new shelf
  adopt_within conference prefix place place_is records read a may change few =
      turned_within (Turns conference prefix) (adopt_turns conference prefix) old mid new shelf closed found kept stands b kept_is (changed a.change) (λ real alike. changed_alike real b alike a.change) (λ real. carried a.change real a.reply)
      (λ real valid alike. (
        placed conference prefix shelf real place (place_alike real b alike conference ∙ place_is) (Ok records) read (carried a.change real a.reply) (sym (adopting_alike real b alike conference place records a.change a.reply change may.1)),
        refl,
      ))
      (posting_keeps a.change b mid.wrote new.wrote may.2 ok may.0 few)
