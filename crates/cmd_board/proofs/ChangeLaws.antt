-- From what a change of a board gives to what a command takes of it.
use Rattle.std.proofs.Common.{◌≡◌, ◌⊎◌, inl, inr, ⊎_elim, Option, Some, Result, Ok, Err, sym, ◌∙◌, ap}
use Rattle.std.specs.Prelude.{OnOk}
use Rattle.door_outside.specs.Disk.{Disk, Image, AllNow, Between, as_read}
use Rattle.door_outside.proofs.Moments.{reads_have, weaker}
use Rattle.entry_runs.specs.Entry.{Changes, HasBoard, Recovers}
use Rattle.intent_journal.proofs.Hosts.{calm_is_firm, calm_is_settled, calm_recovers}
use Rattle.intent_journal.specs.Hosts.{IsCalm, IsFirm, IsSettled}
use Rattle.intent_journal.specs.Patches.{HostFiles, data_files}
use Rattle.intent_journal.specs.Recovered.{recovered}
use Rattle.board_layout.specs.Board.{Board}
use Rattle.board_layout.specs.Layout.{IsLayout}
use Rattle.board_layout.specs.Valid.{IsBoard}
use Rattle.mail_board.proofs.DataLaws.{data_twice, layout_moves}
use Rattle.mail_board.proofs.EachNext.{fits_alike}
use Rattle.mail_board.proofs.LoadLaws.{own_stands}
use Rattle.mail_board.proofs.NextLaws.{fits_board}
use Rattle.mail_board.specs.Changes.{changed, Fits}
use Rattle.mail_board.specs.Held.{AreAlike, BeforeOrNext, HeldBoard, Holds, Rests, RestsOn}
use Rattle.mail_board.specs.declared.change.Change.{Change}
use Rattle.mail_board.specs.declared.loading.Loaded.{Loaded}
use Rattle.mail_board.specs.declared.loading.Loaded.TheVariants.{Ready}
use Rattle.cmd_board.specs.Kept.{kept_board}
use Rattle.cmd_board.specs.State.{State, Made, Stores}

-- a host at rest that holds the layout of a valid board stands for it
rests_stores : (b : Board) (disk : Disk) → IsBoard b → Rests b disk → Stores (Made b) (recovered disk.files)
rests_stores b disk ok rests =
    (ok, layout_moves b disk.files (recovered disk.files) (sym (ap data_files (calm_recovers disk rests.calm) ∙ data_twice disk.files)) rests.files)

module _ (state : State) (P : HostFiles → Type 0) (holds : (files : HostFiles) → P files → Stores state files) (next : Board) (ok : IsBoard next) {old : Disk} where
  each : (image : Image) → BeforeOrNext P next old image → Recovers (λ files. Stores state files ⊎ Stores (Made next) files) old.said image
  each image it = record { files = ⊎_elim (λ before. inl (holds (recovered image.files) before)) (λ after. inr (ok, after)) it.files; said = it.said }

  pub changes_to : {new : Disk} {T E : Type 0} (result : Result T E) → Between old new (BeforeOrNext P next old) → AllNow new (BeforeOrNext P next old) → IsSettled new → OnOk result (Rests next new)
      → Changes Stores state (Made next) old new result
  changes_to {new} result moments now settled rests = record {
    keeps = record { moments = weaker moments each; reads = each (as_read new) (reads_have new _ now); settled = settled };
    done = done result rests;
  }
    where
      done : {T E : Type 0} (r : Result T E) → OnOk r (Rests next new) → OnOk r (HasBoard Stores (Made next) new × IsFirm new)
      done (Ok value) is = (
        record {
          settled = calm_is_settled new is.calm;
          stores = rests_stores next new ok is;
        },
        calm_is_firm new is.calm,
      )
      done (Err e) none = tt

-- a change that fits of the board that is kept
pub kept_same : (kept : Option Loaded) (held : HeldBoard) (b : Board) → Some (Ready held) ≡ kept → kept_board kept ≡ Some b → held.board ≡ b
kept_same kept held b is board = let e : Some held.board ≡ Some b = ap kept_board is ∙ board in cc

-- the board that the host's files are, where it is calm
pub stores_holds : (b : Board) (disk : Disk) → IsCalm disk → Stores (Made b) (recovered disk.files) → Holds b disk
stores_holds b disk calm stores = (
  stores.0,
  record {
    calm = calm;
    files = layout_moves b (recovered disk.files) disk.files (ap data_files (calm_recovers disk calm) ∙ data_twice disk.files) stores.1;
  },
)

pub change_changes : (change : Change) (held b : Board) → AreAlike b held → IsBoard b → IsBoard held → Fits change held → {old new : Disk} {T E : Type 0} (result : Result T E) → Between old new (BeforeOrNext (IsLayout b) (changed change b) old)
    → AllNow new (BeforeOrNext (IsLayout b) (changed change b) old) → IsSettled new → OnOk result (Rests (changed change b) new) → Changes Stores (Made b) (Made (changed change b)) old new result
change_changes change held b alike ok was fits result moments now settled rests =
    changes_to (Made b) (IsLayout b) (λ files laid. (ok, laid)) (changed change b) (fits_board change b (fits_alike b held alike ok was change fits)) result moments now settled rests

-- a board that the host's files are rests on them as its own outline
pub own_rests : (b : Board) (disk : Disk) → IsBoard b → Rests b disk → RestsOn b disk
own_rests b disk ok rests = record { calm = rests.calm; stands = own_stands b disk.files ok rests.files }
