-- What is kept of a board that a call was given: the next board, the same, or nothing once it is in doubt.
use Rattle.std.proofs.Common.{◌≡◌, true, false, cond, sym, ◌∙◌, ap, subst, Option, Some, None, Result, Ok, Err}
use Rattle.std.specs.Prelude.{OnOk}
use Rattle.board_layout.specs.Board.{Board}
use Rattle.board_layout.specs.Valid.{IsBoard}
use Rattle.door_outside.specs.Disk.{Disk}
use Rattle.intent_journal.specs.Hosts.{IsSettled}
use Rattle.mail_board.specs.Held.{Follows, HeldBoard, RestsOn}
use Rattle.mail_board.specs.declared.loading.Loaded.{Loaded}
use Rattle.mail_board.specs.declared.loading.Loaded.TheVariants.{Ready}
use Rattle.cmd_board.specs.Kept.{AreSure, IsKept, unless_doubtful}

module _ (after : HeldBoard) where
  kept_is : after.doubtful ≡ false → unless_doubtful after ≡ Some (Ready after)
  kept_is certain = ap (λ doubtful. cond doubtful None (Some (Ready after))) certain

  lost_is : after.doubtful ≡ true → unless_doubtful after ≡ None
  lost_is doubt = ap (λ doubtful. cond doubtful None (Some (Ready after))) doubt

  pub kept_on : (disk : Disk) → after.doubtful ≡ false → RestsOn after.board disk → IsKept (unless_doubtful after) disk
  kept_on disk certain rests = subst (λ (kept : Option Loaded). IsKept kept disk) (sym (kept_is certain)) rests

  pub sure_on : after.doubtful ≡ false → IsBoard after.board → AreSure (unless_doubtful after)
  sure_on certain ok = subst AreSure (sym (kept_is certain)) (ok, certain)

  pub lost_on : (disk : Disk) → after.doubtful ≡ true → IsSettled disk → IsKept (unless_doubtful after) disk
  lost_on disk doubt settled = subst (λ (kept : Option Loaded). IsKept kept disk) (sym (lost_is doubt)) settled

  pub lost_sure : after.doubtful ≡ true → AreSure (unless_doubtful after)
  lost_sure doubt = subst AreSure (sym (lost_is doubt)) tt

-- what is told of an answer, once the host tells
pub once_told : {T E Q : Type 0} (P : Type 0) (result : Result T E) → OnOk result (Q → P) → Q → OnOk result P
once_told P (Ok value) holds tells = holds tells
once_told P (Err e) holds tells = tt

-- a board that is in doubt from now on
abbrev pub doubted : HeldBoard → HeldBoard
doubted before = record { board = before.board; doubtful = true }

-- the board before a call, which was in no doubt, and what the call made of it
module _ (before after : HeldBoard) (certain : before.doubtful ≡ false) where
  -- the next board is kept, and so is the same one
  pub next_kept : (next : Board) (disk : Disk) → Follows next after → RestsOn after.board disk → IsKept (unless_doubtful after) disk
  next_kept next disk follows rests = kept_on after disk follows.sure rests

  pub same_kept : (disk : Disk) → after ≡ before → RestsOn before.board disk → IsKept (unless_doubtful after) disk
  same_kept disk is rests = kept_on after disk (ap (λ (h : HeldBoard). h.doubtful) is ∙ certain) (subst (λ (b : Board). RestsOn b disk) (sym (ap (λ (h : HeldBoard). h.board) is)) rests)

  pub none_kept : (disk : Disk) → after ≡ doubted before → IsSettled disk → IsKept (unless_doubtful after) disk
  none_kept disk is settled = lost_on after disk (ap (λ (h : HeldBoard). h.doubtful) is) settled

  pub next_sure : (next : Board) → Follows next after → AreSure (unless_doubtful after)
  next_sure next follows = sure_on after follows.sure follows.valid

  pub same_sure : after ≡ before → IsBoard before.board → AreSure (unless_doubtful after)
  same_sure is ok = sure_on after (ap (λ (h : HeldBoard). h.doubtful) is ∙ certain) (subst IsBoard (sym (ap (λ (h : HeldBoard). h.board) is)) ok)

  pub none_sure : after ≡ doubted before → AreSure (unless_doubtful after)
  none_sure is = lost_sure after (ap (λ (h : HeldBoard). h.doubtful) is)
