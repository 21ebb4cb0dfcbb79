-- What is kept of the board after an export, and after an acknowledgement.
use Rattle.std.proofs.Common.{◌≡◌, ◌⊎◌, inl, inr, Bool, true, false, cond, Some, None, Ok, Err, refl, ◌∙◌, ap}
use Rattle.std.specs.Prelude.{Result, IfOk, IsErrOf, OnOk}
use Rattle.cmd_board.proofs.KeepingLaws.{IsSound, fault_keeps, refused_keeps, shelf_keeps, starved_keeps, value_keeps}
use Rattle.cmd_board.proofs.KeptLaws.{doubted, next_kept, next_sure, none_kept, none_sure, same_kept, same_sure}
use Rattle.cmd_board.specs.Halts.{halted}
use Rattle.cmd_board.specs.Keeping.{KeepsFiles, went}
use Rattle.cmd_board.specs.Kept.{AreSure, IsKept, unless_doubtful}
use Rattle.board_layout.specs.Board.{Board}
use Rattle.board_layout.specs.Valid.{IsBoard}
use Rattle.door_export.specs.Acknowledging as ack
use Rattle.door_export.specs.Exporting as export
use Rattle.door_export.specs.declared.acknowledging.AckError.{AckError}
use Rattle.door_export.specs.declared.acknowledging.AckError.TheVariants as ack_error
use Rattle.door_export.specs.declared.exporting.ExportError.{ExportError}
use Rattle.door_export.specs.declared.exporting.ExportError.TheVariants as error
use Rattle.door_export.specs.declared.exporting.Exported.{Exported}
use Rattle.door_outside.specs.Disk.{Disk}
use Rattle.cmd_exchange.specs.Exporting.{export_halt}
use Rattle.jam_records.specs.declared.damage.Damage.{Damage}
use Rattle.intent_journal.specs.Hosts.{IsSettled}
use Rattle.cmd_board.specs.mail_board.Held.{Follows, HeldBoard, RestsOn}
use Rattle.cmd_board.specs.mail_board.declared.loading.Loaded.TheVariants.{Ready}

-- a board that is in no doubt after an export is the host's
pub export_kept : (after : HeldBoard) (disk : Disk) → (after.doubtful ≡ false → RestsOn after.board disk) → IsSettled disk → IsKept (unless_doubtful after) disk
export_kept after disk rests settled = by after.doubtful refl
  where
    by : (doubtful : Bool) → after.doubtful ≡ doubtful → IsKept (cond doubtful None (Some (Ready after))) disk
    by true is = settled
    by false is = rests is

-- what is answered of a board is answered of each with its outline
pub answered_alike : {A B E : Type 0} (x y : A) (of : B → A) (result : Result B E) → y ≡ x → IfOk result (λ e. x ≡ of e) → IfOk result (λ e. y ≡ of e)
answered_alike x y of (Ok e) same is = same ∙ is
answered_alike x y of (Err e) same is = tt

-- the board before, the one that a call makes of it, and what it left
module _ (before after : HeldBoard) (next : Board) (certain : before.doubtful ≡ false) where
  pub export_sure : (result : Result Exported ExportError) → IsBoard before.board → (export.KeepsOffer result → Follows next after) → (export.ExportLeavesAll result → after ≡ before)
      → (IsErrOf result error.DiskFault → (after ≡ before) ⊎ (after ≡ doubted before)) → AreSure (unless_doubtful after)
  export_sure (Ok e) ok board same fault = next_sure before after certain next (board tt)
  export_sure (Err error.NoUser) ok board same fault = same_sure before after certain (same tt) ok
  export_sure (Err error.Limit) ok board same fault = same_sure before after certain (same tt) ok
  export_sure (Err error.Packets) ok board same fault = same_sure before after certain (same tt) ok
  export_sure (Err error.DiskFault) ok board same fault = elim (fault refl) [ inl is ↦ same_sure before after certain is ok | inr is ↦ none_sure before after certain is ]
  export_sure (Err error.Doubt) ok board same fault = same_sure before after certain (same tt) ok
  export_sure (Err (error.Damaged d)) ok board same fault = same_sure before after certain (same tt) ok
  export_sure (Err error.ShelfFault) ok board same fault = next_sure before after certain next (board tt)
  export_sure (Err error.OutOfMemory) ok board same fault = same_sure before after certain (same tt) ok

  -- unless the disk failed, the host holds a board
  left_certain : after ≡ before → after.doubtful ≡ false
  left_certain same = ap (λ (h : HeldBoard). h.doubtful) same ∙ certain

  pub export_keeps : (result : Result Exported ExportError) {old new : Disk} → (export.KeepsOffer result → Follows next after) → (export.ExportLeavesAll result → after ≡ before) → ((d : Damage) → ¬ (result ≡ Err (error.Damaged d)))
      → (after.doubtful ≡ false → IsSound new) → KeepsFiles old new (went (halted export_halt result))
  export_keeps (Ok e) board same undamaged sound = value_keeps (sound (board tt).sure)
  export_keeps (Err error.NoUser) board same undamaged sound = refused_keeps (sound (left_certain (same tt)))
  export_keeps (Err error.Limit) board same undamaged sound = refused_keeps (sound (left_certain (same tt)))
  export_keeps (Err error.Packets) board same undamaged sound = refused_keeps (sound (left_certain (same tt)))
  export_keeps (Err error.DiskFault) board same undamaged sound = fault_keeps
  export_keeps (Err error.Doubt) board same undamaged sound = fault_keeps
  export_keeps (Err (error.Damaged d)) board same undamaged sound = absurd (undamaged d refl)
  export_keeps (Err error.ShelfFault) board same undamaged sound = shelf_keeps (sound (board tt).sure).firm
  export_keeps (Err error.OutOfMemory) board same undamaged sound = starved_keeps (λ before. (sound (left_certain (same tt))).firm)

  pub ack_kept : (result : Result (Unit {0}) AckError) (disk : Disk) → OnOk result (Follows next after) → OnOk result (RestsOn after.board disk) → (ack.AckLeavesAll result → after ≡ before) → (ack.AckLeavesAll result → RestsOn before.board disk)
      → (IsErrOf result ack_error.DiskFault → after ≡ doubted before) → IsSettled disk → IsKept (unless_doubtful after) disk
  ack_kept (Ok x) disk board rests same still fault settled = next_kept before after certain next disk board rests
  ack_kept (Err ack_error.NoUser) disk board rests same still fault settled = same_kept before after certain disk (same tt) (still tt)
  ack_kept (Err (ack_error.NoPacket offer)) disk board rests same still fault settled = same_kept before after certain disk (same tt) (still tt)
  ack_kept (Err ack_error.DiskFault) disk board rests same still fault settled = none_kept before after certain disk (fault refl) settled
  ack_kept (Err ack_error.Doubt) disk board rests same still fault settled = same_kept before after certain disk (same tt) (still tt)
  ack_kept (Err ack_error.OutOfMemory) disk board rests same still fault settled = same_kept before after certain disk (same tt) (still tt)

  pub ack_sure : (result : Result (Unit {0}) AckError) → IsBoard before.board → OnOk result (Follows next after) → (ack.AckLeavesAll result → after ≡ before) → (IsErrOf result ack_error.DiskFault → after ≡ doubted before) → AreSure (unless_doubtful after)
  ack_sure (Ok x) ok board same fault = next_sure before after certain next board
  ack_sure (Err ack_error.NoUser) ok board same fault = same_sure before after certain (same tt) ok
  ack_sure (Err (ack_error.NoPacket offer)) ok board same fault = same_sure before after certain (same tt) ok
  ack_sure (Err ack_error.DiskFault) ok board same fault = none_sure before after certain (fault refl)
  ack_sure (Err ack_error.Doubt) ok board same fault = same_sure before after certain (same tt) ok
  ack_sure (Err ack_error.OutOfMemory) ok board same fault = same_sure before after certain (same tt) ok
