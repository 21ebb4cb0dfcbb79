-- The counts of faults over a command, whose board was found and then changed by one call.
use Rattle.std.proofs.Common.{◌≡◌, ◌≢◌, ℕ, List, Ok, Err, refl}
use Rattle.std.specs.Prelude.{Result}
use Rattle.cmd_board.proofs.CauseLaws.{disk_fails, quiet, shelf_fails, unraised}
use Rattle.cmd_board.specs.Halts.{halted, told}
use Rattle.door_export.specs.declared.acknowledging.AckError.{AckError}
use Rattle.door_export.specs.declared.acknowledging.AckError.TheVariants as ack
use Rattle.door_export.specs.declared.exporting.ExportError.{ExportError}
use Rattle.door_export.specs.declared.exporting.ExportError.TheVariants.{NoUser, Limit, Packets, DiskFault, Doubt, Damaged, ShelfFault, OutOfMemory}
use Rattle.door_export.specs.declared.exporting.Exported.{Exported}
use Rattle.entry_runs.specs.Promise.{HasCauses, counts, ended}
use Rattle.entry_runs.specs.declared.status.Status.TheVariants as status
use Rattle.cmd_board.specs.mail_board.Causes.{HasFault}
use Rattle.cmd_exchange.specs.Acknowledging as acknowledging
use Rattle.cmd_exchange.specs.Exporting.{export_halt}

module _ {disk voice shelf disk_after voice_after shelf_after : ℕ} (voice_same : voice_after ≡ voice) where
  pub export_causes : (text : Exported → List ℕ) (result : Result Exported ExportError) → HasFault DiskFault disk disk_after result → HasFault ShelfFault shelf shelf_after result → result ≢ Err Doubt
      → HasCauses (counts disk voice shelf) (counts disk_after voice_after shelf_after) (ended (told text (halted export_halt result)))
  export_causes text (Ok e) d s certain = quiet voice_same status.Done (λ is. absurd (cc is)) (λ is. absurd (cc is)) (λ is. absurd (cc is)) (unraised DiskFault _ d (λ is. cc is)) (unraised ShelfFault _ s (λ is. cc is))
  export_causes text (Err NoUser) d s certain = quiet voice_same status.Done (λ is. absurd (cc is)) (λ is. absurd (cc is)) (λ is. absurd (cc is)) (unraised DiskFault _ d (λ is. cc is)) (unraised ShelfFault _ s (λ is. cc is))
  export_causes text (Err Limit) d s certain = quiet voice_same status.Done (λ is. absurd (cc is)) (λ is. absurd (cc is)) (λ is. absurd (cc is)) (unraised DiskFault _ d (λ is. cc is)) (unraised ShelfFault _ s (λ is. cc is))
  export_causes text (Err Packets) d s certain = quiet voice_same status.Done (λ is. absurd (cc is)) (λ is. absurd (cc is)) (λ is. absurd (cc is)) (unraised DiskFault _ d (λ is. cc is)) (unraised ShelfFault _ s (λ is. cc is))
  export_causes text (Err DiskFault) d s certain = disk_fails voice_same d.later (d.rose refl) (unraised ShelfFault _ s (λ is. cc is))
  export_causes text (Err Doubt) d s certain = absurd (certain refl)
  export_causes text (Err (Damaged e)) d s certain = quiet voice_same status.Done (λ is. absurd (cc is)) (λ is. absurd (cc is)) (λ is. absurd (cc is)) (unraised DiskFault _ d (λ is. cc is)) (unraised ShelfFault _ s (λ is. cc is))
  export_causes text (Err ShelfFault) d s certain = shelf_fails voice_same s.later (s.rose refl) (unraised DiskFault _ d (λ is. cc is))
  export_causes text (Err OutOfMemory) d s certain = quiet voice_same status.OutOfMemory (λ is. absurd (cc is)) (λ is. absurd (cc is)) (λ is. absurd (cc is)) (unraised DiskFault _ d (λ is. cc is)) (unraised ShelfFault _ s (λ is. cc is))

  pub ack_causes : (text : Unit {0} → List ℕ) (result : Result (Unit {0}) AckError) → HasFault ack.DiskFault disk disk_after result → shelf_after ≡ shelf → result ≢ Err ack.Doubt
      → HasCauses (counts disk voice shelf) (counts disk_after voice_after shelf_after) (ended (told text (halted acknowledging.ack_halt result)))
  ack_causes text (Ok x) d s certain = quiet voice_same status.Done (λ is. absurd (cc is)) (λ is. absurd (cc is)) (λ is. absurd (cc is)) (unraised ack.DiskFault _ d (λ is. cc is)) s
  ack_causes text (Err ack.NoUser) d s certain = quiet voice_same status.Done (λ is. absurd (cc is)) (λ is. absurd (cc is)) (λ is. absurd (cc is)) (unraised ack.DiskFault _ d (λ is. cc is)) s
  ack_causes text (Err (ack.NoPacket offer)) d s certain = quiet voice_same status.Done (λ is. absurd (cc is)) (λ is. absurd (cc is)) (λ is. absurd (cc is)) (unraised ack.DiskFault _ d (λ is. cc is)) s
  ack_causes text (Err ack.DiskFault) d s certain = disk_fails voice_same d.later (d.rose refl) s
  ack_causes text (Err ack.Doubt) d s certain = absurd (certain refl)
  ack_causes text (Err ack.OutOfMemory) d s certain = quiet voice_same status.OutOfMemory (λ is. absurd (cc is)) (λ is. absurd (cc is)) (λ is. absurd (cc is)) (unraised ack.DiskFault _ d (λ is. cc is)) s
