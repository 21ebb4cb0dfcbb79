use Rattle.std.proofs.Common.{◌≡◌, ◌⊎◌, ◌<◌, false, drop, IsTrue}
use Rattle.door_outside.specs.Shelf.{ShelfFiles}
use Rattle.entry_runs.proofs.Running.{Running}
use Rattle.entry_runs.specs.Door.{any_touches, here}
use Rattle.entry_runs.specs.Promise.{counts, HasCauses}
use Rattle.entry_runs.specs.declared.status.Status.TheVariants as status
use Rattle.intent_journal.specs.Hosts.{IsFirm}
use Rattle.intent_journal.specs.Recovered.{recovered}
use Rattle.cmd_board.specs.Kept.{AreSure, IsKept}
use Rattle.cmd_board.specs.State.{AreSpoiled, State, Stores}
use Rattle.cmd_entries.specs.Entries.{BeginsWrong}
use Rattle.mail_cli.specs.CommandBound.{OneFilesKeepBound, OneKeepsBound}
use Rattle.mail_cli.specs.Run.{BeginsTouching, FilesStay}
use Rattle.mail_cli.specs.Step.{any_uses_shelf, door}
use Rattle.mail_cli.proofs.entries.run_entries.Given as goal

abbrev pub invariant-loop-entry : goal.invariant-loop-entry
invariant-loop-entry g l = record {
  sure : AreSure l.kept;
  kept : IsTrue g.H.Host.tells → IsKept l.kept (g.H.Host.disk l.host);
  running : IsTrue g.H.Host.tells → IsTrue g.S.Shelf.tells → (state : State) → Stores state (recovered (g.H.Host.disk l.fn.host).files)
      → Running (door l.now) (here state (g.S.Shelf.files l.fn.shelf)) l.entries (drop l.entry-index l.entries) (g.H.Host.disk l.fn.host) (g.H.Host.disk l.host) (g.S.Shelf.files l.shelf) l.status;
  running_any : any_uses_shelf l.entries ≡ false → IsTrue g.H.Host.tells → (files : ShelfFiles) (state : State) → Stores state (recovered (g.H.Host.disk l.fn.host).files)
      → Running (door l.now) (here state files) l.entries (drop l.entry-index l.entries) (g.H.Host.disk l.fn.host) (g.H.Host.disk l.host) files l.status;
  firm : IsTrue g.H.Host.tells → IsFirm (g.H.Host.disk l.fn.host) → IsFirm (g.H.Host.disk l.host);
  rests : IsTrue g.H.Host.tells → 0 < l.entry-index → BeginsTouching l.now l.entries → IsFirm (g.H.Host.disk l.host);
  spoiled : IsTrue g.H.Host.tells → AreSpoiled (recovered (g.H.Host.disk l.host).files) → AreSpoiled (recovered (g.H.Host.disk l.fn.host).files);
  causes : HasCauses (counts (g.H.Host.disk_faults l.fn.host) (g.H.Host.voice_faults l.fn.host) (g.S.Shelf.faults l.fn.shelf))
      (counts (g.H.Host.disk_faults l.host) (g.H.Host.voice_faults l.host) (g.S.Shelf.faults l.shelf)) status.Done;
  quiet : (l.status ≡ status.Done) ⊎ (l.status ≡ status.Refused);
  first : 0 < l.entry-index → ¬ BeginsWrong l.entries;
  files : any_touches (door l.now) l.entries ≡ false → IsTrue g.H.Host.tells → FilesStay (g.H.Host.disk l.fn.host) (g.H.Host.disk l.host);
  disk_faults : any_touches (door l.now) l.entries ≡ false → g.H.Host.disk_faults l.host ≡ g.H.Host.disk_faults l.fn.host;
  shelf : any_uses_shelf l.entries ≡ false → l.shelf ≡ l.fn.shelf;
  unbegun : l.entry-index ≡ 0 → (l.host ≡ l.fn.host) × (l.shelf ≡ l.fn.shelf);
  wrote : IsTrue g.H.Host.tells → IsTrue g.S.Shelf.tells → 0 < l.entry-index → OneKeepsBound l.now l.entries (g.H.Host.disk l.fn.host) (g.H.Host.disk l.host) (g.S.Shelf.files l.fn.shelf);
  wrote_any : any_uses_shelf l.entries ≡ false → IsTrue g.H.Host.tells → (files : ShelfFiles) → 0 < l.entry-index → OneKeepsBound l.now l.entries (g.H.Host.disk l.fn.host) (g.H.Host.disk l.host) files;
  wrote_between : IsTrue g.H.Host.tells → 0 < l.entry-index → OneFilesKeepBound l.entries (g.H.Host.disk l.fn.host) (g.H.Host.disk l.host);
}
