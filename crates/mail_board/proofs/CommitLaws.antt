-- What a commit of a change of the board's files leaves.
use Rattle.std.proofs.Common.{◌≡◌, inl, inr, ⊎_elim, List, sym, ◌∙◌}
use Rattle.post_changes.specs.board_changes.Change.{Leads}
use Rattle.board_layout.specs.Board.{Board}
use Rattle.door_outside.specs.Disk.{Disk, Image, AllNow, Between}
use Rattle.door_outside.proofs.Moments.{weaker}
use Rattle.intent_journal.specs.Hosts.{IsCalm}
use Rattle.intent_journal.specs.Patches.{HostFiles, data_files, patched}
use Rattle.intent_journal.specs.Recovered.{recovered, OldOrPatched}
use Rattle.intent_journal.specs.declared.patch.Patch.{Patch}
use Rattle.intent_journal.proofs.Hosts.{calm_is_firm, calm_recovers}
use Rattle.mail_board.specs.Held.{BeforeOrNext, Rests}
use Rattle.mail_board.proofs.DataLaws.{layout_moves, data_twice}

-- before the first write
pub calm_now : (P : HostFiles → Type 0) (moves : (f g : HostFiles) → data_files f ≡ data_files g → P f → P g) (next : Board) (disk : Disk) → IsCalm disk → P disk.files → AllNow disk (BeforeOrNext P next disk)
calm_now P moves next disk calm holds = λ image left. record {
  said = disk.stays image left;
  files = inl (moves disk.files (recovered image.files) (sym (data_twice disk.files) ∙ sym (λ i. data_files ((calm_is_firm disk calm image left ∙ calm_recovers disk calm) i))) holds);
}

-- a commit, done or not
module _ (P : HostFiles → Type 0) (moves : (f g : HostFiles) → data_files f ≡ data_files g → P f → P g) (next : Board) (intent : List Patch) (leads : Leads P next intent) (old : Disk) (holds : P old.files) where
  each : (image : Image) → OldOrPatched intent old image → BeforeOrNext P next old image
  each image it = record {
    said = it.said;
    files = ⊎_elim
        (λ still. inl (moves old.files (recovered image.files) (sym (data_twice old.files) ∙ sym (λ i. data_files (still i))) holds))
        (λ then. inr (layout_moves next (patched intent old.files) (recovered image.files) (sym (data_twice (patched intent old.files)) ∙ sym (λ i. data_files (then i))) (leads.files old.files holds)))
        it.files;
  }

  pub commit_moments : (new : Disk) → Between old new (OldOrPatched intent old) → Between old new (BeforeOrNext P next old)
  commit_moments new moments = weaker moments each

  pub commit_now : (new : Disk) → AllNow new (OldOrPatched intent old) → AllNow new (BeforeOrNext P next old)
  commit_now new now = λ image left. each image (now image left)

  pub commit_rests : (new : Disk) → IsCalm new → data_files new.files ≡ data_files (patched intent old.files) → Rests next new
  commit_rests new calm done = record { calm = calm; files = layout_moves next (patched intent old.files) new.files (sym done) (leads.files old.files holds) }
