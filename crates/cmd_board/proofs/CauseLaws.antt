-- The counts of faults over a command, whose board was found and then changed by one call: none rose, or the one that
-- is answered; and how a command stops without a fault.
use Rattle.std.proofs.Common.{◌≡◌, ◌≢◌, ℕ, ◌≤◌, List, inl, inr, ⊎_elim, Err, refl, arith}
use Rattle.std.specs.Prelude.{Result}
use Rattle.door_outside.specs.Cause.{Rose}
use Rattle.entry_runs.specs.Promise.{FaultCounts, HasCauses, counts, ended}
use Rattle.entry_runs.specs.declared.status.Status.{Status}
use Rattle.entry_runs.specs.declared.status.Status.TheVariants as status
use Rattle.mail_board.specs.Causes.{HasFault}
use Rattle.shelf_files.specs.declared.refusal.Refusal.{Refusal}
use Rattle.cmd_board.specs.Halts.{StopsBy, told}
use Rattle.cmd_board.specs.declared.halt.BoardHalt.{BoardHalt}
use Rattle.cmd_board.specs.declared.halt.BoardHalt.TheVariants.{Refused, Damaged, DiskFault, ShelfFault, OutOfMemory}

-- the counts before, and after
module _ {disk voice shelf disk_after voice_after shelf_after : ℕ} (voice_same : voice_after ≡ voice) where
  -- no call failed
  pub quiet : (s : Status) → s ≢ status.DiskFault → s ≢ status.VoiceFault → s ≢ status.ShelfFault → disk_after ≡ disk → shelf_after ≡ shelf → HasCauses (counts disk voice shelf) (counts disk_after voice_after shelf_after) s
  quiet s no_disk no_voice no_shelf disk_same shelf_same = record {
    disk_later = omega (arith, disk_same);
    voice_later = omega (arith, voice_same);
    shelf_later = omega (arith, shelf_same);
    disk_rose = λ is. absurd (no_disk is);
    voice_rose = λ is. absurd (no_voice is);
    shelf_rose = λ is. absurd (no_shelf is);
    disk_kept = inr disk_same;
    voice_kept = inr voice_same;
    shelf_kept = inr shelf_same;
  }

  pub disk_fails : disk ≤ disk_after → Rose disk disk_after → shelf_after ≡ shelf → HasCauses (counts disk voice shelf) (counts disk_after voice_after shelf_after) status.DiskFault
  disk_fails later rose shelf_same = record {
    disk_later = later;
    voice_later = omega (arith, voice_same);
    shelf_later = omega (arith, shelf_same);
    disk_rose = λ is. rose;
    voice_rose = λ is. absurd (cc is);
    shelf_rose = λ is. absurd (cc is);
    disk_kept = inl refl;
    voice_kept = inr voice_same;
    shelf_kept = inr shelf_same;
  }

  pub shelf_fails : shelf ≤ shelf_after → Rose shelf shelf_after → disk_after ≡ disk → HasCauses (counts disk voice shelf) (counts disk_after voice_after shelf_after) status.ShelfFault
  shelf_fails later rose disk_same = record {
    disk_later = omega (arith, disk_same);
    voice_later = omega (arith, voice_same);
    shelf_later = later;
    disk_rose = λ is. absurd (cc is);
    voice_rose = λ is. absurd (cc is);
    shelf_rose = λ is. rose;
    disk_kept = inr disk_same;
    voice_kept = inr voice_same;
    shelf_kept = inl refl;
  }

-- where this fault isn't answered, its count stays
pub unraised : {T E : Type 0} {before now : ℕ} (fault : E) (result : Result T E) → HasFault fault before now result → (result ≡ Err fault → ⊥) → now ≡ before
unraised fault result has never = ⊎_elim (λ is. absurd (never is)) (λ same. same) has.kept

-- what holds where it is refused, and where memory ran out
pub stops_by : {Why : Refusal → Type 0} (P : BoardHalt → Type 0) → ((why : Refusal) → Why why → P (Refused why)) → P OutOfMemory → (e : BoardHalt) → StopsBy Why e → P e
stops_by P refused starved (Refused why) by = refused why by
stops_by P refused starved OutOfMemory by = starved
stops_by P refused starved (Damaged d) by = absurd by
stops_by P refused starved DiskFault by = absurd by
stops_by P refused starved ShelfFault by = absurd by

-- neither is a fault
pub no_fault : {Value : Type 0} (text : Value → List ℕ) (Why : Refusal → Type 0) {old new : FaultCounts} (e : BoardHalt) → StopsBy Why e → HasCauses old new status.Done → HasCauses old new status.OutOfMemory → HasCauses old new (ended (told text (Err e)))
no_fault text Why {old = old} {new = new} e by over halted = stops_by {Why = Why} (λ (h : BoardHalt). HasCauses old new (ended (told text (Err h)))) (λ why refused. over) halted e by
