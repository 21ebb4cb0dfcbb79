-- What a command gives, as its arm of the dispatch has it.
use Rattle.std.proofs.Common.{◌≡◌, ◌≢◌, inl, inr, ⊎_elim, ℕ, List, refl, sym, subst, arith}
use Rattle.std.specs.Prelude.{Result, Ok, Err, IfOk, IsTrue, Option, Some, None, true}
use Rattle.cmd_board.specs.Kept.{IsKept}
use Rattle.board_layout.specs.Layout.{AreEmpty}
use Rattle.door_outside.specs.Disk.{Disk}
use Rattle.entry_runs.proofs.Voice.{calm_then, settled_then}
use Rattle.entry_runs.specs.Entry.{Reply}
use Rattle.entry_runs.specs.Promise.{counts, ended, HasCauses}
use Rattle.entry_runs.specs.Saying.{Spoken, Voiced}
use Rattle.entry_runs.specs.declared.class.Class.{Class}
use Rattle.entry_runs.specs.declared.class.Class.TheVariants.{Damaged}
use Rattle.entry_runs.specs.declared.stop.Stop.{Stop}
use Rattle.cmd_board.specs.mail_board.Held.{StandsFor}
use Rattle.cmd_board.specs.mail_board.declared.loading.Loaded.{Loaded}
use Rattle.cmd_board.specs.mail_board.declared.loading.Loaded.TheVariants.{NotMade, Ready}
use Rattle.cmd_board.specs.shelf_files.Halts.{ShelfCauses, served}
use Rattle.cmd_board.specs.shelf_files.declared.halt.Halt.{Halt}
use Rattle.cmd_board.specs.shelf_files.declared.halt.Halt.TheVariants.{Refused, ShelfFault, OutOfMemory}

-- a command over the shelf leaves the other counts
pub shelf_causes : {T : Type 0} (text : T → List ℕ) (disk voice : ℕ) {old new : ℕ} (result : Result T Halt) → ShelfCauses old new result
    → HasCauses (counts disk voice old) (counts disk voice new) (ended (served text result))
shelf_causes text disk voice (Ok value) causes = record {
  disk_later = omega arith;
  voice_later = omega arith;
  shelf_later = causes.later;
  disk_rose = λ is. absurd (cc is);
  voice_rose = λ is. absurd (cc is);
  shelf_rose = λ is. absurd (cc is);
  disk_kept = inr refl;
  voice_kept = inr refl;
  shelf_kept = inr (⊎_elim (λ is. absurd (cc is)) (λ same. same) causes.kept);
}
shelf_causes text disk voice (Err (Refused why)) causes = record {
  disk_later = omega arith;
  voice_later = omega arith;
  shelf_later = causes.later;
  disk_rose = λ is. absurd (cc is);
  voice_rose = λ is. absurd (cc is);
  shelf_rose = λ is. absurd (cc is);
  disk_kept = inr refl;
  voice_kept = inr refl;
  shelf_kept = inr (⊎_elim (λ is. absurd (cc is)) (λ same. same) causes.kept);
}
shelf_causes text disk voice (Err ShelfFault) causes = record {
  disk_later = omega arith;
  voice_later = omega arith;
  shelf_later = causes.later;
  disk_rose = λ is. absurd (cc is);
  voice_rose = λ is. absurd (cc is);
  shelf_rose = λ is. causes.rose refl;
  disk_kept = inr refl;
  voice_kept = inr refl;
  shelf_kept = inl refl;
}
shelf_causes text disk voice (Err OutOfMemory) causes = record {
  disk_later = omega arith;
  voice_later = omega arith;
  shelf_later = causes.later;
  disk_rose = λ is. absurd (cc is);
  voice_rose = λ is. absurd (cc is);
  shelf_rose = λ is. absurd (cc is);
  disk_kept = inr refl;
  voice_kept = inr refl;
  shelf_kept = inr (⊎_elim (λ is. absurd (cc is)) (λ same. same) causes.kept);
}

-- one that touches the board may answer damage
pub may_be_damaged : (result : Result Class Stop) → IfOk result (λ class. class ≡ Damaged → IsTrue true)
may_be_damaged (Ok class) = λ damaged. refl
may_be_damaged (Err stop) = tt

-- where none does, nothing follows from one that did
pub never_damaged : (P : Type 0) (result : Result Class Stop) → IfOk result (λ class. class ≢ Damaged) → IfOk result (λ class. class ≡ Damaged → P)
never_damaged P (Ok class) never = λ damaged. absurd (never damaged)
never_damaged P (Err stop) never = tt

-- what was kept of the board is kept once a text was said
said_kept : {T E : Type 0} {text : List ℕ} {old new : Disk} {result : Result T E} (kept : Option Loaded) → Voiced text old new result → IsKept kept old → IsKept kept new
said_kept {old = old} {new = new} None voiced settled = settled_then old new (λ image left. (voiced.now image left).files) voiced.files settled
said_kept {old = old} {new = new} (Some NotMade) voiced empty =
    (calm_then old new (λ image left. (voiced.now image left).files) voiced.files empty.0, subst AreEmpty (sym voiced.files) empty.1)
said_kept {old = old} {new = new} (Some (Ready held)) voiced rests = record {
  calm = calm_then old new (λ image left. (voiced.now image left).files) voiced.files rests.calm;
  stands = subst (StandsFor held.board) (sym voiced.files) rests.stands;
}

pub spoken_kept : {Host : Type 0} (disk : Host → Disk) (old new : Host) (kept : Option Loaded) (answer : Result Reply Stop) (result : Result Class Stop) → Spoken disk answer old new result → IsKept kept (disk old) → IsKept kept (disk new)
spoken_kept disk old new kept (Ok reply) result spoken was = said_kept kept spoken.1 was
spoken_kept disk old new kept (Err stop) result spoken was = subst (λ host. IsKept kept (disk host)) (sym spoken.0) was
