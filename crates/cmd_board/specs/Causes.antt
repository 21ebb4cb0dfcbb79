-- What a command may answer, by the counts of faults of its host and its shelf.
use Rattle.std.specs.Prelude.{ℕ}
use Rattle.entry_runs.specs.Promise.{counts, HasCauses}
use Rattle.entry_runs.specs.declared.status.Status.{Status}

-- The counts are those of the host and of the shelf, before and after.
abbrev pub HaveCauses : {Host Shelf : Type 0} → (Host → ℕ) → (Host → ℕ) → (Shelf → ℕ) → Host → Host → Shelf → Shelf → Status → Type 0
HaveCauses disk voice faults host next shelf after status = HasCauses (counts (disk host) (voice host) (faults shelf)) (counts (disk next) (voice next) (faults after)) status

-- A command that has no shelf leaves its count, whatever that is.
abbrev pub HostHasCauses : {Host : Type 0} → (Host → ℕ) → (Host → ℕ) → Host → Host → Status → Type 0
HostHasCauses disk voice host next status = (shelf : ℕ) → HasCauses (counts (disk host) (voice host) shelf) (counts (disk next) (voice next) shelf) status
