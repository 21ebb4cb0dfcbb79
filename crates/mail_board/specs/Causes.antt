-- What the count of disk faults has to do with the answer of a change.
use Rattle.std.specs.Prelude.{◌≡◌, ◌≤◌, ◌⊎◌, ℕ, Result, IsErrOf}
use Rattle.door_outside.specs.Cause.{Rose}

-- The count doesn't fall. It rose where this fault is answered, and any other answer leaves it.
pub record HasFault {T E : Type 0} (fault : E) (before now : ℕ) (result : Result T E) : Type 0 where
  pub later : before ≤ now
  pub rose : IsErrOf result fault → Rose before now
  pub kept : IsErrOf result fault ⊎ (now ≡ before)
