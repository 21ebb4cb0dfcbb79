-- What a function answers that takes memory.
use Rattle.std.specs.Prelude.{◌≡◌, ◌⊎◌, Result, Err}

-- the answer, or want of memory, which may come at any time
abbrev pub UnlessMemory : {T E : Type 0} → E → Result T E → Result T E → Type 0
UnlessMemory starved result answer = (result ≡ answer) ⊎ (result ≡ Err starved)
