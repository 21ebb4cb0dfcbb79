-- How much a conference may hold.
use Rattle.std.specs.Prelude.{ℕ}

-- how many slots a conference may have
abbrev pub slot_limit : ℕ
slot_limit = 9999
