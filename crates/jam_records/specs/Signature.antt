-- What each header begins with (JAM message base proposal, revision 1).
use Rattle.std.specs.Prelude.{ℕ, List, [], ◌∷◌}

-- `JAM` and a zero byte
abbrev pub signature : List ℕ
signature = 0x4A ∷ 0x41 ∷ 0x4D ∷ 0 ∷ []
