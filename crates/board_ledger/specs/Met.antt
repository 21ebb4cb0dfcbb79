-- What a value of `Met` shows.
use Rattle.std.specs.Prelude.{ℕ, List, Bool}
use Rattle.std.specs.BTreeSet.{contains_by}
use Rattle.std.specs.Cmp.Lexicographic.{slice_cmp}
use Rattle.std.specs.Ordering.{nat_cmp}
use Rattle.board_ledger.specs.declared.met.Met.{Met}

-- the key was met
unfoldable pub is_met : Met → List ℕ → Bool
is_met met key = contains_by (λ k. slice_cmp nat_cmp key k.items) met.keys
