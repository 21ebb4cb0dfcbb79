-- What a shared value is, once a `&mut` to it was lent.
use Rattle.std.specs.Prelude.{Option}
use Rattle.std.specs.Borrow.{LendsIf, Fml, RattleType, MutBor}
use Rattle.shared_lists.specs.contracts.handles.Shared.{the_row}

-- it is what was last written through the reference, or as it was where there is none
abbrev pub lends_value : (T : RattleType) → MutBor T.Denot → Option (MutBor T.Denot) → Fml
lends_value T shared r = LendsIf (the_row T) T shared r (λ value. value) shared.now
