use Rattle.long_names.specs.Plain.{with_long}
use Rattle.long_names.proofs.WithLong.{long_fits, capitals_writable}
use Rattle.long_names.proofs.laws.long_is_writable.Goals as goal

pub returns : goal.returns
returns c = record { as_it_is = long_fits; in_capitals = λ m fits. capitals_writable (with_long m) (long_fits m fits) }
