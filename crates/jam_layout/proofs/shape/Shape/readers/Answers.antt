use Rattle.std.proofs.Common.{ℕ, ◌<◌, ◌^◌, subst}
use Rattle.jam_layout.proofs.shape.Shape.readers.Goals as goal

pub returns-clause-fit : goal.returns-clause-fit
returns-clause-fit c = record { created = subst (λ (n : ℕ). n < 2 ^ 32) c.created-created.ensures c.created-created.type_inv; readers = c.len-count.ensures.fit }
