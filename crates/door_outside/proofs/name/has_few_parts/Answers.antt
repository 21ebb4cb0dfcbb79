use Rattle.std.proofs.Common.{ℕ, eqb, arith}
use Rattle.std.proofs.lemmas.List.Splits.{length-slice_split}
use Rattle.door_outside.proofs.name.has_few_parts.Goals as goal

pub returns : goal.returns
returns c = let e = length-slice_split (λ (b : ℕ). eqb b 47) c.args.text.now in grind (arith, e)
