use Rattle.std.proofs.Common.{◌≡◌, take}
use Rattle.std.specs.Prelude.{fold}
use Rattle.id_numbers.specs.Mix.{mix_step}
use Rattle.id_numbers.proofs.numbers.mixed.Given as goal

abbrev pub invariant-loop-byte : goal.invariant-loop-byte
invariant-loop-byte l = l.mix ≡ fold mix_step 0 (take l.byte-index l.id)
