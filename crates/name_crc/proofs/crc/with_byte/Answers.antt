use Rattle.std.proofs.Common.{arith, ap, ◌∙◌, ◌/◌}
use Rattle.std.specs.Prelude.{bit_xor}
use Rattle.name_crc.specs.JamCrc.{eight_times}
use Rattle.name_crc.proofs.Steps.{added_byte}
use Rattle.name_crc.proofs.crc.with_byte.Goals as goal

pub returns : goal.returns
returns c =
    let lowered = c.from.ensures ∙ c.to_ascii_lowercase.ensures.value in
    ap (bit_xor (bit_xor c.args.crc c.from.result / 256)) c.steps_of.ensures
    ∙ added_byte c.args.crc c.from.result (omega arith)
    ∙ ap (λ byte. eight_times (bit_xor c.args.crc byte)) lowered
