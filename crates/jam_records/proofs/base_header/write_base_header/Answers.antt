use Rattle.std.proofs.Common.{refl}
use Rattle.jam_records.specs.BaseHeaders.{base_text}
use Rattle.jam_records.proofs.base_header.write_base_header.Goals as goal

pub returns : goal.returns
unfolding base_text
returns c = rw (c.copy_from_slice.ensures.after, c.write_u32_into.ensures) refl
