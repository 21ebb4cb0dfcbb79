use Rattle.std.proofs.Common.{◌<◌, length, arith}
use Rattle.jam_layout.proofs.SizeLaws.{field_length}
use Rattle.jam_layout.proofs.sizes.field_size.Goals as goal

pub returns-else-len-eq0-clause-size : goal.returns-else-len-eq0-clause-size
returns-else-len-eq0-clause-size c id value same =
    let some : 0 < length value = omega arith in
    omega (arith, field_length id value some, same)
