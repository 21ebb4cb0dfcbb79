use Rattle.std.proofs.Common.{refl}
use Rattle.jam_layout.proofs.headers.read_fixed.Goals as goal

pub returns-else-u16_at-ne0-clause-fields : goal.returns-else-u16_at-ne0-clause-fields
returns-else-u16_at-ne0-clause-fields c = ((c.in-Ok.ensures.ok c.in-Ok.header).0 refl).fields
