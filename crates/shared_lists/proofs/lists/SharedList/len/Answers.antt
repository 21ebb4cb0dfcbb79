use Rattle.std.proofs.Common.{ap, ◌-◌, arith, length, length-append}
use Rattle.shared_lists.specs.Chunks.{joined}
use Rattle.shared_lists.proofs.ChunkLaws.{joined_length}
use Rattle.shared_lists.proofs.lists.SharedList.len.Goals as goal

pub overflow_mul-result : goal.overflow_mul-result
overflow_mul-result g c = omega (arith, c.len.ensures, joined_length c.self.inside.chunks.items c.self.invariant.full, length-append (joined c.self.inside.chunks.items) c.self.inside.last.items, c.self.invariant.few, c.self.invariant.short)

pub overflow_add-result : goal.overflow_add-result
overflow_add-result g c = omega (arith, c.len.ensures, c.len-2.ensures, joined_length c.self.inside.chunks.items c.self.invariant.full, length-append (joined c.self.inside.chunks.items) c.self.inside.last.items, c.self.invariant.few, c.self.invariant.short)

pub returns : goal.returns
returns g c = omega (arith, c.len.ensures, c.len-2.ensures, joined_length c.self.inside.chunks.items c.self.invariant.full, length-append (joined c.self.inside.chunks.items) c.self.inside.last.items, ap length c.self.view_is)
