use Rattle.std.proofs.Common.{◌∙◌, length, ap, arith}
use Rattle.memory_outside.proofs.Short.{read_short}
use Rattle.memory_outside.proofs.memory_host.MemoryHost.file_len.Goals as goal

pub returns-clause-bound : goal.returns-clause-bound
returns-clause-bound c = omega (arith, ap length (c.get-bytes.ensures ∙ c.self.invariant.files c.args.file), read_short _ c.self.invariant.short c.args.file)

pub overflow_cast-result : goal.overflow_cast-result
overflow_cast-result c = omega (arith, ap length (c.get-bytes.ensures ∙ c.self.invariant.files c.args.file), read_short _ c.self.invariant.short c.args.file)
