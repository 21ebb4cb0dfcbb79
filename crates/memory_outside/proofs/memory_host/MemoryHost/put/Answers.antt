use Rattle.memory_outside.proofs.Passing.{put_crash}
use Rattle.memory_outside.proofs.memory_host.MemoryHost.put.Goals as goal

pub returns-clause-crash : goal.returns-clause-crash
returns-clause-crash c = put_crash c.note.result c.args.file c.in_ok-bytes.bytes c.args.bytes.now c.args.self.now c.note.new.self c.in_ok-bytes.ensures c.note.ensures.ok
