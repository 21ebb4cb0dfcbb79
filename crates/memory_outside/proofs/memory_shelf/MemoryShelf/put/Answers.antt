use Rattle.std.proofs.Common.{◌≡◌, ap}
use Rattle.std.specs.FinMap as map
use Rattle.memory_outside.specs.MemoryShelf.{Shelved}
use Rattle.memory_outside.proofs.Maps.{files_of, put_in}
use Rattle.memory_outside.proofs.memory_shelf.MemoryShelf.put.Goals as goal

pub returns-clause-ok : goal.returns-clause-ok
returns-clause-ok c =
    let files : files_of c.insert.new.self ≡ map.insert c.args.self.now.files c.args.name.now c.args.bytes.now =
    put_in c.self.inside.files c.insert.new.self c.in_ok-key.key c.in_ok-file.file c.args.name.now c.args.bytes.now c.args.self.now.files (ap (λ (s : Shelved). s.files) c.self.view_is) c.in_ok-key.ensures c.in_ok-file.ensures c.in_ok-insert.ensures.updates in
    λ i. record { files = files i; faults = (c.self.view_is i).faults; counts = (c.self.view_is i).counts }
