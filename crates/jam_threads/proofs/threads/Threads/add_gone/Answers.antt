use Rattle.std.proofs.Common.{refl}
use Rattle.jam_threads.proofs.threads.Threads.add_gone.Goals as goal

pub returns-clause-room : goal.returns-clause-room
returns-clause-room c = c.add_link.ensures.room refl
