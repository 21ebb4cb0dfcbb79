use Rattle.std.proofs.Common.{◌-◌}
use Rattle.jam_threads.specs.Threading.{HasRoom}
use Rattle.jam_threads.proofs.FillLemmas.{Filled}
use Rattle.jam_threads.proofs.threads.Threads.fill.Given as goal

-- so many slots were added that hold no message, and there is room for the others
abbrev pub invariant-loop : goal.invariant-loop
invariant-loop l = record {
  filled : Filled l.initial.self l.self l.counter;
  room : HasRoom (l.missing - l.counter) l.self;
}
