use Rattle.std.proofs.Common.{ℕ, ◌+◌, ◌-◌, arith}
use Rattle.jam_threads.specs.Threading.{HasRoom}
use Rattle.jam_threads.proofs.FillLemmas.{filled_more}
use Rattle.jam_threads.proofs.threads.Threads.fill.Goals as goal

pub loop-preserved : goal.loop-preserved
loop-preserved c =
    let left : ℕ = c.saturating_sub-missing.result - (c.loop.counter + 1) in
    let room : HasRoom (left + 1) c.loop.self = (omega (arith, c.loop.invariant.room.0, c.loop-test.true), omega (arith, c.loop.invariant.room.1, c.loop-test.true)) in
    record {
      filled = filled_more _ _ _ _ c.loop.invariant.filled c.add_gone.ensures.added;
      room = c.add_gone.ensures.room left room;
    }
