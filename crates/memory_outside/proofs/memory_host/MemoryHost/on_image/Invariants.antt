use Rattle.std.proofs.Common.{◌≡◌, ℕ, ◌<◌, ◌≤◌, []}
use Rattle.memory_outside.specs.Contents.{content}
use Rattle.memory_outside.specs.Events.{read, spoken}
use Rattle.memory_outside.specs.Images.{IsFresh}
use Rattle.memory_outside.specs.MemoryHost.{OnlyReads}
use Rattle.memory_outside.proofs.memory_host.MemoryHost.on_image.Given as goal

abbrev pub invariant-loop-number : goal.invariant-loop-number
invariant-loop-number l = record {
  put : (file : ℕ) → file < l.number → read l.host.events file ≡ content l.files file;
  empty : (file : ℕ) → l.number ≤ file → read l.host.events file ≡ [];
  words : spoken l.host.events ≡ l.fn.said;
  pending : OnlyReads l.host.events;
  fresh : IsFresh l.fn.plan l.host;
}
