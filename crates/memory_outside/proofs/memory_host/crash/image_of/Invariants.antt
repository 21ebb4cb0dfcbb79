use Rattle.std.proofs.Common.{◌≡◌, ℕ, take}
use Rattle.std.specs.Prelude.{reverse, None}
use Rattle.memory_outside.specs.Contents.{content}
use Rattle.memory_outside.specs.Events.{Left, read, spoken, synced}
use Rattle.memory_outside.proofs.memory_host.crash.image_of.Given as goal

abbrev pub invariant-loop-event : goal.invariant-loop-event
invariant-loop-event l =
    let past = reverse (take l.event-index l.events) in
    record {
      reads : (file : ℕ) → content l.read file ≡ read past file;
      left : Left past (record { files = content l.image; said = spoken past });
      none : l.fn.draws ≡ None → l.draws ≡ None;
      synced_so : l.fn.draws ≡ None → (file : ℕ) → content l.image file ≡ synced past file;
    }
