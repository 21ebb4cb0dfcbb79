use Rattle.std.proofs.Common.{◌≡◌, ◌+◌, ◌∙◌, List, ◌∷◌, take, sym, ap, arith}
use Rattle.std.specs.Prelude.{reverse}
use Rattle.memory_outside.specs.Contents.{content}
use Rattle.memory_outside.specs.declared.event.Event.{Event}
use Rattle.memory_outside.proofs.Replaying.{one_more_event, reads_more, synced_more, took}
use Rattle.memory_outside.proofs.memory_host.crash.image_of.Goals as goal

pub loop-event-preserved : goal.loop-event-preserved
loop-event-preserved c =
    let past : List Event = reverse (take c.loop-event.event-index c.args.events.now) in
    let now : List Event = reverse (take (c.loop-event.event-index + 1) c.args.events.now) in
    let more : now ≡ c.event-item.result ∷ past =
    one_more_event c.args.events.now c.loop-event.event-index c.event-item.result (omega arith) ∙ ap (λ (e : Event). e ∷ past) (sym c.event-item.is) in
    record {
      reads = λ file. reads_more c.event-item.result past now (content c.loop-event.read file) (content c.change.new.self file) file more (c.loop-event.invariant.reads file) (c.in_ok-change.ensures.ok file);
      left = took c.event-item.result past now c.loop-event.read c.loop-event.image c.take_in_image.new.image more c.loop-event.invariant.reads c.in_ok-take_in_image.ensures.taken c.loop-event.invariant.left;
      none = λ is. c.take_in_image.ensures.none (c.loop-event.invariant.none is);
      synced_so = λ is file. synced_more c.event-item.result past now c.loop-event.read (content c.loop-event.image file) (content c.take_in_image.new.image file) file more c.loop-event.invariant.reads
          (c.loop-event.invariant.synced_so is file) (c.in_ok-take_in_image.ensures.synced (c.loop-event.invariant.none is) file);
    }
