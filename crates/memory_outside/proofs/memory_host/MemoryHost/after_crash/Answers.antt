use Rattle.std.proofs.Common.{List, ◌≡◌, ◌∙◌, ℕ, ap, sym, subst}
use Rattle.std.specs.Prelude.{All, reverse}
use Rattle.std.proofs.lemmas.Result.{IfOk-weaker}
use Rattle.memory_outside.specs.Contents.{content}
use Rattle.door_outside.specs.Disk.{NothingPending, Now, as_read}
use Rattle.memory_outside.specs.Events.{IsShortEvent, Left, read, spoken}
use Rattle.memory_outside.specs.MemoryHost.{Hosted, OnlyReads, disk_of}
use Rattle.memory_outside.specs.declared.event.Event.{Event}
use Rattle.memory_outside.proofs.Choosing.{contents_short, from_both, on_image_now, on_reads_now, nothing_pending}
use Rattle.memory_outside.proofs.Replaying.{all_short}
use Rattle.memory_outside.proofs.Short.{left_short}
use Rattle.memory_outside.proofs.memory_host.MemoryHost.after_crash.Goals as goal

pub on_image-requires : goal.on_image-requires
on_image-requires c = contents_short c.self.inside.contents c.self.inside.said (reverse c.self.inside.events.items) c.self.invariant

pub returns-in-Written-clause-image : goal.returns-in-Written-clause-image
returns-in-Written-clause-image c = from_both c.on_image.result (λ host. (file : ℕ) → read host.events file ≡ content c.self.inside.contents file) (λ host. spoken host.events ≡ c.as_slice-said.result.now) (λ host. Now (disk_of c.args.self.now) (as_read (disk_of host)))
    c.on_image.ensures.files c.on_image.ensures.said (λ host reads speaks. on_reads_now c.args.self.now host c.self.inside.contents c.as_slice-said.result.now c.self.inside.said (reverse c.self.inside.events.items)
    (ap (λ (h : Hosted). h.events) (sym c.self.view_is)) c.self.invariant c.as_slice-said.ensures.same reads speaks)

pub returns-in-Written-clause-pending : goal.returns-in-Written-clause-pending
returns-in-Written-clause-pending c = IfOk-weaker c.on_image.result (λ host. OnlyReads host.events) (λ host. NothingPending (disk_of host)) nothing_pending c.on_image.ensures.pending

pub image_of-requires : goal.image_of-requires
image_of-requires c = subst (All IsShortEvent) (sym c.as_slice.ensures.value) (all_short c.self.inside.events.items c.self.invariant.short)

pub on_image-requires-2 : goal.on_image-requires-2
on_image-requires-2 c = left_short (reverse c.self.inside.events.items) (record { files = content c.in_ok-image.image; said = spoken (reverse c.self.inside.events.items) }) c.self.invariant.short (subst (λ (es : List Event). Left (reverse es) (record { files = content c.in_ok-image.image; said = spoken (reverse es) })) c.as_slice.ensures.value (c.in_ok-image.ensures {u = tt {0}}).left)

pub returns-clause-image : goal.returns-clause-image
returns-clause-image c = from_both c.on_image-2.result (λ host. (file : ℕ) → read host.events file ≡ content c.in_ok-image.image file) (λ host. spoken host.events ≡ c.as_slice-said.result.now) (λ host. Now (disk_of c.args.self.now) (as_read (disk_of host)))
    c.on_image-2.ensures.files c.on_image-2.ensures.said (λ host reads speaks. on_image_now c.args.self.now host (reverse c.self.inside.events.items) (content c.in_ok-image.image) c.as_slice-said.result.now
    (ap (λ (h : Hosted). h.events) (sym c.self.view_is)) (c.as_slice-said.ensures.same ∙ c.self.invariant.said) (subst (λ (es : List Event). Left (reverse es) (record { files = content c.in_ok-image.image; said = spoken (reverse es) })) c.as_slice.ensures.value (c.in_ok-image.ensures {u = tt {0}}).left) reads speaks)

pub returns-clause-pending : goal.returns-clause-pending
returns-clause-pending c = IfOk-weaker c.on_image-2.result (λ host. OnlyReads host.events) (λ host. NothingPending (disk_of host)) nothing_pending c.on_image-2.ensures.pending
