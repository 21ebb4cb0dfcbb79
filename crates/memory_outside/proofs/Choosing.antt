-- A host that is made on an image of another.
use Rattle.std.proofs.Common.{◌≡◌, ℕ, ◌<◌, ◌^◌, List, [], length, inl, ⊎_elim, sym, ◌∙◌, subst}
use Rattle.std.specs.Prelude.{Result, Ok, Err, IfOk, reverse}
use Rattle.memory_outside.specs.Contents.{content}
use Rattle.door_outside.specs.Disk.{NothingPending, Now, as_read}
use Rattle.memory_outside.specs.declared.event.Event.{Event}
use Rattle.memory_outside.specs.Events.{read, spoken, Left}
use Rattle.memory_outside.proofs.Left.{left_reads, told_since}
use Rattle.memory_outside.specs.MemoryHost.{Hosted, OnlyReads, disk_of, HostKeeps, only_now, since_now, told_disk}
use Rattle.memory_outside.proofs.Short.{read_short}

-- what a result has from both
pub from_both : {T E : Type 0} (r : Result T E) (P Q R : T → Type 0) → IfOk r P → IfOk r Q → ((x : T) → P x → Q x → R x) → IfOk r R
from_both (Ok x) P Q R p q both = both x p q
from_both (Err e) P Q R p q both = tt

pub nothing_pending : (host : Hosted) → OnlyReads host.events → NothingPending (disk_of host)
nothing_pending host only image left = only image (only_now host.events image (told_since (length host.events) host.events image left))

-- the host reads as an image of the other
pub on_image_now : (other host : Hosted) (events : List Event) (files : ℕ → List ℕ) (words : List ℕ) → other.events ≡ events → words ≡ spoken events
    → Left events (record { files = files; said = spoken events }) → ((file : ℕ) → read host.events file ≡ files file) → spoken host.events ≡ words
    → Now (disk_of other) (as_read (disk_of host))
on_image_now other host events files words named said left reads speaks =
    inl (since_now (length other.events) other.events (as_read (disk_of host))
    (subst (λ (es : List Event). Left es (as_read (disk_of host))) (sym named) (subst (Left events) (λ i. record { files = λ file. sym (reads file) i; said = sym (speaks ∙ said) i }) left)))

-- or as it reads itself
pub on_reads_now : (other host : Hosted) (contents : List (List ℕ)) (words spoke : List ℕ) (events : List Event) → other.events ≡ events → HostKeeps contents spoke events → words ≡ spoke
    → ((file : ℕ) → read host.events file ≡ content contents file) → spoken host.events ≡ words → Now (disk_of other) (as_read (disk_of host))
on_reads_now other host contents words spoke events named keeps same reads speaks =
    on_image_now other host events (read events) words named (same ∙ keeps.said) (left_reads events) (λ file. reads file ∙ keeps.files file) speaks

pub contents_short : (contents : List (List ℕ)) (words : List ℕ) (events : List Event) → HostKeeps contents words events → (file : ℕ) → length (content contents file) < 2 ^ 31
contents_short contents words events keeps file = subst (λ (l : List ℕ). length l < 2 ^ 31) (sym (keeps.files file)) (read_short events keeps.short file)

-- before the first event
pub none_pending : (events : List Event) (wrote : ℕ) → events ≡ [] → NothingPending (told_disk (reverse events) wrote)
none_pending events wrote none = subst (λ (es : List Event). NothingPending (told_disk (reverse es) wrote)) (sym none) (λ image left. ⊎_elim (λ since i. record { files = since.0 i; said = since.1 i }) (λ is. is) left)
