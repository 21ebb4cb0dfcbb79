-- What a host in memory shows.
use Rattle.std.specs.Prelude.{◌≡◌, ◌⊎◌, ℕ, List, [], ◌∷◌, ◌++◌, length, Result, MatchResult, refl}
use Rattle.std.proofs.Common.{ap, inl, inr, ⊎_elim, ◌∙◌}
use Rattle.std.proofs.Math.Nat.{not-suc-le_self}
use Rattle.memory_outside.specs.Contents.{content}
use Rattle.door_outside.specs.Disk.{Disk, Image}
use Rattle.memory_outside.specs.Events.{read, spoken, Left, Since, AreShort}
use Rattle.memory_outside.specs.Plan.{PlanCounts}
use Rattle.memory_outside.specs.declared.event.Event.{Event}
use Rattle.memory_outside.specs.declared.event.Event.TheVariants.{Write, Shorten, Sync, Put, Say}

pub record Hosted : Type 0 where
  -- the calls that changed what a crash may leave, the newest first
  pub events : List Event
  -- how many bytes were given to writes
  pub wrote : ℕ
  pub disk_faults : ℕ
  pub voice_faults : ℕ
  pub counts : PlanCounts

-- what reads give after events, and what was said
abbrev pub shown_image : List Event → Image
shown_image events = record { files = read events; said = spoken events }

-- Three facts that the record of a disk asks for: what a crash now may leave is what all events left, might have been
-- left at any moment since an earlier one, and has all that was said.
pub only_now : (events : List Event) (image : Image) → Since (length events) events image → Left events image
only_now [] image left = left
only_now (event ∷ past) image (inl now) = now
only_now (event ∷ past) image (inr earlier) = absurd (not-suc-le_self (length past) earlier.0)

pub since_now : (t : ℕ) (events : List Event) (image : Image) → Left events image → Since t events image
since_now t [] image left = left
since_now t (event ∷ past) image left = inl left

pub left_stays : (events : List Event) (image : Image) → Left events image → image.said ≡ spoken events
left_stays [] image left = left.1
left_stays (Write to at bytes ∷ past) image left = left.2.said ∙ left_stays past left.0 left.1
left_stays (Shorten to len ∷ past) image left = left.2.said ∙ left_stays past left.0 left.1
left_stays (Sync to ∷ past) image left = left_stays past image left.0
left_stays (Put to bytes ∷ past) image left = left.2.said ∙ left_stays past left.0 left.1
left_stays (Say bytes ∷ past) image left = left.3 ∙ ap (λ (l : List ℕ). l ++ bytes) (left_stays past left.0 left.1)

-- The disk that events left. A crash leaves what it might have left at some moment; what reads give is named beside
-- that, and is one of those images.
abbrev pub told_disk : List Event → ℕ → Disk
told_disk events wrote = record {
  files = read events;
  said = spoken events;
  clock = length events;
  wrote = wrote;
  leaves = λ t image. Since t events image ⊎ (image ≡ shown_image events);
  reads = inr refl;
  counts = λ t image le left. ⊎_elim (λ since. inl (since_now t events image (only_now events image since))) (λ is. inr is) left;
  stays = λ image left. ⊎_elim (λ since. left_stays events image (only_now events image since)) (λ is. ap (λ (i : Image). i.said) is) left;
}

abbrev pub disk_of : Hosted → Disk
disk_of host = told_disk host.events host.wrote

-- nothing is pending: every image that a crash may leave is what reads give
abbrev pub OnlyReads : List Event → Type 0
OnlyReads events = (image : Image) → Left events image → image ≡ shown_image events

-- what a host keeps is what its events left
pub record HostKeeps (contents : List (List ℕ)) (words : List ℕ) (events : List Event) : Type 0 where
  pub files : (file : ℕ) → content contents file ≡ read events file
  pub said : words ≡ spoken events
  pub short : AreShort events

-- a call records its event where it succeeds, and nothing where it fails
abbrev pub Recorded : {E : Type 0} → Event → List Event → List Event → Result (Unit {0}) E → Type 0
Recorded event old new result = MatchResult result (λ _. new ≡ event ∷ old) (λ _. new ≡ old)
