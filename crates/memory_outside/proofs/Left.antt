-- That what a crash may leave after some events is what a disk asks: the disk as it reads is an image, and what was said stays said.
use Rattle.std.proofs.Common.{◌≡◌, ◌≢◌, ◌⊎◌, ℕ, ◌+◌, ◌-◌, List, [], ◌∷◌, ◌++◌, length, take, drop, refl, sym, ◌∙◌, ap, subst, ⊎_elim, arith, length-append, length-take, length-drop, append_assoc}
use Rattle.std.specs.Prelude.{◌==◌, if◌then◌else◌, min, replicate}
use Rattle.std.proofs.lemmas.List.{take_at, drop_at, take-take, take_min, length-replicate}
use Rattle.std.proofs.lemmas.Bool.{eq-eqb, ne_eqb, cond-true, cond-false}
use Rattle.door_outside.specs.Disk.{Image, Torn, Cut, written}
use Rattle.memory_outside.specs.declared.event.Event.{Event}
use Rattle.memory_outside.specs.declared.event.Event.TheVariants.{Write, Shorten, Sync, Put, Say}
use Rattle.memory_outside.specs.Events.{read, spoken, Left, Since}
use Rattle.memory_outside.specs.MemoryHost.{shown_image, since_now}

-- a write that was done is one that a crash may leave
pub torn_written : (old bytes : List ℕ) (at : ℕ) → Torn at (length bytes) old (written old at bytes)
torn_written old bytes at = record {
  before = ap (take (min at (length old))) split ∙ take_at (take at old) ((replicate (at - length old) 0 ++ bytes) ++ drop (at + length bytes) old) (min at (length old)) (length-take at old);
  after = drop_at ((take at old ++ replicate (at - length old) 0) ++ bytes) (drop (at + length bytes) old) (at + length bytes) front_long;
  no_shorter = omega (arith, long);
  no_longer = omega (arith, long);
}
  where
    split : written old at bytes ≡ take at old ++ ((replicate (at - length old) 0 ++ bytes) ++ drop (at + length bytes) old)
    split = simp append_assoc

    front_long : length ((take at old ++ replicate (at - length old) 0) ++ bytes) ≡ at + length bytes
    front_long = simp (length-append, length-take, length-replicate) (omega arith)

    long : length (written old at bytes) ≡ (at + length bytes) + (length old - (at + length bytes))
    long = length-append ((take at old ++ replicate (at - length old) 0) ++ bytes) (drop (at + length bytes) old) ∙ (λ i. front_long i + length-drop (at + length bytes) old i)

-- and so is a cut
pub cut_taken : (old : List ℕ) (len : ℕ) → Cut len old (take len old)
cut_taken old len = record {
  front = take-take (min len (length old)) len old (omega arith) ∙ take_min len old;
  no_shorter = omega (arith, length-take len old);
  no_longer = omega (arith, length-take len old);
}

-- a step of one file goes to that file alone
pub here : (at : ℕ) (x y : List ℕ) → (if at == at then x else y) ≡ x
here at x y = cond-true (at == at) x y (eq-eqb at at refl)

pub there : (at other : ℕ) (x y : List ℕ) → other ≢ at → (if other == at then x else y) ≡ y
there at other x y ne = cond-false (other == at) x y (ne_eqb other at ne)

-- the disk as it reads is one of its images
pub left_reads : (events : List Event) → Left events (record { files = read events; said = spoken events })
left_reads [] = (refl, refl)
left_reads (Write to at bytes ∷ past) = (
  record { files = read past; said = spoken past },
  left_reads past,
  record {
    changed = rw here (torn_written (read past to) bytes at);
    others = λ other ne. there to other _ _ ne;
    said = refl;
  },
)
left_reads (Shorten to len ∷ past) = (
  record { files = read past; said = spoken past },
  left_reads past,
  record {
    changed = rw here (cut_taken (read past to) len);
    others = λ other ne. there to other _ _ ne;
    said = refl;
  },
)
left_reads (Sync to ∷ past) = (left_reads past, refl)
left_reads (Put to bytes ∷ past) = (
  record { files = read past; said = spoken past },
  left_reads past,
  record {
    changed = here to bytes (read past to);
    others = λ other ne. there to other _ _ ne;
    said = refl;
  },
)
left_reads (Say bytes ∷ past) = (record { files = read past; said = spoken past }, left_reads past, refl, refl)

-- what a host in memory tells of an image is what its events left
pub told_since : (t : ℕ) (events : List Event) (image : Image) → Since t events image ⊎ (image ≡ shown_image events) → Since t events image
told_since t events image left = ⊎_elim (λ since. since) (λ is. subst (Since t events) (sym is) (since_now t events (shown_image events) (left_reads events))) left
