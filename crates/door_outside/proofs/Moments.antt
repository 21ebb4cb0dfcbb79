-- What a crash may leave from call to call: lemmas on disks, for the crates that make several calls.
use Rattle.std.proofs.Common.{◌≡◌, inl, inr, ⊎_elim, ℕ, List, arith, sym, ◌∙◌, subst}
use Rattle.door_outside.specs.Disk.{Disk, Image, as_read, Reached, Passes, Between, AllNow, InFile, Same, Unchanged}

-- nothing went by
pub still : (disk : Disk) (P : Image → Type 0) → Between disk disk P
still disk P = record { later = omega arith; each = λ t image le left. inl left }

pub weaker : {old new : Disk} {P Q : Image → Type 0} → Between old new P → ((image : Image) → P image → Q image) → Between old new Q
weaker run fits = record { later = run.later; each = λ t image le left. ⊎_elim (λ before. inl before) (λ in_it. inr (fits image in_it)) (run.each t image le left) }

pub joined : {old mid new : Disk} {P : Image → Type 0} → Between old mid P → Between mid new P → Between old new P
joined first second = record {
  later = omega (arith, first.later, second.later);
  each = λ t image le left. ⊎_elim (λ before. first.each t image le before) (λ in_it. inr in_it) (second.each t image (omega (arith, le, first.later)) left);
}

-- a call: each image in it comes by a step from one before, and has P
pub by_call : {during after : Image → Image → Type 0} {old new : Disk} {P : Image → Type 0} → Passes during after old new → ((image : Image) → Reached during old image → P image) → Between old new P
by_call call fits = record { later = call.later; each = λ t image le left. ⊎_elim (λ before. inl before) (λ in_it. inr (fits image in_it)) (call.since t image le left) }

pub by_nothing : {old new : Disk} {P : Image → Type 0} → Unchanged old new → Between old new P
by_nothing same = record { later = omega (arith, same.clock); each = λ t image le left. inl (same.leaves t image left) }

-- what a crash may leave after a call
pub now_by : {during after : Image → Image → Type 0} {old new : Disk} {P : Image → Type 0} → Passes during after old new → ((image : Image) → Reached after old image → P image) → AllNow new P
now_by call fits image left = fits image (call.now image left)

pub now_same : {during : Image → Image → Type 0} {old new : Disk} {P : Image → Type 0} → Passes during Same old new → AllNow old P → AllNow new P
now_same {P = P} call here image left = let from = call.now image left in subst P (sym from.2) (here from.0 from.1)

pub now_unchanged : {old new : Disk} {P : Image → Type 0} → Unchanged old new → AllNow old P → AllNow new P
now_unchanged {old} {new} {P} same here image left = here image (subst (λ (t : ℕ). old.leaves t image) same.clock (same.leaves new.clock image left))

-- as it reads
pub reads_have : (disk : Disk) (P : Image → Type 0) → AllNow disk P → P (as_read disk)
reads_have disk P here = here (as_read disk) disk.reads

-- two calls, one after the other
pub passed_twice : {one other both : Image → Image → Type 0} {old mid new : Disk} → Passes one one old mid → Passes other other mid new
    → ((before image : Image) → one before image → both before image)
    → ((before between image : Image) → one before between → other between image → both before image)
    → Passes both both old new
passed_twice {one} {other} {both} {old} {mid} {new} first second single double = record {
  later = omega (arith, first.later, second.later);
  now = λ image left. two_steps image (second.now image left);
  since = λ t image le left. ⊎_elim
      (λ mid_left. ⊎_elim (λ before. inl before) (λ from. inr (from.0, from.1, single from.0 image from.2)) (first.since t image le mid_left))
      (λ from. inr (two_steps image from)) (second.since t image (omega (arith, le, first.later)) left);
  keeps = λ t image le left. second.keeps t image (omega (arith, le, first.later)) (first.keeps t image le left);
}
  where
    two_steps : (image : Image) → Reached other mid image → Reached both old image
    two_steps image from = let earlier = first.now from.0 from.1 in (earlier.0, earlier.1, double earlier.0 from.0 image earlier.2 from.2)

pub passed_wider : {one other : Image → Image → Type 0} {old new : Disk} → Passes one one old new → ((before image : Image) → one before image → other before image) → Passes other other old new
passed_wider call wider = record {
  later = call.later;
  now = λ image left. let from = call.now image left in (from.0, from.1, wider from.0 image from.2);
  since = λ t image le left. ⊎_elim (λ before. inl before) (λ from. inr (from.0, from.1, wider from.0 image from.2)) (call.since t image le left);
  keeps = call.keeps;
}

-- a call, and then one that changes nothing of what a crash may leave, as a sync
pub passed_and_kept : {step : Image → Image → Type 0} {old mid new : Disk} → Passes step step old mid → Passes Same Same mid new → Passes step step old new
passed_and_kept {step} first second = passed_twice first second (λ before image one. one) (λ before between image one same. subst (step before) (sym same) one)

-- file calls say nothing
pub said_by : {file : ℕ} {step : List ℕ → List ℕ → Type 0} {old new : Disk} → Passes (InFile file step) (InFile file step) old new → new.said ≡ old.said
said_by {old = old} {new = new} call = let from = call.now (as_read new) new.reads in from.2.said ∙ old.stays from.0 from.1

-- a sync adds no image
pub by_sync : {old new : Disk} {P : Image → Type 0} → Passes Same Same old new → Between old new P
by_sync {old} {new} call = record {
  later = call.later;
  each = λ t image le left. ⊎_elim (λ before. inl before) (λ from. inl (subst (old.leaves t) (sym from.2) (old.counts t from.0 le from.1))) (call.since t image le left);
}
