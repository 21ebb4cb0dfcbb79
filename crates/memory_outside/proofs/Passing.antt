-- What one event more makes of what a crash may leave.
use Rattle.std.proofs.Common.{◌≡◌, ◌⊎◌, inl, inr, ⊎_elim, ℕ, List, ◌∷◌, ◌++◌, length, refl, sym, ◌∙◌, ap, subst, arith}
use Rattle.std.proofs.Math.Seq.{take-length}
use Rattle.std.specs.Prelude.{Result, Ok, Err, IfOk, OnOk, OnErr, IsErr}
use Rattle.std.specs.declared.alloc.AllocError.{AllocError}
use Rattle.std.proofs.lemmas.List.{take_min, append-nil}
use Rattle.door_outside.specs.Disk.{Image, Passes, Reached, InFile, Torn, Cut, Says, Same}
use Rattle.memory_outside.specs.declared.event.Event.{Event}
use Rattle.memory_outside.specs.declared.event.Event.TheVariants.{Write, Shorten, Sync, Put, Say}
use Rattle.memory_outside.specs.Events.{read, Left, Within}
use Rattle.memory_outside.proofs.Left.{here, there, told_since, torn_written}
use Rattle.memory_outside.specs.MemoryHost.{Hosted, Recorded, disk_of, only_now, shown_image, since_now, told_disk}

-- a call that adds an event
passes : (during after : Image → Image → Type 0) (event : Event) (past : List Event) (w w' : ℕ)
    → ((image : Image) → Left (event ∷ past) image → (before : Image) × Left past before × after before image)
    → ((image : Image) → Left (event ∷ past) image ⊎ Within event past image → (before : Image) × Left past before × during before image)
    → Passes during after (told_disk past w) (told_disk (event ∷ past) w')
passes during after event past w w' ends goes = record {
  later = omega arith;
  now = λ image left. let from = ends image (only_now (event ∷ past) image (told_since (length (event ∷ past)) (event ∷ past) image left)) in (from.0, inl (since_now (length past) past from.0 from.1), from.2);
  since = λ t image le left. ⊎_elim (λ now. inr (back image (inl now))) (λ earlier. ⊎_elim (λ within. inr (back image (inr within))) (λ before. inl (inl before)) earlier.1) (told_since t (event ∷ past) image left);
  keeps = λ t image le left. inl (inr (le, inr (told_since t past image left)));
}
  where
    back : (image : Image) → Left (event ∷ past) image ⊎ Within event past image → Reached during (told_disk past w) image
    back image left = let from = goes image left in (from.0, inl (since_now (length past) past from.0 from.1), from.2)

-- a call that changes nothing
passes_none : (step : Image → Image → Type 0) (past : List Event) (w w' : ℕ) → ((image : Image) → step image image) → Passes step step (told_disk past w) (told_disk past w')
passes_none step past w w' still = record {
  later = omega arith;
  now = λ image left. (image, left, still image);
  since = λ t image le left. inl left;
  keeps = λ t image le left. left;
}

-- a call that adds its event where it succeeds
passes_result : {E : Type 0} (result : Result (Unit {0}) E) (step : Image → Image → Type 0) (event : Event) (past now : List Event) (w w' : ℕ)
    → Recorded event past now result → ((image : Image) → step image image)
    → Passes step step (told_disk past w) (told_disk (event ∷ past) w') → Passes step step (told_disk past w) (told_disk now w')
passes_result (Ok x) step event past now w w' is still call = subst (λ (es : List Event). Passes step step (told_disk past w) (told_disk es w')) (sym is) call
passes_result (Err e) step event past now w w' is still call = subst (λ (es : List Event). Passes step step (told_disk past w) (told_disk es w')) (sym is) (passes_none step past w w' still)

torn_still : (to at n : ℕ) (image : Image) → InFile to (Torn at n) image image
torn_still to at n image = record {
  changed = record { before = take_min at (image.files to); after = refl; no_shorter = omega arith; no_longer = omega arith };
  others = λ other ne. refl;
  said = refl;
}

cut_still : (to len : ℕ) (image : Image) → InFile to (Cut len) image image
cut_still to len image = record {
  changed = record { front = take_min len (image.files to); no_shorter = omega arith; no_longer = omega arith };
  others = λ other ne. refl;
  said = refl;
}

says_still : (bytes : List ℕ) (image : Image) → Says bytes image image
says_still bytes image = record { files = refl; said = (0, sym (append-nil image.said)) }

pub write_passes : {E : Type 0} (result : Result (Unit {0}) E) (to at : ℕ) (bytes : List ℕ) (past now : List Event) (w w' : ℕ) → Recorded (Write to at bytes) past now result
    → Passes (InFile to (Torn at (length bytes))) (InFile to (Torn at (length bytes))) (told_disk past w) (told_disk now w')
write_passes result to at bytes past now w w' is = passes_result result (InFile to (Torn at (length bytes))) (Write to at bytes) past now w w' is (torn_still to at (length bytes))
    (passes _ _ (Write to at bytes) past w w' (λ image left. left) (λ image left. ⊎_elim (λ now. now) (λ none. absurd none) left))

pub cut_passes : {E : Type 0} (result : Result (Unit {0}) E) (to len : ℕ) (past now : List Event) (w w' : ℕ) → Recorded (Shorten to len) past now result
    → Passes (InFile to (Cut len)) (InFile to (Cut len)) (told_disk past w) (told_disk now w')
cut_passes result to len past now w w' is = passes_result result (InFile to (Cut len)) (Shorten to len) past now w w' is (cut_still to len)
    (passes _ _ (Shorten to len) past w w' (λ image left. left) (λ image left. ⊎_elim (λ now. now) (λ none. absurd none) left))

pub sync_passes : {E : Type 0} (result : Result (Unit {0}) E) (to : ℕ) (past now : List Event) (w w' : ℕ) → Recorded (Sync to) past now result → Passes Same Same (told_disk past w) (told_disk now w')
sync_passes result to past now w w' is = passes_result result Same (Sync to) past now w w' is (λ image. refl)
    (passes Same Same (Sync to) past w w' (λ image left. (image, left.0, refl)) (λ image left. ⊎_elim (λ now. (image, now.0, refl)) (λ none. absurd none) left))

pub say_passes : {E : Type 0} (result : Result (Unit {0}) E) (bytes : List ℕ) (past now : List Event) (w w' : ℕ) → Recorded (Say bytes) past now result
    → Passes (Says bytes) (Says bytes) (told_disk past w) (told_disk now w')
say_passes result bytes past now w w' is = passes_result result (Says bytes) (Say bytes) past now w w' is (says_still bytes)
    (passes (Says bytes) (Says bytes) (Say bytes) past w w' ended (λ image left. ⊎_elim (ended image) (λ within. within) left))
  where
    ended : (image : Image) → Left (Say bytes ∷ past) image → (before : Image) × Left past before × Says bytes before image
    ended image left = (left.0, left.1, record { files = left.2; said = (length bytes, left.3 ∙ ap (λ (l : List ℕ). left.0.said ++ l) (sym (take-length bytes))) })

-- and of giving a file a content
put_passes : (to : ℕ) (bytes : List ℕ) (past : List Event) (w w' : ℕ) → Passes (InFile to (λ old new. new ≡ bytes)) (InFile to (λ old new. new ≡ bytes)) (told_disk past w) (told_disk (Put to bytes ∷ past) w')
put_passes to bytes past w w' = passes _ _ (Put to bytes) past w w' (λ image left. left) (λ image left. ⊎_elim (λ now. now) (λ none. absurd none) left)

pub put_crash : {E : Type 0} (result : Result (Unit {0}) E) (to : ℕ) (made bytes : List ℕ) (old new : Hosted) → made ≡ bytes → OnOk result (new ≡ record old { events = Put to made ∷ old.events })
    → OnOk result (Passes (InFile to (λ old new. new ≡ bytes)) (InFile to (λ old new. new ≡ bytes)) (disk_of old) (disk_of new))
put_crash (Ok x) to made bytes old new same is = subst (λ (h : Hosted). Passes (InFile to (λ old new. new ≡ bytes)) (InFile to (λ old new. new ≡ bytes)) (disk_of old) (disk_of h))
    (sym (is ∙ (λ i. record old { events = Put to (same i) ∷ old.events }))) (put_passes to bytes old.events old.wrote old.wrote)
put_crash (Err e) to made bytes old new same is = tt

-- and what the disk reads as then
pub write_torn : {E : Type 0} (result : Result (Unit {0}) E) (to at : ℕ) (bytes : List ℕ) (past now : List Event) → Recorded (Write to at bytes) past now result
    → InFile to (Torn at (length bytes)) (shown_image past) (shown_image now)
write_torn (Ok x) to at bytes past now is = subst (λ (es : List Event). InFile to (Torn at (length bytes)) (shown_image past) (shown_image es)) (sym is) (record {
  changed = rw here (torn_written (read past to) bytes at);
  others = λ other ne. there to other _ _ ne;
  said = refl;
})
write_torn (Err e) to at bytes past now is = subst (λ (es : List Event). InFile to (Torn at (length bytes)) (shown_image past) (shown_image es)) (sym is) (torn_still to at (length bytes) (shown_image past))

-- an event that was made for a call is the one that it records
pub recorded_made : {E : Type 0} (result : Result (Unit {0}) E) (made : Result Event AllocError) (event : Event) (past now : List Event)
    → IfOk made (λ e. e ≡ event) → (IsErr made → IsErr result) → OnOk result (IfOk made (λ e. now ≡ e ∷ past)) → OnErr result (now ≡ past) → Recorded event past now result
recorded_made (Ok x) (Ok e) event past now same fails ok err = ok ∙ ap (λ (it : Event). it ∷ past) same
recorded_made (Ok x) (Err e) event past now same fails ok err = absurd (cc (fails refl))
recorded_made (Err x) made event past now same fails ok err = err

-- the same, where the events after it go by another name
pub recorded_as : {E : Type 0} (result : Result (Unit {0}) E) (event : Event) (past now later : List Event) → later ≡ now → Recorded event past now result → Recorded event past later result
recorded_as result event past now later same is = subst (λ (es : List Event). Recorded event past es result) (sym same) is
