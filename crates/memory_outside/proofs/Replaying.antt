-- An image that is made from events one by one.
use Rattle.std.proofs.Common.{◌≡◌, ◌≢◌, ℕ, ◌+◌, ◌<◌, List, [], ◌∷◌, length, take, get_or, refl, sym, ◌∙◌, ap, subst, inl, inr, arith}
use Rattle.std.specs.Prelude.{◌==◌, if◌then◌else◌, reverse, All}
use Rattle.std.proofs.lemmas.Bool.{cases_eq, eq-eqb, ne_eqb, cond-true, cond-false}
use Rattle.std.proofs.lemmas.List.{reverse-append, reverse-reverse, take_more}
use Rattle.std.proofs.lemmas.List.Elements.{All-push}
use Rattle.memory_outside.specs.Contents.{content}
use Rattle.door_outside.specs.Disk.{Image, InFile, Torn, Cut, written}
use Rattle.memory_outside.specs.Images.{TakesEvent}
use Rattle.memory_outside.specs.declared.event.Event.{Event}
use Rattle.memory_outside.specs.declared.event.Event.TheVariants.{Write, Shorten, Sync, Put, Say}
use Rattle.memory_outside.specs.Events.{file_after, read, synced, synced_after, spoken, Left, AreShort, IsShortEvent}
use Rattle.memory_outside.proofs.Left.{torn_written, cut_taken}

-- the files with other bytes in one of them
abbrev with_file : ℕ → List ℕ → (ℕ → List ℕ) → ℕ → List ℕ
with_file to bytes files file = if file == to then bytes else files file

at_file : (to : ℕ) (bytes : List ℕ) (files : ℕ → List ℕ) (file : ℕ) → file ≡ to → with_file to bytes files file ≡ bytes
at_file to bytes files file is = cond-true (file == to) _ _ (eq-eqb file to is)

elsewhere : (to : ℕ) (bytes : List ℕ) (files : ℕ → List ℕ) (file : ℕ) → file ≢ to → with_file to bytes files file ≡ files file
elsewhere to bytes files file ne = cond-false (file == to) _ _ (ne_eqb file to ne)

-- a step of one file goes on where another has other bytes, or that one
module _ (own : ℕ) (step : List ℕ → List ℕ → Type 0) (before image : Image) (is : InFile own step before image) (to : ℕ) (old new : List ℕ)
    (same : own ≡ to → step old new) (apart : own ≢ to → new ≡ old) where
  step_own : step (with_file to old before.files own) (with_file to new image.files own)
  step_own = elim (cases_eq own to) [
    | inl eq ↦ subst (λ (l : List ℕ). step l (with_file to new image.files own)) (sym (at_file to old before.files own eq)) (subst (step old) (sym (at_file to new image.files own eq)) (same eq))
    | inr ne ↦ subst (λ (l : List ℕ). step l (with_file to new image.files own)) (sym (elsewhere to old before.files own ne)) (subst (step (before.files own)) (sym (elsewhere to new image.files own ne)) is.changed)
  ]

  step_others : (other : ℕ) → other ≢ own → with_file to new image.files other ≡ with_file to old before.files other
  step_others other far = elim (cases_eq other to) [
    | inl eq ↦ at_file to new image.files other eq ∙ apart (λ it. far (eq ∙ sym it)) ∙ sym (at_file to old before.files other eq)
    | inr ne ↦ elsewhere to new image.files other ne ∙ is.others other far ∙ sym (elsewhere to old before.files other ne)
  ]

  step_with : InFile own step (record { files = with_file to old before.files; said = before.said }) (record { files = with_file to new image.files; said = image.said })
  step_with = record { changed = step_own; others = step_others; said = is.said }

always : (to : ℕ) (bytes : List ℕ) (files : ℕ → List ℕ) → files ≡ (λ file. bytes) → with_file to bytes files ≡ (λ file. bytes)
always to bytes files is = λ i file. elim (cases_eq file to) as (λ d. with_file to bytes files file ≡ bytes) [
  | inl eq ↦ at_file to bytes files file eq
  | inr ne ↦ elsewhere to bytes files file ne ∙ (λ j. is j file)
] i

-- a crash may leave any of its images with one file as it reads
pub left_with_read : (events : List Event) (image : Image) (to : ℕ) → Left events image → Left events (record { files = with_file to (read events to) image.files; said = image.said })
left_with_read [] image to left = (always to [] image.files left.0, left.1)
left_with_read (Write own at bytes ∷ past) image to left = (
  record { files = with_file to (read past to) left.0.files; said = left.0.said },
  left_with_read past left.0 to left.1,
  step_with own (Torn at (length bytes)) left.0 image left.2 to (read past to) (read (Write own at bytes ∷ past) to)
      (λ eq. subst (Torn at (length bytes) (read past to)) (sym (at_file own (written (read past to) at bytes) (read past) to (sym eq))) (torn_written (read past to) bytes at))
      (λ ne. elsewhere own (written (read past to) at bytes) (read past) to (λ it. ne (sym it))),
)
left_with_read (Shorten own len ∷ past) image to left = (
  record { files = with_file to (read past to) left.0.files; said = left.0.said },
  left_with_read past left.0 to left.1,
  step_with own (Cut len) left.0 image left.2 to (read past to) (read (Shorten own len ∷ past) to)
      (λ eq. subst (Cut len (read past to)) (sym (at_file own (take len (read past to)) (read past) to (sym eq))) (cut_taken (read past to) len))
      (λ ne. elsewhere own (take len (read past to)) (read past) to (λ it. ne (sym it))),
)
left_with_read (Sync own ∷ past) image to left = (
  left_with_read past image to left.0,
  elim (cases_eq own to) [
    | inl eq ↦ at_file to (read past to) image.files own eq ∙ ap (read past) (sym eq)
    | inr ne ↦ elsewhere to (read past to) image.files own ne ∙ left.1
  ],
)
left_with_read (Put own bytes ∷ past) image to left = (
  record { files = with_file to (read past to) left.0.files; said = left.0.said },
  left_with_read past left.0 to left.1,
  step_with own (λ old new. new ≡ bytes) left.0 image left.2 to (read past to) (read (Put own bytes ∷ past) to)
      (λ eq. at_file own bytes (read past) to (sym eq))
      (λ ne. elsewhere own bytes (read past) to (λ it. ne (sym it))),
)
left_with_read (Say bytes ∷ past) image to left = (
  record { files = with_file to (read past to) left.0.files; said = left.0.said },
  left_with_read past left.0 to left.1,
  (λ i. with_file to (read past to) (left.2 i)),
  left.3,
)

abbrev shown : (ℕ → List ℕ) → List Event → Image
shown files events = record { files = files; said = spoken events }

-- an event was taken in by an image
takes_left : (event : Event) (past : List Event) (old new : ℕ → List ℕ) → TakesEvent event (read past) old new → Left past (shown old past) → Left (event ∷ past) (shown new (event ∷ past))
takes_left (Write to at bytes) past old new takes left = (shown old past, left, record { changed = takes.changed; others = takes.others; said = refl })
takes_left (Shorten to len) past old new takes left = (shown old past, left, record { changed = takes.changed; others = takes.others; said = refl })
takes_left (Sync to) past old new takes left = (subst (λ (fs : ℕ → List ℕ). Left past (shown fs past)) (sym is) (left_with_read past (shown old past) to left), takes.changed)
  where
    is : new ≡ with_file to (read past to) old
    is = λ i file. elim (cases_eq file to) as (λ d. new file ≡ with_file to (read past to) old file) [
      | inl eq ↦ ap new eq ∙ takes.changed ∙ sym (at_file to (read past to) old file eq)
      | inr ne ↦ takes.others file ne ∙ sym (elsewhere to (read past to) old file ne)
    ] i
takes_left (Put to bytes) past old new takes left = (shown old past, left, record { changed = takes.changed; others = takes.others; said = refl })
takes_left (Say bytes) past old new takes left = (shown old past, left, (λ i file. takes file i), refl)

-- the same, where the files as they read are known one by one
pub took : (event : Event) (past now : List Event) (reads old new : List (List ℕ)) → now ≡ event ∷ past → ((file : ℕ) → content reads file ≡ read past file) → TakesEvent event (content reads) (content old) (content new)
    → Left past (shown (content old) past) → Left now (shown (content new) now)
took event past now reads old new more same takes left = subst (λ (es : List Event). Left es (shown (content new) es)) (sym more)
    (takes_left event past (content old) (content new) (subst (λ (fs : ℕ → List ℕ). TakesEvent event fs (content old) (content new)) (λ i file. same file i) takes) left)

-- the events so far, the newest first
pub one_more_event : (events : List Event) (i : ℕ) (d : Event) → i < length events → reverse (take (i + 1) events) ≡ get_or events i d ∷ reverse (take i events)
one_more_event events i d h = ap reverse (take_more events i d h) ∙ reverse-append (take i events) (get_or events i d ∷ [])

-- each of the events is short
short_reversed : (past : List Event) → AreShort past → All IsShortEvent (reverse past)
short_reversed [] short = λ k d h. absurd (omega arith)
short_reversed (event ∷ past) short = subst (All IsShortEvent) (sym (reverse-append (event ∷ []) past)) (All-push IsShortEvent (reverse past) event (short_reversed past short.1) short.0)

pub all_short : (events : List Event) → AreShort (reverse events) → All IsShortEvent events
all_short events short = subst (All IsShortEvent) (reverse-reverse events) (short_reversed (reverse events) short)

-- a file as of its last sync, likewise
pub synced_more : (event : Event) (past now : List Event) (reads : List (List ℕ)) (old new : List ℕ) (file : ℕ) → now ≡ event ∷ past → ((file : ℕ) → content reads file ≡ read past file)
    → old ≡ synced past file → new ≡ synced_after event (content reads) file old → new ≡ synced now file
synced_more event past now reads old new file more same was is =
    is ∙ (λ i. synced_after event (λ (f : ℕ). same f i) file (was i)) ∙ sym (ap (λ (es : List Event). synced es file) more)

-- and as it reads
pub reads_more : (event : Event) (past now : List Event) (old new : List ℕ) (file : ℕ) → now ≡ event ∷ past → old ≡ read past file → new ≡ file_after event file old → new ≡ read now file
reads_more event past now old new file more was is = is ∙ ap (file_after event file) was ∙ sym (ap (λ (es : List Event). read es file) more)
