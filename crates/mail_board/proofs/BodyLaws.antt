-- Where a body stands in .JDT, and that what stands there makes the message whole.
use Rattle.std.proofs.Common.{◌≡◌, ℕ, zero, suc, ◌+◌, ◌-◌, ◌<◌, ◌≤◌, ◌^◌, true, ◌||◌, inl, inr, List, [], ◌∷◌, ◌++◌, length, map, take, drop, get_or, eqb, Option, Some, None, Result, Ok, Err, refl, sym, ap, ◌∙◌, subst, arith, length-append, append-nil}
use Rattle.std.specs.Prelude.{option_map, slice_get, sum_by}
use Rattle.std.specs.List.{flat_map}
use Rattle.std.proofs.lemmas.Bool.{cases_lt}
use Rattle.std.proofs.lemmas.Bool.Decides.{nat_tests}
use Rattle.std.proofs.lemmas.List.{drop_all, length-replicate}
use Rattle.std.proofs.lemmas.List.Sums.{sum_by-cons, sum_by_more, sum_by_more_le}
use Rattle.std.proofs.lemmas.Option.{slice_get_within, none-some, same_Some}
use Rattle.std.proofs.Math.Seq.{drop-append-add, take-append_seam}
use Rattle.post_changes.proofs.board_changes.OneBase.{all_at}
use Rattle.board_layout.proofs.OutlineLaws.{held_outline, outline_numbered}
use Rattle.board_layout.specs.Layout.{files_in}
use Rattle.board_layout.specs.Lookups.{held_in}
use Rattle.door_outside.specs.Disk.{read_into}
use Rattle.board_layout.proofs.jam_base.BareLookups.{bare_at, found_or_gone, is_gone, looked_up}
use Rattle.board_layout.proofs.jam_base.SlotChanges.{numbered_is}
use Rattle.board_layout.specs.jam_base.Bodies.{body_begin, body_span, span_at}
use Rattle.board_layout.specs.jam_base.Contents.{Contents}
use Rattle.board_layout.specs.jam_base.Outlined.{outlined}
use Rattle.board_layout.specs.jam_base.Slots.{numbered}
use Rattle.board_layout.specs.jam_base.declared.span.Span.{Span}
use Rattle.jam_layout.specs.Bodies.{body_piece, body_size, message_with}
use Rattle.jam_layout.specs.Messages.{IsBody, IsSlot}
use Rattle.jam_layout.specs.Outlines.{line_ends, message_outline, slot_bare, slot_outline}
use Rattle.jam_layout.specs.Valid.{IsConference}
use Rattle.jam_records.specs.declared.message.Message.{Message}
use Rattle.jam_records.specs.declared.message.Slot.{Slot}
use Rattle.jam_records.specs.declared.message.Slot.TheVariants.{Gone, Held}
use Rattle.jam_layout.specs.jam_threads.Links.{link_of}
use Rattle.board_layout.proofs.jam_writing.PieceLaws.{bodies_are}
use Rattle.mail_board.specs.Bodies.{one_held, span_text, HasBodies}

-- ---- sums over the slots before one
module _ (size : Slot → ℕ) (slots : List Slot) (before : ℕ) (within : before < length slots) where
  here : get_or slots before Gone ≡ numbered slots (before + 1)
  here = let place : before ≡ before + 1 - 1 = omega arith in ap (λ (k : ℕ). get_or slots k Gone) place ∙ sym (numbered_is slots (before + 1) (omega arith))

  pub sum_next : sum_by size (take (before + 1) slots) ≡ sum_by size (take before slots) + size (numbered slots (before + 1))
  sum_next = sum_by_more size slots before Gone within ∙ ap (λ (s : Slot). sum_by size (take before slots) + size s) here

  pub sum_within : sum_by size (take before slots) + size (numbered slots (before + 1)) ≤ sum_by size slots
  sum_within = let most = sum_by_more_le size slots before Gone within in omega (arith, most, ap size here)

pub held_few : (slots : List Slot) → sum_by one_held slots ≤ length slots
held_few [] = omega arith
held_few (Gone ∷ slots) = omega (arith, sum_by-cons one_held Gone slots, held_few slots)
held_few (Held m ∷ slots) = omega (arith, sum_by-cons one_held (Held m) slots, held_few slots)

-- ---- the test of a body, and a read that fills the buffer
pub tested : (body : List ℕ) → (eqb (length body) 0 || eqb (get_or body (length body - 1) 0) 0x0D) ≡ true → IsBody body
tested body e = elim (cases_lt 0 (length body)) [
  | inr none ↦ inl (omega arith)
  | inl some ↦ inr (grind (arith, nat_tests))
]

pub read_whole : (file : List ℕ) (at : ℕ) (buf : List ℕ) → at + length buf ≤ length file → read_into file at buf ≡ take (length buf) (drop at file)
read_whole file at buf within =
    ap (λ (xs : List ℕ). take (length buf) (drop at file) ++ xs) (drop_all (length file - at) buf (omega (arith, within))) ∙ append-nil (take (length buf) (drop at file))

-- an error is one of any type of answer
answer_error : {A E : Type 0} → E → Result A E → E
answer_error d (Ok x) = d
answer_error d (Err y) = y

abbrev pub failed : {E : Type 0} (B : Type 0) → E → Result B E
failed B x = Err x

pub same_error : {A E : Type 0} (B : Type 0) (x y : E) (r : Result A E) → r ≡ Err x → r ≡ Err y → failed B x ≡ failed B y
unfolding answer_error
same_error B x y r one other = ap (failed B) (ap (answer_error x) (sym one ∙ other))

-- ---- where the body of a slot stands
stands : (slots : List Slot) (place : ℕ) (m : Message) → slice_get slots place ≡ Some (Held m)
    → (sum_by body_size (take place slots) + length m.body ≤ length (flat_map body_piece slots)) × (take (length m.body) (drop (sum_by body_size (take place slots)) (flat_map body_piece slots)) ≡ m.body)
stands [] place m there = absurd (none-some (Held m) there)
stands (s ∷ slots) zero m there =
    let rest : List ℕ = flat_map body_piece slots in
    let body : body_piece s ≡ m.body = ap body_piece (same_Some s (Held m) there) in
    (omega (arith, length-append (body_piece s) rest, ap (length {A = ℕ}) body), ap (λ (xs : List ℕ). take (length m.body) (xs ++ rest)) body ∙ take-append_seam m.body rest)
stands (s ∷ slots) (suc place) m there =
    let rest : List ℕ = flat_map body_piece slots in
    let others = stands slots place m there in
    let begin : sum_by body_size (take (suc place) (s ∷ slots)) ≡ length (body_piece s) + sum_by body_size (take place slots) = sum_by-cons body_size s (take place slots) in (
      omega (arith, begin, length-append (body_piece s) rest, others.0),
      ap (λ (n : ℕ). take (length m.body) (drop n (body_piece s ++ rest))) begin ∙ (ap (take (length m.body)) (drop-append-add (body_piece s) rest (sum_by body_size (take place slots))) ∙ others.1),
    )

-- ---- slots without bodies
-- no slot of a number holds a message where none is found
pub none_numbered : (number : ℕ) (slots : List Slot) → None ≡ bare_at number slots → numbered slots number ≡ Gone
none_numbered number slots none = is_gone (numbered slots number) (sym (ap found_or_gone none ∙ looked_up number slots))

-- the message that a slot holds, of which this one is all but the body
pub record Whole (s : Slot) (m : Message) : Type 0 where
  pub message : Message
  pub there : Some message ≡ held_in s
  pub bare : m ≡ message_with message []

pub whole_of : (s : Slot) (m : Message) → Some m ≡ held_in (slot_bare s) → Whole s m
whole_of Gone m is = absurd (none-some m (sym is))
whole_of (Held x) m is = record { message = x; there = refl; bare = same_Some m (message_with x []) is }

pub none_whole : (s : Slot) → None ≡ held_in (slot_bare s) → None ≡ held_in s
none_whole Gone none = refl
none_whole (Held x) none = absurd (none-some (message_with x []) none)

-- ---- the slot of a number that stands for a message
one_slot : (s : Slot) (m : Message) → held_in s ≡ Some m → s ≡ Held m
one_slot Gone m e = absurd (none-some m e)
one_slot (Held x) m e = ap Held (same_Some x m e)

slot_at : (slots : List Slot) (place : ℕ) (m : Message) → held_in (get_or slots place Gone) ≡ Some m → slice_get slots place ≡ Some (Held m)
slot_at [] place m e = absurd (none-some m e)
slot_at (s ∷ slots) zero m e = ap Some (one_slot s m e)
slot_at (s ∷ slots) (suc place) m e = slot_at slots place m e

pub slot_there : (slots : List Slot) (number : ℕ) (m : Message) → held_in (numbered slots number) ≡ Some m → (0 < number) × (slice_get slots (number - 1) ≡ Some (Held m))
slot_there slots zero m e = absurd (none-some m e)
slot_there slots (suc place) m e = (omega arith, slot_at slots (suc place - 1) m (ap held_in (sym (numbered_is slots (suc place) (omega arith))) ∙ e))

-- the span of a message that is there, and which number it has
module _ (base : Contents) (ok : IsConference base.shape base.conference) (number : ℕ) (m : Message) (there : Some m ≡ held_in (numbered base.conference.slots number)) where
  slot_is : (0 < number) × (slice_get base.conference.slots (number - 1) ≡ Some (Held m))
  slot_is = slot_there base.conference.slots number m (sym there)

  pub number_above : 0 < number
  number_above = slot_is.0

  pub number_within : number ≤ length base.conference.slots
  number_within = omega (arith, slot_is.0, slice_get_within base.conference.slots (number - 1) (Held m) slot_is.1)

  pub span_there : None ≡ body_span number base.conference.slots → ⊥
  span_there none = none-some (record { at = body_begin number base.conference.slots; len = length m.body })
      (none ∙ ap (span_at (body_begin number base.conference.slots)) (one_slot (numbered base.conference.slots number) m (sym there)))

  module _ (span : Span) (is : Some span ≡ body_span number base.conference.slots) where
    span_is : span ≡ record { at = body_begin number base.conference.slots; len = length m.body }
    span_is = same_Some span (record { at = body_begin number base.conference.slots; len = length m.body })
        (is ∙ ap (span_at (body_begin number base.conference.slots)) (one_slot (numbered base.conference.slots number) m (sym there)))

    pub span_begins : span.at ≡ body_begin number base.conference.slots
    span_begins = ap (λ (s : Span). s.at) span_is

    pub span_length : span.len ≡ length m.body
    span_length = ap (λ (s : Span). s.len) span_is

    pub span_short : span.len < 2 ^ 31
    span_short =
        let message = all_at (IsSlot base.shape.kind) base.conference.slots (number - 1) (Held m) slot_is.1 ok.slots in
        omega (arith, span_length, message.body)

-- the outline shows where bodies begin
size_outline : (s : Slot) → body_size (slot_outline s) ≡ body_size s
size_outline Gone = refl
size_outline (Held m) = length-replicate (length m.body) 0x0D

begin_outline : (slots : List Slot) (place : ℕ) → sum_by body_size (take place (map slot_outline slots)) ≡ sum_by body_size (take place slots)
begin_outline [] zero = refl
begin_outline [] (suc place) = refl
begin_outline (s ∷ slots) zero = refl
begin_outline (s ∷ slots) (suc place) =
    sum_by-cons body_size (slot_outline s) (take place (map slot_outline slots)) ∙ ((λ i. size_outline s i + begin_outline slots place i) ∙ sym (sum_by-cons body_size s (take place slots)))

-- ---- a message of which all but the body is known
-- the message of the number in another base with the outline
pub record Other (other : Contents) (number : ℕ) (m : Message) : Type 0 where
  pub message : Message
  pub there : held_in (numbered other.conference.slots number) ≡ Some message
  pub outline : message_outline message ≡ message_outline m

module _ (base other : Contents) (alike : outlined other ≡ outlined base) (number : ℕ) where
  shown : (c : Contents) → held_in (numbered (outlined c).conference.slots number) ≡ option_map message_outline (held_in (numbered c.conference.slots number))
  shown c = ap held_in (outline_numbered c.conference.slots number) ∙ held_outline (numbered c.conference.slots number)

  pub held_alike : option_map message_outline (held_in (numbered other.conference.slots number)) ≡ option_map message_outline (held_in (numbered base.conference.slots number))
  held_alike = sym (shown other) ∙ (ap (λ (c : Contents). held_in (numbered c.conference.slots number)) alike ∙ shown base)

  none_other : (o : Option Message) → option_map message_outline o ≡ None → o ≡ None
  none_other None e = refl
  none_other (Some x) e = absurd (none-some (message_outline x) (sym e))

  pub none_alike : None ≡ held_in (numbered base.conference.slots number) → None ≡ held_in (numbered other.conference.slots number)
  none_alike none = sym (none_other (held_in (numbered other.conference.slots number)) (held_alike ∙ ap (option_map message_outline) (sym none)))

  module _ (m : Message) (there : Some m ≡ held_in (numbered base.conference.slots number)) where
    some_other : (o : Option Message) → held_in (numbered other.conference.slots number) ≡ o → option_map message_outline o ≡ Some (message_outline m) → Other other number m
    some_other None is e = absurd (none-some (message_outline m) e)
    some_other (Some x) is e = record { message = x; there = is; outline = same_Some (message_outline x) (message_outline m) e }

    pub other_message : Other other number m
    other_message = some_other (held_in (numbered other.conference.slots number)) refl (held_alike ∙ ap (option_map message_outline) (sym there))

    begin_same : body_begin number base.conference.slots ≡ body_begin number other.conference.slots
    begin_same =
        sym (begin_outline base.conference.slots (number - 1)) ∙ (ap (λ (c : Contents). sum_by body_size (take (number - 1) c.conference.slots)) (sym alike) ∙ begin_outline other.conference.slots (number - 1))

    length_same : length m.body ≡ length other_message.message.body
    length_same =
        let ends = ap (λ (x : Message). length x.body) other_message.outline in
        omega (arith, ends, length-replicate {A = ℕ} (length m.body) 0x0D, length-replicate {A = ℕ} (length other_message.message.body) 0x0D)

    module _ (jdt : List ℕ) (file : jdt ≡ (files_in other).jdt) where
      pieces : jdt ≡ flat_map body_piece other.conference.slots
      pieces = file ∙ bodies_are (link_of other.conference.slots) 1 other.conference.slots

      there_stands : (sum_by body_size (take (number - 1) other.conference.slots) + length other_message.message.body ≤ length (flat_map body_piece other.conference.slots))
          × (take (length other_message.message.body) (drop (sum_by body_size (take (number - 1) other.conference.slots)) (flat_map body_piece other.conference.slots)) ≡ other_message.message.body)
      there_stands = stands other.conference.slots (number - 1) other_message.message (slot_there other.conference.slots number other_message.message other_message.there).1

      pub body_within : body_begin number base.conference.slots + length m.body ≤ length jdt
      body_within = let within = there_stands.0 in omega (arith, within, begin_same, length_same, ap (length {A = ℕ}) pieces)

      pub body_text : span_text (body_begin number base.conference.slots) (length m.body) jdt ≡ other_message.message.body
      body_text = (λ i. take (length_same i) (drop (begin_same i) (pieces i))) ∙ there_stands.1

      pub whole : (copy : Message) (body : List ℕ) → copy ≡ message_with m body → body ≡ span_text (body_begin number base.conference.slots) (length m.body) jdt → Some copy ≡ held_in (numbered other.conference.slots number)
      whole copy body made text =
          let same : body ≡ other_message.message.body = text ∙ body_text in
          let one : message_with m body ≡ other_message.message = λ i. message_with (sym other_message.outline i) (same i) in
          ap Some (made ∙ one) ∙ sym other_message.there

-- the body that stands there is one
pub body_lines : (base other : Contents) (jdt : List ℕ) (has : HasBodies base other jdt) (number : ℕ) (m : Message) (there : Some m ≡ held_in (numbered base.conference.slots number)) → IsBody (span_text (body_begin number base.conference.slots) (length m.body) jdt)
body_lines base other jdt has number m there =
    let found = other_message base other has.alike number m there in
    let slot = (slot_there other.conference.slots number found.message found.there).1 in
    let message = all_at (IsSlot other.shape.kind) other.conference.slots (number - 1) (Held found.message) slot has.valid.slots in
    subst IsBody (sym (body_text base other has.alike number m there jdt has.file)) message.ended

-- a message with a body as long has the same outline
pub outline_stays : (m copy : Message) (body : List ℕ) → copy ≡ message_with m body → length body ≡ length m.body → message_outline copy ≡ message_outline m
outline_stays m copy body made long = ap message_outline made ∙ ap (λ (n : ℕ). message_with m (line_ends n)) long
