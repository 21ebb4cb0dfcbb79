-- Numbers of four bytes written over those of a header make the header with these numbers.
use Rattle.std.proofs.Common.{◌≡◌, ℕ, zero, suc, ◌+◌, ◌-◌, ◌≤◌, ◌<◌, ◌==◌, List, [], ◌∷◌, ◌++◌, length, take, drop, Some, refl, sym, ap, ◌∙◌, arith, length-append, length-take}
use Rattle.std.specs.Prelude.{sum_by}
use Rattle.std.specs.List.{slice_get}
use Rattle.std.proofs.lemmas.Bool.{cond-true, cond-false, eq-eqb, ne_eqb}
use Rattle.std.proofs.lemmas.Option.{slice_get_within}
use Rattle.intent_journal.specs.door_outside.Disk.{written}
use Rattle.jam_records.specs.record_numbers.Numbers.{u32_text, u32s_text}
use Rattle.jam_records.specs.BaseHeaders.{base_text}
use Rattle.jam_records.specs.MessageHeaders.{header_text}
use Rattle.jam_records.specs.Subfields.{subfields_text}
use Rattle.jam_records.specs.declared.base_header.BaseHeader.{BaseHeader}
use Rattle.jam_records.specs.declared.message.Kind.{Kind}
use Rattle.jam_records.specs.declared.message.Message.{Message}
use Rattle.jam_records.specs.declared.message.Slot.{Slot}
use Rattle.jam_records.specs.declared.message.Slot.TheVariants.{Held}
use Rattle.jam_records.specs.declared.message_header.MessageHeader.{MessageHeader}
use Rattle.jam_threads.specs.LinkChanges.{link_with, link_after}
use Rattle.jam_threads.specs.declared.link.Link.{Link}
use Rattle.jam_threads.specs.declared.link.LinkField.{LinkField}
use Rattle.jam_threads.specs.declared.link.LinkField.TheVariants.{First, Next}
use Rattle.jam_writing.specs.jam_layout.Fields.{subfields_of}
use Rattle.jam_writing.specs.jam_layout.Headers.{entry_text, headers_text, message_header}
use Rattle.jam_writing.specs.jam_layout.Conference.{live_count}
use Rattle.jam_writing.specs.jam_layout.Layout.{entries_of, base_header}
use Rattle.jam_writing.specs.jam_layout.declared.conference.ConferenceContents.{ConferenceContents}
use Rattle.jam_writing.specs.jam_layout.declared.shape.Shape.{Shape}
use Rattle.jam_writing.proofs.jam_layout.BaseLaws.{base_length}
use Rattle.jam_writing.specs.jam_layout.declared.entry.HeaderEntry.{HeaderEntry}
use Rattle.jam_writing.specs.Pieces.{entry_with, header_piece, body_size}
use Rattle.jam_writing.proofs.PieceLaws.{headers_more, headers_length}
use Rattle.jam_writing.proofs.SlotShapes.{headers-append}
use Rattle.jam_base.specs.Places.{header_place, field_place, with_number}
use Rattle.intent_journal.proofs.Writes.{written_before, written_in}

-- ---- the header of a base
pub active_written : (h : BaseHeader) (n : ℕ) → written (base_text h) 12 (u32_text n) ≡ base_text (record h { active = n })
unfolding base_text
active_written h n = refl

pub counts_written : (h : BaseHeader) (counter active : ℕ) → written (base_text h) 8 (u32s_text (counter ∷ active ∷ [])) ≡ base_text (record h { mod_counter = counter; active = active })
unfolding base_text
counts_written h counter active = refl

-- before the headers of messages, whatever they are
pub counts_in : (shape : Shape) (old new : ConferenceContents) (rest : List ℕ) → written (base_text (base_header shape old) ++ rest) 8 (u32s_text (new.counter ∷ live_count new.slots ∷ [])) ≡ base_text (base_header shape new) ++ rest
counts_in shape old new rest =
    let h : BaseHeader = base_header shape old in
    let long = base_length h in
    written_before (base_text h) rest (u32s_text (new.counter ∷ live_count new.slots ∷ [])) 8 (omega (arith, long))
    ∙ ap (λ (xs : List ℕ). xs ++ rest) (counts_written h new.counter (live_count new.slots))

-- ---- the header of a message
pub text_length : (h : MessageHeader) → length (header_text h) ≡ 76
unfolding header_text
text_length h = refl

first_written : (h : MessageHeader) (n : ℕ) → written (header_text h) 28 (u32_text n) ≡ header_text (record h { reply1st = n })
unfolding header_text
first_written h n = refl

next_written : (h : MessageHeader) (n : ℕ) → written (header_text h) 32 (u32_text n) ≡ header_text (record h { reply_next = n })
unfolding header_text
next_written h n = refl

-- with its subfields
link_written : (kind : Kind) (offset number : ℕ) (link : Link) (m : Message) (field : LinkField) (value : ℕ)
    → with_number (field_place field) value (entry_text kind offset (entry_with number link m)) ≡ entry_text kind offset (entry_with number (link_with field value link) m)
unfolding message_header
link_written kind offset number link m First value =
    let h : MessageHeader = message_header kind offset (entry_with number link m) in
    let fields : List ℕ = subfields_text (subfields_of m) in
    let length_is = text_length h in
    written_before (header_text h) fields (u32_text value) 28 (omega (arith, length_is)) ∙ ap (λ (xs : List ℕ). xs ++ fields) (first_written h value)
link_written kind offset number link m Next value =
    let h : MessageHeader = message_header kind offset (entry_with number link m) in
    let fields : List ℕ = subfields_text (subfields_of m) in
    let length_is = text_length h in
    written_before (header_text h) fields (u32_text value) 32 (omega (arith, length_is)) ∙ ap (λ (xs : List ℕ). xs ++ fields) (next_written h value)

pub entry_long : (kind : Kind) (offset : ℕ) (e : HeaderEntry) → 76 ≤ length (entry_text kind offset e)
entry_long kind offset e = omega (arith, length-append (header_text (message_header kind offset e)) (subfields_text (subfields_of e.message)), text_length (message_header kind offset e))

-- ---- headers behind one another
abbrev headers : (ℕ → Link) → Kind → ℕ → ℕ → List Slot → List ℕ
headers links kind offset n slots = headers_text kind offset (entries_of links n slots)

pub headers_same : (links others : ℕ → Link) (kind : Kind) (offset n : ℕ) (slots : List Slot) → ((k : ℕ) → n ≤ k → k < n + length slots → others k ≡ links k) → headers others kind offset n slots ≡ headers links kind offset n slots
headers_same links others kind offset n [] same = refl
headers_same links others kind offset n (s ∷ slots) same =
    headers_more others kind offset n s slots
    ∙ ((λ i. header_piece kind offset n (same n (omega arith) (omega arith) i) s ++ headers_same links others kind (offset + body_size s) (n + 1) slots (λ k above below. same k (omega (arith, above)) (omega (arith, below))) i)
    ∙ sym (headers_more links kind offset n s slots))

-- a list parts at a place
pub field_within : (field : LinkField) (n : ℕ) → 76 ≤ n → field_place field + 4 ≤ n
field_within First n long = omega (arith, long)
field_within Next n long = omega (arith, long)

pub parted : {A : Type 0} (xs : List A) (place : ℕ) (x : A) → slice_get xs place ≡ Some x → xs ≡ take place xs ++ x ∷ drop (suc place) xs
parted [] place x is = absurd (cc)
parted (y ∷ ys) zero x is = let same : y ≡ x = cc in ap (λ z. z ∷ ys) same
parted (y ∷ ys) (suc place) x is = ap (λ zs. y ∷ zs) (parted ys place x is)

-- the message of a number among the others
module _ (kind : Kind) (slots : List Slot) (number : ℕ) (m : Message) (some : 0 < number) (held : slice_get slots (number - 1) ≡ Some (Held m)) where
  front : List Slot
  front = take (number - 1) slots

  rest : List Slot
  rest = drop (suc (number - 1)) slots

  pub within : number ≤ length slots
  within = omega (arith, some, slice_get_within slots (number - 1) (Held m) held)

  front_long : 1 + length front ≡ number
  unfolding front
  front_long = omega (arith, some, within, length-take (number - 1) slots)

  -- where its text begins
  offset : ℕ
  offset = 0 + sum_by body_size front

  whole_long : length slots ≡ length front + suc (length rest)
  unfolding front rest
  whole_long = ap length (parted slots (number - 1) (Held m) held) ∙ length-append front (Held m ∷ rest)

  headers_parted : (links : ℕ → Link) → headers links kind 0 1 slots ≡ headers links kind 0 1 front ++ (entry_text kind offset (entry_with number (links number) m) ++ headers links kind (offset + length m.body) (number + 1) rest)
  unfolding front rest offset
  headers_parted links =
      ap (headers links kind 0 1) (parted slots (number - 1) (Held m) held)
      ∙ (headers-append links kind 0 1 front (Held m ∷ rest)
      ∙ ((λ i. headers links kind 0 1 front ++ headers links kind offset (front_long i) (Held m ∷ rest))
      ∙ ap (λ (xs : List ℕ). headers links kind 0 1 front ++ xs) (headers_more links kind offset number (Held m) rest)))

  -- where its header begins
  place_is : (links : ℕ → Link) (base : List ℕ) → length base ≡ 1024 → header_place slots number ≡ length base + length (headers links kind 0 1 front)
  unfolding front
  place_is links base long = omega (arith, long, headers_length links kind 0 1 front)

  -- with another link in its header
  module _ (links others : ℕ → Link) (field : LinkField) (value : ℕ) (each : (k : ℕ) → 0 < k → k ≤ length slots → others k ≡ link_after (Some (record { number = number; field = field; value = value })) k (links k)) where
    others_same : (k : ℕ) → 0 < k → k ≤ length slots → (k ≡ number → ⊥) → others k ≡ links k
    others_same k above below other = each k above below ∙ cond-false (k == number) _ _ (ne_eqb k number other)

    this_one : others number ≡ link_with field value (links number)
    this_one = each number some within ∙ cond-true (number == number) _ _ (eq-eqb number number refl)

    front_same : headers others kind 0 1 front ≡ headers links kind 0 1 front
    front_same = headers_same links others kind 0 1 front (λ k above below. others_same k (omega (arith, above)) (omega (arith, below, front_long, within)) (λ e. omega (arith, e, below, front_long)))

    rest_same : headers others kind (offset + length m.body) (number + 1) rest ≡ headers links kind (offset + length m.body) (number + 1) rest
    rest_same = headers_same links others kind (offset + length m.body) (number + 1) rest (λ k above below. others_same k (omega (arith, above)) (omega (arith, below, front_long, whole_long)) (λ e. omega (arith, e, above)))

    pub linked : (base : List ℕ) → length base ≡ 1024
        → with_number (header_place slots number + field_place field) value (base ++ headers links kind 0 1 slots) ≡ base ++ headers others kind 0 1 slots
    linked base long =
        let old : List ℕ = headers links kind 0 1 front in
        let piece : List ℕ = entry_text kind offset (entry_with number (links number) m) in
        let behind : List ℕ = headers links kind (offset + length m.body) (number + 1) rest in
        ap (λ (xs : List ℕ). with_number (header_place slots number + field_place field) value (base ++ xs)) (headers_parted links)
        ∙ (written_in base old piece behind (u32_text value) (header_place slots number) (field_place field) (place_is links base long) (field_within field (length piece) (entry_long kind offset (entry_with number (links number) m)))
        ∙ ((λ i. base ++ (sym front_same i ++ (link_written kind offset number (links number) m field value i ++ sym rest_same i)))
        ∙ ((λ i. base ++ (headers others kind 0 1 front ++ (entry_text kind offset (entry_with number (sym this_one i) m) ++ headers others kind (offset + length m.body) (number + 1) rest)))
        ∙ ap (λ (xs : List ℕ). base ++ xs) (sym (headers_parted others)))))

  pub header_within : (links : ℕ → Link) (base : List ℕ) → length base ≡ 1024 → header_place slots number + 76 ≤ length (base ++ headers links kind 0 1 slots)
  header_within links base long =
      let piece : List ℕ = entry_text kind offset (entry_with number (links number) m) in
      let behind : List ℕ = headers links kind (offset + length m.body) (number + 1) rest in
      let front_text : List ℕ = headers links kind 0 1 front in
      omega (
        arith,
        place_is links base long,
        entry_long kind offset (entry_with number (links number) m),
        length-append base (headers links kind 0 1 slots),
        ap length (headers_parted links),
        length-append front_text (piece ++ behind),
        length-append piece behind,
      )
