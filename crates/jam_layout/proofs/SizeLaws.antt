-- The length of a subfield, of a header, and of what a message takes.
use Rattle.std.proofs.Common.{◌≡◌, ℕ, ◌+◌, ◌<◌, List, [], ◌∷◌, ◌++◌, length, refl, ap, arith, length-append}
use Rattle.jam_records.specs.Subfields.{subfield_text, subfields_text}
use Rattle.jam_records.specs.declared.message.Message.{Message}
use Rattle.jam_records.specs.declared.message.Slot.TheVariants.{Held}
use Rattle.jam_layout.specs.Fields.{value_subfields, subfields_of}
use Rattle.jam_layout.specs.Headers.{header_size}
use Rattle.jam_layout.specs.Sizes.{slot_size}
use Rattle.jam_records.proofs.SubfieldLemmas.{text_length}
use Rattle.jam_layout.proofs.FieldLaws.{subfield}
use Rattle.jam_layout.proofs.ValueLaws.{texts}

pub field_length : (id : ℕ) (value : List ℕ) → 0 < length value → length (subfields_text (value_subfields id value)) ≡ 8 + length value
field_length id [] some = absurd (omega arith)
field_length id (b ∷ value) some = omega (arith, length-append (subfield_text (subfield id (b ∷ value))) [], text_length (subfield id (b ∷ value)))

-- the length of all is the sum of each
pub whole_length : (m : Message) → length (subfields_text (subfields_of m)) ≡ length (subfields_text (value_subfields 0 m.origin)) + (length (subfields_text (value_subfields 1 m.destination)) + (length (subfields_text (value_subfields 2 m.from)) + (length (subfields_text (value_subfields 3 m.to)) + (length (subfields_text (value_subfields 4 m.msgid)) + (length (subfields_text (value_subfields 5 m.replyid)) + length (subfields_text (value_subfields 6 m.subject)))))))
unfolding subfields_of
whole_length m =
    let a : List ℕ = subfields_text (value_subfields 0 m.origin) in
    let b : List ℕ = subfields_text (value_subfields 1 m.destination) in
    let c : List ℕ = subfields_text (value_subfields 2 m.from) in
    let d : List ℕ = subfields_text (value_subfields 3 m.to) in
    let e : List ℕ = subfields_text (value_subfields 4 m.msgid) in
    let f : List ℕ = subfields_text (value_subfields 5 m.replyid) in
    let g : List ℕ = subfields_text (value_subfields 6 m.subject) in
    let whole : length (subfields_text (subfields_of m)) ≡ length (a ++ (b ++ (c ++ (d ++ (e ++ (f ++ g)))))) = ap length (texts (value_subfields 0 m.origin) (value_subfields 1 m.destination) (value_subfields 2 m.from) (value_subfields 3 m.to) (value_subfields 4 m.msgid) (value_subfields 5 m.replyid) (value_subfields 6 m.subject)) in
    omega (arith, whole, length-append a (b ++ (c ++ (d ++ (e ++ (f ++ g))))), length-append b (c ++ (d ++ (e ++ (f ++ g)))), length-append c (d ++ (e ++ (f ++ g))), length-append d (e ++ (f ++ g)), length-append e (f ++ g), length-append f g)

-- ---- a message
-- the length of the subfield of a value
abbrev pub size_of : ℕ → List ℕ → ℕ
size_of id value = length (subfields_text (value_subfields id value))

same_length : (id : ℕ) (xs ys : List ℕ) → length xs ≡ length ys → size_of id xs ≡ size_of id ys
same_length id [] [] e = refl
same_length id [] (y ∷ ys) e = absurd (omega arith)
same_length id (x ∷ xs) [] e = absurd (omega arith)
same_length id (x ∷ xs) (y ∷ ys) e = omega (arith, field_length id (x ∷ xs) (omega arith), field_length id (y ∷ ys) (omega arith), e)

-- the header of a message with a msgid
pub header_with : (m : Message) (msgid : List ℕ) → header_size (record m { msgid = msgid })
    ≡ 76 + (size_of 0 m.origin + (size_of 1 m.destination + (size_of 2 m.from + (size_of 3 m.to + (size_of 4 msgid + (size_of 5 m.replyid + size_of 6 m.subject))))))
unfolding header_size
header_with m msgid = ap (λ n. 76 + n) (whole_length (record m { msgid = msgid }))

-- of the msgid of a message its length alone counts
pub size_by_length : (m : Message) (a b : List ℕ) → length a ≡ length b → slot_size (Held (record m { msgid = a })) ≡ slot_size (Held (record m { msgid = b }))
size_by_length m a b same = omega (arith, header_with m a, header_with m b, same_length 4 a b same)
