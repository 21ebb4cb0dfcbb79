-- Subfields in order: what is read is what is there, and what is there is read.
use Rattle.std.proofs.Common.{◌≡◌, ◌↔◌, ℕ, zero, suc, ◌+◌, ◌^◌, ◌≤◌, ◌<◌, Bool, cond, eqb, List, [], ◌∷◌, ◌++◌, length, map, get_or, Option, Some, None, refl, sym, ap, ◌∙◌, subst, inl, inr, arith, append_assoc, append-nil}
use Rattle.std.specs.Prelude.{All}
use Rattle.std.specs.List.{find}
use Rattle.std.specs.Option.{option_map}
use Rattle.std.specs.List.Sorted.{IsStrictlyIncreasing}
use Rattle.std.proofs.lemmas.Bool.{cases_eq, eq-eqb, ne_eqb}
use Rattle.std.proofs.lemmas.List.{nil_from_length}
use Rattle.std.proofs.lemmas.List.Elements.{All-nil, All-cons, All-head, All-tail, All-append}
use Rattle.std.proofs.lemmas.List.Folds.{length-flat_map-take}
use Rattle.std.proofs.lemmas.Grind.{flat_map-append}
use Rattle.jam_records.specs.byte_lists.Byte.{IsByte}
use Rattle.jam_records.specs.Subfields.{subfield_text, subfields_text}
use Rattle.jam_records.specs.declared.subfield.Subfield.{Subfield}
use Rattle.jam_layout.specs.Fields.{field_at, values_at}
use Rattle.jam_layout.specs.InOrder.{HasDoorId, InOrder, FieldsFit, value_of, values_in}
use Rattle.jam_layout.specs.declared.fields.Values.{Values}
use Rattle.jam_layout.proofs.FieldLaws.{subfield, optional, field_takes, field_rest, field_fits, field_found, Above}
use Rattle.jam_records.proofs.SubfieldLemmas.{text_length}

-- ---- the reading, id by id
-- the values of so many ids from one on, and what is left
abbrev read : ℕ → ℕ → List ℕ → List (Option (List ℕ)) × List ℕ
read id zero bytes = ([], bytes)
read id (suc n) bytes =
    let first = field_at id bytes in
    let others = read (suc id) n first.1 in
    (first.0 ∷ others.0, others.1)

-- the subfields of values of the ids from one on
abbrev pub fields_from : ℕ → List (Option (List ℕ)) → List Subfield
fields_from id [] = []
fields_from id (v ∷ values) = optional id v ++ fields_from (suc id) values

abbrev pub list_of : Values → List (Option (List ℕ))
list_of v = v.origin ∷ v.destination ∷ v.from ∷ v.to ∷ v.msgid ∷ v.replyid ∷ v.subject ∷ []

abbrev pub fields_of : Values → List Subfield
fields_of v = fields_from 0 (list_of v)

-- ---- what is read is what is there
read_takes : (id n : ℕ) (bytes : List ℕ) → All IsByte bytes → bytes ≡ subfields_text (fields_from id (read id n bytes).0) ++ (read id n bytes).1
read_takes id zero bytes fits = refl
read_takes id (suc n) bytes fits =
    let first = field_at id bytes in
    let others = read (suc id) n first.1 in
    let a : List Subfield = optional id first.0 in
    let b : List Subfield = fields_from (suc id) others.0 in
    field_takes id bytes fits
    ∙ (ap (λ xs. subfields_text a ++ xs) (read_takes (suc id) n first.1 (field_rest id bytes fits))
    ∙ (sym (append_assoc (subfields_text a) (subfields_text b) others.1) ∙ ap (λ xs. xs ++ others.1) (sym (flat_map-append subfield_text a b))))

read_fits : (id n : ℕ) (bytes : List ℕ) → All IsByte bytes → FieldsFit (fields_from id (read id n bytes).0)
read_fits id zero bytes fits = All-nil (λ s. length s.value < 2 ^ 32)
read_fits id (suc n) bytes fits =
    let first = field_at id bytes in
    All-append (λ s. length s.value < 2 ^ 32) (optional id first.0) (fields_from (suc id) (read (suc id) n first.1).0) (field_fits id bytes fits) (read_fits (suc id) n first.1 (field_rest id bytes fits))

pub fields_taken : (bytes : List ℕ) → All IsByte bytes → (values_at bytes).left ≡ 0 → bytes ≡ subfields_text (fields_of (values_at bytes))
unfolding values_at
fields_taken bytes fits none =
    let text : List ℕ = subfields_text (fields_of (values_at bytes)) in
    let end : (read 0 7 bytes).1 ≡ [] = nil_from_length (read 0 7 bytes).1 none in
    read_takes 0 7 bytes fits ∙ (ap (λ xs. text ++ xs) end ∙ append-nil text)

taken_fit : (bytes : List ℕ) → All IsByte bytes → FieldsFit (fields_of (values_at bytes))
unfolding values_at
taken_fit bytes fits = read_fits 0 7 bytes fits

-- ---- ids that rise
-- the LoIDs rise, and the first is no less than this
abbrev RiseFrom : ℕ → List Subfield → Type 0
RiseFrom id [] = Unit {0}
RiseFrom id (s ∷ fields) = (id ≤ s.lo) × RiseFrom (suc s.lo) fields

abbrev ids_of : List Subfield → List ℕ
ids_of fields = map (λ s. s.lo) fields

increasing : (id : ℕ) (fields : List Subfield) → RiseFrom id fields → IsStrictlyIncreasing (ids_of fields)
increasing id [] rise k within = absurd (omega (arith, within))
increasing id (s ∷ []) rise k within = absurd (omega (arith, within))
increasing id (s ∷ t ∷ fields) rise zero within = omega (arith, rise.1.0)
increasing id (s ∷ t ∷ fields) rise (suc k) within =
    let next : suc (k + 1) ≡ suc k + 1 = omega arith in
    subst (λ (j : ℕ). get_or (ids_of (t ∷ fields)) k 0 < get_or (ids_of (s ∷ t ∷ fields)) j 0) next (increasing (suc s.lo) (t ∷ fields) rise.1 k (omega (arith, within)))

rise_tail : (n : ℕ) (ns : List ℕ) → IsStrictlyIncreasing (n ∷ ns) → IsStrictlyIncreasing ns
rise_tail n ns rise k within =
    let next : suc k + 1 ≡ suc (k + 1) = omega arith in
    subst (λ (j : ℕ). get_or ns k 0 < get_or (n ∷ ns) j 0) next (rise (suc k) (omega (arith, within)))

rise_from : (s : Subfield) (fields : List Subfield) → IsStrictlyIncreasing (ids_of (s ∷ fields)) → RiseFrom s.lo (s ∷ fields)
rise_from s [] rise = (omega arith, tt)
rise_from s (t ∷ fields) rise =
    let others = rise_from t fields (rise_tail s.lo (ids_of (t ∷ fields)) rise) in
    let above : s.lo < t.lo = rise 0 (omega arith) in
    (omega arith, (omega arith, others.1))

rise_all : (fields : List Subfield) → IsStrictlyIncreasing (ids_of fields) → RiseFrom 0 fields
rise_all [] rise = tt
rise_all (s ∷ fields) rise = (omega arith, (rise_from s fields rise).1)

fields_rise : (id : ℕ) (values : List (Option (List ℕ))) → (k : ℕ) → k ≤ id → RiseFrom k (fields_from id values)
fields_rise id [] k le = tt
fields_rise id (None ∷ values) k le = fields_rise (suc id) values k (omega arith)
fields_rise id (Some value ∷ values) k le = (le, fields_rise (suc id) values (suc id) (omega arith))

door_ids : (id : ℕ) (values : List (Option (List ℕ))) → id + length values ≤ 7 → All HasDoorId (fields_from id values)
door_ids id [] few = All-nil HasDoorId
door_ids id (None ∷ values) few = door_ids (suc id) values (omega arith)
door_ids id (Some value ∷ values) few =
    All-cons HasDoorId (subfield id value) (fields_from (suc id) values) (refl, omega arith) (door_ids (suc id) values (omega arith))

in_order : (v : Values) → InOrder (fields_of v)
in_order v = record { ids = door_ids 0 (list_of v) (omega arith); rise = increasing 0 (fields_of v) (fields_rise 0 (list_of v) 0 (omega arith)) }

-- ---- what is there is read
fits_behind : (id : ℕ) (v : Option (List ℕ)) (rest : List Subfield) → FieldsFit (optional id v ++ rest) → FieldsFit rest
fits_behind id None rest fits = fits
fits_behind id (Some value) rest fits = All-tail (λ s. length s.value < 2 ^ 32) (subfield id value) rest fits

above : (id k : ℕ) (values : List (Option (List ℕ))) → id < k → k + length values ≤ 2 ^ 16 → Above id (fields_from k values)
above id k [] lt few = tt
above id k (None ∷ values) lt few = above id (suc k) values (omega arith) (omega arith)
above id k (Some value ∷ values) lt few = (lt, omega arith)

read_again : (id : ℕ) (values : List (Option (List ℕ))) → id + length values ≤ 2 ^ 16 → FieldsFit (fields_from id values) → read id (length values) (subfields_text (fields_from id values)) ≡ (values, [])
read_again id [] few fits = refl
read_again id (v ∷ values) few fits =
    let rest : List Subfield = fields_from (suc id) values in
    let found = field_found id v rest (omega arith) fits (above id (suc id) values (omega arith) (omega arith)) in
    let others = read_again (suc id) values (omega arith) (fits_behind id v rest fits) in
    ap (λ (x : Option (List ℕ) × List ℕ). (x.0 ∷ (read (suc id) (length values) x.1).0, (read (suc id) (length values) x.1).1)) found
    ∙ ap (λ (x : List (Option (List ℕ)) × List ℕ). (v ∷ x.0, x.1)) others

pub fields_again : (v : Values) → FieldsFit (fields_of v) → values_at (subfields_text (fields_of v)) ≡ record v { left = 0 }
unfolding values_at
fields_again v fits =
    let e = read_again 0 (list_of v) (omega arith) fits in
    λ i. record {
      origin = get_or (e i).0 0 None;
      destination = get_or (e i).0 1 None;
      from = get_or (e i).0 2 None;
      to = get_or (e i).0 3 None;
      msgid = get_or (e i).0 4 None;
      replyid = get_or (e i).0 5 None;
      subject = get_or (e i).0 6 None;
      left = length (e i).1;
    }

-- ---- fields in order are those of their values
abbrev values_from : ℕ → ℕ → List Subfield → List (Option (List ℕ))
values_from id zero fields = []
values_from id (suc n) fields = value_of id fields ∷ values_from (suc id) n fields

abbrev chosen : ℕ → Subfield → List Subfield → Bool → Option (List ℕ)
chosen id s fields b = option_map (λ (t : Subfield). t.value) (cond b (Some s) (find (λ (t : Subfield). eqb t.lo id) fields))

value_here : (id : ℕ) (s : Subfield) (fields : List Subfield) → s.lo ≡ id → value_of id (s ∷ fields) ≡ Some s.value
value_here id s fields is = ap (chosen id s fields) (eq-eqb s.lo id is)

value_other : (id : ℕ) (s : Subfield) (fields : List Subfield) → (s.lo ≡ id → ⊥) → value_of id (s ∷ fields) ≡ value_of id fields
value_other id s fields other = ap (chosen id s fields) (ne_eqb s.lo id other)

none_below : (id k : ℕ) (fields : List Subfield) → id < k → RiseFrom k fields → value_of id fields ≡ None
none_below id k [] lt rise = refl
none_below id k (s ∷ fields) lt rise = value_other id s fields (λ e. omega (arith, rise.0)) ∙ none_below id (suc s.lo) fields (omega (arith, rise.0)) rise.1

values_past : (id n : ℕ) (s : Subfield) (fields : List Subfield) → s.lo < id → values_from id n (s ∷ fields) ≡ values_from id n fields
values_past id zero s fields lt = refl
values_past id (suc n) s fields lt =
    let first = value_other id s fields (λ e. omega arith) in
    let others = values_past (suc id) n s fields (omega arith) in
    λ i. first i ∷ others i

fields_back : (id n : ℕ) (fields : List Subfield) → RiseFrom id fields → All HasDoorId fields → 6 < id + n → fields_from id (values_from id n fields) ≡ fields
fields_back id zero [] rise ids end = refl
fields_back id zero (s ∷ fields) rise ids end = absurd (omega (arith, rise.0, (All-head HasDoorId s fields ids).1))
fields_back id (suc n) [] rise ids end = fields_back (suc id) n [] tt ids (omega arith)
fields_back id (suc n) (s ∷ fields) rise ids end =
    let behind : List (Option (List ℕ)) = values_from (suc id) n (s ∷ fields) in
    elim (cases_eq s.lo id) [
      | inl is ↦
          let here = value_here id s fields is in
          let past = values_past (suc id) n s fields (omega arith) in
          let others = fields_back (suc id) n fields (subst (λ (k : ℕ). RiseFrom (suc k) fields) is rise.1) (All-tail HasDoorId s fields ids) (omega arith) in
          let hi : s.hi ≡ 0 = (All-head HasDoorId s fields ids).0 in
          let one : subfield id s.value ≡ s = λ i. record { lo = sym is i; hi = sym hi i; value = s.value } in
          ap (λ (v : Option (List ℕ)). optional id v ++ fields_from (suc id) behind) here
          ∙ (ap (λ (vs : List (Option (List ℕ))). subfield id s.value ∷ fields_from (suc id) vs) past ∙ (λ i. one i ∷ others i))
      | inr other ↦
          let none = none_below id (suc id) (s ∷ fields) (omega arith) (omega (arith, rise.0), rise.1) in
          ap (λ (v : Option (List ℕ)). optional id v ++ fields_from (suc id) behind) none
          ∙ fields_back (suc id) n (s ∷ fields) (omega (arith, rise.0), rise.1) ids (omega arith)
    ]

same_fields : (fields : List Subfield) → InOrder fields → fields_of (values_in fields) ≡ fields
same_fields fields order = fields_back 0 7 fields (rise_all fields order.rise) order.ids (omega arith)

-- ---- the law
pub values : (fields : List Subfield) → InOrder fields → FieldsFit fields → values_at (subfields_text fields) ≡ values_in fields
values fields order fits =
    let same = same_fields fields order in
    ap (λ (xs : List Subfield). values_at (subfields_text xs)) (sym same) ∙ fields_again (values_in fields) (subst FieldsFit (sym same) fits)

pub fill : (bytes : List ℕ) → All IsByte bytes → ((values_at bytes).left ≡ 0) ↔ ((fields : List Subfield) × InOrder fields × FieldsFit fields × (bytes ≡ subfields_text fields))
fill bytes fits = (
  λ none. (fields_of (values_at bytes), in_order (values_at bytes), taken_fit bytes fits, fields_taken bytes fits none),
  λ there. ap (λ (v : Values). v.left) (ap values_at there.3 ∙ values there.0 there.1 there.2),
)

pub short_fit : (fields : List Subfield) → length (subfields_text fields) < 2 ^ 32 → FieldsFit fields
short_fit fields short i d within = omega (arith, short, length-flat_map-take subfield_text fields i d within, text_length (get_or fields i d))
