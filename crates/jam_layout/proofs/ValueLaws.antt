-- The values of a header: what is read is what is written, and what is written is read.
use Rattle.std.proofs.Common.{◌≡◌, ℕ, ◌^◌, ◌<◌, Bool, true, false, ◌&&◌, List, [], ◌∷◌, ◌++◌, length, Option, Some, None, unwrap_or, refl, sym, ap, ◌∙◌, subst, inl, inr, arith, append-nil}
use Rattle.std.proofs.lemmas.Bool.{and_from, and_parts}
use Rattle.std.specs.Prelude.{All, IsTrue}
use Rattle.std.proofs.lemmas.Grind.{flat_map-append}
use Rattle.jam_records.specs.byte_lists.Byte.{IsByte}
use Rattle.jam_records.specs.Subfields.{subfield_text, subfields_text}
use Rattle.jam_records.specs.declared.subfield.Subfield.{Subfield}
use Rattle.jam_records.specs.declared.message.Message.{Message}
use Rattle.std.specs.Prelude.{decimal}
use Rattle.std.specs.Str.{bytes_eq}
use Rattle.jam_records.specs.Addresses.{point_text}
use Rattle.jam_layout.specs.Address.{is_address, is_address_of, is_part}
use Rattle.jam_layout.specs.Fields.{value_subfields, subfields_of, values_at, is_text, there, may_miss, right_values}
use Rattle.jam_layout.specs.InOrder.{FieldsFit}
use Rattle.jam_layout.specs.Messages.{EmptyOr}
use Rattle.jam_layout.specs.declared.fields.Values.{Values}
use Rattle.jam_layout.proofs.FieldLaws.{optional}
use Rattle.jam_layout.proofs.InOrderLaws.{fields_of, fields_taken, fields_again, short_fit}

-- ---- a value isn't there and empty

abbrev NotBlank : Option (List ℕ) → Type 0
NotBlank None = Unit {0}
NotBlank (Some []) = ⊥
NotBlank (Some (b ∷ value)) = Unit {0}

there_not : (test : List ℕ → Bool) (v : Option (List ℕ)) → test [] ≡ false → there test v ≡ true → NotBlank v
there_not test None fails e = tt
there_not test (Some []) fails e = absurd cc
there_not test (Some (b ∷ value)) fails e = tt

miss_not : (test : List ℕ → Bool) (v : Option (List ℕ)) → test [] ≡ false → may_miss test v ≡ true → NotBlank v
miss_not test None fails e = tt
miss_not test (Some []) fails e = absurd cc
miss_not test (Some (b ∷ value)) fails e = tt

no_text : (most : ℕ) → is_text most [] ≡ false
unfolding is_text
no_text most = refl

nothing_is : (xs ys : List ℕ) → bytes_eq [] (xs ++ (58 ∷ ys)) ≡ false
nothing_is [] ys = refl
nothing_is (x ∷ xs) ys = refl

and_fails : (a b : Bool) → b ≡ false → (a && b) ≡ false
and_fails true b e = e
and_fails false b e = refl

no_parts : (zone net node point : ℕ) → is_address_of zone net node point [] ≡ false
no_parts zone net node point =
    and_fails ((is_part zone && is_part net) && (is_part node && is_part point)) _ (nothing_is (decimal zone) (decimal net ++ (47 ∷ (decimal node ++ point_text point))))

no_address : is_address [] ≡ false
unfolding is_address
no_address = no_parts 0 0 0 0

field_is : (id : ℕ) (text : List ℕ) (v : Option (List ℕ)) → NotBlank v → text ≡ unwrap_or v [] → value_subfields id text ≡ optional id v
field_is id text None n e = ap (value_subfields id) e
field_is id text (Some []) n e = absurd n
field_is id text (Some (b ∷ value)) n e = ap (value_subfields id) e

-- ---- seven parts
abbrev pub join : List ℕ → List ℕ → List ℕ → List ℕ → List ℕ → List ℕ → List ℕ → List ℕ
join a b c d e f g = a ++ (b ++ (c ++ (d ++ (e ++ (f ++ g)))))

pub texts : (a b c d e f g : List Subfield) → subfields_text (a ++ (b ++ (c ++ (d ++ (e ++ (f ++ g)))))) ≡ join (subfields_text a) (subfields_text b) (subfields_text c) (subfields_text d) (subfields_text e) (subfields_text f) (subfields_text g)
texts a b c d e f g =
    flat_map-append subfield_text a (b ++ (c ++ (d ++ (e ++ (f ++ g)))))
    ∙ ap (λ xs. subfields_text a ++ xs) (flat_map-append subfield_text b (c ++ (d ++ (e ++ (f ++ g))))
    ∙ ap (λ xs. subfields_text b ++ xs) (flat_map-append subfield_text c (d ++ (e ++ (f ++ g)))
    ∙ ap (λ xs. subfields_text c ++ xs) (flat_map-append subfield_text d (e ++ (f ++ g))
    ∙ ap (λ xs. subfields_text d ++ xs) (flat_map-append subfield_text e (f ++ g)
    ∙ ap (λ xs. subfields_text e ++ xs) (flat_map-append subfield_text f g)))))

-- the message has these values
pub record HasValues (m : Message) (v : Values) : Type 0 where
  pub origin : m.origin ≡ unwrap_or v.origin []
  pub destination : m.destination ≡ unwrap_or v.destination []
  pub from : m.from ≡ unwrap_or v.from []
  pub to : m.to ≡ unwrap_or v.to []
  pub msgid : m.msgid ≡ unwrap_or v.msgid []
  pub replyid : m.replyid ≡ unwrap_or v.replyid []
  pub subject : m.subject ≡ unwrap_or v.subject []

-- which values are right, one by one
pub record Right (v : Values) : Type 0 where
  pub origin : may_miss is_address v.origin ≡ true
  pub destination : may_miss is_address v.destination ≡ true
  pub from : there (is_text 36) v.from ≡ true
  pub to : there (is_text 36) v.to ≡ true
  pub msgid : there (is_text 80) v.msgid ≡ true
  pub replyid : may_miss (is_text 80) v.replyid ≡ true
  pub subject : may_miss (is_text 72) v.subject ≡ true

pub right_is : (v : Values) → right_values v ≡ true → Right v
unfolding right_values
right_is v e =
    let a = and_parts _ _ e in
    let b = and_parts _ _ a.0 in
    let addresses = and_parts _ _ b.0 in
    let names = and_parts _ _ b.1 in
    let c = and_parts _ _ a.1 in
    let ids = and_parts _ _ c.0 in
    record { origin = addresses.0; destination = addresses.1; from = names.0; to = names.1; msgid = ids.0; replyid = ids.1; subject = c.1 }

pub is_right : (v : Values) → Right v → right_values v ≡ true
unfolding right_values
is_right v r = and_from _ _ (and_from _ _ (and_from _ _ r.origin r.destination) (and_from _ _ r.from r.to)) (and_from _ _ (and_from _ _ r.msgid r.replyid) r.subject)

-- the subfields of the message are those of these values
record SameFields (m : Message) (v : Values) : Type 0 where
  origin : value_subfields 0 m.origin ≡ optional 0 v.origin
  destination : value_subfields 1 m.destination ≡ optional 1 v.destination
  from : value_subfields 2 m.from ≡ optional 2 v.from
  to : value_subfields 3 m.to ≡ optional 3 v.to
  msgid : value_subfields 4 m.msgid ≡ optional 4 v.msgid
  replyid : value_subfields 5 m.replyid ≡ optional 5 v.replyid
  subject : value_subfields 6 m.subject ≡ optional 6 v.subject

fields_are : (m : Message) (v : Values) → SameFields m v → subfields_of m ≡ fields_of v
unfolding subfields_of
fields_are m v same =
    let last = same.subject ∙ sym (append-nil (optional 6 v.subject)) in
    λ i. same.origin i ++ (same.destination i ++ (same.from i ++ (same.to i ++ (same.msgid i ++ (same.replyid i ++ last i)))))

pub values_take : (bytes : List ℕ) (m : Message) → All IsByte bytes → (values_at bytes).left ≡ 0 → right_values (values_at bytes) ≡ true → HasValues m (values_at bytes) → bytes ≡ subfields_text (subfields_of m)
values_take bytes m fits none right has =
    let v : Values = values_at bytes in
    let r = right_is v right in
    let same : SameFields m v = record {
      origin = field_is 0 m.origin v.origin (miss_not is_address v.origin no_address r.origin) has.origin;
      destination = field_is 1 m.destination v.destination (miss_not is_address v.destination no_address r.destination) has.destination;
      from = field_is 2 m.from v.from (there_not (is_text 36) v.from (no_text 36) r.from) has.from;
      to = field_is 3 m.to v.to (there_not (is_text 36) v.to (no_text 36) r.to) has.to;
      msgid = field_is 4 m.msgid v.msgid (there_not (is_text 80) v.msgid (no_text 80) r.msgid) has.msgid;
      replyid = field_is 5 m.replyid v.replyid (miss_not (is_text 80) v.replyid (no_text 80) r.replyid) has.replyid;
      subject = field_is 6 m.subject v.subject (miss_not (is_text 72) v.subject (no_text 72) r.subject) has.subject;
    } in
    fields_taken bytes fits none ∙ ap subfields_text (sym (fields_are m v same))

-- ---- the values of a message
abbrev maybe : List ℕ → Option (List ℕ)
maybe [] = None
maybe (b ∷ value) = Some (b ∷ value)

abbrev pub message_values : Message → Values
message_values m = record {
  origin = maybe m.origin;
  destination = maybe m.destination;
  from = maybe m.from;
  to = maybe m.to;
  msgid = maybe m.msgid;
  replyid = maybe m.replyid;
  subject = maybe m.subject;
  left = 0;
}

pub maybe_back : (value : List ℕ) → unwrap_or (maybe value) [] ≡ value
maybe_back [] = refl
maybe_back (b ∷ value) = refl

-- ---- right values and right messages
maybe_passes : (test : List ℕ → Bool) (value : List ℕ) → EmptyOr test value → may_miss test (maybe value) ≡ true
maybe_passes test [] e = refl
maybe_passes test (b ∷ value) e = elim e [ inl none ↦ absurd (omega (arith, none)) | inr is ↦ is ]

there_passes : (test : List ℕ → Bool) (value : List ℕ) → test [] ≡ false → IsTrue (test value) → there test (maybe value) ≡ true
there_passes test [] fails e = absurd cc
there_passes test (b ∷ value) fails e = e

passes_empty : (test : List ℕ → Bool) (v : Option (List ℕ)) → may_miss test v ≡ true → EmptyOr test (unwrap_or v [])
passes_empty test None e = inl refl
passes_empty test (Some value) e = inr e

passes_there : (test : List ℕ → Bool) (v : Option (List ℕ)) → there test v ≡ true → IsTrue (test (unwrap_or v []))
passes_there test None e = absurd cc
passes_there test (Some value) e = e

-- the values of a message are right
pub record RightTexts (m : Message) : Type 0 where
  pub origin : EmptyOr is_address m.origin
  pub destination : EmptyOr is_address m.destination
  pub from : IsTrue (is_text 36 m.from)
  pub to : IsTrue (is_text 36 m.to)
  pub msgid : IsTrue (is_text 80 m.msgid)
  pub replyid : EmptyOr (is_text 80) m.replyid
  pub subject : EmptyOr (is_text 72) m.subject

pub right_by_texts : (m : Message) → RightTexts m → right_values (message_values m) ≡ true
right_by_texts m ok = is_right (message_values m) (record {
  origin = maybe_passes is_address m.origin ok.origin;
  destination = maybe_passes is_address m.destination ok.destination;
  from = there_passes (is_text 36) m.from (no_text 36) ok.from;
  to = there_passes (is_text 36) m.to (no_text 36) ok.to;
  msgid = there_passes (is_text 80) m.msgid (no_text 80) ok.msgid;
  replyid = maybe_passes (is_text 80) m.replyid ok.replyid;
  subject = maybe_passes (is_text 72) m.subject ok.subject;
})

pub right_texts : (m : Message) (v : Values) → right_values v ≡ true → HasValues m v → RightTexts m
right_texts m v e has =
    let r = right_is v e in
    record {
      origin = subst (EmptyOr is_address) (sym has.origin) (passes_empty is_address v.origin r.origin);
      destination = subst (EmptyOr is_address) (sym has.destination) (passes_empty is_address v.destination r.destination);
      from = subst (λ (x : List ℕ). IsTrue (is_text 36 x)) (sym has.from) (passes_there (is_text 36) v.from r.from);
      to = subst (λ (x : List ℕ). IsTrue (is_text 36 x)) (sym has.to) (passes_there (is_text 36) v.to r.to);
      msgid = subst (λ (x : List ℕ). IsTrue (is_text 80 x)) (sym has.msgid) (passes_there (is_text 80) v.msgid r.msgid);
      replyid = subst (EmptyOr (is_text 80)) (sym has.replyid) (passes_empty (is_text 80) v.replyid r.replyid);
      subject = subst (EmptyOr (is_text 72)) (sym has.subject) (passes_empty (is_text 72) v.subject r.subject);
    }

-- ---- what is written is read
maybe_is : (id : ℕ) (value : List ℕ) → value_subfields id value ≡ optional id (maybe value)
maybe_is id [] = refl
maybe_is id (b ∷ value) = refl

pub values_again : (m : Message) → length (subfields_text (subfields_of m)) < 2 ^ 32 → values_at (subfields_text (subfields_of m)) ≡ message_values m
values_again m short =
    let v : Values = message_values m in
    let same : subfields_of m ≡ fields_of v = fields_are m v (record {
      origin = maybe_is 0 m.origin;
      destination = maybe_is 1 m.destination;
      from = maybe_is 2 m.from;
      to = maybe_is 3 m.to;
      msgid = maybe_is 4 m.msgid;
      replyid = maybe_is 5 m.replyid;
      subject = maybe_is 6 m.subject;
    }) in
    ap (λ (xs : List Subfield). values_at (subfields_text xs)) same ∙ fields_again v (subst FieldsFit same (short_fit (subfields_of m) short))
