-- What `fresh` and `joined` make is a conference of its shape.
use Rattle.std.proofs.Common.{◌≡◌, ℕ, ◌+◌, ◌≤◌, ◌<◌, List, [], ◌∷◌, ◌++◌, length, sym, ap, ◌∙◌, subst, arith, length-append}
use Rattle.std.specs.Prelude.{All, replicate}
use Rattle.std.proofs.Math.ListN.{length-replicate}
use Rattle.std.proofs.lemmas.List.{get_or-replicate}
use Rattle.std.proofs.lemmas.List.Elements.{All-drop, All-append, All-cons, All-nil}
use Rattle.jam_records.specs.declared.message.Slot.{Slot}
use Rattle.jam_base.specs.Contents.{Contents, no_slots, with_reader}
use Rattle.jam_writing.specs.jam_layout.Bare.{filled_slots}
use Rattle.jam_writing.specs.jam_layout.Messages.{IsSlot}
use Rattle.jam_writing.specs.jam_layout.Valid.{Rise, IsShape, IsConference}
use Rattle.jam_writing.specs.jam_layout.declared.conference.ConferenceContents.{ConferenceContents}
use Rattle.jam_writing.specs.jam_layout.declared.reader.Reader.{Reader}
use Rattle.jam_writing.specs.jam_layout.declared.shape.Shape.{Shape}

-- ---- rising ids
rise_more : (readers : List Reader) (user : ℕ) (name : List ℕ) → Rise readers → All (λ r. r.id < user) readers → Rise (readers ++ record { id = user; name = name } ∷ [])
rise_more [] user name rise below = tt
rise_more (r ∷ []) user name rise below = (below 0 r (omega arith), tt)
rise_more (r ∷ s ∷ readers) user name rise below = (rise.0, rise_more (s ∷ readers) user name rise.1 (All-drop (λ q. q.id < user) 1 (r ∷ s ∷ readers) below))

-- ---- a new conference
zeros_within : (count n : ℕ) → All (λ p. p ≤ count) (replicate n 0)
zeros_within count n = λ k d within.
    let k_in : k < n = omega (arith, within, length-replicate {A = ℕ} n 0) in
    omega (arith, get_or-replicate n k 0 d k_in)

fresh_is : (shape : Shape) → IsConference shape (no_slots shape)
fresh_is shape = record {
  counter = omega arith;
  few = omega arith;
  slots = All-nil (IsSlot shape.kind);
  pointers = record { all = length-replicate {A = ℕ} (length shape.readers) 0; within = zeros_within 0 (length shape.readers) };
}

-- no slots, whatever lengths there are of bodies
pub fresh_base : (shape : Shape) (made : Contents) (slots : List Slot) (lengths pointers : List ℕ) → slots ≡ [] → pointers ≡ (no_slots shape).pointers
    → made ≡ record { shape = shape; conference = record { counter = 0; slots = filled_slots lengths slots; pointers = pointers } } → made ≡ record { shape = shape; conference = no_slots shape }
fresh_base shape made slots lengths pointers none zeros is = is ∙ (λ i. record { shape = shape; conference = record { counter = 0; slots = filled_slots lengths (none i); pointers = zeros i } })

-- ---- a further reader
one_zero : (count : ℕ) → All (λ p. p ≤ count) (0 ∷ [])
one_zero count = All-cons (λ p. p ≤ count) 0 [] (omega arith) (All-nil (λ p. p ≤ count))

joined_shape : (shape : Shape) (user : ℕ) (name : List ℕ) → IsShape shape → All (λ r. r.id < user) shape.readers → IsShape (record shape { readers = shape.readers ++ record { id = user; name = name } ∷ [] })
joined_shape shape user name is below = record { place = is.place; rise = rise_more shape.readers user name is.rise below }

-- the base with the further reader, as it is made
module _ (base : Contents) (user : ℕ) (name : List ℕ) where
  joined_is : IsConference base.shape base.conference → IsConference (with_reader user name base).shape (with_reader user name base).conference
  joined_is ok = record {
    counter = ok.counter;
    few = ok.few;
    slots = ok.slots;
    pointers = record {
      all = length-append base.conference.pointers (0 ∷ []) ∙ (ap (λ n. n + 1) ok.pointers.all ∙ sym (length-append base.shape.readers (record { id = user; name = name } ∷ [])));
      within = All-append (λ p. p ≤ length base.conference.slots) base.conference.pointers (0 ∷ []) ok.pointers.within (one_zero (length base.conference.slots));
    };
  }

  pub joined_made : (shape : Shape) (conference : ConferenceContents) → shape ≡ (with_reader user name base).shape → conference ≡ (with_reader user name base).conference
      → All (λ r. r.id < user) base.shape.readers → IsShape base.shape × IsConference base.shape base.conference → IsShape shape × IsConference shape conference
  joined_made shape conference shape_is conference_is below is =
      let made : IsShape (with_reader user name base).shape × IsConference (with_reader user name base).shape (with_reader user name base).conference = (joined_shape base.shape user name is.0 below, joined_is is.1) in
      subst (λ (s : Shape). IsShape s × IsConference s conference) (sym shape_is)
      (subst (λ (c : ConferenceContents). IsShape (with_reader user name base).shape × IsConference (with_reader user name base).shape c) (sym conference_is) made)

pub shape_more : (s t : Shape) (readers : List Reader) (user : ℕ) (name : List ℕ) → s ≡ t → readers ≡ t.readers ++ record { id = user; name = name } ∷ []
    → record { place = s.place; created = s.created; kind = s.kind; readers = readers } ≡ record t { readers = t.readers ++ record { id = user; name = name } ∷ [] }
shape_more s t readers user name same is = λ i. record { place = (same i).place; created = (same i).created; kind = (same i).kind; readers = is i }
