-- What an outline shares with its conference: all files but .JDT, and the length of that.
use Rattle.std.proofs.Common.{◌≡◌, ℕ, zero, suc, ◌+◌, ◌-◌, cond, not, List, [], ◌∷◌, ◌++◌, length, map, get_or, refl, sym, ap, ◌∙◌, subst, arith, length-append, inl, inr}
use Rattle.std.specs.Prelude.{All}
use Rattle.std.specs.List.{fold}
use Rattle.std.proofs.lemmas.List.{length-map, length-replicate, get_or-replicate}
use Rattle.std.proofs.lemmas.List.Elements.{All-nil, All-cons, All-head, All-tail, All-replicate}
use Rattle.jam_records.specs.byte_lists.Byte.{IsByte}
use Rattle.jam_records.specs.BaseHeaders.{base_text}
use Rattle.jam_records.specs.IndexRecords.{index_text}
use Rattle.jam_records.specs.declared.base_header.BaseHeader.{BaseHeader}
use Rattle.jam_records.specs.declared.message.Kind.{Kind}
use Rattle.jam_records.specs.declared.message.Message.{Message}
use Rattle.jam_records.specs.declared.message.Slot.{Slot}
use Rattle.jam_records.specs.declared.message.Slot.TheVariants.{Gone, Held}
use Rattle.jam_threads.specs.Links.{link_of}
use Rattle.jam_threads.specs.declared.link.Link.{Link}
use Rattle.jam_layout.specs.Bodies.{body_size, bodies_text}
use Rattle.jam_layout.specs.Conference.{is_live, live_count}
use Rattle.jam_layout.specs.Fields.{subfields_of}
use Rattle.jam_layout.specs.Headers.{message_header, entry_text, headers_text, header_size}
use Rattle.jam_layout.specs.Index.{index_records, no_pair, pair_of}
use Rattle.jam_layout.specs.Layout.{entries_of, base_header, layout}
use Rattle.jam_layout.specs.Messages.{AreBytes, IsBody, IsMessage, IsSlot}
use Rattle.jam_layout.specs.Outlines.{line_ends, message_outline, slot_outline, outline, slot_with, slot_bare, SameButBodies}
use Rattle.jam_layout.specs.Valid.{IsConference, PointersFit}
use Rattle.jam_layout.specs.declared.conference.ConferenceContents.{ConferenceContents}
use Rattle.jam_layout.specs.declared.shape.Shape.{Shape}
use Rattle.jam_layout.proofs.IndexLaws.{made}
use Rattle.jam_layout.proofs.LinkLaws.{link_bare}

-- ---- bodies of line ends
length_ends : (n : ℕ) → length (line_ends n) ≡ n
length_ends n = length-replicate n 0x0D

ends_end : (n : ℕ) → IsBody (line_ends n)
ends_end zero = inl refl
ends_end (suc n) =
    let last : get_or (line_ends (suc n)) n 0 ≡ 0x0D = get_or-replicate (suc n) n 0x0D 0 (omega arith) in
    let at : length (line_ends (suc n)) - 1 ≡ n = omega (arith, length_ends (suc n)) in
    inr (ap (λ k. get_or (line_ends (suc n)) k 0) at ∙ last)

-- ---- nothing but .JDT shows a body
bare_one : (s : Slot) → slot_bare (slot_outline s) ≡ slot_bare s
bare_one Gone = refl
bare_one (Held m) = refl

bare_all : (slots : List Slot) → map slot_bare (map slot_outline slots) ≡ map slot_bare slots
bare_all [] = refl
bare_all (s ∷ slots) = λ i. bare_one s i ∷ bare_all slots i

link_outline : (slots : List Slot) (n : ℕ) → link_of (map slot_outline slots) n ≡ link_of slots n
link_outline slots n = sym (link_bare (map slot_outline slots) n) ∙ (ap (λ (xs : List Slot). link_of xs n) (bare_all slots) ∙ link_bare slots n)

links_outline : (slots : List Slot) → link_of (map slot_outline slots) ≡ link_of slots
links_outline slots = λ i n. link_outline slots n i

live_from : (slots : List Slot) (a : ℕ) → fold (λ a s. a + cond (is_live s) 1 0) a (map slot_outline slots) ≡ fold (λ a s. a + cond (is_live s) 1 0) a slots
live_from [] a = refl
live_from (Gone ∷ slots) a = live_from slots (a + 0)
live_from (Held m ∷ slots) a = live_from slots (a + cond (not m.deleted) 1 0)

live_outline : (slots : List Slot) → live_count (map slot_outline slots) ≡ live_count slots
live_outline slots = live_from slots 0

entry_outline : (kind : Kind) (offset n : ℕ) (link : Link) (m : Message) → entry_text kind offset (made n link (message_outline m)) ≡ entry_text kind offset (made n link m)
unfolding message_header subfields_of
entry_outline kind offset n link m = ap (λ k. entry_text kind offset (record { number = n; text_len = k; link = link; message = m })) (length_ends (length m.body))

headers_outline : (links : ℕ → Link) (kind : Kind) (offset n : ℕ) (slots : List Slot) → headers_text kind offset (entries_of links n (map slot_outline slots)) ≡ headers_text kind offset (entries_of links n slots)
headers_outline links kind offset n [] = refl
headers_outline links kind offset n (Gone ∷ slots) = headers_outline links kind offset (n + 1) slots
headers_outline links kind offset n (Held m ∷ slots) =
    let text : List ℕ = entry_text kind offset (made n (links n) m) in
    let size : ℕ = length (line_ends (length m.body)) in
    ap (λ xs. xs ++ headers_text kind (offset + size) (entries_of links (n + 1) (map slot_outline slots))) (entry_outline kind offset n (links n) m)
    ∙ (ap (λ k. text ++ headers_text kind (offset + k) (entries_of links (n + 1) (map slot_outline slots))) (length_ends (length m.body))
    ∙ ap (λ xs. text ++ xs) (headers_outline links kind (offset + length m.body) (n + 1) slots))

size_outline : (m : Message) → header_size (message_outline m) ≡ header_size m
unfolding header_size subfields_of
size_outline m = refl

index_outline : (at : ℕ) (slots : List Slot) → index_records at (map slot_outline slots) ≡ index_records at slots
index_outline at [] = refl
index_outline at (Gone ∷ slots) = ap (λ xs. index_text no_pair ++ xs) (index_outline at slots)
index_outline at (Held m ∷ slots) =
    ap (λ k. index_text (pair_of m at) ++ index_records (at + k) (map slot_outline slots)) (size_outline m)
    ∙ ap (λ xs. index_text (pair_of m at) ++ xs) (index_outline (at + header_size m) slots)

-- the header of a base with so many messages that aren't deleted
abbrev header_with : Shape → ConferenceContents → ℕ → BaseHeader
header_with shape c active = record { created = shape.created; mod_counter = c.counter; active = active; password_crc = 0xFFFF_FFFF; base_number = 1 }

jhr_outline : (shape : Shape) (c : ConferenceContents) → (layout shape (outline c)).jhr ≡ (layout shape c).jhr
jhr_outline shape c =
    ap (λ n. base_text (header_with shape c n) ++ headers_text shape.kind 0 (entries_of (link_of (map slot_outline c.slots)) 1 (map slot_outline c.slots))) (live_outline c.slots)
    ∙ (ap (λ (links : ℕ → Link). base_text (base_header shape c) ++ headers_text shape.kind 0 (entries_of links 1 (map slot_outline c.slots))) (links_outline c.slots)
    ∙ ap (λ xs. base_text (base_header shape c) ++ xs) (headers_outline (link_of c.slots) shape.kind 0 1 c.slots))

pub files_outline : (shape : Shape) (c : ConferenceContents) → layout shape (outline c) ≡ record (layout shape c) { jdt = (layout shape (outline c)).jdt }
files_outline shape c = λ i. record { jhr = jhr_outline shape c i; jdt = (layout shape (outline c)).jdt; jdx = index_outline 1024 c.slots i; jlr = (layout shape c).jlr }

bodies_outline : (f g : ℕ → Link) (n : ℕ) (slots : List Slot) → length (bodies_text (entries_of f n (map slot_outline slots))) ≡ length (bodies_text (entries_of g n slots))
bodies_outline f g n [] = refl
bodies_outline f g n (Gone ∷ slots) = bodies_outline f g (n + 1) slots
bodies_outline f g n (Held m ∷ slots) =
    omega (arith, length-append (line_ends (length m.body)) (bodies_text (entries_of f (n + 1) (map slot_outline slots))), length-append m.body (bodies_text (entries_of g (n + 1) slots)), length_ends (length m.body), bodies_outline f g (n + 1) slots)

pub jdt_outline : (shape : Shape) (c : ConferenceContents) → length (layout shape (outline c)).jdt ≡ length (layout shape c).jdt
jdt_outline shape c = bodies_outline (link_of (map slot_outline c.slots)) (link_of c.slots) 1 c.slots

-- ---- an outline is a conference
bytes_outline : (m : Message) → AreBytes m → AreBytes (message_outline m)
bytes_outline m ok = record {
  origin = ok.origin;
  destination = ok.destination;
  from = ok.from;
  to = ok.to;
  msgid = ok.msgid;
  replyid = ok.replyid;
  subject = ok.subject;
  body = All-replicate IsByte (length m.body) 0x0D (omega arith);
}

message_is : (kind : Kind) (m : Message) → IsMessage kind m → IsMessage kind (message_outline m)
message_is kind m ok = record {
  bytes = bytes_outline m ok.bytes;
  origin = ok.origin;
  destination = ok.destination;
  from = ok.from;
  to = ok.to;
  msgid = ok.msgid;
  replyid = ok.replyid;
  subject = ok.subject;
  body = let small = ok.body in omega (arith, length_ends (length m.body), small);
  ended = ends_end (length m.body);
  written = ok.written;
  received = ok.received;
  processed = ok.processed;
  private = ok.private;
}

slot_is : (kind : Kind) (s : Slot) → IsSlot kind s → IsSlot kind (slot_outline s)
slot_is kind Gone ok = ok
slot_is kind (Held m) ok = message_is kind m ok

slots_are : (kind : Kind) (slots : List Slot) → All (IsSlot kind) slots → All (IsSlot kind) (map slot_outline slots)
slots_are kind [] all = All-nil (IsSlot kind)
slots_are kind (s ∷ slots) all =
    All-cons (IsSlot kind) (slot_outline s) (map slot_outline slots) (slot_is kind s (All-head (IsSlot kind) s slots all)) (slots_are kind slots (All-tail (IsSlot kind) s slots all))

pub conference_outline : (shape : Shape) (c : ConferenceContents) → IsConference shape c → IsConference shape (outline c)
conference_outline shape c ok =
    let len = length-map c.slots slot_outline in
    let few = ok.few in
    record {
      counter = ok.counter;
      few = omega (arith, len, few);
      slots = slots_are shape.kind c.slots ok.slots;
      pointers = subst (λ (n : ℕ). PointersFit n shape.readers c.pointers) (sym len) ok.pointers;
    }

-- ---- an outline is what the slots without bodies and the lengths of the bodies are
abbrev slots_with : List ℕ → List Slot → List Slot
slots_with [] slots = []
slots_with (n ∷ lengths) [] = []
slots_with (n ∷ lengths) (s ∷ slots) = slot_with n s ∷ slots_with lengths slots

filled_one : (s : Slot) → slot_with (body_size s) (slot_bare s) ≡ slot_outline s
filled_one Gone = refl
filled_one (Held m) = refl

filled_all : (slots : List Slot) → slots_with (map body_size slots) (map slot_bare slots) ≡ map slot_outline slots
filled_all [] = refl
filled_all (s ∷ slots) = λ i. filled_one s i ∷ filled_all slots i

length_one : (s : Slot) → body_size (slot_outline s) ≡ body_size s
length_one Gone = refl
length_one (Held m) = length_ends (length m.body)

lengths_all : (slots : List Slot) → map body_size (map slot_outline slots) ≡ map body_size slots
lengths_all [] = refl
lengths_all (s ∷ slots) = λ i. length_one s i ∷ lengths_all slots i

-- ---- two conferences with one outline differ in bodies alone, of one length
pub one_outline : (a b : ConferenceContents) → outline a ≡ outline b → SameButBodies a b
one_outline a b e = record {
  counter = ap (λ (c : ConferenceContents). c.counter) e;
  slots = sym (bare_all a.slots) ∙ (ap (λ (c : ConferenceContents). map slot_bare c.slots) e ∙ bare_all b.slots);
  lengths = sym (lengths_all a.slots) ∙ (ap (λ (c : ConferenceContents). map body_size c.slots) e ∙ lengths_all b.slots);
  pointers = ap (λ (c : ConferenceContents). c.pointers) e;
}

pub same_outline : (a b : ConferenceContents) → SameButBodies a b → outline a ≡ outline b
same_outline a b same =
    let slots : map slot_outline a.slots ≡ map slot_outline b.slots = sym (filled_all a.slots) ∙ ((λ i. slots_with (same.lengths i) (same.slots i)) ∙ filled_all b.slots) in
    λ i. record { counter = same.counter i; slots = slots i; pointers = same.pointers i }
