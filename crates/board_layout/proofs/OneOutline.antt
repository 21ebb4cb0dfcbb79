-- Boards with one outline: what stands in each place of both, and that the one is valid where the other is and its
-- conferences are.
use Rattle.std.proofs.Common.{◌≡◌, ℕ, Bool, List, [], ◌∷◌, length, map, Option, Some, None, refl, sym, ap, ◌∙◌, subst, arith}
use Rattle.std.specs.Prelude.{All, IsTrue, slice_get, unwrap_or, option_map}
use Rattle.std.specs.List.{AllZip, list_all}
use Rattle.std.proofs.lemmas.List.{length-map, length-replicate}
use Rattle.std.proofs.lemmas.List.Elements.{All-nil, All-cons, All-head, All-tail}
use Rattle.board_layout.proofs.OutlineLaws.{base_size_outline, highs_outline, outline_base, outline_size, outline_valid}
use Rattle.board_layout.specs.Board.{Board, shapes_of}
use Rattle.board_layout.specs.Layout.{base_size, board_size}
use Rattle.board_layout.specs.Lookups.{user_of}
use Rattle.board_layout.specs.Outlines.{HasBody, board_outline}
use Rattle.board_layout.specs.Renewed.{contents_of}
use Rattle.board_layout.specs.Valid.{IsBoard}
use Rattle.jam_base.specs.Contents.{Contents}
use Rattle.jam_base.specs.Outlined.{outlined}
use Rattle.jam_base.specs.jam_layout.Messages.{AreBytes, IsMessage, IsSlot}
use Rattle.jam_base.specs.jam_layout.Outlines.{message_outline, outline, slot_outline}
use Rattle.jam_base.specs.jam_layout.Valid.{IsConference, PointersFit}
use Rattle.jam_base.specs.jam_layout.declared.conference.ConferenceContents.{ConferenceContents}
use Rattle.jam_base.specs.jam_layout.declared.shape.Shape.{Shape}
use Rattle.jam_records.specs.declared.message.Kind.{Kind}
use Rattle.jam_records.specs.declared.message.Message.{Message}
use Rattle.jam_records.specs.declared.message.Slot.{Slot}
use Rattle.jam_records.specs.declared.message.Slot.TheVariants.{Gone, Held}

-- ---- a conference is valid where its outline is, and its bodies are bodies
bytes_back : (m : Message) → AreBytes (message_outline m) → HasBody (Held m) → AreBytes m
bytes_back m ok body = record {
  origin = ok.origin;
  destination = ok.destination;
  from = ok.from;
  to = ok.to;
  msgid = ok.msgid;
  replyid = ok.replyid;
  subject = ok.subject;
  body = body.0;
}

message_back : (kind : Kind) (m : Message) → IsMessage kind (message_outline m) → HasBody (Held m) → IsMessage kind m
message_back kind m ok body = record {
  bytes = bytes_back m ok.bytes body;
  origin = ok.origin;
  destination = ok.destination;
  from = ok.from;
  to = ok.to;
  msgid = ok.msgid;
  replyid = ok.replyid;
  subject = ok.subject;
  body = let small = ok.body in omega (arith, length-replicate {A = ℕ} (length m.body) 0x0D, small);
  ended = body.1;
  written = ok.written;
  received = ok.received;
  processed = ok.processed;
  private = ok.private;
}

slot_back : (kind : Kind) (s : Slot) → IsSlot kind (slot_outline s) → HasBody s → IsSlot kind s
slot_back kind Gone ok body = ok
slot_back kind (Held m) ok body = message_back kind m ok body

slots_back : (kind : Kind) (slots : List Slot) → All (IsSlot kind) (map slot_outline slots) → All HasBody slots → All (IsSlot kind) slots
slots_back kind [] all bodies = All-nil (IsSlot kind)
slots_back kind (s ∷ slots) all bodies =
    All-cons (IsSlot kind) s slots (slot_back kind s (All-head (IsSlot kind) (slot_outline s) (map slot_outline slots) all) (All-head HasBody s slots bodies))
    (slots_back kind slots (All-tail (IsSlot kind) (slot_outline s) (map slot_outline slots) all) (All-tail HasBody s slots bodies))

pub conference_back : (shape : Shape) (c : ConferenceContents) → IsConference shape (outline c) → All HasBody c.slots → IsConference shape c
conference_back shape c ok bodies =
    let count = length-map c.slots slot_outline in
    let few = ok.few in
    record {
      counter = ok.counter;
      few = omega (arith, count, few);
      slots = slots_back shape.kind c.slots ok.slots bodies;
      pointers = subst (λ (n : ℕ). PointersFit n shape.readers c.pointers) count ok.pointers;
    }

-- ---- a board is valid where its outline is, and its conferences are
pub outline_back : (b : Board) → IsBoard (board_outline b) → AllZip IsConference (shapes_of b.ledger) b.conferences → IsBoard b
outline_back b ok conferences =
    let small = ok.small in
    record {
      ledger = ok.ledger;
      conferences = conferences;
      highs = subst (λ (fit : List ℕ → Bool). All (λ u. IsTrue (list_all (λ o. fit o.highs) u.offers)) b.ledger.users) (λ i highs. highs_outline b.conferences highs i) ok.highs;
      small = omega (arith, outline_size b, small);
    }

-- ---- two boards with one outline
module _ (a b : Board) (alike : board_outline a ≡ board_outline b) where
  pub alike_ledger : a.ledger ≡ b.ledger
  alike_ledger = ap (λ (o : Board). o.ledger) alike

  pub alike_user : (id : ℕ) → user_of id a ≡ user_of id b
  alike_user id = ap (λ (o : Board). user_of id o) alike

  pub alike_places : length a.conferences ≡ length b.conferences
  alike_places = sym (length-map a.conferences outline) ∙ (ap (λ (o : Board). length o.conferences) alike ∙ length-map b.conferences outline)

  pub alike_size : board_size a ≡ board_size b
  alike_size = sym (outline_size a) ∙ (ap board_size alike ∙ outline_size b)

  pub alike_valid : IsBoard b → AllZip IsConference (shapes_of a.ledger) a.conferences → IsBoard a
  alike_valid ok conferences = outline_back a (subst IsBoard (sym alike) (outline_valid b ok)) conferences

  -- where one has a base, the other has one with its outline
  pub alike_base : (place : ℕ) (base : Contents) → slice_get (contents_of b) place ≡ Some base → (other : Contents) × (slice_get (contents_of a) place ≡ Some other) × (outlined other ≡ outlined base)
  alike_base place base here = by (slice_get (contents_of a) place)
      (sym (outline_base a place) ∙ (ap (λ (o : Board). slice_get (contents_of o) place) alike ∙ (outline_base b place ∙ ap (option_map outlined) here)))
    where
      by : (o : Option Contents) → option_map outlined o ≡ Some (outlined base) → (other : Contents) × (o ≡ Some other) × (outlined other ≡ outlined base)
      by None e = absurd (cc)
      by (Some other) e = (other, refl, ap (λ (x : Option Contents). unwrap_or x (outlined base)) e)

-- ---- two bases with one outline
module _ (a b : Contents) (alike : outlined a ≡ outlined b) where
  pub alike_base_size : base_size a ≡ base_size b
  alike_base_size = sym (base_size_outline a) ∙ (ap base_size alike ∙ base_size_outline b)

  pub alike_count : length a.conference.slots ≡ length b.conference.slots
  alike_count = sym (length-map a.conference.slots slot_outline) ∙ (ap (λ (base : Contents). length base.conference.slots) alike ∙ length-map b.conference.slots slot_outline)
