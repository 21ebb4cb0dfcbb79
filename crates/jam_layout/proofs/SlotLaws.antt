-- From slots that are valid to headers, bodies and an index that fit, and back.
use Rattle.std.proofs.Common.{◌≡◌, ℕ, suc, ◌+◌, ◌*◌, ◌^◌, ◌≤◌, ◌<◌, List, [], ◌∷◌, ◌++◌, length, map, refl, sym, ap, ◌∙◌, subst, arith, length-append}
use Rattle.std.specs.Prelude.{All}
use Rattle.std.proofs.lemmas.List.{take_at, drop_at}
use Rattle.std.proofs.lemmas.List.Elements.{All-drop, All-take, All-cons, All-nil}
use Rattle.jam_records.specs.byte_lists.Byte.{IsByte}
use Rattle.jam_records.specs.MessageHeaders.{header_text}
use Rattle.jam_records.specs.Subfields.{subfield_text, subfields_text}
use Rattle.jam_records.specs.declared.message.Kind.{Kind}
use Rattle.jam_records.specs.declared.message.Message.{Message}
use Rattle.jam_records.specs.declared.message.Slot.{Slot}
use Rattle.jam_records.specs.declared.message.Slot.TheVariants.{Gone, Held}
use Rattle.jam_threads.specs.declared.link.Link.{Link}
use Rattle.jam_layout.specs.Layout.{entries_of}
use Rattle.jam_layout.specs.Bodies.{message_with, bodies_text}
use Rattle.jam_layout.specs.Fields.{value_subfields, subfields_of}
use Rattle.jam_layout.specs.Headers.{message_header, entry_text, headers_text, header_size, behind}
use Rattle.jam_records.specs.IndexRecords.{index_text}
use Rattle.jam_records.specs.declared.index_record.IndexRecord.{IndexRecord}
use Rattle.jam_layout.specs.Index.{index_records, no_pair, pair_of}
use Rattle.jam_layout.specs.Limits.{slot_limit}
use Rattle.jam_layout.specs.Messages.{AreBytes, IsMessage, IsSlot}
use Rattle.jam_layout.specs.declared.entry.HeaderEntry.{HeaderEntry}
use Rattle.jam_layout.specs.declared.entry.Front.{Front}
use Rattle.jam_layout.proofs.BodyLaws.{bare, Bodiless, BodiesFit}
use Rattle.jam_layout.proofs.CrcLaws.{crc_small}
use Rattle.jam_layout.proofs.EntryLaws.{HeaderFits, HeadersFit, entry_length}
use Rattle.jam_records.proofs.SubfieldLemmas.{behind_head}
use Rattle.jam_layout.proofs.FieldLaws.{subfield}
use Rattle.jam_layout.proofs.IndexLaws.{made, Linked, RoomFor}
use Rattle.jam_layout.proofs.LinkBounds.{LinkBound}
use Rattle.jam_layout.proofs.LinkLaws.{LinksFit, Rising}
use Rattle.jam_layout.proofs.ValueLaws.{texts}

-- ---- bytes of parts
all_left : (xs ys : List ℕ) → All IsByte (xs ++ ys) → All IsByte xs
all_left xs ys all = subst (All IsByte) (take_at xs ys (length xs) refl) (All-take IsByte (length xs) (xs ++ ys) all)

all_right : (xs ys : List ℕ) → All IsByte (xs ++ ys) → All IsByte ys
all_right xs ys all = subst (All IsByte) (drop_at xs ys (length xs) refl) (All-drop IsByte (length xs) (xs ++ ys) all)

value_bytes : (id : ℕ) (value : List ℕ) → All IsByte (subfields_text (value_subfields id value)) → All IsByte value
value_bytes id [] all = all
value_bytes id (b ∷ value) all =
    let s = subfield id (b ∷ value) in
    all_left (b ∷ value) [] (subst (All IsByte) (behind_head s []) (All-drop IsByte 8 (subfield_text s ++ []) all))

-- the texts of a message are bytes where its subfields and its body are
message_bytes : (m : Message) → All IsByte (subfields_text (subfields_of m)) → All IsByte m.body → AreBytes m
unfolding subfields_of
message_bytes m all body =
    let a : List ℕ = subfields_text (value_subfields 0 m.origin) in
    let b : List ℕ = subfields_text (value_subfields 1 m.destination) in
    let c : List ℕ = subfields_text (value_subfields 2 m.from) in
    let d : List ℕ = subfields_text (value_subfields 3 m.to) in
    let e : List ℕ = subfields_text (value_subfields 4 m.msgid) in
    let f : List ℕ = subfields_text (value_subfields 5 m.replyid) in
    let g : List ℕ = subfields_text (value_subfields 6 m.subject) in
    let whole : All IsByte (a ++ (b ++ (c ++ (d ++ (e ++ (f ++ g)))))) = subst (All IsByte) (texts (value_subfields 0 m.origin) (value_subfields 1 m.destination) (value_subfields 2 m.from) (value_subfields 3 m.to) (value_subfields 4 m.msgid) (value_subfields 5 m.replyid) (value_subfields 6 m.subject)) all in
    let first = all_right a (b ++ (c ++ (d ++ (e ++ (f ++ g))))) whole in
    let second = all_right b (c ++ (d ++ (e ++ (f ++ g)))) first in
    let third = all_right c (d ++ (e ++ (f ++ g))) second in
    let fourth = all_right d (e ++ (f ++ g)) third in
    let fifth = all_right e (f ++ g) fourth in
    record {
      origin = value_bytes 0 m.origin (all_left a (b ++ (c ++ (d ++ (e ++ (f ++ g))))) whole);
      destination = value_bytes 1 m.destination (all_left b (c ++ (d ++ (e ++ (f ++ g)))) first);
      from = value_bytes 2 m.from (all_left c (d ++ (e ++ (f ++ g))) second);
      to = value_bytes 3 m.to (all_left d (e ++ (f ++ g)) third);
      msgid = value_bytes 4 m.msgid (all_left e (f ++ g) fourth);
      replyid = value_bytes 5 m.replyid (all_left f g fifth);
      subject = value_bytes 6 m.subject (all_right f g fifth);
      body = body;
    }

-- ---- a header doesn't show the body
subfields_bare : (m : Message) → subfields_of (message_with m []) ≡ subfields_of m
unfolding subfields_of
subfields_bare m = refl

entry_bare : (kind : Kind) (offset : ℕ) (e : HeaderEntry) → entry_text kind offset (bare e) ≡ entry_text kind offset e
unfolding message_header subfields_of
entry_bare kind offset e = refl

pub headers_bare : (kind : Kind) (offset : ℕ) (es : List HeaderEntry) → headers_text kind offset (map bare es) ≡ headers_text kind offset es
headers_bare kind offset [] = refl
headers_bare kind offset (e ∷ es) =
    ap (λ xs. xs ++ headers_text kind (offset + e.text_len) (map bare es)) (entry_bare kind offset e) ∙ ap (λ xs. entry_text kind offset e ++ xs) (headers_bare kind (offset + e.text_len) es)

size_is : (m : Message) → header_size m ≡ 76 + length (subfields_text (subfields_of m))
unfolding header_size
size_is m = refl

-- ---- a conference fits its files
one_fits : (kind : Kind) (f : Front) (n : ℕ) (link : Link) (m : Message) → f.last < n → n ≤ slot_limit → LinkBound slot_limit link → IsMessage kind m → length (subfields_text (subfields_of m)) < 2 ^ 31 → HeaderFits kind f (bare (made n link m))
one_fits kind f n link m rising few bound ok small =
    let to = bound.to in
    let first = bound.first in
    let next = bound.next in
    let short : length (subfields_text (subfields_of (message_with m []))) < 2 ^ 31 = subst (λ xs. length (subfields_text xs) < 2 ^ 31) (sym (subfields_bare m)) small in
    record {
      rising = rising;
      few = few;
      text = ok.body;
      bodiless = refl;
      texts = record { origin = ok.origin; destination = ok.destination; from = ok.from; to = ok.to; msgid = ok.msgid; replyid = ok.replyid; subject = ok.subject };
      private = ok.private;
      to = omega arith;
      first = omega arith;
      next = omega arith;
      written = ok.written;
      received = ok.received;
      processed = ok.processed;
      msgid = crc_small m.msgid ok.bytes.msgid;
      reply = crc_small m.replyid ok.bytes.replyid;
      short = short;
    }

pub record Fits (kind : Kind) (f : Front) (at : ℕ) (slots : List Slot) (es : List HeaderEntry) : Type 0 where
  pub headers : HeadersFit kind f (map bare es)
  pub bodies : BodiesFit es
  pub room : RoomFor at slots

pub conference_fits : (links : ℕ → Link) (kind : Kind) (n : ℕ) (f : Front) (at offset : ℕ) (slots : List Slot) → f.last < n → n + length slots ≤ slot_limit + 1 → ((k : ℕ) → LinkBound slot_limit (links k)) → All (IsSlot kind) slots
    → at + length (headers_text kind offset (entries_of links n slots)) < 2 ^ 31 → Fits kind f at slots (entries_of links n slots)
conference_fits links kind n f at offset [] lt few bound all small = record { headers = tt; bodies = tt; room = tt }
conference_fits links kind n f at offset (Gone ∷ slots) lt few bound all small =
    let r = conference_fits links kind (n + 1) f at offset slots (omega arith) (omega arith) bound (All-drop (IsSlot kind) 1 (Gone ∷ slots) all) small in
    record { headers = r.headers; bodies = r.bodies; room = r.room }
conference_fits links kind n f at offset (Held m ∷ slots) lt few bound all small =
    let e : HeaderEntry = made n (links n) m in
    let es : List HeaderEntry = entries_of links (n + 1) slots in
    let text : List ℕ = entry_text kind offset e in
    let rest : List ℕ = headers_text kind (offset + length m.body) es in
    let len = length-append text rest in
    let size = entry_length kind offset e in
    let is = size_is m in
    let ok : IsMessage kind m = all 0 Gone (omega arith) in
    let short : length (subfields_text (subfields_of m)) < 2 ^ 31 = omega (arith, len, size, is, small) in
    let r = conference_fits links kind (n + 1) (behind f (bare e)) (at + header_size m) (offset + length m.body) slots (omega arith) (omega arith) bound (All-drop (IsSlot kind) 1 (Held m ∷ slots) all) (omega (arith, len, size, small)) in
    record {
      headers = (one_fits kind f n (links n) m lt (omega arith) (bound n) ok short, r.headers);
      bodies = ((ok.ended, refl), r.bodies);
      room = (omega (arith, small), crc_small m.to ok.bytes.to, r.room);
    }

-- ---- and what the files fit is a conference
pub slots_fit : (links : ℕ → Link) (kind : Kind) (n offset : ℕ) (f : Front) (slots : List Slot) → HeadersFit kind f (map bare (entries_of links n slots)) → BodiesFit (entries_of links n slots)
    → All IsByte (headers_text kind offset (entries_of links n slots)) → All IsByte (bodies_text (entries_of links n slots)) → All (IsSlot kind) slots
slots_fit links kind n offset f [] headers bodies heads texts = All-nil (IsSlot kind)
slots_fit links kind n offset f (Gone ∷ slots) headers bodies heads texts = All-cons (IsSlot kind) Gone slots tt (slots_fit links kind (n + 1) offset f slots headers bodies heads texts)
slots_fit links kind n offset f (Held m ∷ slots) headers bodies heads texts =
    let h = headers.0 in
    let e : HeaderEntry = made n (links n) m in
    let es : List HeaderEntry = entries_of links (n + 1) slots in
    let text : List ℕ = entry_text kind offset e in
    let rest : List ℕ = headers_text kind (offset + length m.body) es in
    let subs : All IsByte (subfields_text (subfields_of m)) = all_right (header_text (message_header kind offset e)) (subfields_text (subfields_of m)) (all_left text rest heads) in
    let ok : IsMessage kind m = record {
      bytes = message_bytes m subs (all_left m.body (bodies_text es) texts);
      origin = h.texts.origin;
      destination = h.texts.destination;
      from = h.texts.from;
      to = h.texts.to;
      msgid = h.texts.msgid;
      replyid = h.texts.replyid;
      subject = h.texts.subject;
      body = h.text;
      ended = bodies.0.0;
      written = h.written;
      received = h.received;
      processed = h.processed;
      private = h.private;
    } in
    All-cons (IsSlot kind) (Held m) slots ok (slots_fit links kind (n + 1) (offset + length m.body) (behind f (bare (made n (links n) m))) slots headers.1 bodies.1 (all_right text rest heads) (all_right m.body (bodies_text es) texts))

pub rising_of : (kind : Kind) (f : Front) (hs : List HeaderEntry) → HeadersFit kind f hs → Rising (f.last + 1) hs
rising_of kind f [] fits = tt
rising_of kind f (h ∷ hs) fits = let lt = fits.0.rising in (omega arith, rising_of kind (behind f h) hs fits.1)

pub bodiless_of : (kind : Kind) (f : Front) (hs : List HeaderEntry) → HeadersFit kind f hs → Bodiless hs
bodiless_of kind f [] fits = tt
bodiless_of kind f (h ∷ hs) fits = (fits.0.bodiless, bodiless_of kind (behind f h) hs fits.1)

pub linked_of : (links : ℕ → Link) (es : List HeaderEntry) → LinksFit links (map bare es) → BodiesFit es → Linked links es
linked_of links [] fits bodies = tt
linked_of links (e ∷ es) fits bodies = ((fits.0, bodies.0.1), linked_of links es fits.1 bodies.1)

pub links_of : (links : ℕ → Link) (n : ℕ) (slots : List Slot) → LinksFit links (map bare (entries_of links n slots))
links_of links n [] = tt
links_of links n (Gone ∷ slots) = links_of links (n + 1) slots
links_of links n (Held m ∷ slots) = (refl, links_of links (n + 1) slots)

index_more : (pair : IndexRecord) (rest : List ℕ) (n : ℕ) → length rest ≡ 8 * n → length (index_text pair ++ rest) ≡ 8 * suc n
unfolding index_text
index_more pair rest n len = omega (arith, len)

pub index_length : (at : ℕ) (slots : List Slot) → length (index_records at slots) ≡ 8 * length slots
index_length at [] = refl
index_length at (Gone ∷ slots) = index_more no_pair (index_records at slots) (length slots) (index_length at slots)
index_length at (Held m ∷ slots) = index_more (pair_of m at) (index_records (at + header_size m) slots) (length slots) (index_length (at + header_size m) slots)
