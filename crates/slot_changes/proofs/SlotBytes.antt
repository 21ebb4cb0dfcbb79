-- How many bytes messages add to the files of a base, whatever they hold.
use Rattle.std.proofs.Common.{◌≡◌, ℕ, ◌+◌, ◌*◌, List, [], ◌∷◌, ◌++◌, length, map, min, refl, sym, ap, ◌∙◌, arith, append_assoc, length-append}
use Rattle.std.specs.Prelude.{sum_by}
use Rattle.std.proofs.lemmas.List.{append-nil}
use Rattle.std.proofs.lemmas.List.Concat.{length-flat_map}
use Rattle.std.proofs.lemmas.List.Sums.{sum_by-append, sum_by-cons}
use Rattle.board_layout.specs.Layout.{base_size}
use Rattle.board_layout.specs.jam_base.Contents.{Contents, with_messages}
use Rattle.board_layout.specs.jam_base.Slots.{slots_with_all}
use Rattle.jam_layout.proofs.BaseLaws.{base_length}
use Rattle.jam_layout.proofs.EntryLaws.{entry_length}
use Rattle.jam_layout.proofs.SlotLaws.{index_length}
use Rattle.jam_layout.specs.Headers.{entry_text, headers_text}
use Rattle.jam_layout.specs.Layout.{base_header, entries_of, entries_in, files_size, layout}
use Rattle.jam_layout.specs.Readers.{last_reads}
use Rattle.jam_layout.specs.Sizes.{slot_header, slot_size}
use Rattle.jam_layout.specs.declared.conference.ConferenceContents.{ConferenceContents}
use Rattle.jam_layout.specs.declared.entry.HeaderEntry.{HeaderEntry}
use Rattle.jam_layout.specs.declared.shape.Shape.{Shape}
use Rattle.jam_records.specs.BaseHeaders.{base_text}
use Rattle.jam_records.specs.declared.message.Kind.{Kind}
use Rattle.jam_records.specs.declared.message.Message.{Message}
use Rattle.jam_records.specs.declared.message.Slot.{Slot}
use Rattle.jam_records.specs.declared.message.Slot.TheVariants.{Gone, Held}
use Rattle.jam_layout.specs.jam_threads.Links.{link_of}
use Rattle.jam_layout.specs.jam_threads.declared.link.Link.{Link}
use Rattle.board_layout.proofs.jam_writing.PieceLaws.{bodies_are}
use Rattle.board_layout.specs.jam_writing.Pieces.{body_piece, body_size, entry_with}
use Rattle.slot_changes.specs.Msgids.{all_identified, identified}

-- ---- the files of a conference
headers_length : (kind : Kind) (links : ℕ → Link) (offset n : ℕ) (slots : List Slot) → length (headers_text kind offset (entries_of links n slots)) ≡ sum_by slot_header slots
headers_length kind links offset n [] = refl
headers_length kind links offset n (Gone ∷ slots) = omega (arith, headers_length kind links offset (n + 1) slots, sum_by-cons slot_header Gone slots)
headers_length kind links offset n (Held m ∷ slots) =
    let e : HeaderEntry = entry_with n (links n) m in
    let rest : List ℕ = headers_text kind (offset + length m.body) (entries_of links (n + 1) slots) in
    omega (arith, length-append (entry_text kind offset e) rest, entry_length kind offset e, headers_length kind links (offset + length m.body) (n + 1) slots, sum_by-cons slot_header (Held m) slots)

slot_parts : (slots : List Slot) → sum_by slot_size slots ≡ 8 * length slots + (sum_by slot_header slots + sum_by body_size slots)
slot_parts [] = refl
slot_parts (Gone ∷ slots) = omega (arith, slot_parts slots, sum_by-cons slot_size Gone slots, sum_by-cons slot_header Gone slots, sum_by-cons body_size Gone slots)
slot_parts (Held m ∷ slots) = omega (arith, slot_parts slots, sum_by-cons slot_size (Held m) slots, sum_by-cons slot_header (Held m) slots, sum_by-cons body_size (Held m) slots)

pub files_length : (shape : Shape) (c : ConferenceContents) → files_size (layout shape c) ≡ 1024 + (sum_by slot_size c.slots + length (last_reads shape.readers c.pointers))
files_length shape c = omega (
  arith,
  length-append (base_text (base_header shape c)) (headers_text shape.kind 0 (entries_in c)),
  base_length (base_header shape c),
  headers_length shape.kind (link_of c.slots) 0 1 c.slots,
  ap length (bodies_are (link_of c.slots) 1 c.slots),
  length-flat_map body_piece c.slots,
  index_length 1024 c.slots,
  slot_parts c.slots,
)

-- ---- messages at the end
pub all_at_end : (slots : List Slot) (messages : List Message) → slots_with_all slots messages ≡ slots ++ map Held messages
all_at_end slots [] = sym (append-nil slots)
all_at_end slots (m ∷ messages) = all_at_end (slots ++ Held m ∷ []) messages ∙ append_assoc slots (Held m ∷ []) (map Held messages)

-- how many bytes a message takes
abbrev pub message_size : Message → ℕ
message_size m = slot_size (Held m)

held_sizes : (messages : List Message) → sum_by slot_size (map Held messages) ≡ sum_by message_size messages
held_sizes [] = refl
held_sizes (m ∷ messages) = omega (arith, held_sizes messages, sum_by-cons slot_size (Held m) (map Held messages), sum_by-cons message_size m messages)

pub base_grows : (base : Contents) (messages : List Message) → base_size (with_messages messages base) ≡ base_size base + sum_by message_size messages
base_grows base [] = omega arith
base_grows base (m ∷ messages) =
    let slots : List Slot = base.conference.slots in
    let all = ap (sum_by slot_size) (all_at_end slots (m ∷ messages)) in
    omega (
      arith,
      files_length base.shape base.conference,
      files_length base.shape (with_messages (m ∷ messages) base).conference,
      all,
      sum_by-append slot_size slots (map Held (m ∷ messages)),
      held_sizes (m ∷ messages),
    )

-- ---- a sum that stays at its last value
min_more : (size more rest most : ℕ) → min (min (size + min more most) most + rest) most ≡ min (size + (more + rest)) most
min_more size more rest most = omega arith

-- the message in the next place is added
pub size_step : (msgid : ℕ → List ℕ) (number size new total most : ℕ) (left rest : List Message) (m : Message) → left ≡ m ∷ rest → new ≡ min (size + min (message_size (identified (msgid number) m)) most) most
    → min (size + sum_by message_size (all_identified msgid number left)) most ≡ total → min (new + sum_by message_size (all_identified msgid (number + 1) rest)) most ≡ total
size_step msgid number size new total most left rest m is added so_far =
    let more : ℕ = message_size (identified (msgid number) m) in
    let others : List Message = all_identified msgid (number + 1) rest in
    ap (λ (n : ℕ). min (n + sum_by message_size others) most) added
    ∙ (min_more size more (sum_by message_size others) most
    ∙ (ap (λ (n : ℕ). min (size + n) most) (sym (sum_by-cons message_size (identified (msgid number) m) others))
    ∙ (ap (λ (ms : List Message). min (size + sum_by message_size (all_identified msgid number ms)) most) (sym is) ∙ so_far)))
