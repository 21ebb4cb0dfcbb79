-- What messages more put shows in the outline of the conference, but for their bodies.
use Rattle.std.proofs.Common.{◌≡◌, ℕ, zero, suc, ◌+◌, ◌*◌, ◌≤◌, List, [], ◌∷◌, ◌++◌, length, map, take, drop, refl, sym, ap, ◌∙◌, subst, arith}
use Rattle.std.specs.Prelude.{sum_by, All}
use Rattle.std.specs.List.{flat_map}
use Rattle.std.proofs.Math.Seq.{drop-append_seam}
use Rattle.std.proofs.lemmas.List.{take-map}
use Rattle.std.proofs.lemmas.List.Sums.{sum_by-cons}
use Rattle.intent_journal.specs.door_outside.File.{jhr_file, jdt_file, jdx_file}
use Rattle.intent_journal.specs.Patches.{bytes_of, patch_offset}
use Rattle.intent_journal.specs.declared.patch.Patch.{Patch}
use Rattle.intent_journal.specs.declared.patch.Patch.TheVariants.{Put}
use Rattle.jam_records.specs.record_numbers.Numbers.{u32s_text}
use Rattle.jam_records.specs.IndexRecords.{index_text}
use Rattle.jam_records.specs.declared.message.Kind.{Kind}
use Rattle.jam_records.specs.declared.message.Message.{Message}
use Rattle.jam_records.specs.declared.message.Slot.{Slot}
use Rattle.jam_records.specs.declared.message.Slot.TheVariants.{Gone, Held}
use Rattle.jam_threads.specs.Links.{link_of}
use Rattle.jam_threads.specs.Threading.{AreThreads}
use Rattle.jam_threads.specs.declared.link.Link.{Link}
use Rattle.jam_threads.specs.declared.threads.Threads.{Threads}
use Rattle.jam_writing.specs.jam_layout.Bare.{filled_slots, first_length, other_lengths}
use Rattle.jam_writing.specs.jam_layout.Bodies.{body_piece, body_size}
use Rattle.jam_writing.specs.jam_layout.Headers.{entry_text, headers_text}
use Rattle.jam_writing.specs.jam_layout.Index.{index_records, no_pair, pair_of}
use Rattle.jam_writing.specs.jam_layout.Layout.{entries_of, files_size, layout}
use Rattle.jam_writing.specs.jam_layout.Outlines.{line_ends, outline, slot_outline, slot_with}
use Rattle.jam_writing.specs.jam_layout.Sizes.{slot_header}
use Rattle.jam_writing.specs.jam_layout.declared.conference.ConferenceContents.{ConferenceContents}
use Rattle.jam_writing.specs.jam_layout.declared.files.BaseFiles.{BaseFiles}
use Rattle.jam_writing.specs.jam_layout.declared.shape.Shape.{Shape}
use Rattle.jam_writing.proofs.jam_layout.OutlineLaws.{files_outline, jdt_outline}
use Rattle.jam_writing.specs.Pieces.{entry_with}
use Rattle.jam_writing.proofs.EntryTexts.{entry_as_long}
use Rattle.jam_writing.specs.shared_slots.Kept.{one_live}
use Rattle.jam_writing.proofs.shared_slots.KeptLaws.{body_outline, header_outline, live_outline}
use Rattle.jam_base.specs.Change.{SuitsIntent}
use Rattle.jam_base.specs.Puts.{counts_put, end_puts, last_headers, last_puts, last_records, Costs}
use Rattle.jam_base.specs.Slots.{slots_with_all}
use Rattle.jam_base.proofs.AppendPuts.{all_slots_are, helds}
use Rattle.jam_base.proofs.BaseLaws.{threads_same}
use Rattle.jam_base.proofs.SameLinks.{AllSame, SameIds, links_same}

-- ---- links and threads
one_same : (s : Slot) → SameIds s (slot_outline s)
one_same Gone = record { msgid = λ id. refl; answers = λ before. refl }
one_same (Held m) = record { msgid = λ id. refl; answers = λ before. refl }

all_same : (slots : List Slot) → AllSame slots (map slot_outline slots)
all_same [] = tt
all_same (s ∷ slots) = (one_same s, all_same slots)

pub outlined_threads : (slots new : List Slot) → new ≡ map slot_outline slots → (threads : Threads) → AreThreads slots threads → AreThreads new threads
outlined_threads slots new is threads are = subst (λ (xs : List Slot). AreThreads xs threads) (sym is) (threads_same slots (map slot_outline slots) (all_same slots) threads are)

with_same : (n : ℕ) (s : Slot) → SameIds s (slot_with n s)
with_same n Gone = record { msgid = λ id. refl; answers = λ before. refl }
with_same n (Held m) = record { msgid = λ id. refl; answers = λ before. refl }

filled_same : (lengths : List ℕ) (slots : List Slot) → AllSame slots (filled_slots lengths slots)
filled_same lengths [] = tt
filled_same lengths (s ∷ slots) = (with_same (first_length lengths s) s, filled_same (other_lengths lengths s) slots)

-- so it is with any bodies of line ends
pub filled_threads : (lengths : List ℕ) (slots : List Slot) (threads : Threads) → AreThreads slots threads → AreThreads (filled_slots lengths slots) threads
filled_threads lengths slots threads are = threads_same slots (filled_slots lengths slots) (filled_same lengths slots) threads are

drop_map : (f : Slot → Slot) (n : ℕ) (slots : List Slot) → drop n (map f slots) ≡ map f (drop n slots)
drop_map f zero slots = refl
drop_map f (suc n) [] = refl
drop_map f (suc n) (s ∷ slots) = drop_map f n slots

-- ---- sums over slots
sum_outline : (size : Slot → ℕ) → ((s : Slot) → size (slot_outline s) ≡ size s) → (slots : List Slot) → sum_by size (map slot_outline slots) ≡ sum_by size slots
sum_outline size same [] = refl
sum_outline size same (s ∷ slots) =
    omega (arith, same s, sum_outline size same slots, sum_by-cons size s slots, sum_by-cons size (slot_outline s) (map slot_outline slots))

front_outline : (size : Slot → ℕ) → ((s : Slot) → size (slot_outline s) ≡ size s) → (count : ℕ) (slots : List Slot) → sum_by size (take count (map slot_outline slots)) ≡ sum_by size (take count slots)
front_outline size same count slots = ap (sum_by size) (take-map slot_outline count slots) ∙ sum_outline size same (take count slots)

pub headers_sum : (slots : List Slot) → sum_by slot_header (map slot_outline slots) ≡ sum_by slot_header slots
headers_sum slots = sum_outline slot_header header_outline slots

pub bodies_sum : (slots : List Slot) → sum_by body_size (map slot_outline slots) ≡ sum_by body_size slots
bodies_sum slots = sum_outline body_size body_outline slots

-- ---- texts
headers_alike : (links : ℕ → Link) (kind : Kind) (offset n : ℕ) (slots : List Slot) → headers_text kind offset (entries_of links n (map slot_outline slots)) ≡ headers_text kind offset (entries_of links n slots)
headers_alike links kind offset n [] = refl
headers_alike links kind offset n (Gone ∷ slots) = headers_alike links kind offset (n + 1) slots
headers_alike links kind offset n (Held m ∷ slots) =
    let text : List ℕ = entry_text kind offset (entry_with n (links n) m) in
    ap (λ xs. xs ++ headers_text kind (offset + length (line_ends (length m.body))) (entries_of links (n + 1) (map slot_outline slots))) (sym (entry_as_long kind offset n (length m.body) (links n) m))
    ∙ (ap (λ k. text ++ headers_text kind (offset + k) (entries_of links (n + 1) (map slot_outline slots))) (body_outline (Held m))
    ∙ ap (λ xs. text ++ xs) (headers_alike links kind (offset + length m.body) (n + 1) slots))

index_alike : (at : ℕ) (slots : List Slot) → index_records at (map slot_outline slots) ≡ index_records at slots
index_alike at [] = refl
index_alike at (Gone ∷ slots) = ap (λ xs. index_text no_pair ++ xs) (index_alike at slots)
index_alike at (Held m ∷ slots) =
    ap (λ k. index_text (pair_of m at) ++ index_records (at + k) (map slot_outline slots)) (header_outline (Held m))
    ∙ ap (λ xs. index_text (pair_of m at) ++ xs) (index_alike (at + slot_header (Held m)) slots)

-- ---- the puts
counts_alike : (place : ℕ) (c : ConferenceContents) → counts_put place (outline c) ≡ counts_put place c
counts_alike place c = ap (λ n. Put (jhr_file place) 8 (u32s_text (c.counter ∷ n ∷ []))) (sum_outline one_live live_outline c.slots)

last_headers_alike : (shape : Shape) (count : ℕ) (c : ConferenceContents) → last_headers shape count (outline c) ≡ last_headers shape count c
last_headers_alike shape count c =
    let slots : List Slot = map slot_outline c.slots in
    (λ i. Put (jhr_file shape.place) (1024 + front_outline slot_header header_outline count c.slots i)
    (headers_text shape.kind (front_outline body_size body_outline count c.slots i) (entries_of (links_same c.slots slots (all_same c.slots) i) (count + 1) (drop_map slot_outline count c.slots i))))
    ∙ ap (Put (jhr_file shape.place) (1024 + sum_by slot_header (take count c.slots)))
    (headers_alike (link_of c.slots) shape.kind (sum_by body_size (take count c.slots)) (count + 1) (drop count c.slots))

last_records_alike : (place count : ℕ) (c : ConferenceContents) → last_records place count (outline c) ≡ last_records place count c
last_records_alike place count c =
    (λ i. Put (jdx_file place) (8 * count) (index_records (1024 + front_outline slot_header header_outline count c.slots i) (drop_map slot_outline count c.slots i)))
    ∙ ap (Put (jdx_file place) (8 * count)) (index_alike (1024 + sum_by slot_header (take count c.slots)) (drop count c.slots))

pub bodies_of_messages : (messages : List Message) → flat_map body_piece (helds messages) ≡ flat_map (λ m. m.body) messages
bodies_of_messages [] = refl
bodies_of_messages (m ∷ messages) = ap (λ xs. m.body ++ xs) (bodies_of_messages messages)

pub added_bodies : (slots : List Slot) (messages : List Message) → flat_map body_piece (drop (length slots) (slots_with_all slots messages)) ≡ flat_map (λ m. m.body) messages
added_bodies slots messages =
    ap (λ (xs : List Slot). flat_map body_piece (drop (length slots) xs)) (all_slots_are slots messages)
    ∙ (ap (flat_map body_piece) (drop-append_seam slots (helds messages)) ∙ bodies_of_messages messages)

-- all puts of a change that adds what is behind so many slots, whose bodies these are
pub ends_alike : (shape : Shape) (count : ℕ) (c : ConferenceContents) (bodies : List ℕ) → bodies ≡ flat_map body_piece (drop count c.slots)
    → counts_put shape.place (outline c) ∷ end_puts shape count (outline c) bodies ≡ counts_put shape.place c ∷ last_puts shape count c
ends_alike shape count c bodies are = λ i.
    counts_alike shape.place c i
    ∷ last_headers_alike shape count c i
    ∷ Put (jdt_file shape.place) (front_outline body_size body_outline count c.slots i) (are i)
    ∷ last_records_alike shape.place count c i
    ∷ []

-- ---- sizes
pub files_size_alike : (shape : Shape) (c : ConferenceContents) → files_size (layout shape (outline c)) ≡ files_size (layout shape c)
files_size_alike shape c =
    omega (arith, ap (λ (f : BaseFiles). length f.jhr) (files_outline shape c), jdt_outline shape c, ap (λ (f : BaseFiles). length f.jdx) (files_outline shape c), ap (λ (f : BaseFiles). length f.jlr) (files_outline shape c))

pub suits_alike : (place : ℕ) (shape : Shape) (c : ConferenceContents) (patches : List Patch) → SuitsIntent place (layout shape c) patches → SuitsIntent place (layout shape (outline c)) patches
suits_alike place shape c patches suits = record {
  within = suits.within;
  once = suits.once;
  ends = subst (λ (n : ℕ). All (λ patch. patch_offset patch + length (bytes_of patch) ≤ n) patches) (sym (files_size_alike shape c)) suits.ends;
  short = omega (arith, suits.short, files_size_alike shape c);
}

pub costs_alike : (count : ℕ) (old : BaseFiles) (shape : Shape) (c : ConferenceContents) (patches : List Patch) → Costs count old (layout shape c) patches → Costs count old (layout shape (outline c)) patches
costs_alike count old shape c patches costs = record { few = costs.few; short = omega (arith, costs.short, files_size_alike shape c) }
