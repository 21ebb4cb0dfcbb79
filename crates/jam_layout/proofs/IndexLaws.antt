-- .JDX: the slots that are read are those of the layout, and the layout is read.
use Rattle.std.proofs.Common.{◌≡◌, ℕ, zero, suc, ◌+◌, ◌-◌, ◌^◌, ◌≤◌, ◌<◌, cond, true, false, not, eqb, Bool, List, [], ◌∷◌, ◌++◌, length, drop, Ok, refl, sym, ap, ◌∙◌, subst, arith}
use Rattle.std.specs.Prelude.{All}
use Rattle.std.proofs.lemmas.Bool.{ltb-false, le-ltb, eqb-true, eq-eqb}
use Rattle.std.proofs.lemmas.Bool.Decides.{nat_tests}
use Rattle.std.proofs.lemmas.List.Elements.{All-drop, All-cons, All-nil}
use Rattle.jam_records.specs.byte_lists.Byte.{IsByte}
use Rattle.name_crc.specs.JamCrc.{jam_crc}
use Rattle.jam_records.specs.record_numbers.Numbers.{u32_at, IsU32}
use Rattle.jam_records.specs.IndexRecords.{index_at, index_text}
use Rattle.jam_records.specs.declared.index_record.IndexRecord.{IndexRecord}
use Rattle.jam_records.specs.declared.message.Message.{Message}
use Rattle.jam_records.specs.declared.message.Slot.{Slot}
use Rattle.jam_records.specs.declared.message.Slot.TheVariants.{Gone, Held}
use Rattle.jam_records.proofs.HeaderLemmas.{index_stands}
use Rattle.jam_threads.specs.declared.link.Link.{Link}
use Rattle.damage_rules.specs.Rules.{by_rules, ◌>>=◌}
use Rattle.door_outside.specs.File.{jdx_file}
use Rattle.damage_rules.specs.Walk.{WalkStep, walk_from, walk}
use Rattle.jam_layout.specs.Headers.{header_size}
use Rattle.jam_layout.specs.Layout.{entries_of}
use Rattle.jam_layout.specs.Index.{index_records, Pending, Expected, none_here, one_here, expected_of, expected, index_rules, slot_at}
use Rattle.jam_layout.specs.declared.entry.HeaderEntry.{HeaderEntry}
use Rattle.damage_rules.proofs.KeptRules.{Kept, rules_kept, kept_rules, bind_ok, ok_is}
use Rattle.damage_rules.proofs.RecordWalks.{walk_more, walk_done, behind_first, drop_one}
use Rattle.jam_layout.proofs.RecordFronts.{index_front}
use Rattle.damage_rules.proofs.BoolTests.{or_false, both_false, equal, unequal}

abbrev no_bytes : List ℕ
no_bytes = []

drop_none : (n : ℕ) → drop n no_bytes ≡ no_bytes
drop_none zero = refl
drop_none (suc n) = refl

-- a record that keeps its rules is the pair
pair_takes : (pair : IndexRecord) (bytes : List ℕ) → All IsByte bytes → Kept (index_rules pair bytes) → bytes ≡ index_text pair ++ drop 8 bytes
pair_takes pair bytes fits k =
    let r = or_false (not (eqb (u32_at 0 bytes) pair.to_crc)) (not (eqb (u32_at 4 bytes) pair.offset)) k.1.0 in
    let crc : u32_at 0 bytes ≡ pair.to_crc = equal (u32_at 0 bytes) pair.to_crc r.0 in
    let at : u32_at 4 bytes ≡ pair.offset = equal (u32_at 4 bytes) pair.offset r.1 in
    let is : index_at bytes ≡ pair = λ i. record { to_crc = crc i; offset = at i } in
    index_front bytes fits (ltb-false _ _ k.0) ∙ ap (λ (x : IndexRecord). index_text x ++ drop 8 bytes) is

pair_again : (pair : IndexRecord) (rest : List ℕ) → pair.to_crc < 2 ^ 32 → pair.offset < 2 ^ 32 → Kept (index_rules pair (index_text pair ++ rest))
pair_again pair rest a b =
    let stands = index_stands pair rest (All-cons IsU32 pair.to_crc (pair.offset ∷ []) a (All-cons IsU32 pair.offset [] b (All-nil IsU32))) in
    let f = sym stands.fields in
    let crc : u32_at 0 (index_text pair ++ rest) ≡ pair.to_crc = ap (λ (x : IndexRecord). x.to_crc) f in
    let at : u32_at 4 (index_text pair ++ rest) ≡ pair.offset = ap (λ (x : IndexRecord). x.offset) f in
    (le-ltb _ _ stands.whole, (both_false _ _ (unequal _ _ crc) (unequal _ _ at), tt))

-- ---- what is expected of slots
pub chosen : (P : Expected → Type 0) (b : Bool) (x y : Expected) → (b ≡ true → P x) → (b ≡ false → P y) → P (cond b x y)
chosen P true x y f g = f refl
chosen P false x y f g = g refl

abbrev pub made : ℕ → Link → Message → HeaderEntry
made number link message = record { number = number; text_len = length message.body; link = link; message = message }

-- each entry has the links of its number, and the length of its body
abbrev pub Linked : (ℕ → Link) → List HeaderEntry → Type 0
Linked links [] = Unit {0}
Linked links (e ∷ es) = ((e.link ≡ links e.number) × (e.text_len ≡ length e.message.body)) × Linked links es

-- the record and the slots behind it are those of the messages
record Behind (links : ℕ → Link) (j at : ℕ) (entries : List HeaderEntry) (slots : List Slot) (x : Expected) : Type 0 where
  linked : Linked links x.next.entries
  item : x.next.item ≡ j + 1
  layout : index_text x.pair ++ index_records x.next.at slots ≡ index_records at (x.slot ∷ slots)
  numbered : entries_of links (j + 1 + 1) slots ≡ x.next.entries → entries_of links (j + 1) (x.slot ∷ slots) ≡ entries

same_entry : (links : ℕ → Link) (e : HeaderEntry) (n : ℕ) → e.number ≡ n → e.link ≡ links e.number → e.text_len ≡ length e.message.body → made n (links n) e.message ≡ e
same_entry links e n number link len =
    let l : links n ≡ e.link = ap links (sym number) ∙ sym link in
    λ i. record { number = sym number i; text_len = sym len i; link = l i; message = e.message }

one_slot : (links : ℕ → Link) (j at : ℕ) (entries : List HeaderEntry) (slots : List Slot) → Linked links entries → Behind links j at entries slots (expected_of j at entries)
unfolding expected_of
one_slot links j at [] slots linked = record { linked = tt; item = refl; layout = refl; numbered = λ e. e }
one_slot links j at (p ∷ entries) slots linked = chosen (Behind links j at (p ∷ entries) slots) (eqb p.number (j + 1)) (one_here j at p entries) (none_here j at (p ∷ entries))
    (λ is. record {
      linked = linked.1;
      item = refl;
      layout = refl;
      numbered = λ e i. same_entry links p (j + 1) (eqb-true p.number (j + 1) is) linked.0.0 linked.0.1 i ∷ e i;
    })
    (λ other. record { linked = linked; item = refl; layout = refl; numbered = λ e. e })

-- what is read is the layout of slots that hold the messages
pub slots_take : (links : ℕ → Link) (place left : ℕ) (s : Pending) (bytes : List ℕ) (slots : List Slot) (last : Pending) → All IsByte bytes → Linked links s.entries → last.entries ≡ [] → walk_from (slot_at place) left s bytes ≡ Ok (slots, last) → (drop left bytes ≡ index_records s.at slots) × (entries_of links (s.item + 1) slots ≡ s.entries)
unfolding walk_from slot_at
slots_take links place left s [] slots last fits linked none e =
    let x = ok_is ([], s) (slots, last) e in
    let nothing : [] ≡ slots = ap (λ (x : List Slot × Pending). x.0) x in
    let entries : s.entries ≡ [] = ap (λ (x : List Slot × Pending). x.1.entries) x ∙ none in
    subst (λ (xs : List Slot). (drop left no_bytes ≡ index_records s.at xs) × (entries_of links (s.item + 1) xs ≡ s.entries)) nothing (drop_none left, sym entries)
slots_take links place (suc left) s (b ∷ bytes) slots last fits linked none e = slots_take links place left s bytes slots last (All-drop IsByte 1 (b ∷ bytes) fits) linked none e
slots_take links place zero s (b ∷ bytes) slots last fits linked none e =
    let a = bind_ok (slot_at place s (b ∷ bytes)) (λ first. walk_from (slot_at place) (first.size - 1) first.next bytes >>= λ others. Ok (first.value ∷ others.0, others.1)) (slots, last) e in
    let d = bind_ok (walk_from (slot_at place) (a.0.size - 1) a.0.next bytes) (λ others. Ok (a.0.value ∷ others.0, others.1)) (slots, last) a.2 in
    let x : Expected = expected s in
    let k = rules_kept (jdx_file place) s.item (index_rules x.pair (b ∷ bytes)) (record { value = x.slot; size = 8; next = x.next }) a.0 a.1 in
    let whole = ok_is (a.0.value ∷ d.0.0, d.0.1) (slots, last) d.2 in
    let all : a.0.value ∷ d.0.0 ≡ slots = ap (λ (x : List Slot × Pending). x.0) whole in
    let end : d.0.1.entries ≡ [] = ap (λ (x : List Slot × Pending). x.1.entries) whole ∙ none in
    let one : Behind links s.item s.at s.entries d.0.0 x = one_slot links s.item s.at s.entries d.0.0 linked in
    let value : x.slot ≡ a.0.value = ap (λ (y : WalkStep Pending Slot). y.value) k.1 in
    let size : 8 ≡ a.0.size = ap (λ (y : WalkStep Pending Slot). y.size) k.1 in
    let next : x.next ≡ a.0.next = ap (λ (y : WalkStep Pending Slot). y.next) k.1 in
    let others = slots_take links place (a.0.size - 1) a.0.next bytes d.0.0 d.0.1 (All-drop IsByte 1 (b ∷ bytes) fits) (subst (λ (p : Pending). Linked links p.entries) next one.linked) end d.1 in
    let entries : entries_of links (s.item + 1 + 1) d.0.0 ≡ x.next.entries = ap (λ n. entries_of links (n + 1) d.0.0) (sym one.item) ∙ (ap (λ (p : Pending). entries_of links (p.item + 1) d.0.0) next ∙ (others.1 ∙ ap (λ (p : Pending). p.entries) (sym next))) in
    let rest : drop 8 (b ∷ bytes) ≡ index_records x.next.at d.0.0 = ap (λ n. drop n (b ∷ bytes)) size ∙ (sym (drop_one a.0.size b bytes (omega (arith, size))) ∙ (others.0 ∙ ap (λ (p : Pending). index_records p.at d.0.0) (sym next))) in
    let text : b ∷ bytes ≡ index_records s.at (x.slot ∷ d.0.0) = pair_takes x.pair (b ∷ bytes) fits k.0 ∙ (ap (λ xs. index_text x.pair ++ xs) rest ∙ one.layout) in
    subst (λ (xs : List Slot). (b ∷ bytes ≡ index_records s.at xs) × (entries_of links (s.item + 1) xs ≡ s.entries)) (ap (λ (y : Slot). y ∷ d.0.0) value ∙ all) (text, one.numbered entries)

-- ---- the layout is read again
-- places and checksums are numbers of four bytes
abbrev pub RoomFor : ℕ → List Slot → Type 0
RoomFor at [] = Unit {0}
RoomFor at (Gone ∷ slots) = RoomFor at slots
RoomFor at (Held m ∷ slots) = (at < 2 ^ 32) × (jam_crc m.to < 2 ^ 32) × RoomFor (at + header_size m) slots

-- the number of the first message is at least that of the first slot
pub first_number : (links : ℕ → Link) (n : ℕ) (slots : List Slot) (e : HeaderEntry) (entries : List HeaderEntry) → entries_of links n slots ≡ e ∷ entries → n ≤ e.number
first_number links n [] e entries is = absurd cc
first_number links n (Gone ∷ slots) e entries is = omega (arith, first_number links (n + 1) slots e entries is)
first_number links n (Held m ∷ slots) e entries is = let h : made n (links n) m ≡ e = cc in omega (arith, ap (λ (q : HeaderEntry). q.number) h)

expected_gone : (links : ℕ → Link) (j at : ℕ) (entries : List HeaderEntry) (slots : List Slot) → entries_of links (j + 1 + 1) slots ≡ entries → expected_of j at entries ≡ none_here j at entries
unfolding expected_of
expected_gone links j at [] slots e = refl
expected_gone links j at (p ∷ entries) slots e =
    let more : j + 1 + 1 ≤ p.number = first_number links (j + 1 + 1) slots p entries e in
    let other : eqb p.number (j + 1) ≡ false = grind (arith, nat_tests) in
    ap (λ b. cond b (one_here j at p entries) (none_here j at (p ∷ entries))) other

pub expected_held : (j at : ℕ) (p : HeaderEntry) (entries : List HeaderEntry) → p.number ≡ j + 1 → expected_of j at (p ∷ entries) ≡ one_here j at p entries
unfolding expected_of
expected_held j at p entries e = ap (λ b. cond b (one_here j at p entries) (none_here j at (p ∷ entries))) (eq-eqb p.number (j + 1) e)

behind_pair : (pair : IndexRecord) (rest : List ℕ) → drop 8 (index_text pair ++ rest) ≡ rest
unfolding index_text
behind_pair pair rest = refl

pair_some : (pair : IndexRecord) (rest : List ℕ) → 0 < length (index_text pair ++ rest)
unfolding index_text
pair_some pair rest = omega arith

-- one record of the layout
record_again : (place : ℕ) (s : Pending) (x : Expected) (rest : List ℕ) → expected s ≡ x → x.pair.to_crc < 2 ^ 32 → x.pair.offset < 2 ^ 32
    → walk (slot_at place) s (index_text x.pair ++ rest) ≡ behind_first x.slot (walk (slot_at place) x.next rest)
unfolding slot_at
record_again place s x rest is a b =
    let bytes : List ℕ = index_text x.pair ++ rest in
    let found : WalkStep Pending Slot = record { value = x.slot; size = 8; next = x.next } in
    let one : by_rules (jdx_file place) s.item (index_rules (expected s).pair bytes) (record { value = (expected s).slot; size = 8; next = (expected s).next }) ≡ Ok found =
    ap (λ (y : Expected). by_rules (jdx_file place) s.item (index_rules y.pair bytes) (record { value = y.slot; size = 8; next = y.next })) is
    ∙ kept_rules (jdx_file place) s.item (index_rules x.pair bytes) found (pair_again x.pair rest a b) in
    walk_more (slot_at place) s bytes found (pair_some x.pair rest) one (omega arith) ∙ ap (λ xs. behind_first x.slot (walk (slot_at place) x.next xs)) (behind_pair x.pair rest)

pub slots_again : (links : ℕ → Link) (place j at : ℕ) (slots : List Slot) → RoomFor at slots → (last : Pending) × (walk (slot_at place) (record { item = j; at = at; entries = entries_of links (j + 1) slots }) (index_records at slots) ≡ Ok (slots, last)) × (last.entries ≡ [])
slots_again links place j at [] room = (record { item = j; at = at; entries = [] }, walk_done (slot_at place) (record { item = j; at = at; entries = [] }) [] refl, refl)
slots_again links place j at (Gone ∷ slots) room =
    let entries : List HeaderEntry = entries_of links (j + 1 + 1) slots in
    let r = slots_again links place (j + 1) at slots room in
    let one = record_again place (record { item = j; at = at; entries = entries }) (none_here j at entries) (index_records at slots) (expected_gone links j at entries slots refl) (omega arith) (omega arith) in
    (r.0, one ∙ ap (behind_first Gone) r.1, r.2)
slots_again links place j at (Held m ∷ slots) room =
    let entries : List HeaderEntry = entries_of links (j + 1 + 1) slots in
    let p : HeaderEntry = made (j + 1) (links (j + 1)) m in
    let r = slots_again links place (j + 1) (at + header_size m) slots room.2 in
    let one = record_again place (record { item = j; at = at; entries = p ∷ entries }) (one_here j at p entries) (index_records (at + header_size m) slots) (expected_held j at p entries refl) room.1 room.0 in
    (r.0, one ∙ ap (behind_first (Held m)) r.1, r.2)
