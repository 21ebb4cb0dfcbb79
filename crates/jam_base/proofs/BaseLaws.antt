-- What a base is made of, and how many bytes its files have.
use Rattle.std.proofs.Common.{◌≡◌, ◌==◌, false, ℕ, zero, suc, ◌+◌, ◌*◌, ◌-◌, ◌<◌, ◌≤◌, List, [], ◌∷◌, ◌++◌, length, get_or, refl, sym, ap, ◌∙◌, subst, arith}
use Rattle.std.specs.Prelude.{sum_by}
use Rattle.std.proofs.Math.ListN.{set}
use Rattle.std.proofs.lemmas.List.Sums.{sum_by-cons, sum_by-append}
use Rattle.jam_records.specs.declared.message.Message.{Message}
use Rattle.jam_records.specs.declared.message.Slot.{Slot}
use Rattle.jam_records.specs.declared.message.Slot.TheVariants.{Gone, Held}
use Rattle.jam_threads.specs.Chains.{last_in}
use Rattle.jam_threads.specs.Threading.{AreThreads}
use Rattle.jam_threads.specs.declared.link.Link.{Link}
use Rattle.jam_threads.specs.declared.threads.Threads.{Threads}
use Rattle.jam_writing.specs.jam_layout.Layout.{layout, files_size}
use Rattle.jam_writing.specs.jam_layout.Sizes.{slot_header, slot_size}
use Rattle.jam_writing.specs.jam_layout.Valid.{IsShape, IsConference}
use Rattle.jam_writing.specs.jam_layout.declared.conference.ConferenceContents.{ConferenceContents}
use Rattle.jam_writing.specs.jam_layout.declared.shape.Shape.{Shape}
use Rattle.jam_writing.proofs.jam_layout.SlotSizes.{size_is}
use Rattle.jam_writing.specs.jam_layout.Bodies.{body_size}
use Rattle.jam_base.specs.Contents.{Contents, with_messages, with_slots}
use Rattle.jam_base.specs.Slots.{slot_deleted, slots_deleted, slots_received, slots_with_all}
use Rattle.jam_base.specs.declared.receipt.Receipt.{Receipt}
use Rattle.jam_base.proofs.SameLinks.{AllSame, length_same, first_same, children_same, links_same, set_same, deleted_same, all_received_same}
use Rattle.jam_base.proofs.SlotChanges.{numbered_is}

-- parts that are those of a shape and a conference by other names
pub made_of : (shape made : Shape) (c : ConferenceContents) (counter : ℕ) (slots : List Slot) (pointers : List ℕ) (threads kept : Threads) → made ≡ shape → counter ≡ c.counter → slots ≡ c.slots → pointers ≡ c.pointers → threads ≡ kept
    → IsShape shape → IsConference shape c → AreThreads c.slots kept
    → IsShape made × IsConference made (record { counter = counter; slots = slots; pointers = pointers }) × AreThreads slots threads
made_of shape made c counter slots pointers threads kept made_is counter_is slots_are pointers_are threads_are is_shape is_conference are =
    let whole : c ≡ record { counter = counter; slots = slots; pointers = pointers } = λ i. record { counter = sym counter_is i; slots = sym slots_are i; pointers = sym pointers_are i } in (
      subst IsShape (sym made_is) is_shape,
      subst (λ (s : Shape). IsConference s (record { counter = counter; slots = slots; pointers = pointers })) (sym made_is) (subst (IsConference shape) whole is_conference),
      subst (λ (t : Threads). AreThreads slots t) (sym threads_are) (subst (λ (xs : List Slot). AreThreads xs kept) (sym slots_are) are),
    )

-- slots of the same ids have the same threads
pub threads_same : (ss ts : List Slot) → AllSame ss ts → (threads : Threads) → AreThreads ss threads → AreThreads ts threads
threads_same ss ts same threads are =
    let len = length_same ss ts same in
    record {
      few = omega (arith, are.few, len);
      firsts = λ id. are.firsts id ∙ sym (first_same id ss ts same);
      chains = record {
        count = are.chains.count ∙ sym len;
        count_lasts = are.chains.count_lasts ∙ sym len;
        link = λ place other within. are.chains.link place other (omega (arith, within, len)) ∙ sym (ap (λ (f : ℕ → Link). f (suc place)) (links_same ss ts same));
        last = λ place within. are.chains.last place (omega (arith, within, len)) ∙ sym (ap last_in (children_same ss ts same (suc place)));
      };
    }

pub deleted_threads : (slots new : List Slot) (number : ℕ) → new ≡ slots_deleted number slots → 0 < number → number ≤ length slots → (threads : Threads) → AreThreads slots threads → AreThreads new threads
deleted_threads slots new number is above within threads are =
    let s : Slot = get_or slots (number - 1) Gone in
    let same : new ≡ set slots (number - 1) (slot_deleted s) = is ∙ ap (λ (x : Slot). set slots (number - 1) (slot_deleted x)) (numbered_is slots number above) in
    subst (λ (xs : List Slot). AreThreads xs threads) (sym same)
    (threads_same slots (set slots (number - 1) (slot_deleted s)) (set_same slots (number - 1) Gone (slot_deleted s) (omega (arith, above, within)) (deleted_same s)) threads are)

pub received_threads : (slots new : List Slot) (name : List ℕ) (r : Receipt) → new ≡ slots_received name r 1 slots → (threads : Threads) → AreThreads slots threads → AreThreads new threads
received_threads slots new name r is threads are =
    subst (λ (xs : List Slot). AreThreads xs threads) (sym is) (threads_same slots (slots_received name r 1 slots) (all_received_same name r 1 slots) threads are)

-- ---- sizes
slots_apart : (slots : List Slot) → sum_by slot_size slots ≡ 8 * length slots + (sum_by slot_header slots + sum_by body_size slots)
slots_apart [] = omega arith
slots_apart (Gone ∷ slots) = omega (arith, slots_apart slots, sum_by-cons slot_size Gone slots, sum_by-cons slot_header Gone slots, sum_by-cons body_size Gone slots)
slots_apart (Held m ∷ slots) = omega (arith, slots_apart slots, sum_by-cons slot_size (Held m) slots, sum_by-cons slot_header (Held m) slots, sum_by-cons body_size (Held m) slots)

-- the headers, the bodies, the index and the pointers
pub size_apart : (shape : Shape) (c : ConferenceContents) → IsConference shape c
    → files_size (layout shape c) ≡ (((1024 + sum_by slot_header c.slots) + sum_by body_size c.slots) + 8 * length c.slots) + 16 * length shape.readers
size_apart shape c ok = omega (arith, size_is shape c ok, slots_apart c.slots)

-- ---- messages more
-- of messages more, none is too long that isn't so behind all others
more_than : (size : Slot → ℕ) (slots : List Slot) (messages : List Message) → sum_by size slots ≤ sum_by size (slots_with_all slots messages)
more_than size slots [] = omega arith
more_than size slots (m ∷ messages) = omega (arith, more_than size (slots ++ Held m ∷ []) messages, sum_by-append size slots (Held m ∷ []), sum_by-cons size (Held m) [])

pub next_fits : (size : Slot → ℕ) (slots all : List Slot) (m : Message) (messages : List Message) → slots_with_all slots (m ∷ messages) ≡ all → sum_by size slots + size (Held m) ≤ sum_by size all
next_fits size slots all m messages is =
    omega (arith, ap (sum_by size) is, more_than size (slots ++ Held m ∷ []) messages, sum_by-append size slots (Held m ∷ []), sum_by-cons size (Held m) [])

pub some_more : (messages : List Message) (base : Contents) → 0 < length messages → with_messages messages base ≡ with_slots (slots_with_all base.conference.slots messages) base
some_more [] base some = absurd (omega (arith, some))
some_more (m ∷ messages) base some = refl

pub not_none : (count : ℕ) → (count == 0) ≡ false → 0 < count
not_none zero is = absurd (cc)
not_none (suc n) is = omega arith
