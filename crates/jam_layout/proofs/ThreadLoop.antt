-- Threads of the entries so far.
use Rattle.std.proofs.Common.{◌≡◌, ℕ, ◌+◌, ◌-◌, ◌^◌, ◌≤◌, ◌<◌, List, [], ◌∷◌, ◌++◌, length, length-append, get_or, drop, replicate, refl, sym, ap, ◌∙◌, subst, arith}
use Rattle.std.proofs.Math.ListN.{length-replicate}
use Rattle.std.proofs.lemmas.List.{drop_more}
use Rattle.jam_records.specs.declared.message.Message.{Message}
use Rattle.jam_records.specs.declared.message.Slot.{Slot}
use Rattle.jam_records.specs.declared.message.Slot.TheVariants.{Gone, Held}
use Rattle.jam_threads.specs.Threading.{AreThreads, AreOfSlots}
use Rattle.jam_threads.specs.declared.threads.Threads.{Threads}
use Rattle.jam_layout.specs.Limits.{slot_limit}
use Rattle.jam_layout.specs.SecondPass.{slots_of, Numbered}
use Rattle.jam_layout.specs.declared.entry.HeaderEntry.{HeaderEntry}
use Rattle.jam_layout.proofs.SecondPassLoops.{SoFar, slots_more, slots_done, some_number}

-- the threads are those of the slots of the entries so far
pub record Threaded (threads : Threads) (j : ℕ) (entries : List HeaderEntry) : Type 0 where
  pub slots : List Slot
  pub are : AreThreads slots threads
  pub so_far : SoFar slots j entries

pub none_threaded : (threads : Threads) (entries : List HeaderEntry) → Numbered 0 entries → AreThreads [] threads → Threaded threads 0 entries
none_threaded threads entries numbered are = record { slots = []; are = are; so_far = record { made = refl; left = numbered } }

pub of_slots : (threads : Threads) (j : ℕ) (entries : List HeaderEntry) → Threaded threads j entries → AreOfSlots threads
of_slots threads j entries t = record { slots = t.slots; are = t.are }

-- what the number of the next entry is
pub record Next (e : HeaderEntry) : Type 0 where
  pub some : 1 ≤ e.number
  pub few : e.number ≤ slot_limit

pub next_number : (threads : Threads) (j : ℕ) (entries : List HeaderEntry) (e : HeaderEntry) → drop j entries ≡ e ∷ drop (j + 1) entries → Threaded threads j entries → Next e
next_number threads j entries e is t =
    let numbered : Numbered (length t.slots) (e ∷ drop (j + 1) entries) = subst (Numbered (length t.slots)) is t.so_far.left in
    record { some = some_number t.slots j entries e is t.so_far; few = numbered.1 }

pub entry_is : (entries : List HeaderEntry) (j : ℕ) (e : HeaderEntry) → j < length entries → e ≡ get_or entries j e → drop j entries ≡ e ∷ drop (j + 1) entries
entry_is entries j e within is = drop_more entries j e within ∙ ap (λ (x : HeaderEntry). x ∷ drop (j + 1) entries) (sym is)

-- the slots before the next entry
abbrev pub filled : (threads : Threads) (j : ℕ) (entries : List HeaderEntry) (e : HeaderEntry) → Threaded threads j entries → List Slot
filled threads j entries e t = t.slots ++ replicate (e.number - 1 - length t.slots) Gone

pub threaded_more : (old full new : Threads) (j : ℕ) (entries : List HeaderEntry) (e : HeaderEntry) → drop j entries ≡ e ∷ drop (j + 1) entries → (t : Threaded old j entries) → AreThreads (filled old j entries e t ++ Held e.message ∷ []) new → Threaded new (j + 1) entries
threaded_more old full new j entries e is t are = record {
  slots = filled old j entries e t ++ Held e.message ∷ [];
  are = are;
  so_far = slots_more t.slots (filled old j entries e t) (filled old j entries e t ++ Held e.message ∷ []) j entries e e.message is refl refl refl t.so_far;
}

pub few_filled : (old full : Threads) (j : ℕ) (entries : List HeaderEntry) (e : HeaderEntry) → drop j entries ≡ e ∷ drop (j + 1) entries → (t : Threaded old j entries) → AreThreads (filled old j entries e t) full → (slots : List Slot) → AreThreads slots full → length slots + 2 < 2 ^ 32
few_filled old full j entries e is t made slots are =
    let numbered : Numbered (length t.slots) (e ∷ drop (j + 1) entries) = subst (Numbered (length t.slots)) is t.so_far.left in
    let lt : length t.slots < e.number = numbered.0 in
    let few : e.number ≤ slot_limit = numbered.1 in
    let gones : List Slot = replicate (e.number - 1 - length t.slots) Gone in
    omega (arith, made.chains.count, are.chains.count, length-append t.slots gones, length-replicate {A = Slot} (e.number - 1 - length t.slots) Gone, lt, few)

pub threaded_done : (threads : Threads) (j : ℕ) (entries : List HeaderEntry) → length entries ≤ j → Threaded threads j entries → AreThreads (slots_of 1 entries) threads
threaded_done threads j entries le t = subst (λ (xs : List Slot). AreThreads xs threads) (slots_done t.slots j entries le t.so_far) t.are
