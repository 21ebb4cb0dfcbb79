-- The loop that adds messages to the threads of slots: the puts of links so far, and those of the messages that are left, are all.
use Rattle.std.proofs.Common.{◌≡◌, ℕ, ◌+◌, ◌<◌, ◌≤◌, ◌^◌, List, [], ◌∷◌, ◌++◌, length, take, drop, refl, sym, ap, ◌∙◌, subst, arith, append-nil}
use Rattle.std.proofs.lemmas.List.{drop_all, take_all, length-take}
use Rattle.intent_journal.specs.declared.patch.Patch.{Patch}
use Rattle.jam_writing.specs.jam_layout.Limits.{slot_limit}
use Rattle.jam_records.specs.declared.message.Message.{Message}
use Rattle.jam_records.specs.declared.message.Slot.{Slot}
use Rattle.jam_records.specs.declared.message.Slot.TheVariants.{Held}
use Rattle.jam_threads.specs.LinkChanges.{link_change, IsOlder}
use Rattle.jam_threads.specs.declared.link.LinkPatch.{LinkPatch}
use Rattle.jam_threads.proofs.ChangeLemmas.{is_change}
use Rattle.std.specs.Prelude.{IfSome, Option, Some}
use Rattle.jam_threads.specs.Threading.{AreThreads}
use Rattle.jam_threads.specs.declared.threads.Threads.{Threads}
use Rattle.jam_base.specs.Puts.{link_puts}
use Rattle.jam_base.specs.Slots.{slots_with_all}
use Rattle.jam_base.proofs.SlotChanges.{length_all}

-- ---- messages one after the other
pub all_more : (slots : List Slot) (messages : List Message) (m : Message) → slots_with_all slots (messages ++ m ∷ []) ≡ slots_with_all slots messages ++ Held m ∷ []
all_more slots [] m = refl
all_more slots (n ∷ messages) m = all_more (slots ++ Held n ∷ []) messages m

pub record LinksSoFar (place : ℕ) (slots : List Slot) (messages : List Message) (index : ℕ) (threads : Threads) (patches : List Patch) : Type 0 where
  pub are : AreThreads (slots_with_all slots (take index messages)) threads
  pub so_far : patches ++ link_puts place slots (slots_with_all slots (take index messages)) (drop index messages) ≡ link_puts place slots slots messages

same_count : (one other : List Slot) (threads : Threads) → AreThreads one threads → AreThreads other threads → length one ≡ length other
same_count one other threads are too =
    let first = are.chains.count in
    let second = too.chains.count in
    omega (arith, first, second)

pub few_slots : (place : ℕ) (slots : List Slot) (messages : List Message) (index : ℕ) (threads : Threads) (patches : List Patch) → LinksSoFar place slots messages index threads patches → index < length messages → length slots + length messages ≤ slot_limit
    → (now : List Slot) → AreThreads now threads → length now + 2 < 2 ^ 32
few_slots place slots messages index threads patches so_far within few now are =
    omega (arith, same_count now (slots_with_all slots (take index messages)) threads are so_far.are, length_all slots (take index messages), length-take index messages, few, within)

pub links_end : (place : ℕ) (slots : List Slot) (messages : List Message) (index : ℕ) (threads : Threads) (patches : List Patch) → length messages ≤ index → LinksSoFar place slots messages index threads patches
    → (patches ≡ link_puts place slots slots messages) × AreThreads (slots_with_all slots messages) threads
links_end place slots messages index threads patches none so_far = (
  sym (append-nil patches) ∙ (ap (λ (ms : List Message). patches ++ link_puts place slots (slots_with_all slots (take index messages)) ms) (sym (drop_all index messages none)) ∙ so_far.so_far),
  subst (λ (ms : List Message). AreThreads (slots_with_all slots ms) threads) (take_all index messages none) so_far.are,
)

-- a link that changes is of a message
pub some_number : (slots : List Slot) (m : Message) (replyid : List ℕ) (link : LinkPatch) → replyid ≡ m.replyid → Some link ≡ link_change slots replyid → 0 < link.number
some_number slots m replyid link same is =
    let older : IfSome (Some link) (IsOlder slots) = subst (λ (change : Option LinkPatch). IfSome change (IsOlder slots)) (sym (is ∙ ap (link_change slots) same)) (is_change slots m).older in
    older.some
