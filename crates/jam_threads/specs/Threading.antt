-- What a value of `Threads` is, of a list of slots.
use Rattle.std.specs.Prelude.{ℕ, ◌+◌, ◌≤◌, ◌<◌, ◌^◌, List, length, vec_capacity, vec_len}
use Rattle.jam_records.specs.declared.message.Slot.{Slot}
use Rattle.jam_threads.specs.Chains.{AreFirsts, AreChains}
use Rattle.jam_threads.specs.FirstNumbers.{kept_number}
use Rattle.jam_threads.specs.declared.threads.Threads.{Threads}

-- the threads of these slots: the first message of each id, the links of each message, and its last child
pub record AreThreads (slots : List Slot) (threads : Threads) : Type 0 where
  pub few : length slots + 1 < 2 ^ 32
  pub firsts : AreFirsts slots (kept_number threads.firsts)
  pub chains : AreChains slots threads.links.items threads.last_answers.items

-- they are those of some slots
pub record AreOfSlots (threads : Threads) : Type 0 where
  pub slots : List Slot
  pub are : AreThreads slots threads

-- the links of so many slots more need no memory
abbrev pub HasRoom : ℕ → Threads → Type 0
HasRoom count threads = (vec_len threads.links + count ≤ vec_capacity threads.links) × (vec_len threads.last_answers + count ≤ vec_capacity threads.last_answers)
