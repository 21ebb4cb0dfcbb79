-- .JDX: one record for each slot.
use Rattle.std.specs.Prelude.{ℕ, ◌+◌, ◌/◌, List, [], ◌∷◌, ◌++◌, length, Result, Bool, false, not, ◌||◌, ◌==◌, nat_lt, if◌then◌else◌}
use Rattle.name_crc.specs.JamCrc.{jam_crc}
use Rattle.jam_records.specs.record_numbers.Numbers.{u32_at}
use Rattle.jam_records.specs.IndexRecords.{index_text}
use Rattle.jam_records.specs.declared.index_record.IndexRecord.{IndexRecord}
use Rattle.jam_records.specs.declared.damage.Damage.{Damage}
use Rattle.jam_records.specs.declared.damage.DamageRule.TheVariants.{Short, Count, Index, Missing}
use Rattle.jam_records.specs.declared.message.Message.{Message}
use Rattle.jam_records.specs.declared.message.Slot.{Slot}
use Rattle.jam_records.specs.declared.message.Slot.TheVariants.{Gone, Held}
use Rattle.damage_rules.specs.Rules.{Rules, by_rules, ◌>>=◌}
use Rattle.door_outside.specs.File.{jdx_file}
use Rattle.damage_rules.specs.Walk.{WalkStep, walk}
use Rattle.jam_layout.specs.Headers.{header_size}
use Rattle.jam_layout.specs.Limits.{slot_limit}
use Rattle.jam_layout.specs.declared.entry.HeaderEntry.{HeaderEntry}

-- no message has the number
abbrev pub no_pair : IndexRecord
no_pair = record { to_crc = 0xFFFF_FFFF; offset = 0xFFFF_FFFF }

-- the message has its header at a place in .JHR
abbrev pub pair_of : Message → ℕ → IndexRecord
pair_of m at = record { to_crc = jam_crc m.to; offset = at }

-- the records of slots, of which the first held one has its header at a place
abbrev pub index_records : ℕ → List Slot → List ℕ
index_records at [] = []
index_records at (Gone ∷ slots) = index_text no_pair ++ index_records at slots
index_records at (Held m ∷ slots) = index_text (pair_of m at) ++ index_records (at + header_size m) slots

-- before record j: where the next header stands, and the messages from it on
pub record Pending : Type 0 where
  pub item : ℕ
  pub at : ℕ
  pub entries : List HeaderEntry

-- a record that there should be, its slot, and what is behind it
pub record Expected : Type 0 where
  pub pair : IndexRecord
  pub slot : Slot
  pub next : Pending

abbrev pub none_here : ℕ → ℕ → List HeaderEntry → Expected
none_here j at entries = record { pair = no_pair; slot = Gone; next = record { item = j + 1; at = at; entries = entries } }

abbrev pub one_here : ℕ → ℕ → HeaderEntry → List HeaderEntry → Expected
one_here j at e entries = record {
  pair = pair_of e.message at;
  slot = Held e.message;
  next = record { item = j + 1; at = at + header_size e.message; entries = entries };
}

-- the first of the messages has this number
abbrev pub is_next : ℕ → List HeaderEntry → Bool
is_next number [] = false
is_next number (e ∷ entries) = e.number == number

-- record j is that of the message of number j + 1, if there is one
unfoldable pub expected_of : ℕ → ℕ → List HeaderEntry → Expected
expected_of j at [] = none_here j at []
expected_of j at (e ∷ entries) = if e.number == j + 1 then one_here j at e entries else none_here j at (e ∷ entries)

abbrev pub expected : Pending → Expected
expected s = expected_of s.item s.at s.entries

-- the rules of the record at the front of what is left
abbrev pub index_rules : IndexRecord → List ℕ → Rules
index_rules pair bytes =
    (Short, nat_lt (length bytes) 8)
    ∷ (Index, not (u32_at 0 bytes == pair.to_crc) || not (u32_at 4 bytes == pair.offset))
    ∷ []

unfoldable pub slot_at : ℕ → Pending → List ℕ → Result (WalkStep Pending Slot) Damage
slot_at place s bytes =
    by_rules (jdx_file place) s.item (index_rules (expected s).pair bytes) (record { value = (expected s).slot; size = 8; next = (expected s).next })

-- the slots that hold these messages, the first of which has its header at a place
unfoldable pub slots_at : ℕ → ℕ → List HeaderEntry → List ℕ → Result (List Slot) Damage
slots_at place at entries bytes = do
  few ← by_rules (jdx_file place) 0 ((Count, nat_lt slot_limit (length bytes / 8)) ∷ []) (tt {0})
  found ← walk (slot_at place) (record { item = 0; at = at; entries = entries }) bytes
  by_rules (jdx_file place) found.1.item ((Missing, not (length found.1.entries == 0)) ∷ []) found.0
