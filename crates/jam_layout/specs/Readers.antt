-- .JLR: one record for each reader, in rising id.
use Rattle.std.specs.Prelude.{ℕ, ◌+◌, List, [], ◌∷◌, ◌++◌, length, drop, Result, Ok, not, ◌||◌, ◌==◌, nat_lt}
use Rattle.name_crc.specs.JamCrc.{jam_crc}
use Rattle.jam_records.specs.record_numbers.Numbers.{u32_at}
use Rattle.jam_records.specs.LastReads.{last_text}
use Rattle.jam_records.specs.declared.last_read.LastRead.{LastRead}
use Rattle.jam_records.specs.declared.damage.Damage.{Damage}
use Rattle.jam_records.specs.declared.damage.DamageRule.TheVariants.{Short, Reader as WrongReader, Pointer, Rest}
use Rattle.damage_rules.specs.Rules.{Rules, by_rules, ◌>>=◌}
use Rattle.door_outside.specs.File.{jlr_file}
use Rattle.jam_layout.specs.declared.reader.Reader.{Reader}

-- the record of a reader with this pointer
abbrev pub last_read : Reader → ℕ → LastRead
last_read reader pointer = record { user_crc = jam_crc reader.name; user_id = reader.id; last = pointer; high = pointer }

abbrev pub last_reads : List Reader → List ℕ → List ℕ
last_reads [] pointers = []
last_reads (r ∷ readers) [] = []
last_reads (r ∷ readers) (p ∷ pointers) = last_text (last_read r p) ++ last_reads readers pointers

-- the rules of a reader's record, at the front of what is left, where there are `count` slots
abbrev pub reader_rules : ℕ → Reader → List ℕ → Rules
reader_rules count reader bytes =
    (Short, nat_lt (length bytes) 16)
    ∷ (WrongReader, not (u32_at 0 bytes == jam_crc reader.name) || not (u32_at 4 bytes == reader.id))
    ∷ (Pointer, not (u32_at 8 bytes == u32_at 12 bytes) || nat_lt count (u32_at 8 bytes))
    ∷ []

-- the pointers of the readers from the one of record j on, whose records are all that is left
abbrev pub pointers_at : ℕ → ℕ → ℕ → List Reader → List ℕ → Result (List ℕ) Damage
pointers_at place count j [] bytes = by_rules (jlr_file place) j ((Rest, not (length bytes == 0)) ∷ []) []
pointers_at place count j (r ∷ readers) bytes = do
  pointer ← by_rules (jlr_file place) j (reader_rules count r bytes) (u32_at 8 bytes)
  others ← pointers_at place count (j + 1) readers (drop 16 bytes)
  Ok (pointer ∷ others)
