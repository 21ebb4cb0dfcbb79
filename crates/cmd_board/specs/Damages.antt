-- What is said of files that are no board's.
use Rattle.std.specs.Prelude.{ℕ, List, ◌++◌, codes, decimal}
use Rattle.entry_runs.specs.Entry.{Reply}
use Rattle.entry_runs.specs.declared.class.Class.TheVariants as class
use Rattle.jam_records.specs.DamageWord.{damage_word}
use Rattle.jam_records.specs.declared.damage.Damage.{Damage}

-- the file, the record and the rule
abbrev pub damage_line : Damage → List ℕ
damage_line d = codes "damaged " ++ (decimal d.file ++ (codes " " ++ (decimal d.item ++ (codes " " ++ (damage_word d.rule ++ codes "\n")))))

abbrev pub damaged : Damage → Reply
damaged d = record { text = damage_line d; class = class.Damaged }
