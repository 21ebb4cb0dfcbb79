-- What is said of words that are no command.
use Rattle.std.specs.Prelude.{ℕ, List, ◌++◌, codes, decimal}
use Rattle.entry_runs.specs.Entry.{Reply}
use Rattle.entry_runs.specs.declared.class.Class.TheVariants as class
use Rattle.cmd_entries.specs.declared.entry.Usage.{Usage}
use Rattle.cmd_entries.specs.declared.entry.Usage.TheVariants.{Words, Line}

abbrev pub usage_line : Usage → List ℕ
usage_line Words = codes "usage\n"
usage_line (Line line) = codes "usage line " ++ (decimal line ++ codes "\n")

abbrev pub usage : Usage → Reply
usage words = record { text = usage_line words; class = class.Usage }
