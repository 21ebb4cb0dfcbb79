-- What the words of `reply` and `compose` name.
use Rattle.std.specs.Prelude.{ℕ, List, Option}
use Rattle.cmd_entries.specs.OneWord.{file, folder, number}
use Rattle.cmd_entries.specs.Words.{four_words}
use Rattle.cmd_entries.specs.declared.writing.Writing.{Writing}

-- a folder, a number, a file and a reply packet
abbrev pub writing : List (List ℕ) → Option Writing
writing words = four_words folder number file file (λ folder number file rep. record { folder = folder; number = number; file = file; rep = rep }) words
