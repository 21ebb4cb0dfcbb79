-- The numbers of a host's files: the ledger, the journal, and the four files of the conference in each place.
use Rattle.std.specs.Prelude.{ℕ, ◌+◌, ◌*◌, Bool, not, ◌&&◌, ◌==◌, nat_lt}

abbrev pub file_count : ℕ
file_count = 258

abbrev pub ledger_file : ℕ
ledger_file = 0

abbrev pub journal_file : ℕ
journal_file = 1

abbrev pub jhr_file : ℕ → ℕ
jhr_file place = 2 + 4 * place

abbrev pub jdt_file : ℕ → ℕ
jdt_file place = 3 + 4 * place

abbrev pub jdx_file : ℕ → ℕ
jdx_file place = 4 + 4 * place

abbrev pub jlr_file : ℕ → ℕ
jlr_file place = 5 + 4 * place

-- whether it is one of the 257 data files, which are all but the journal
abbrev pub is_data_file : ℕ → Bool
is_data_file file = nat_lt file file_count && not (file == journal_file)
