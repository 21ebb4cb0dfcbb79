-- The rules of the data files in their order: how many bytes they have together, the ledger, the files of each place, and
-- the highs of each user. What the ledger gives counts as its records stand, whether or not they are right.
use Rattle.std.specs.Prelude.{ℕ, zero, suc, ◌+◌, ◌-◌, List, [], ◌∷◌, ◌++◌, length, map, Bool, true, not, ◌&&◌, ◌==◌, nat_le, nat_lt}
use Rattle.std.specs.List.{list_all}
use Rattle.board_ledger.specs.LedgerTests.{ledger_read, ledger_tests}
use Rattle.board_ledger.specs.Valid.{today}
use Rattle.board_ledger.specs.damage_rules.Tests.{Tests, at_record, for_each, records_from}
use Rattle.board_ledger.specs.declared.user.User.{User}
use Rattle.board_ledger.specs.intent_journal.Patches.{HostFiles}
use Rattle.door_outside.specs.File.{ledger_file, jhr_file, jdt_file, jdx_file, jlr_file}
use Rattle.jam_base.specs.Change.{files_of_place}
use Rattle.jam_base.specs.jam_layout.BaseTests.{base_tests}
use Rattle.jam_base.specs.jam_layout.declared.shape.Shape.{Shape}
use Rattle.jam_records.specs.declared.damage.DamageRule.TheVariants.{Size, Rest, High}
use Rattle.board_layout.specs.Board.{shapes_of}
use Rattle.board_layout.specs.Damage.{size_limit}
use Rattle.board_layout.specs.Layout.{data_size}

-- the files of a conference
abbrev pub place_tests : HostFiles → List Shape → Shape → Tests
place_tests files before shape = base_tests shape (files_of_place shape.place files)

-- a file past the conferences is empty
abbrev pub empty_test : HostFiles → ℕ → Tests
empty_test files file = at_record file 0 ((Rest, not (length (files file) == 0)) ∷ [])

-- so are the four of so many places, from one on
abbrev pub empty_tests : HostFiles → ℕ → ℕ → Tests
empty_tests files place zero = []
empty_tests files place (suc n) =
    empty_test files (jhr_file place) ++ (empty_test files (jdt_file place) ++ (empty_test files (jdx_file place) ++ (empty_test files (jlr_file place) ++ empty_tests files (place + 1) n)))

-- the count of slots of a conference: of the records of its .JDX
abbrev pub jdx_count : HostFiles → Shape → ℕ
jdx_count files shape = length (records_from (λ here. 8) 0 (files (jdx_file shape.place)))

-- each high is at most the count of its conference
abbrev pub highs_within : List ℕ → List ℕ → Bool
highs_within [] highs = true
highs_within (count ∷ counts) [] = true
highs_within (count ∷ counts) (high ∷ highs) = nat_le high count && highs_within counts highs

-- so they are in each open offer of a user, whose record is behind those of the conferences and of the users before him
abbrev pub high_tests : List ℕ → List User → User → Tests
high_tests counts before u =
    at_record ledger_file (1 + length counts + length before) ((High, not (list_all (λ o. highs_within counts o.highs) u.offers)) ∷ [])

unfoldable pub board_tests : HostFiles → Tests
board_tests files =
    let ledger = today (ledger_read (files ledger_file)) in
    let conferences = length ledger.setup.conferences in
    let shapes = shapes_of ledger in
    at_record ledger_file 0 ((Size, nat_lt (size_limit (files ledger_file)) (data_size files)) ∷ [])
    ++ (ledger_tests (files ledger_file)
    ++ (for_each (place_tests files) [] shapes
    ++ (empty_tests files conferences (64 - conferences)
    ++ for_each (high_tests (map (jdx_count files) shapes)) [] ledger.users)))
