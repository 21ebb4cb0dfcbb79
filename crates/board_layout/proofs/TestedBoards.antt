-- The data files are read as their flat list of rules says.
use Rattle.std.proofs.Common.{◌≡◌, ℕ, zero, suc, ◌+◌, ◌-◌, eqb, not, Bool, ◌&&◌, List, [], ◌∷◌, ◌++◌, length, Result, Ok, refl, ap, ◌∙◌, arith, append_assoc, length-append}
use Rattle.std.specs.Prelude.{map, nat_le, nat_lt}
use Rattle.std.specs.List.{list_all}
use Rattle.std.proofs.lemmas.List.{length-map}
use Rattle.board_ledger.proofs.TestedLedgers.{ledger_tested}
use Rattle.board_ledger.proofs.damage_rules.TestLists.{by_tests, rules_listed, then_gives, value_listed, IsTested}
use Rattle.board_ledger.specs.Ledger.{ledger_of}
use Rattle.board_ledger.specs.LedgerTests.{ledger_read, ledger_tests}
use Rattle.board_ledger.specs.Valid.{today}
use Rattle.board_ledger.specs.damage_rules.Rules.{Rules, by_rules, ◌>>=◌}
use Rattle.board_ledger.specs.damage_rules.Tests.{Tests, at_record, for_each}
use Rattle.board_ledger.specs.declared.ledger.Ledger.{Ledger}
use Rattle.board_ledger.specs.declared.user.User.{User}
use Rattle.board_ledger.specs.intent_journal.Patches.{HostFiles}
use Rattle.board_ledger.specs.open_offers.declared.offer.OpenOffer.{OpenOffer}
use Rattle.board_ledger.specs.setup_file.declared.conference.Conference.{Conference as SetupConference}
use Rattle.door_outside.specs.File.{ledger_file, jhr_file, jdt_file, jdx_file, jlr_file}
use Rattle.jam_base.specs.Change.{files_of_place}
use Rattle.jam_base.specs.jam_layout.Layout.{conference_of}
use Rattle.jam_base.specs.jam_layout.declared.conference.ConferenceContents.{ConferenceContents}
use Rattle.jam_base.specs.jam_layout.declared.shape.Shape.{Shape}
use Rattle.jam_records.specs.declared.damage.Damage.{Damage}
use Rattle.jam_records.specs.declared.damage.DamageRule.TheVariants.{Size, Rest, High}
use Rattle.board_layout.specs.Board.{Board, shapes_from, shapes_of}
use Rattle.board_layout.specs.BoardTests.{place_tests, empty_test, empty_tests, jdx_count, highs_within, high_tests, board_tests}
use Rattle.board_layout.specs.Damage.{conferences_of, is_rest, is_rest_place, are_rest, highs_of, parts_behind, parts_of, size_limit, board_of}
use Rattle.board_layout.specs.Layout.{data_size}
use Rattle.board_layout.specs.Valid.{highs_fit, offers_fit}
use Rattle.board_layout.proofs.jam_layout.TestedBases.{base_tested}

abbrev one : Unit {0}
one = tt {0}

-- ---- the conferences
conference_read : HostFiles → Shape → ConferenceContents
conference_read files shape = (base_tested shape (files_of_place shape.place files)).tested.value

conferences_listed : (files : HostFiles) (shapes before : List Shape) → conferences_of shapes files ≡ by_tests (for_each (place_tests files) before shapes) (map (conference_read files) shapes)
unfolding conference_read
conferences_listed files [] before = refl
conferences_listed files (shape ∷ shapes) before =
    let c : ConferenceContents = conference_read files shape in
    let others : Tests = for_each (place_tests files) (before ++ shape ∷ []) shapes in
    let next = λ (found : ConferenceContents). conferences_of shapes files >>= λ (cs : List ConferenceContents). Ok (found ∷ cs) in
    let behind : next c ≡ by_tests others (c ∷ map (conference_read files) shapes) =
    ap (λ (r : Result (List ConferenceContents) Damage). r >>= λ (cs : List ConferenceContents). Ok (c ∷ cs)) (conferences_listed files shapes (before ++ shape ∷ []))
    ∙ value_listed others (map (conference_read files) shapes) (λ (cs : List ConferenceContents). c ∷ cs) in
    then_gives (place_tests files before shape) others c (c ∷ map (conference_read files) shapes) (conference_of shape (files_of_place shape.place files)) next
    (base_tested shape (files_of_place shape.place files)).tested.is behind

abbrev slots_in : List ConferenceContents → List ℕ
slots_in conferences = map (λ c. length c.slots) conferences

slots_counted : (files : HostFiles) (shapes : List Shape) → slots_in (map (conference_read files) shapes) ≡ map (jdx_count files) shapes
unfolding conference_read
slots_counted files [] = refl
slots_counted files (shape ∷ shapes) = λ i. (base_tested shape (files_of_place shape.place files)).slots i ∷ slots_counted files shapes i

-- ---- the places past them
empty_listed : (files : HostFiles) (file : ℕ) → is_rest file files ≡ by_tests (empty_test files file) one
empty_listed files file = rules_listed file 0 ((Rest, not (eqb (length (files file)) 0)) ∷ []) one

regroup : (a b c d e : Tests) → (a ++ (b ++ (c ++ d))) ++ e ≡ a ++ (b ++ (c ++ (d ++ e)))
regroup a b c d e = simp append_assoc

abbrev empty_place : HostFiles → ℕ → Tests
empty_place files place = empty_test files (jhr_file place) ++ (empty_test files (jdt_file place) ++ (empty_test files (jdx_file place) ++ empty_test files (jlr_file place)))

place_listed : (files : HostFiles) (place : ℕ) → is_rest_place place files ≡ by_tests (empty_place files place) one
unfolding is_rest_place
place_listed files place =
    let jhr : Tests = empty_test files (jhr_file place) in
    let jdt : Tests = empty_test files (jdt_file place) in
    let jdx : Tests = empty_test files (jdx_file place) in
    let jlr : Tests = empty_test files (jlr_file place) in
    let third = λ (u : Unit {0}). is_rest (jlr_file place) files in
    let second = λ (u : Unit {0}). is_rest (jdx_file place) files >>= third in
    let first = λ (u : Unit {0}). is_rest (jdt_file place) files >>= second in
    then_gives jhr (jdt ++ (jdx ++ jlr)) one one (is_rest (jhr_file place) files) first (empty_listed files (jhr_file place))
    (then_gives jdt (jdx ++ jlr) one one (is_rest (jdt_file place) files) second (empty_listed files (jdt_file place))
    (then_gives jdx jlr one one (is_rest (jdx_file place) files) third (empty_listed files (jdx_file place)) (empty_listed files (jlr_file place))))

places_listed : (files : HostFiles) (place n : ℕ) → are_rest place n files ≡ by_tests (empty_tests files place n) one
unfolding are_rest
places_listed files place zero = refl
places_listed files place (suc n) =
    then_gives (empty_place files place) (empty_tests files (place + 1) n) one one (is_rest_place place files) (λ (u : Unit {0}). are_rest (place + 1) n files) (place_listed files place) (places_listed files (place + 1) n)
    ∙ ap (λ (tests : Tests). by_tests tests one) (regroup (empty_test files (jhr_file place)) (empty_test files (jdt_file place)) (empty_test files (jdx_file place)) (empty_test files (jlr_file place)) (empty_tests files (place + 1) n))

-- ---- the highs
highs_counted : (conferences : List ConferenceContents) (highs : List ℕ) → highs_fit conferences highs ≡ highs_within (slots_in conferences) highs
highs_counted [] highs = refl
highs_counted (c ∷ conferences) [] = refl
highs_counted (c ∷ conferences) (high ∷ highs) = ap (λ (others : Bool). nat_le high (length c.slots) && others) (highs_counted conferences highs)

offers_counted : (conferences : List ConferenceContents) (offers : List OpenOffer) → offers_fit conferences offers ≡ list_all (λ o. highs_within (slots_in conferences) o.highs) offers
offers_counted conferences offers = λ i. list_all (λ (o : OpenOffer). highs_counted conferences o.highs i) offers

highs_listed : (conferences : List ConferenceContents) (users before : List User) (item : ℕ) → item ≡ 1 + length (slots_in conferences) + length before
    → highs_of conferences item users ≡ by_tests (for_each (high_tests (slots_in conferences)) before users) one
highs_listed conferences [] before item is = refl
highs_listed conferences (u ∷ users) before item is =
    let rules : Rules = (High, not (offers_fit conferences u.offers)) ∷ [] in
    let next : item + 1 ≡ 1 + length (slots_in conferences) + length (before ++ u ∷ []) = omega (arith, length-append before (u ∷ [])) in
    let here : by_rules ledger_file item rules one ≡ by_tests (high_tests (slots_in conferences) before u) one =
    rules_listed ledger_file item rules one ∙ (λ i. by_tests (at_record ledger_file (is i) ((High, not (offers_counted conferences u.offers i)) ∷ [])) one) in
    then_gives (high_tests (slots_in conferences) before u) (for_each (high_tests (slots_in conferences)) (before ++ u ∷ []) users) one one (by_rules ledger_file item rules one)
    (λ (v : Unit {0}). highs_of conferences (item + 1) users) here (highs_listed conferences users (before ++ u ∷ []) (item + 1) next)

-- ---- behind the ledger
abbrev board : Ledger → List ConferenceContents → Board
board ledger conferences = record { ledger = ledger; conferences = conferences }

shapes_long : (l : Ledger) (place : ℕ) (conferences : List SetupConference) → length (shapes_from l place conferences) ≡ length conferences
shapes_long l place [] = refl
shapes_long l place (c ∷ conferences) = ap suc (shapes_long l (place + 1) conferences)

abbrev counts_of : HostFiles → Ledger → List ℕ
counts_of files ledger = map (jdx_count files) (shapes_of ledger)

high_part : HostFiles → Ledger → Tests
high_part files ledger = for_each (high_tests (counts_of files ledger)) [] ledger.users

empty_part : HostFiles → Ledger → Tests
empty_part files ledger = let conferences = length ledger.setup.conferences in empty_tests files conferences (64 - conferences) ++ high_part files ledger

highs_tested : (files : HostFiles) (ledger : Ledger)
    → let cs = map (conference_read files) (shapes_of ledger) in
    (highs_of cs (1 + length ledger.setup.conferences) ledger.users >>= λ within. Ok (board ledger cs)) ≡ by_tests (high_part files ledger) (board ledger cs)
unfolding high_part
highs_tested files ledger =
    let shapes : List Shape = shapes_of ledger in
    let cs : List ConferenceContents = map (conference_read files) shapes in
    let long : length (slots_in cs) ≡ length ledger.setup.conferences = length-map cs (λ c. length c.slots) ∙ (length-map shapes (conference_read files) ∙ shapes_long ledger 0 ledger.setup.conferences) in
    let item : 1 + length ledger.setup.conferences ≡ 1 + length (slots_in cs) + 0 = omega (arith, long) in
    ap (λ (r : Result (Unit {0}) Damage). r >>= λ within. Ok (board ledger cs)) (highs_listed cs ledger.users [] (1 + length ledger.setup.conferences) item)
    ∙ (value_listed (for_each (high_tests (slots_in cs)) [] ledger.users) one (λ within. board ledger cs)
    ∙ ap (λ (counts : List ℕ). by_tests (for_each (high_tests counts) [] ledger.users) (board ledger cs)) (slots_counted files shapes))

behind_listed : (files : HostFiles) (ledger : Ledger)
    → let cs = map (conference_read files) (shapes_of ledger) in
    parts_behind ledger files ≡ by_tests (for_each (place_tests files) [] (shapes_of ledger) ++ empty_part files ledger) (board ledger cs)
unfolding parts_behind empty_part
behind_listed files ledger =
    let shapes : List Shape = shapes_of ledger in
    let count : ℕ = length ledger.setup.conferences in
    let cs : List ConferenceContents = map (conference_read files) shapes in
    let last = λ (found : List ConferenceContents) (within : Unit {0}). Ok (board ledger found) in
    let second = λ (found : List ConferenceContents) (empty : Unit {0}). highs_of found (1 + count) ledger.users >>= last found in
    let first = λ (found : List ConferenceContents). are_rest count (64 - count) files >>= second found in
    then_gives (for_each (place_tests files) [] shapes) (empty_tests files count (64 - count) ++ high_part files ledger) cs (board ledger cs) (conferences_of shapes files) first (conferences_listed files shapes [])
    (then_gives (empty_tests files count (64 - count)) (high_part files ledger) one (board ledger cs) (are_rest count (64 - count) files) (second cs) (places_listed files count (64 - count))
    (highs_tested files ledger))

-- ---- all of them
pub board_tested : (files : HostFiles) → IsTested (board_tests files) (board_of files)
unfolding board_tests board_of parts_of empty_part high_part
board_tested files =
    let bytes : List ℕ = files ledger_file in
    let ledger : Ledger = today (ledger_read bytes) in
    let size : Rules = (Size, nat_lt (size_limit bytes) (data_size files)) ∷ [] in
    let cs : List ConferenceContents = map (conference_read files) (shapes_of ledger) in
    let rest : Tests = for_each (place_tests files) [] (shapes_of ledger) ++ empty_part files ledger in
    let next = λ (found : Ledger). parts_behind (today found) files in
    record {
      value = board ledger cs;
      is =
          then_gives (at_record ledger_file 0 size) (ledger_tests bytes ++ rest) one (board ledger cs) (by_rules ledger_file 0 size one) (λ (sized : Unit {0}). parts_of files) (rules_listed ledger_file 0 size one)
          (then_gives (ledger_tests bytes) rest (ledger_read bytes) (board ledger cs) (ledger_of bytes) next (ledger_tested bytes) (behind_listed files ledger));
    }
