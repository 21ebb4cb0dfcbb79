-- A ledger is read as its flat list of rules says.
use Rattle.std.proofs.Common.{◌≡◌, ℕ, zero, suc, ◌+◌, eqb, not, List, [], ◌∷◌, ◌++◌, length, drop, Result, Ok, refl, sym, ap, ◌∙◌, append_assoc}
use Rattle.std.specs.Prelude.{map}
use Rattle.std.proofs.lemmas.List.{append-nil, length-map, map-append}
use Rattle.jam_records.specs.record_numbers.Numbers.{u16_at, u32_at}
use Rattle.jam_records.specs.declared.damage.Damage.{Damage}
use Rattle.jam_records.specs.declared.damage.DamageRule.TheVariants.{Rest}
use Rattle.damage_rules.specs.Rules.{by_rules, ◌>>=◌}
use Rattle.damage_rules.specs.Tests.{Tests, at_record, for_each, records, behind_records}
use Rattle.damage_rules.proofs.TestLists.{by_tests, rules_listed, then_gives, then_listed}
use Rattle.setup_file.specs.declared.conference.Conference.{Conference}
use Rattle.open_offers.specs.Texts.{text_end}
use Rattle.open_offers.specs.declared.version.Version.{Version}
use Rattle.board_ledger.specs.Records.{records_at}
use Rattle.board_ledger.specs.Opening.{setup_of, opening_of, fixed_rules, setup_rules, opening_at}
use Rattle.board_ledger.specs.Conferences.{conference_at, conference_fields, conference_record_rules}
use Rattle.board_ledger.specs.Users.{user_at, user_end, user_in_record, user_rules}
use Rattle.board_ledger.specs.Uploads.{upload_at, upload_in_record, upload_rules, upload_size}
use Rattle.board_ledger.specs.Ledger.{ledger_of, ledger_with}
use Rattle.board_ledger.specs.LedgerTests.{conference_tests, user_tests, upload_tests, ledger_read, ledger_tests}
use Rattle.board_ledger.specs.declared.ledger.Ledger.{Ledger}
use Rattle.board_ledger.specs.declared.opening.Opening.{Opening}
use Rattle.board_ledger.specs.declared.upload.UploadRecord.{UploadRecord}
use Rattle.board_ledger.specs.declared.user.User.{User}
use Rattle.board_ledger.proofs.ReadingSteps.{conferences_in, users_in, uploads_in, ledger_in}

-- ---- counted records
records_listed : {A : Type 0} (read : List A → List ℕ → Result (A × ℕ) Damage) (value : List ℕ → A) (size : List ℕ → ℕ) (tests : List (List ℕ) → List ℕ → Tests)
    → ((before : List (List ℕ)) (bytes : List ℕ) → read (map value before) bytes ≡ by_tests (tests before bytes) (value bytes, size bytes))
    → (n : ℕ) (before : List (List ℕ)) (bytes : List ℕ)
    → records_at read n (map value before) bytes ≡ by_tests (for_each tests before (records size n bytes)) (map value (before ++ records size n bytes), behind_records size n bytes)
unfolding records_at
records_listed read value size tests one zero before bytes = ap (λ (xs : List (List ℕ)). Ok (map value xs, bytes)) (sym (append-nil before))
records_listed {A = A} read value size tests one (suc n) before bytes =
    let rest : List ℕ = drop (size bytes) bytes in
    let others : List (List ℕ) = records size n rest in
    let next = λ (x : A × ℕ). records_at read n (map value before ++ x.0 ∷ []) (drop x.1 bytes) in
    let behind : next (value bytes, size bytes) ≡ by_tests (for_each tests (before ++ bytes ∷ []) others) (map value (before ++ bytes ∷ others), behind_records size n rest) =
    ap (λ xs. records_at read n xs rest) (sym (map-append value before (bytes ∷ [])))
    ∙ (records_listed read value size tests one n (before ++ bytes ∷ []) rest
    ∙ ap (λ (xs : List (List ℕ)). by_tests (for_each tests (before ++ bytes ∷ []) others) (map value xs, behind_records size n rest)) (append_assoc before (bytes ∷ []) others)) in
    ap (λ r. r >>= next) (one before bytes)
    ∙ then_listed (tests before bytes) (for_each tests (before ++ bytes ∷ []) others) (value bytes, size bytes) next (map value (before ++ bytes ∷ others), behind_records size n rest) (λ held. behind)

conference_listed : (before : List (List ℕ)) (bytes : List ℕ) → conference_at (map conference_fields before) bytes ≡ by_tests (conference_tests before bytes) (conference_fields bytes, text_end 4 bytes)
unfolding conference_at
conference_listed before bytes =
    let rules = conference_record_rules (map conference_fields before) bytes in
    rules_listed 0 (1 + length (map conference_fields before)) rules (conference_fields bytes, text_end 4 bytes)
    ∙ ap (λ n. by_tests (at_record 0 (1 + n) rules) (conference_fields bytes, text_end 4 bytes)) (length-map before conference_fields)

user_listed : (v : Version) (count : ℕ) (before : List (List ℕ)) (bytes : List ℕ) → user_at v count (map (user_in_record v count) before) bytes ≡ by_tests (user_tests v count before bytes) (user_in_record v count bytes, user_end v count bytes)
unfolding user_at
user_listed v count before bytes =
    let rules = user_rules v count (map (user_in_record v count) before) bytes in
    rules_listed 0 (1 + count + length (map (user_in_record v count) before)) rules (user_in_record v count bytes, user_end v count bytes)
    ∙ ap (λ n. by_tests (at_record 0 (1 + count + n) rules) (user_in_record v count bytes, user_end v count bytes)) (length-map before (user_in_record v count))

upload_listed : (conferences users : ℕ) (before : List (List ℕ)) (bytes : List ℕ) → upload_at (1 + conferences + users) users (map upload_in_record before) bytes ≡ by_tests (upload_tests conferences users before bytes) (upload_in_record bytes, upload_size)
unfolding upload_at
upload_listed conferences users before bytes =
    let rules = upload_rules users (map upload_in_record before) bytes in
    rules_listed 0 (1 + conferences + users + length (map upload_in_record before)) rules (upload_in_record bytes, upload_size)
    ∙ ap (λ n. by_tests (at_record 0 (1 + conferences + users + n) rules) (upload_in_record bytes, upload_size)) (length-map before upload_in_record)

-- ---- the parts, one behind the other
then_uploads : Opening → List Conference → List User × List ℕ → Result Ledger Damage
then_uploads o cs us = uploads_in o us.1 >>= ledger_in o cs us.0

then_users : Opening → List Conference × List ℕ → Result Ledger Damage
then_users o cs = users_in o cs.1 >>= then_uploads o cs.0

then_conferences : List ℕ → Opening → Result Ledger Damage
then_conferences bytes o = conferences_in bytes o >>= then_users o

end_tests : Opening → List ℕ → Tests
end_tests o rest = at_record 0 (1 + o.conferences + o.users + o.uploads) ((Rest, not (eqb (length rest) 0)) ∷ [])

uploads_tested : (o : Opening) (cs : List Conference) (us : List User) (bytes : List ℕ)
    → let rs = records (λ here. upload_size) o.uploads bytes in
    let rest = behind_records (λ here. upload_size) o.uploads bytes in
    then_uploads o cs (us, bytes) ≡ by_tests (for_each (upload_tests o.conferences o.users) [] rs ++ end_tests o rest) (ledger_with o cs us (map upload_in_record rs))
unfolding then_uploads end_tests
uploads_tested o cs us bytes =
    let rs : List (List ℕ) = records (λ here. upload_size) o.uploads bytes in
    let rest : List ℕ = behind_records (λ here. upload_size) o.uploads bytes in
    let whole : Ledger = ledger_with o cs us (map upload_in_record rs) in
    then_gives (for_each (upload_tests o.conferences o.users) [] rs) (end_tests o rest) (map upload_in_record rs, rest) whole (uploads_in o bytes) (ledger_in o cs us)
    (records_listed (upload_at (1 + o.conferences + o.users) o.users) upload_in_record (λ here. upload_size) (upload_tests o.conferences o.users) (upload_listed o.conferences o.users) o.uploads [] bytes)
    (rules_listed 0 (1 + o.conferences + o.users + o.uploads) ((Rest, not (eqb (length rest) 0)) ∷ []) whole)

-- the tests of the upload records and of the end
upload_part : Opening → List ℕ → Tests
upload_part o bytes = for_each (upload_tests o.conferences o.users) [] (records (λ here. upload_size) o.uploads bytes) ++ end_tests o (behind_records (λ here. upload_size) o.uploads bytes)

-- and of the users before them
user_part : Opening → List ℕ → Tests
user_part o bytes = let size = user_end o.version o.conferences in
    for_each (user_tests o.version o.conferences) [] (records size o.users bytes) ++ upload_part o (behind_records size o.users bytes)

-- the ledger of conferences, and of the users and upload records in bytes
with_users : Opening → List Conference → List ℕ → Ledger
with_users o cs bytes =
    let size = user_end o.version o.conferences in
    ledger_with o cs (map (user_in_record o.version o.conferences) (records size o.users bytes)) (map upload_in_record (records (λ here. upload_size) o.uploads (behind_records size o.users bytes)))

users_tested : (o : Opening) (cs : List Conference) (bytes : List ℕ) → then_users o (cs, bytes) ≡ by_tests (user_part o bytes) (with_users o cs bytes)
unfolding then_users user_part upload_part with_users
users_tested o cs bytes =
    let size = user_end o.version o.conferences in
    let value = user_in_record o.version o.conferences in
    let us : List (List ℕ) = records size o.users bytes in
    let rest : List ℕ = behind_records size o.users bytes in
    then_gives (for_each (user_tests o.version o.conferences) [] us) (upload_part o rest) (map value us, rest) (with_users o cs bytes) (users_in o bytes) (then_uploads o cs)
    (records_listed (user_at o.version o.conferences) value size (user_tests o.version o.conferences) (user_listed o.version o.conferences) o.users [] bytes)
    (uploads_tested o cs (map value us) rest)

-- and of the conferences before these
conference_part : Opening → List ℕ → Tests
conference_part o bytes = for_each conference_tests [] (records (text_end 4) o.conferences bytes) ++ user_part o (behind_records (text_end 4) o.conferences bytes)

-- the ledger of what is in the bytes
with_conferences_in : Opening → List ℕ → Ledger
with_conferences_in o bytes = with_users o (map conference_fields (records (text_end 4) o.conferences bytes)) (behind_records (text_end 4) o.conferences bytes)

conferences_tested : (o : Opening) (bytes : List ℕ) → then_conferences bytes o ≡ by_tests (conference_part o (drop o.size bytes)) (with_conferences_in o (drop o.size bytes))
unfolding then_conferences conference_part with_conferences_in
conferences_tested o bytes =
    let here : List ℕ = drop o.size bytes in
    let cs : List (List ℕ) = records (text_end 4) o.conferences here in
    let rest : List ℕ = behind_records (text_end 4) o.conferences here in
    then_gives (for_each conference_tests [] cs) (user_part o rest) (map conference_fields cs, rest) (with_conferences_in o here) (conferences_in bytes o) (then_users o)
    (records_listed conference_at conference_fields (text_end 4) conference_tests conference_listed o.conferences [] here)
    (users_tested o (map conference_fields cs) rest)

read_in_parts : (bytes : List ℕ) → ledger_of bytes ≡ (opening_at bytes >>= then_conferences bytes)
unfolding ledger_of then_conferences then_users then_uploads
read_in_parts bytes = refl

listed_in_parts : (bytes : List ℕ) → at_record 0 0 (fixed_rules bytes ++ setup_rules bytes (setup_of bytes)) ++ conference_part (opening_of bytes) (drop (opening_of bytes).size bytes) ≡ ledger_tests bytes
unfolding ledger_tests opening_of conference_part user_part upload_part end_tests
listed_in_parts bytes = refl

given_in_parts : (bytes : List ℕ) → with_conferences_in (opening_of bytes) (drop (opening_of bytes).size bytes) ≡ ledger_read bytes
unfolding ledger_read opening_of with_conferences_in with_users
given_in_parts bytes = refl

pub ledger_tested : (bytes : List ℕ) → ledger_of bytes ≡ by_tests (ledger_tests bytes) (ledger_read bytes)
unfolding opening_at
ledger_tested bytes =
    let rules = fixed_rules bytes ++ setup_rules bytes (setup_of bytes) in
    let o : Opening = opening_of bytes in
    let here : List ℕ = drop o.size bytes in
    read_in_parts bytes
    ∙ (then_gives (at_record 0 0 rules) (conference_part o here) o (with_conferences_in o here) (opening_at bytes) (then_conferences bytes) (rules_listed 0 0 rules o) (conferences_tested o bytes)
    ∙ (λ i. by_tests (listed_in_parts bytes i) (given_in_parts bytes i)))
