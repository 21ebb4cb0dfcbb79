-- The rules of the ledger in the order of its records: record 0, one for each conference, user and upload record, and one
-- past the last. A record is what the bytes give at its place, whether or not those before it are right.
use Rattle.std.specs.Prelude.{ℕ, ◌+◌, List, [], ◌∷◌, ◌++◌, length, map, drop, not, ◌==◌}
use Rattle.jam_records.specs.record_numbers.Numbers.{u16_at, u32_at}
use Rattle.jam_records.specs.declared.damage.DamageRule.TheVariants.{Rest}
use Rattle.damage_rules.specs.Tests.{Tests, at_record, for_each, records, behind_records}
use Rattle.open_offers.specs.Texts.{text_end}
use Rattle.open_offers.specs.Versions.{version_of}
use Rattle.open_offers.specs.declared.version.Version.{Version}
use Rattle.board_ledger.specs.Opening.{places_of, setup_of, opening_of, fixed_rules, setup_rules}
use Rattle.board_ledger.specs.Conferences.{conference_fields, conference_record_rules}
use Rattle.board_ledger.specs.Users.{user_end, user_in_record, user_rules}
use Rattle.board_ledger.specs.Uploads.{upload_in_record, upload_rules, upload_size}
use Rattle.board_ledger.specs.Ledger.{ledger_with}
use Rattle.board_ledger.specs.declared.ledger.Ledger.{Ledger}

-- ---- the records, each as the bytes from it on
abbrev pub stored_version : List ℕ → Version
stored_version bytes = version_of (u16_at 4 bytes)

abbrev pub conference_count : List ℕ → ℕ
conference_count bytes = u16_at 6 bytes

abbrev pub user_count : List ℕ → ℕ
user_count bytes = u16_at 8 bytes

abbrev pub upload_count : List ℕ → ℕ
upload_count bytes = u32_at 12 bytes

abbrev pub from_conferences : List ℕ → List ℕ
from_conferences bytes = drop (places_of bytes).end bytes

abbrev pub from_users : List ℕ → List ℕ
from_users bytes = behind_records (text_end 4) (conference_count bytes) (from_conferences bytes)

abbrev pub from_uploads : List ℕ → List ℕ
from_uploads bytes = behind_records (user_end (stored_version bytes) (conference_count bytes)) (user_count bytes) (from_users bytes)

abbrev pub past_uploads : List ℕ → List ℕ
past_uploads bytes = behind_records (λ here. upload_size) (upload_count bytes) (from_uploads bytes)

abbrev pub conference_records : List ℕ → List (List ℕ)
conference_records bytes = records (text_end 4) (conference_count bytes) (from_conferences bytes)

abbrev pub user_records : List ℕ → List (List ℕ)
user_records bytes = records (user_end (stored_version bytes) (conference_count bytes)) (user_count bytes) (from_users bytes)

abbrev pub upload_records : List ℕ → List (List ℕ)
upload_records bytes = records (λ here. upload_size) (upload_count bytes) (from_uploads bytes)

-- the ledger that they give
unfoldable pub ledger_read : List ℕ → Ledger
ledger_read bytes =
    let conferences = map conference_fields (conference_records bytes) in
    let users = map (user_in_record (stored_version bytes) (conference_count bytes)) (user_records bytes) in
    let uploads = map upload_in_record (upload_records bytes) in
    ledger_with (opening_of bytes) conferences users uploads

-- ---- their rules
-- a conference behind those before
abbrev pub conference_tests : List (List ℕ) → List ℕ → Tests
conference_tests before here = at_record 0 (1 + length before) (conference_record_rules (map conference_fields before) here)

-- a user behind those before, where there are so many conferences
abbrev pub user_tests : Version → ℕ → List (List ℕ) → List ℕ → Tests
user_tests v conferences before here = at_record 0 (1 + conferences + length before) (user_rules v conferences (map (user_in_record v conferences) before) here)

-- an upload record behind those before, where there are so many conferences and users
abbrev pub upload_tests : ℕ → ℕ → List (List ℕ) → List ℕ → Tests
upload_tests conferences users before here = at_record 0 (1 + conferences + users + length before) (upload_rules users (map upload_in_record before) here)

unfoldable pub ledger_tests : List ℕ → Tests
ledger_tests bytes =
    let conferences = conference_count bytes in
    let users = user_count bytes in
    at_record 0 0 (fixed_rules bytes ++ setup_rules bytes (setup_of bytes))
    ++ (for_each conference_tests [] (conference_records bytes)
    ++ (for_each (user_tests (stored_version bytes) conferences) [] (user_records bytes)
    ++ (for_each (upload_tests conferences users) [] (upload_records bytes)
    ++ at_record 0 (1 + conferences + users + upload_count bytes) ((Rest, not (length (past_uploads bytes) == 0)) ∷ []))))
