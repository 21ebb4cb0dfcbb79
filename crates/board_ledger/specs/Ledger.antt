-- The ledger: its text in either version, and its first damage.
use Rattle.std.specs.Prelude.{ℕ, ◌+◌, List, [], ◌∷◌, ◌++◌, length, drop, Option, Result, not, ◌==◌}
use Rattle.std.specs.List.{flat_map}
use Rattle.jam_records.specs.declared.damage.Damage.{Damage}
use Rattle.jam_records.specs.declared.damage.DamageRule.TheVariants.{Rest}
use Rattle.damage_rules.specs.Rules.{by_rules, ◌>>=◌, damage_of}
use Rattle.setup_file.specs.declared.conference.Conference.{Conference}
use Rattle.setup_file.specs.declared.fields.SetupFields.{SetupFields}
use Rattle.board_ledger.specs.Records.{records_at}
use Rattle.board_ledger.specs.Opening.{opening_text, opening_at}
use Rattle.board_ledger.specs.Conferences.{conference_text, conference_at}
use Rattle.board_ledger.specs.Users.{users_text, user_at}
use Rattle.board_ledger.specs.Uploads.{upload_text, upload_at}
use Rattle.open_offers.specs.Versions.{version_number, version_of}
use Rattle.board_ledger.specs.declared.ledger.Ledger.{Ledger}
use Rattle.board_ledger.specs.declared.opening.Opening.{Opening}
use Rattle.board_ledger.specs.declared.upload.UploadRecord.{UploadRecord}
use Rattle.board_ledger.specs.declared.user.User.{User}
use Rattle.open_offers.specs.declared.version.Version.{Version}
use Rattle.open_offers.specs.declared.version.Version.TheVariants.{Second}

-- record 0, the conferences, the users and the upload records, in a version
unfoldable pub text_in : Version → Ledger → List ℕ
text_in v l =
    opening_text v l
    ++ (flat_map conference_text l.setup.conferences
    ++ (users_text v (length l.setup.conferences) l.users ++ flat_map upload_text l.uploads))

-- the text that is written, which is of version 2
abbrev pub ledger_text : Ledger → List ℕ
ledger_text l = text_in Second l

-- the text in the version that the ledger has
abbrev pub stored_text : Ledger → List ℕ
stored_text l = text_in (version_of l.version) l

abbrev pub with_conferences : SetupFields → List Conference → SetupFields
with_conferences s conferences = record s { conferences = conferences }

-- the ledger of what is read
abbrev pub ledger_with : Opening → List Conference → List User → List UploadRecord → Ledger
ledger_with o conferences users uploads = record {
  version = version_number o.version;
  setup = with_conferences o.setup conferences;
  created = o.created;
  users = users;
  uploads = uploads;
}

-- the ledger of the bytes, or the first rule that they break: record by record, rule by rule
unfoldable pub ledger_of : List ℕ → Result Ledger Damage
ledger_of bytes = do
  opening ← opening_at bytes
  conferences ← records_at conference_at opening.conferences [] (drop opening.size bytes)
  users ← records_at (user_at opening.version opening.conferences) opening.users [] conferences.1
  uploads ← records_at (upload_at (1 + opening.conferences + opening.users) opening.users) opening.uploads [] users.1
  by_rules 0 (1 + opening.conferences + opening.users + opening.uploads) ((Rest, not (length uploads.1 == 0)) ∷ []) (ledger_with opening conferences.0 users.0 uploads.0)

-- the first damage, or none
abbrev pub ledger_damage : List ℕ → Option Damage
ledger_damage bytes = damage_of (ledger_of bytes)
