-- A ledger with one user more, and the patches that put his record into the ledger's file.
use Rattle.std.specs.Prelude.{◌+◌, List, [], ◌∷◌, ◌++◌, length}
use Rattle.std.specs.List.{flat_map}
use Rattle.intent_journal.specs.declared.patch.Patch.{Patch}
use Rattle.intent_journal.specs.declared.patch.Patch.TheVariants.{Put}
use Rattle.intent_journal.specs.door_outside.File.{ledger_file}
use Rattle.jam_records.specs.record_numbers.Numbers.{u16_text}
use Rattle.board_ledger.specs.Uploads.{upload_text}
use Rattle.board_ledger.specs.UserPuts.{record_in, user_place}
use Rattle.board_ledger.specs.declared.ledger.Ledger.{Ledger}
use Rattle.board_ledger.specs.declared.user.User.{User}

-- the user behind the others
abbrev pub with_user : User → Ledger → Ledger
with_user u l = record l { users = l.users ++ u ∷ [] }

-- the count of users is replaced, and behind the others the record is put, and the upload records behind it
abbrev pub enroll_puts : Ledger → User → List Patch
enroll_puts l u =
    Put ledger_file 8 (u16_text (length l.users + 1))
    ∷ Put ledger_file (user_place (length l.users) l) (record_in l u ++ flat_map upload_text l.uploads)
    ∷ []
