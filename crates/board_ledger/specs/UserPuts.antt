-- A ledger with another user in the place of one, and the patch that puts his record into the ledger's file.
use Rattle.std.specs.Prelude.{◌≡◌, ℕ, ◌+◌, List, [], ◌∷◌, length, take, slice_get, slice_set, IsSomeAnd}
use Rattle.std.specs.List.{flat_map}
use Rattle.intent_journal.specs.declared.patch.Patch.{Patch}
use Rattle.intent_journal.specs.declared.patch.Patch.TheVariants.{Put}
use Rattle.intent_journal.specs.door_outside.File.{ledger_file}
use Rattle.board_ledger.specs.Conferences.{conference_text}
use Rattle.board_ledger.specs.Opening.{opening_text}
use Rattle.board_ledger.specs.Users.{user_text, users_text}
use Rattle.board_ledger.specs.declared.ledger.Ledger.{Ledger}
use Rattle.board_ledger.specs.declared.user.User.{User}
use Rattle.open_offers.specs.declared.version.Version.TheVariants.{Second}

-- the user in a place, from 0, is this one
abbrev pub with_user_at : ℕ → User → Ledger → Ledger
with_user_at place u l = record l { users = slice_set l.users place u }

-- the user in a place is there, and his name is as long as this one's
abbrev pub IsAsLong : ℕ → User → Ledger → Type 0
IsAsLong place u l = IsSomeAnd (slice_get l.users place) (λ old. length u.name ≡ length old.name)

-- where the record of a place begins: behind the opening, the conferences and the users before
abbrev pub user_place : ℕ → Ledger → ℕ
user_place place l =
    length (opening_text Second l) + length (flat_map conference_text l.setup.conferences)
    + length (users_text Second (length l.setup.conferences) (take place l.users))

-- the record of a ledger's user, as it is written
abbrev pub record_in : Ledger → User → List ℕ
record_in l u = user_text Second (length l.setup.conferences) u

-- the record is put over the one in a place
abbrev pub user_puts : ℕ → User → Ledger → List Patch
user_puts place u l = Put ledger_file (user_place place l) (record_in l u) ∷ []
