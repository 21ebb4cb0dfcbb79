-- What a valid ledger is: the rules of a board that speak of its setup, its users and its upload records. And which
-- ledgers a file has.
use Rattle.std.specs.Prelude.{◌≡◌, ◌≤◌, ◌⊎◌, List, [], length, All, false}
use Rattle.jam_records.specs.record_numbers.Numbers.{IsU32}
use Rattle.setup_file.specs.Valid.{IsSetup}
use Rattle.board_ledger.specs.Limits.{upload_limit, user_limit}
use Rattle.board_ledger.specs.Records.{EachBehind}
use Rattle.board_ledger.specs.Users.{is_taken, IsUser, IsOldUser}
use Rattle.board_ledger.specs.Uploads.{is_repeated, IsUpload}
use Rattle.board_ledger.specs.declared.ledger.Ledger.{Ledger}
use Rattle.board_ledger.specs.declared.upload.UploadRecord.{UploadRecord}
use Rattle.board_ledger.specs.declared.user.User.{User}

-- no user has the name of an earlier one, ignoring ASCII case
abbrev pub NamesDiffer : List User → Type 0
NamesDiffer users = EachBehind (λ before u. is_taken before u.name ≡ false) [] users

-- no upload record has the user and the digest of an earlier one
abbrev pub PairsDiffer : List UploadRecord → Type 0
PairsDiffer uploads = EachBehind (λ before r. is_repeated before r ≡ false) [] uploads

-- a ledger of version 2
pub record IsLedger (l : Ledger) : Type 0 where
  pub version : l.version ≡ 2
  pub setup : IsSetup l.setup
  pub created : IsU32 l.created
  pub few_users : length l.users ≤ user_limit
  pub users : All (IsUser (length l.setup.conferences)) l.users
  pub names : NamesDiffer l.users
  pub few_uploads : length l.uploads ≤ upload_limit
  pub uploads : All (IsUpload (length l.users)) l.uploads
  pub pairs : PairsDiffer l.uploads

-- the ledger in version 2
abbrev pub today : Ledger → Ledger
today l = record l { version = 2 }

-- a ledger of version 1, where each user has no open offer, or that of his last packet alone
pub record IsOldLedger (l : Ledger) : Type 0 where
  pub version : l.version ≡ 1
  pub valid : IsLedger (today l)
  pub offers : All IsOldUser l.users

-- a ledger as a file has it, in version 2 or 1
abbrev pub IsStored : Ledger → Type 0
IsStored l = IsLedger l ⊎ IsOldLedger l
