-- An upload record: u16 user id, 32 bytes of SHA-256, u32 posted, u32 refused.
use Rattle.std.specs.Prelude.{◌≡◌, ℕ, ◌+◌, ◌≤◌, List, [], ◌∷◌, ◌++◌, length, take, drop, All, Bool, Result, ◌&&◌, ◌||◌, ◌==◌, nat_lt}
use Rattle.std.specs.List.{list_any}
use Rattle.std.specs.Str.{bytes_eq}
use Rattle.jam_records.specs.byte_lists.Byte.{IsByte}
use Rattle.jam_records.specs.record_numbers.Numbers.{u16_at, u32_at, u16_text, u32_text}
use Rattle.jam_records.specs.declared.damage.Damage.{Damage}
use Rattle.jam_records.specs.declared.damage.DamageRule.TheVariants.{Short, User as NoUser, Twice, Counts as WrongCounts}
use Rattle.damage_rules.specs.Rules.{Rules, by_rules}
use Rattle.board_ledger.specs.Limits.{verdict_limit}
use Rattle.board_ledger.specs.declared.upload.Counts.{Counts}
use Rattle.board_ledger.specs.declared.upload.UploadRecord.{UploadRecord}

-- how many bytes an upload record has
abbrev pub upload_size : ℕ
upload_size = 42

unfoldable pub upload_text : UploadRecord → List ℕ
upload_text r = u16_text r.user ++ (r.digest ++ (u32_text r.counts.posted ++ u32_text r.counts.refused))

unfoldable pub upload_in_record : List ℕ → UploadRecord
upload_in_record bytes = record {
  user = u16_at 0 bytes;
  digest = take 32 (drop 2 bytes);
  counts = record { posted = u32_at 34 bytes; refused = u32_at 38 bytes };
}

-- there is no user of that id, where there are so many users
abbrev pub wrong_user : ℕ → UploadRecord → Bool
wrong_user users r = r.user == 0 || nat_lt users r.user

-- together the counts are above 8,191
abbrev pub too_many : Counts → Bool
too_many c = nat_lt verdict_limit (c.posted + c.refused)

-- one of these records has the same user and digest
abbrev pub is_repeated : List UploadRecord → UploadRecord → Bool
is_repeated before r = list_any (λ e. e.user == r.user && bytes_eq e.digest r.digest) before

-- the rules of the record at the front, behind those before, where there are so many users
unfoldable pub upload_rules : ℕ → List UploadRecord → List ℕ → Rules
upload_rules users before bytes =
    (Short, nat_lt (length bytes) upload_size)
    ∷ (NoUser, wrong_user users (upload_in_record bytes))
    ∷ (Twice, is_repeated before (upload_in_record bytes))
    ∷ (WrongCounts, too_many (upload_in_record bytes).counts)
    ∷ []

-- the upload record at the front, and its length, where the first upload record has this number
unfoldable pub upload_at : ℕ → ℕ → List UploadRecord → List ℕ → Result (UploadRecord × ℕ) Damage
upload_at first users before bytes = by_rules 0 (first + length before) (upload_rules users before bytes) (upload_in_record bytes, upload_size)

-- an upload record of a board of so many users
pub record IsUpload (users : ℕ) (r : UploadRecord) : Type 0 where
  pub some : 1 ≤ r.user
  pub user : r.user ≤ users
  pub digest : length r.digest ≡ 32
  pub bytes : All IsByte r.digest
  pub counts : r.counts.posted + r.counts.refused ≤ verdict_limit
