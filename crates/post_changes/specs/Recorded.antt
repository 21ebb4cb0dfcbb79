-- What a ledger asks of an upload record more.
use Rattle.std.specs.Prelude.{length, Bool, not, ◌&&◌, nat_lt}
use Rattle.board_ledger.specs.Limits.{upload_limit}
use Rattle.board_ledger.specs.Uploads.{is_repeated, too_many, wrong_user}
use Rattle.board_ledger.specs.declared.ledger.Ledger.{Ledger}
use Rattle.board_ledger.specs.declared.upload.UploadRecord.{UploadRecord}

-- there are fewer than 100,000 records, and none of the same user and digest
abbrev pub is_new_upload : Ledger → UploadRecord → Bool
is_new_upload l r = nat_lt (length l.uploads) upload_limit && not (is_repeated l.uploads r)

-- so it is, its user is there, and its counts aren't too many
abbrev pub may_record : Ledger → UploadRecord → Bool
may_record l r = (not (wrong_user (length l.users) r) && not (too_many r.counts)) && is_new_upload l r
