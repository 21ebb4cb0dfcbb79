-- What the digests of upload records begin with.
use Rattle.std.specs.Prelude.{ℕ, zero, suc, ◌+◌, ◌*◌, ◌^◌, List, [], ◌∷◌, length, drop, nat_lt, if◌then◌else◌}
use Rattle.jam_records.specs.record_numbers.Numbers.{u32_at}
use Rattle.board_ledger.specs.Uploads.{upload_in_record, upload_size}
use Rattle.board_ledger.specs.declared.upload.UploadRecord.{UploadRecord}

abbrev pub digest_number : UploadRecord → ℕ
digest_number r = u32_at 0 r.digest * 0x1_0000_0000 + u32_at 4 r.digest

-- of so many records, or of as many as there are
unfoldable pub digest_numbers : ℕ → List ℕ → List ℕ
digest_numbers zero bytes = []
digest_numbers (suc n) bytes =
    if nat_lt (length bytes) upload_size then [] else digest_number (upload_in_record bytes) ∷ digest_numbers n (drop upload_size bytes)
