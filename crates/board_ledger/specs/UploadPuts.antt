-- A ledger with one upload record more, and the patches that put it into the ledger's file.
use Rattle.std.specs.Prelude.{◌+◌, List, [], ◌∷◌, ◌++◌, length}
use Rattle.intent_journal.specs.declared.patch.Patch.{Patch}
use Rattle.intent_journal.specs.declared.patch.Patch.TheVariants.{Put}
use Rattle.intent_journal.specs.door_outside.File.{ledger_file}
use Rattle.jam_records.specs.record_numbers.Numbers.{u32_text}
use Rattle.board_ledger.specs.Ledger.{ledger_text}
use Rattle.board_ledger.specs.Uploads.{upload_text}
use Rattle.board_ledger.specs.declared.ledger.Ledger.{Ledger}
use Rattle.board_ledger.specs.declared.upload.UploadRecord.{UploadRecord}

-- the record at the end
abbrev pub with_upload : UploadRecord → Ledger → Ledger
with_upload r l = record l { uploads = l.uploads ++ r ∷ [] }

-- the count of upload records is replaced, and the record put at the end
abbrev pub upload_puts : Ledger → UploadRecord → List Patch
upload_puts l r = Put ledger_file 12 (u32_text (length l.uploads + 1)) ∷ Put ledger_file (length (ledger_text l)) (upload_text r) ∷ []
