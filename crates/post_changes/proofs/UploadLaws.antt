-- The puts of an upload record begin the intent of an upload.
use Rattle.std.proofs.Common.{◌≡◌, List, [], length, arith}
use Rattle.slot_changes.proofs.board_changes.LedgerPuts.{Begins, begins_gather, begins_join, two_begin}
use Rattle.slot_changes.specs.board_changes.Gathered.{Gathered, HasBases, Joins}
use Rattle.board_ledger.proofs.LedgerParts.{text_long}
use Rattle.board_ledger.proofs.SizeLaws.{upload_length}
use Rattle.board_ledger.proofs.UploadPutLaws.{last_digest, upload_turns}
use Rattle.board_ledger.specs.Ledger.{ledger_text}
use Rattle.board_ledger.specs.UploadPuts.{upload_puts}
use Rattle.board_ledger.specs.Uploads.{upload_text}
use Rattle.board_ledger.specs.Valid.{IsLedger}
use Rattle.board_ledger.specs.declared.ledger.Ledger.{Ledger}
use Rattle.board_ledger.specs.declared.upload.UploadRecord.{UploadRecord}
use Rattle.intent_journal.specs.door_outside.File.{ledger_file}
use Rattle.intent_journal.specs.Patches.{HostFiles}
use Rattle.board_layout.specs.jam_layout.declared.files.BaseFiles.{BaseFiles}
use Rattle.post_changes.proofs.RecordLaws.{record_length}
use Rattle.post_changes.specs.Posted.{with_record}

module _ (l : Ledger) (r : UploadRecord) (was : IsLedger l) (ok : IsLedger (with_record r l)) where
  upload_begins : Begins (ledger_text (with_record r l)) (upload_puts l r)
  upload_begins =
      let digest = last_digest l r ok in
      let old = text_long l in
      let new = record_length l r was digest in
      let record_is = upload_length r digest in
      two_begin (ledger_text (with_record r l)) _ (upload_text r) 12 (length (ledger_text l)) (omega (arith, old, new)) (omega (arith, new, record_is)) (omega (arith, old, new, record_is))

  pub upload_joins : Joins [] (upload_puts l r)
  upload_joins = begins_join (with_record r l) (upload_puts l r) upload_begins ok

  pub gathered_upload : (P : HostFiles → Type 0) (old new : List BaseFiles) → ((files : HostFiles) → P files → HasBases old files) → ((files : HostFiles) → P files → files ledger_file ≡ ledger_text l)
      → Gathered P (ledger_text (with_record r l)) old new 0 (upload_puts l r)
  gathered_upload P old new has right = begins_gather P (ledger_text l) (ledger_text (with_record r l)) old new (upload_puts l r) (upload_turns l r) upload_begins has right
