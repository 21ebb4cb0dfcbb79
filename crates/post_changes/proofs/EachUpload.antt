-- The record of an upload, and its posts, on each board with one outline.
use Rattle.std.proofs.Common.{ℕ, List, sym, ap, ◌∙◌}
use Rattle.slot_changes.proofs.board_changes.EachBoard.{leads_as}
use Rattle.slot_changes.specs.board_changes.Outlined.{GatheredEach, LeadsEach}
use Rattle.board_layout.proofs.OneOutline.{alike_ledger}
use Rattle.board_layout.specs.Board.{Board}
use Rattle.board_layout.specs.Layout.{IsLayout, base_files}
use Rattle.board_ledger.specs.Ledger.{ledger_text}
use Rattle.board_ledger.specs.UploadPuts.{upload_puts}
use Rattle.board_ledger.specs.Valid.{IsLedger}
use Rattle.board_ledger.specs.declared.ledger.Ledger.{Ledger}
use Rattle.board_ledger.specs.declared.upload.UploadRecord.{UploadRecord}
use Rattle.intent_journal.specs.declared.patch.Patch.{Patch}
use Rattle.jam_records.specs.declared.message.Message.{Message}
use Rattle.post_changes.proofs.UploadLaws.{gathered_upload}
use Rattle.post_changes.specs.Posted.{posted_with, upload_record, uploaded, with_record}

pub upload_begun : (b : Board) (r : UploadRecord) (posts : List (ℕ × Message)) → IsLedger b.ledger → IsLedger (with_record r b.ledger) → GatheredEach b (posted_with (with_record r b.ledger) posts) 0 (upload_puts b.ledger r)
upload_begun b r posts was next = record {
  gathered = λ other valid alike.
      gathered_upload b.ledger r was next (IsLayout other) (base_files other) (base_files (posted_with (with_record r b.ledger) posts other)) (λ files is. is.places) (λ files is. is.ledger ∙ ap ledger_text (alike_ledger other b alike));
}

pub upload_leads : (b : Board) (user : ℕ) (digest : List ℕ) (refused : ℕ) (posts : List (ℕ × Message)) (intent : List Patch) → LeadsEach b (posted_with (with_record (upload_record user digest refused posts) b.ledger) posts) intent
    → LeadsEach b (uploaded user digest refused posts) intent
upload_leads b user digest refused posts intent each =
    let r : UploadRecord = upload_record user digest refused posts in
    leads_as b (posted_with (with_record r b.ledger) posts) (uploaded user digest refused posts) intent (λ other alike. ap (λ (l : Ledger). posted_with (with_record r l) posts other) (sym (alike_ledger other b alike))) each
