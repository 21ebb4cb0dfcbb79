use Rattle.std.proofs.Common.{◌≡◌, ℕ, List, length, sym, ap, ◌∙◌, subst, arith}
use Rattle.std.specs.Prelude.{IfOk}
use Rattle.slot_changes.specs.board_changes.Change.{Becomes}
use Rattle.slot_changes.specs.board_changes.Outlined.{GatheredEach, LeadsEach}
use Rattle.slot_changes.specs.board_changes.Spending.{Spends}
use Rattle.slot_changes.specs.board_changes.declared.change.BoardChange.{BoardChange}
use Rattle.board_layout.specs.Board.{Board, shapes_of}
use Rattle.board_layout.specs.Outlines.{board_outline}
use Rattle.board_layout.specs.Valid.{IsBoard}
use Rattle.board_ledger.specs.Ledger.{ledger_text}
use Rattle.board_ledger.specs.UploadPuts.{upload_puts}
use Rattle.board_ledger.specs.Valid.{IsLedger}
use Rattle.board_ledger.specs.declared.ledger.Ledger.{Ledger}
use Rattle.board_ledger.specs.declared.upload.UploadRecord.{UploadRecord}
use Rattle.board_ledger.proofs.UploadPutLaws.{last_digest, upload_bytes}
use Rattle.intent_journal.specs.Patches.{byte_count}
use Rattle.board_layout.proofs.jam_base.ChangeClauses.{one_ok}
use Rattle.jam_records.specs.declared.message.Message.{Message}
use Rattle.post_changes.proofs.EachUpload.{upload_begun, upload_leads}
use Rattle.post_changes.proofs.PostSteps.{spent_begun}
use Rattle.post_changes.proofs.RecordLaws.{record_counts, record_length, record_shapes}
use Rattle.post_changes.specs.Posted.{posted_with, upload_record, uploaded, with_record}
use Rattle.post_changes.proofs.upload.uploaded.Goals as goal

-- the ledger that is made is that of the next board
made : (l was next : Ledger) (r upload : UploadRecord) → next ≡ with_record upload was → upload ≡ r → was ≡ l → next ≡ with_record r l
made l was next r upload is same old = is ∙ (λ i. with_record (same i) (old i))

pub record_of-upload-requires : goal.record_of-upload-requires
record_of-upload-requires c =
    let r : UploadRecord = upload_record c.args.user c.args.digest.now c.args.refused c.args.posts.now in
    omega (arith, record_counts c.args.board.now.ledger r c.requires.next.ledger, ap length c.as_slice-posts.ensures)

pub upload_intent-requires-clause-longer : goal.upload_intent-requires-clause-longer
upload_intent-requires-clause-longer c =
    let b : Board = c.args.board.now in
    let r : UploadRecord = upload_record c.args.user c.args.digest.now c.args.refused c.args.posts.now in
    let upload : c.record_of-upload.result ≡ r = c.record_of-upload.ensures ∙ ap (upload_record c.args.user c.args.digest.now c.args.refused) c.as_slice-posts.ensures in
    subst IsLedger (λ i. with_record (sym upload i) (sym c.ledger-old.ensures.ledger i)) c.requires.next.ledger

pub posted-requires-clause-shapes : goal.posted-requires-clause-shapes
posted-requires-clause-shapes c =
    let b : Board = c.args.board.now in
    let r : UploadRecord = upload_record c.args.user c.args.digest.now c.args.refused c.args.posts.now in
    let same : c.in_ok-ledger.ledger ≡ with_record r b.ledger =
    made b.ledger c.ledger-old.result.now c.in_ok-ledger.ledger r c.record_of-upload.result c.in_ok-ledger.ensures (c.record_of-upload.ensures ∙ ap (upload_record c.args.user c.args.digest.now c.args.refused) c.as_slice-posts.ensures) c.ledger-old.ensures.ledger in
    ap shapes_of same ∙ record_shapes b.ledger r

pub posted-requires-clause-next : goal.posted-requires-clause-next
posted-requires-clause-next c =
    let b : Board = c.args.board.now in
    let r : UploadRecord = upload_record c.args.user c.args.digest.now c.args.refused c.args.posts.now in
    let same : c.in_ok-ledger.ledger ≡ with_record r b.ledger =
    made b.ledger c.ledger-old.result.now c.in_ok-ledger.ledger r c.record_of-upload.result c.in_ok-ledger.ensures (c.record_of-upload.ensures ∙ ap (upload_record c.args.user c.args.digest.now c.args.refused) c.as_slice-posts.ensures) c.ledger-old.ensures.ledger in
    subst IsBoard (λ i. posted_with (sym same i) (sym c.as_slice-posts.ensures i) b) c.requires.next

pub posted-requires-clause-gathered : goal.posted-requires-clause-gathered
posted-requires-clause-gathered c =
    let b : Board = c.args.board.now in
    let r : UploadRecord = upload_record c.args.user c.args.digest.now c.args.refused c.args.posts.now in
    let upload : c.record_of-upload.result ≡ r = c.record_of-upload.ensures ∙ ap (upload_record c.args.user c.args.digest.now c.args.refused) c.as_slice-posts.ensures in
    let same : c.in_ok-ledger.ledger ≡ with_record r b.ledger =
    made b.ledger c.ledger-old.result.now c.in_ok-ledger.ledger r c.record_of-upload.result c.in_ok-ledger.ensures upload c.ledger-old.ensures.ledger in
    let puts : c.in_ok-intent.intent ≡ upload_puts b.ledger r = c.in_ok-intent.ensures ∙ (λ i. upload_puts (c.ledger-old.ensures.ledger i) (upload i)) in
    let posts : List (ℕ × Message) = c.as_slice-posts.result.now in
    subst (λ (l : Ledger). GatheredEach b (posted_with l posts) 0 c.in_ok-intent.intent) (sym same)
    (subst (GatheredEach b (posted_with (with_record r b.ledger) posts) 0) (sym puts) (upload_begun b r posts c.ledger-old.ensures.board.ledger c.requires.next.ledger))

pub posted-requires-clause-spent : goal.posted-requires-clause-spent
posted-requires-clause-spent c =
    let b : Board = c.args.board.now in
    let r : UploadRecord = upload_record c.args.user c.args.digest.now c.args.refused c.args.posts.now in
    let upload : c.record_of-upload.result ≡ r = c.record_of-upload.ensures ∙ ap (upload_record c.args.user c.args.digest.now c.args.refused) c.as_slice-posts.ensures in
    let same : c.in_ok-ledger.ledger ≡ with_record r b.ledger =
    made b.ledger c.ledger-old.result.now c.in_ok-ledger.ledger r c.record_of-upload.result c.in_ok-ledger.ensures upload c.ledger-old.ensures.ledger in
    let puts : c.in_ok-intent.intent ≡ upload_puts b.ledger r = c.in_ok-intent.ensures ∙ (λ i. upload_puts (c.ledger-old.ensures.ledger i) (upload i)) in
    let digest = last_digest b.ledger r c.requires.next.ledger in
    spent_begun b c.as_slice-posts.result.now c.in_ok-ledger.ledger c.in_ok-intent.intent (omega (arith, ap length puts))
    (omega (arith, ap byte_count puts, upload_bytes b.ledger r digest, ap (λ (k : Ledger). length (ledger_text k)) same, record_length b.ledger r c.ledger-old.ensures.board.ledger digest))

pub returns-clause-becomes : goal.returns-clause-becomes
returns-clause-becomes c =
    let b : Board = c.args.board.now in
    let r : UploadRecord = upload_record c.args.user c.args.digest.now c.args.refused c.args.posts.now in
    let same : c.in_ok-ledger.ledger ≡ with_record r b.ledger =
    made b.ledger c.ledger-old.result.now c.in_ok-ledger.ledger r c.record_of-upload.result c.in_ok-ledger.ensures (c.record_of-upload.ensures ∙ ap (upload_record c.args.user c.args.digest.now c.args.refused) c.as_slice-posts.ensures) c.ledger-old.ensures.ledger in
    subst (λ (next : Board). IfOk c.posted.result (Becomes b (board_outline next))) (λ i. posted_with (same i) (c.as_slice-posts.ensures i) b) c.posted.ensures.becomes

pub returns-clause-costs : goal.returns-clause-costs
returns-clause-costs c =
    let b : Board = c.args.board.now in
    let r : UploadRecord = upload_record c.args.user c.args.digest.now c.args.refused c.args.posts.now in
    let upload : c.record_of-upload.result ≡ r = c.record_of-upload.ensures ∙ ap (upload_record c.args.user c.args.digest.now c.args.refused) c.as_slice-posts.ensures in
    let same : c.in_ok-ledger.ledger ≡ with_record r b.ledger =
    made b.ledger c.ledger-old.result.now c.in_ok-ledger.ledger r c.record_of-upload.result c.in_ok-ledger.ensures upload c.ledger-old.ensures.ledger in
    let costs : (l : Ledger) → List (ℕ × Message) → Type 0 = λ l posts. IfOk c.posted.result (λ change. Spends (length posts) b (posted_with l posts b) change.intent) in
    subst (λ (l : Ledger). costs l c.args.posts.now) same (subst (costs c.in_ok-ledger.ledger) c.as_slice-posts.ensures c.posted.ensures.costs)

pub returns-clause-each : goal.returns-clause-each
returns-clause-each c =
    let b : Board = c.args.board.now in
    let posts : List (ℕ × Message) = c.args.posts.now in
    let r : UploadRecord = upload_record c.args.user c.args.digest.now c.args.refused posts in
    let upload : c.record_of-upload.result ≡ r = c.record_of-upload.ensures ∙ ap (upload_record c.args.user c.args.digest.now c.args.refused) c.as_slice-posts.ensures in
    let same : c.in_ok-ledger.ledger ≡ with_record r b.ledger =
    made b.ledger c.ledger-old.result.now c.in_ok-ledger.ledger r c.record_of-upload.result c.in_ok-ledger.ensures upload c.ledger-old.ensures.ledger in
    let change_is : posted_with c.in_ok-ledger.ledger c.as_slice-posts.result.now ≡ posted_with (with_record r b.ledger) posts = λ i. posted_with (same i) (c.as_slice-posts.ensures i) in
    one_ok (λ (change : BoardChange). LeadsEach b (posted_with c.in_ok-ledger.ledger c.as_slice-posts.result.now) change.intent) (λ (change : BoardChange). LeadsEach b (uploaded c.args.user c.args.digest.now c.args.refused posts) change.intent) c.posted.result
    (λ change each. upload_leads b c.args.user c.args.digest.now c.args.refused posts change.intent (subst (λ (next : Board → Board). LeadsEach b next change.intent) change_is each)) c.posted.ensures.each
