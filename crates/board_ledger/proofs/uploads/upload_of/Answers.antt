use Rattle.std.proofs.Common.{◌≡◌, ◌≤◌, ◌<◌, ◌^◌, ◌||◌, ℕ, Bool, List, false, true, length, take, refl, sym, ap, ◌∙◌, Ok, arith}
use Rattle.std.specs.Prelude.{All}
use Rattle.std.specs.List.{list_any}
use Rattle.std.specs.Str.{bytes_eq}
use Rattle.std.proofs.lemmas.Bool.{le-ltb}
use Rattle.std.proofs.lemmas.List.{length-take}
use Rattle.jam_records.specs.byte_lists.Byte.{IsByte}
use Rattle.jam_records.proofs.record_numbers.NumberLemmas.{all_bytes}
use Rattle.board_ledger.specs.Met.{is_met}
use Rattle.board_ledger.specs.Uploads.{upload_in_record, wrong_user, too_many, is_repeated, upload_size}
use Rattle.board_ledger.specs.declared.upload.UploadRecord.{UploadRecord}
use Rattle.board_ledger.proofs.UploadTests.{pair_of, pair_front, user_small, pairs_met, by_tests}
use Rattle.board_ledger.proofs.uploads.upload_of.Goals as goal

repeated : (bytes : List ℕ) (before : List UploadRecord) (met : List ℕ → Bool) (found : Bool) → All IsByte bytes → upload_size ≤ length bytes → All (λ e. e.user < 2 ^ 16) before
    → ((key : List ℕ) → met key ≡ list_any (λ e. bytes_eq (pair_of e) key) before) → found ≡ met (take 34 bytes) → found ≡ is_repeated before (upload_in_record bytes)
repeated bytes before met found all long fit keeps is =
    is ∙ (keeps (take 34 bytes) ∙ (ap (λ key. list_any (λ e. bytes_eq (pair_of e) key) before) (pair_front bytes all long) ∙ pairs_met before (upload_in_record bytes) fit (user_small bytes all)))

pub slice_bounds-pair-end : goal.slice_bounds-pair-end
slice_bounds-pair-end c = let long : upload_size ≤ length c.args.bytes.now = omega (arith, c.if-bytes-lt-UPLOAD_SIZE.false) in omega (arith, length-take 34 c.args.bytes.now)

pub returns-then-branch-clause-gives : goal.returns-then-branch-clause-gives
returns-then-branch-clause-gives c =
    let all : All IsByte c.args.bytes.now = all_bytes c.args.bytes.now (λ i. omega (arith, c.type_inv.bytes i)) in
    let long : upload_size ≤ length c.args.bytes.now = omega (arith, c.if-bytes-lt-UPLOAD_SIZE.false) in
    let found = repeated c.args.bytes.now c.args.before.now (is_met c.args.pairs.now) c.in_ok-add.field-0 all long c.requires.fit c.requires.met c.in_ok-add.ensures.before in
    rw c.damaged-then-branch.ensures (by_tests c.args.first c.args.users c.args.before.now c.args.bytes.now false false true (too_many (upload_in_record c.args.bytes.now).counts)
    (sym (le-ltb _ _ long)) (c.if-wrong_user.ensures ∙ ap (wrong_user c.args.users) c.read-upload.ensures) (sym c.if-branch.true ∙ found) refl)

pub returns-then-too_many-clause-gives : goal.returns-then-too_many-clause-gives
returns-then-too_many-clause-gives c =
    let all : All IsByte c.args.bytes.now = all_bytes c.args.bytes.now (λ i. omega (arith, c.type_inv.bytes i)) in
    let long : upload_size ≤ length c.args.bytes.now = omega (arith, c.if-bytes-lt-UPLOAD_SIZE.false) in
    let found = repeated c.args.bytes.now c.args.before.now (is_met c.args.pairs.now) c.in_ok-add.field-0 all long c.requires.fit c.requires.met c.in_ok-add.ensures.before in
    rw c.damaged-then-too_many.ensures (by_tests c.args.first c.args.users c.args.before.now c.args.bytes.now false false false true
    (sym (le-ltb _ _ long)) (c.if-wrong_user.ensures ∙ ap (wrong_user c.args.users) c.read-upload.ensures) (sym c.if-branch.false ∙ found) (c.if-too_many.ensures ∙ ap (λ (r : UploadRecord). too_many r.counts) c.read-upload.ensures))

pub returns-clause-gives : goal.returns-clause-gives
returns-clause-gives c =
    let all : All IsByte c.args.bytes.now = all_bytes c.args.bytes.now (λ i. omega (arith, c.type_inv.bytes i)) in
    let long : upload_size ≤ length c.args.bytes.now = omega (arith, c.if-bytes-lt-UPLOAD_SIZE.false) in
    let found = repeated c.args.bytes.now c.args.before.now (is_met c.args.pairs.now) c.in_ok-add.field-0 all long c.requires.fit c.requires.met c.in_ok-add.ensures.before in
    by_tests c.args.first c.args.users c.args.before.now c.args.bytes.now false false false false
    (sym (le-ltb _ _ long)) (c.if-wrong_user.ensures ∙ ap (wrong_user c.args.users) c.read-upload.ensures) (sym c.if-branch.false ∙ found) (c.if-too_many.ensures ∙ ap (λ (r : UploadRecord). too_many r.counts) c.read-upload.ensures)
    ∙ ap (λ (r : UploadRecord). Ok (r, upload_size)) (sym c.read-upload.ensures)

pub returns-clause-added : goal.returns-clause-added
returns-clause-added c = λ key.
    let all : All IsByte c.args.bytes.now = all_bytes c.args.bytes.now (λ i. omega (arith, c.type_inv.bytes i)) in
    let long : upload_size ≤ length c.args.bytes.now = omega (arith, c.if-bytes-lt-UPLOAD_SIZE.false) in
    c.in_ok-add.ensures.added key ∙ ap (λ k. bytes_eq k key || is_met c.args.pairs.now key) (pair_front c.args.bytes.now all long ∙ ap pair_of (sym c.read-upload.ensures))
