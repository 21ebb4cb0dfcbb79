use Rattle.std.proofs.Common.{◌≡◌, ◌+◌, ◌-◌, false, List, length, subst, sym, ap, ◌∙◌, arith}
use Rattle.std.proofs.lemmas.List.{take_rest, length_push}
use Rattle.std.proofs.lemmas.Result.{err_from_is_err_and}
use Rattle.board_ledger.specs.Rules.{damage_of_ledger}
use Rattle.damage_rules.specs.Rules.{Stops}
use Rattle.board_ledger.specs.Uploads.{is_repeated, upload_at, upload_in_record, upload_size}
use Rattle.board_ledger.specs.declared.upload.UploadRecord.{UploadRecord}
use Rattle.board_ledger.proofs.ApartLaws.{apart_more, none_repeated}
use Rattle.board_ledger.proofs.RecordLaws.{records_more, records_fail, records_done}
use Rattle.board_ledger.proofs.uploads.apart_uploads.Goals as goal

pub new_upload_of-requires-clause-new : goal.new_upload_of-requires-clause-new
new_upload_of-requires-clause-new c = λ long.
    subst (λ (xs : List UploadRecord). is_repeated xs (upload_in_record c.loop.rest.now) ≡ false) (sym c.as_slice.ensures)
    (none_repeated c.loop.uploads (c.args.count - c.loop.counter) (c.args.count - (c.loop.counter + 1)) c.loop.rest.now (omega arith) c.loop.invariant.apart long)

pub returns-in_err-upload : goal.returns-in_err-upload
returns-in_err-upload c =
    let p = err_from_is_err_and c.from_residual.result c.from_residual.ensures.1 in
    let failed = subst (λ (xs : List UploadRecord). Stops (damage_of_ledger c.in_err-upload.field-0.0) (upload_at c.args.first c.args.users xs c.loop.rest.now)) c.as_slice.ensures c.in_err-upload.ensures.gives in
    rw (p.1, p.2) (records_fail (upload_at c.args.first c.args.users) (c.args.count - c.loop.counter) (c.args.count - (c.loop.counter + 1)) c.loop.uploads c.loop.rest.now (damage_of_ledger c.in_err-upload.field-0.0) _ (omega arith) failed c.loop.invariant.read)

pub loop-preserved : goal.loop-preserved
loop-preserved c =
    let read = ap (λ (xs : List UploadRecord). upload_at c.args.first c.args.users xs c.loop.rest.now) (sym c.as_slice.ensures) ∙ c.in_ok-upload.ensures.gives in
    record {
      read = records_more (upload_at c.args.first c.args.users) (c.args.count - c.loop.counter) (c.args.count - (c.loop.counter + 1)) c.loop.uploads c.add.new.self c.loop.rest.now _ (c.in_ok-upload.upload, upload_size) _ (omega arith) read c.in_ok-add.ensures.ok (take_rest c.loop.rest.now upload_size) c.loop.invariant.read;
      many = ap length c.in_ok-add.ensures.ok ∙ (length_push c.loop.uploads c.in_ok-upload.upload ∙ ap (λ n. n + 1) c.loop.invariant.many);
      apart = apart_more c.loop.uploads c.add.new.self c.in_ok-upload.upload (c.args.count - c.loop.counter) (c.args.count - (c.loop.counter + 1)) c.loop.rest.now _ (omega arith) c.in_ok-upload.ensures.size c.in_ok-upload.ensures.read c.in_ok-add.ensures.ok (take_rest c.loop.rest.now upload_size) c.loop.invariant.apart;
    }

pub returns : goal.returns
returns c = records_done (upload_at c.args.first c.args.users) (c.args.count - c.loop.counter) c.loop.uploads c.loop.rest.now _ (omega arith) c.loop.invariant.read
