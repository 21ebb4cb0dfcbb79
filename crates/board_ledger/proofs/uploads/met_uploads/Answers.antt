use Rattle.std.proofs.Common.{◌+◌, ◌-◌, ◌^◌, ◌<◌, ◌||◌, List, length, subst, sym, ap, ◌∙◌, arith}
use Rattle.std.proofs.lemmas.List.{take_rest, length_push}
use Rattle.std.proofs.lemmas.Result.{err_from_is_err_and}
use Rattle.board_ledger.specs.Rules.{damage_of_ledger}
use Rattle.damage_rules.specs.Rules.{Stops}
use Rattle.std.specs.List.{list_any}
use Rattle.std.specs.Str.{bytes_eq}
use Rattle.std.proofs.lemmas.List.Elements.{All-push}
use Rattle.board_ledger.specs.Uploads.{upload_at, upload_size}
use Rattle.board_ledger.specs.declared.upload.UploadRecord.{UploadRecord}
use Rattle.board_ledger.proofs.MetLoops.{met_more}
use Rattle.board_ledger.proofs.UploadTests.{pair_of}
use Rattle.board_ledger.proofs.RecordLaws.{records_more, records_fail, records_done}
use Rattle.board_ledger.proofs.uploads.met_uploads.Goals as goal

pub returns-in_err-upload : goal.returns-in_err-upload
returns-in_err-upload c =
    let p = err_from_is_err_and c.from_residual.result c.from_residual.ensures.1 in
    let failed = subst (λ (xs : List UploadRecord). Stops (damage_of_ledger c.in_err-upload.field-0.0) (upload_at c.args.first c.args.users xs c.loop.rest.now)) c.as_slice.ensures c.in_err-upload.ensures.gives in
    rw (p.1, p.2) (records_fail (upload_at c.args.first c.args.users) (c.args.count - c.loop.counter) (c.args.count - (c.loop.counter + 1)) c.loop.uploads c.loop.rest.now (damage_of_ledger c.in_err-upload.field-0.0) _ (omega arith) failed c.loop.invariant.read)

pub loop-preserved : goal.loop-preserved
loop-preserved c =
    let read = ap (λ (xs : List UploadRecord). upload_at c.args.first c.args.users xs c.loop.rest.now) (sym c.as_slice.ensures) ∙ c.in_ok-upload.ensures.gives in
    record {
      read = records_more (upload_at c.args.first c.args.users) (c.args.count - c.loop.counter) (c.args.count - (c.loop.counter + 1)) c.loop.uploads c.add.new.self c.loop.rest.now _ (c.in_ok-upload.upload, upload_size) _ (omega arith) read c.in_ok-add.ensures.ok (take_rest c.loop.rest.now upload_size) c.loop.invariant.read;
      many = ap length c.in_ok-add.ensures.ok ∙ (length_push c.loop.uploads c.in_ok-upload.upload ∙ ap (λ n. n + 1) c.loop.invariant.many);
      fit = rw c.in_ok-add.ensures.ok (All-push (λ (e : UploadRecord). e.user < 2 ^ 16) _ _ c.loop.invariant.fit c.in_ok-upload.ensures.fits);
      met = λ key.
          c.in_ok-upload.ensures.added key ∙ (ap (λ b. bytes_eq (pair_of c.in_ok-upload.upload) key || b) (c.loop.invariant.met key)
          ∙ (met_more (λ (e : UploadRecord). bytes_eq (pair_of e) key) c.loop.uploads c.in_ok-upload.upload ∙ ap (list_any (λ (e : UploadRecord). bytes_eq (pair_of e) key)) (sym c.in_ok-add.ensures.ok)));
    }

pub returns : goal.returns
returns c = records_done (upload_at c.args.first c.args.users) (c.args.count - c.loop.counter) c.loop.uploads c.loop.rest.now _ (omega arith) c.loop.invariant.read
