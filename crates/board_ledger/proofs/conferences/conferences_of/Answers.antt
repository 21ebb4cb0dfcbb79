use Rattle.std.proofs.Common.{◌+◌, ◌-◌, List, length, subst, sym, ap, ◌∙◌, arith}
use Rattle.std.proofs.lemmas.List.{take_rest, length_push}
use Rattle.std.proofs.lemmas.Result.{err_from_is_err_and}
use Rattle.board_ledger.specs.Rules.{damage_of_ledger}
use Rattle.damage_rules.specs.Rules.{Stops}
use Rattle.setup_file.specs.declared.conference.Conference.{Conference}
use Rattle.board_ledger.specs.Conferences.{conference_at}
use Rattle.board_ledger.proofs.RecordLaws.{records_more, records_fail, records_done}
use Rattle.board_ledger.proofs.conferences.conferences_of.Goals as goal

pub returns-in_err-conference : goal.returns-in_err-conference
returns-in_err-conference c =
    let p = err_from_is_err_and c.from_residual.result c.from_residual.ensures.1 in
    let failed = subst (λ (xs : List Conference). Stops (damage_of_ledger c.in_err-conference.field-0.0) (conference_at xs c.loop.rest.now)) c.as_slice.ensures c.in_err-conference.ensures.gives in
    rw (p.1, p.2) (records_fail conference_at (c.args.count - c.loop.counter) (c.args.count - (c.loop.counter + 1)) c.loop.conferences c.loop.rest.now (damage_of_ledger c.in_err-conference.field-0.0) _ (omega arith) failed c.loop.invariant.read)

pub loop-preserved : goal.loop-preserved
loop-preserved c =
    let read = ap (λ (xs : List Conference). conference_at xs c.loop.rest.now) (sym c.as_slice.ensures) ∙ c.in_ok-conference.ensures.gives in
    record {
      read = records_more conference_at (c.args.count - c.loop.counter) (c.args.count - (c.loop.counter + 1)) c.loop.conferences c.add.new.self c.loop.rest.now _ (c.in_ok-conference.conference, c.in_ok-conference.size) _ (omega arith) read c.in_ok-add.ensures.ok (take_rest c.loop.rest.now c.in_ok-conference.size) c.loop.invariant.read;
      many = ap length c.in_ok-add.ensures.ok ∙ (length_push c.loop.conferences c.in_ok-conference.conference ∙ ap (λ n. n + 1) c.loop.invariant.many);
    }

pub returns : goal.returns
returns c = records_done conference_at (c.args.count - c.loop.counter) c.loop.conferences c.loop.rest.now _ (omega arith) c.loop.invariant.read
