use Rattle.std.proofs.Common.{◌<◌, ◌^◌, ◌∙◌, ℕ, List, length, sym, subst, arith}
use Rattle.std.proofs.lemmas.Bool.{eqb-true}
use Rattle.std.proofs.lemmas.List.{take_rest, length-drop}
use Rattle.std.proofs.lemmas.Result.{err_from_is_err_and}
use Rattle.jam_layout.specs.Headers.{header_at}
use Rattle.damage_rules.proofs.RecordWalks.{goes_on}
use Rattle.jam_layout.proofs.HeaderLoop.{not_empty, headers_fail, headers_end}
use Rattle.jam_layout.proofs.headers.entries_of.Goals as goal

pub returns-in_err-entry : goal.returns-in_err-entry
returns-in_err-entry c =
    let p = err_from_is_err_and c.from_residual.result c.from_residual.ensures.1 in
    let some : 0 < length c.loop-rest.rest.now = not_empty c.loop-rest.rest.now c.is_empty.result c.is_empty.ensures c.loop-rest-test.true in
    rw (p.1, p.2) (headers_fail c.args.place c.args.kind c.loop-rest.entries c.loop-rest.front c.loop-rest.rest.now c.args.bytes.now _ some c.in_err-entry.ensures.gives c.loop-rest.invariant.read)

pub loop-rest-preserved : goal.loop-rest-preserved
loop-rest-preserved c =
    let some : 0 < length c.loop-rest.rest.now = not_empty c.loop-rest.rest.now c.is_empty.result c.is_empty.ensures c.loop-rest-test.true in
    record {
      read = goes_on (header_at c.args.place c.args.kind) c.loop-rest.front c.loop-rest.rest.now _ c.loop-rest.entries c.add.new.self _ _ some c.in_ok-entry.ensures.gives (omega (arith, c.in_ok-entry.ensures.size.0)) (take_rest c.loop-rest.rest.now c.in_ok-entry.size) c.in_ok-add.ensures.ok c.loop-rest.invariant.read;
      item = omega (arith, c.loop-rest.invariant.item, c.in_ok-entry.ensures.bounds.0);
      last = c.in_ok-entry.ensures.bounds.1;
      offset = omega (arith, c.loop-rest.invariant.offset, c.in_ok-entry.ensures.bounds.0, c.in_ok-entry.ensures.bounds.2);
      small = subst (λ (xs : List ℕ). length xs < 2 ^ 31) (sym (take_rest c.loop-rest.rest.now c.in_ok-entry.size)) (omega (arith, length-drop c.in_ok-entry.size c.loop-rest.rest.now, c.loop-rest.invariant.small));
    }

pub returns : goal.returns
returns c =
    headers_end c.args.place c.args.kind c.loop-rest.entries c.loop-rest.front c.loop-rest.rest.now c.args.bytes.now (eqb-true _ _ (sym c.is_empty.ensures ∙ c.loop-rest-test.false)) c.loop-rest.invariant.read
