use Rattle.std.proofs.Common.{ℕ, List, sym, subst}
use Rattle.std.proofs.lemmas.List.{take_rest}
use Rattle.std.proofs.lemmas.Result.{err_from_is_err_and}
use Rattle.jam_layout.proofs.BodyLoop.{LengthsSoFar, lengths_begin, lengths_more, lengths_fail, lengths_done, lengths_rest}
use Rattle.jam_layout.proofs.bodies.lengths_of.Goals as goal

pub loop-i-init : goal.loop-i-init
loop-i-init c =
    subst (λ (found : List ℕ). LengthsSoFar c.args.place 0 c.args.entries.now c.args.bytes.now c.args.bytes.now found) (sym c.new-lengths.ensures) (lengths_begin c.args.place c.args.entries.now c.args.bytes.now)

pub returns-in_err-check_body : goal.returns-in_err-check_body
returns-in_err-check_body c =
    let p = err_from_is_err_and c.from_residual.result c.from_residual.ensures.1 in
    rw (p.1, p.2) (lengths_fail c.args.place c.loop-i.i c.args.entries.now c.index-entries-i.result c.args.bytes.now c.loop-i.rest.now c.loop-i.lengths c.in_err-check_body.field-0.0 c.loop-i-test.true c.index-entries-i.is c.in_err-check_body.ensures.gives c.loop-i.invariant)

pub loop-i-preserved : goal.loop-i-preserved
loop-i-preserved c =
    lengths_more c.args.place c.loop-i.i c.args.entries.now c.index-entries-i.result c.args.bytes.now c.loop-i.rest.now _ c.loop-i.lengths c.add.new.self c.loop-i-test.true c.index-entries-i.is c.in_ok-check_body.ensures.gives c.in_ok-check_body.ensures.long
    (take_rest c.loop-i.rest.now c.index-entries-i.result.text_len) c.in_ok-add.ensures.ok c.loop-i.invariant

pub returns : goal.returns
returns c = lengths_done c.args.place c.loop-i.i c.args.entries.now c.args.bytes.now c.loop-i.rest.now c.loop-i.lengths c.loop-i-test.false (sym c.if-not-is_empty.ensures) c.loop-i.invariant

pub returns-then-not-is_empty : goal.returns-then-not-is_empty
returns-then-not-is_empty c =
    rw (c.damaged.ensures, c.jdt.ensures) (lengths_rest c.args.place c.loop-i.i c.args.entries.now c.args.bytes.now c.loop-i.rest.now c.loop-i.lengths c.loop-i-test.false (sym c.if-not-is_empty.ensures) c.loop-i.invariant)
