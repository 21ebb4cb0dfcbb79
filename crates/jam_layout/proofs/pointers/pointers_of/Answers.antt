use Rattle.std.proofs.Common.{◌≡◌, length, ap, sym, refl, ◌∙◌, arith}
use Rattle.std.proofs.lemmas.List.{take_rest, length-drop}
use Rattle.std.proofs.lemmas.Result.{err_from_is_err_and}
use Rattle.jam_layout.proofs.PointerLoop.{round, goes_on, fails, none_left, some_left}
use Rattle.jam_layout.proofs.pointers.pointers_of.Goals as goal

pub returns-in_err-pointer : goal.returns-in_err-pointer
returns-in_err-pointer c =
    let p = err_from_is_err_and c.from_residual.result c.from_residual.ensures.1 in
    rw (p.1, p.2) (fails c.args.place c.args.count c.loop-j.j c.args.readers.now c.at.result.now c.loop-j.pointers c.loop-j.rest.now c.in_err-pointer.field-0.0 _ (round c.args.readers.now c.args.readers.now c.loop-j.j c.at.result.now refl (omega (arith, c.loop-j-test.true, c.len-j-end.ensures.count)) c.at.ensures) c.in_err-pointer.ensures.gives c.loop-j.invariant.0)

pub loop-j-preserved : goal.loop-j-preserved
loop-j-preserved c =
    let rest = take_rest c.loop-j.rest.now 16 in
    let len = ap length rest ∙ length-drop 16 c.loop-j.rest.now in
    let before = c.loop-j.invariant.1 in
    let long = c.in_ok-pointer.ensures.long in
    (goes_on c.args.place c.args.count c.loop-j.j c.args.readers.now c.at.result.now c.loop-j.pointers c.add.new.self c.loop-j.rest.now _ c.in_ok-pointer.pointer _ (round c.args.readers.now c.args.readers.now c.loop-j.j c.at.result.now refl (omega (arith, c.loop-j-test.true, c.len-j-end.ensures.count)) c.at.ensures) c.in_ok-pointer.ensures.gives (take_rest c.loop-j.rest.now 16) c.in_ok-add.ensures.ok c.loop-j.invariant.0, omega (arith, len, before, long))

pub returns-then-not-is_empty : goal.returns-then-not-is_empty
returns-then-not-is_empty c =
    let j : c.loop-j.j ≡ c.len.result = omega (arith, c.len-j-end.ensures.count, c.len.ensures.count) in
    let e = some_left c.args.place c.args.count c.loop-j.j c.args.readers.now c.loop-j.pointers c.loop-j.rest.now _ (omega (arith, c.len-j-end.ensures.count)) (sym c.if-not-is_empty.ensures) c.loop-j.invariant.0 in
    rw (c.damaged.ensures, c.jlr.ensures, ← j) e

pub returns : goal.returns
returns c =
    none_left c.args.place c.args.count c.loop-j.j c.args.readers.now c.loop-j.pointers c.loop-j.rest.now _ (omega (arith, c.len-j-end.ensures.count)) (sym c.if-not-is_empty.ensures) c.loop-j.invariant.0
