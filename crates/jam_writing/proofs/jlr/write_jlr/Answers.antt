use Rattle.std.proofs.Common.{◌++◌, ◌∙◌, inl, inr, sym, refl, ap, arith}
use Rattle.jam_writing.proofs.LastReadLoop.{record_added, all_added, none_found}
use Rattle.jam_writing.proofs.jlr.write_jlr.Goals as goal
use Rattle.jam_writing.proofs.jlr.write_jlr.Goals.{else-loop-place-test, then-loop-place-test+in_default}

pub loop-place-preserved : goal.loop-place-preserved
loop-place-preserved c =
    record_added c.args.readers.now c.args.pointers.now c.loop-place.place c.in-Some.reader.now _ c.loop-place.jlr c.add.new.self _ (sym c.in-Some.ensures) (omega (arith, c.loop-place-test.true)) refl
    (c.in_ok-add.ensures.ok ∙ ap (λ xs. c.loop-place.jlr ++ xs) c.write_reader.ensures) c.loop-place.invariant

pub returns : goal.returns
returns c =
    elim c.loop-place-test.branch [
      | else-loop-place-test w ↦ all_added c.args.readers.now c.args.pointers.now c.loop-place.place c.loop-place.jlr _ (inr (omega (arith, w.loop-place-test.false))) c.loop-place.invariant
      | then-loop-place-test+in_default w ↦ all_added c.args.readers.now c.args.pointers.now c.loop-place.place c.loop-place.jlr _ (inl (none_found c.args.readers.now c.loop-place.place (sym w.in_default.ensures))) c.loop-place.invariant
    ]
