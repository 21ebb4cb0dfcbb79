use Rattle.std.proofs.Common.{◌++◌, length, refl, ap, ◌∙◌, arith}
use Rattle.std.proofs.lemmas.List.{take_rest, length-drop}
use Rattle.jam_records.specs.declared.index_record.IndexRecord.{IndexRecord}
use Rattle.jam_adopt.specs.Foreign.{verdict_of, found_at}
use Rattle.jam_adopt.proofs.IndexWalk.{one_more, none_left}
use Rattle.jam_adopt.proofs.read.add_all.Goals as goal

pub loop-rest-preserved : goal.loop-rest-preserved
loop-rest-preserved c =
    let behind = take_rest c.loop-rest.rest.now 8 in
    let added = c.in_ok-add_found.ensures ∙ ap (λ (pair : IndexRecord). c.loop-rest.found ++ found_at c.loop-rest.place (verdict_of c.args.jhr.now c.args.jdt.now pair)) c.record_at.ensures in
    record {
      found = one_more c.args.jhr.now c.args.jdt.now c.loop-rest.place _ c.loop-rest.rest.now _ c.loop-rest.found c.add_found.new.found _ (omega (arith, c.loop-rest-test.true)) behind refl added c.loop-rest.invariant.found;
      places = omega (arith, c.loop-rest.invariant.places, c.loop-rest-test.true, ap length behind, length-drop 8 c.loop-rest.rest.now);
    }

pub returns : goal.returns
returns c = none_left c.args.jhr.now c.args.jdt.now c.loop-rest.place c.loop-rest.rest.now c.loop-rest.found _ (omega (arith, c.loop-rest-test.false)) c.loop-rest.invariant.found
