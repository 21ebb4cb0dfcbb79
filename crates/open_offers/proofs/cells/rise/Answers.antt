use Rattle.std.proofs.Common.{◌∙◌, sym, ap}
use Rattle.std.specs.List.{list_all}
use Rattle.std.proofs.lemmas.List.{take_rest}
use Rattle.open_offers.specs.Offers.{is_nothing}
use Rattle.open_offers.proofs.CellTests.{rise_ends, rise_goes, rise_stops}
use Rattle.open_offers.proofs.cells.rise.Goals as goal

pub returns-then-cell-eq0 : goal.returns-then-cell-eq0
returns-then-cell-eq0 c =
    c.are_nothing.ensures
    ∙ (ap (list_all is_nothing) (take_rest c.args.cells.now c.loop-k.k)
    ∙ (sym (rise_ends c.args.members c.args.last c.loop-k.before c.loop-k.k c.index-cells-k.result c.args.cells.now c.loop-k-test.true c.index-cells-k.is c.if-cell-eq0.true) ∙ c.loop-k.invariant))

pub returns-then-not-is_behind : goal.returns-then-not-is_behind
returns-then-not-is_behind c =
    let stops = rise_stops c.args.members c.args.last c.loop-k.before c.loop-k.k c.index-cells-k.result c.args.cells.now c.loop-k-test.true c.index-cells-k.is c.if-cell-eq0.false c.is_behind.result c.is_behind.ensures c.if-not-is_behind.true in
    sym stops ∙ c.loop-k.invariant

pub loop-k-preserved : goal.loop-k-preserved
loop-k-preserved c =
    let goes = rise_goes c.args.members c.args.last c.loop-k.before c.loop-k.k c.index-cells-k.result c.args.cells.now c.loop-k-test.true c.index-cells-k.is c.if-cell-eq0.false c.is_behind.result c.is_behind.ensures c.if-not-is_behind.false in
    sym goes ∙ c.loop-k.invariant
