use Rattle.std.proofs.Common.{refl}
use Rattle.open_offers.proofs.CellTests.{open_done, open_ends, open_goes}
use Rattle.open_offers.proofs.cells.open_count.Goals as goal

pub returns-then-cell-eq0 : goal.returns-then-cell-eq0
returns-then-cell-eq0 c = open_ends c.loop-k.k c.index-cells-k.result c.args.cells.now c.loop-k-test.true c.index-cells-k.is c.if-cell-eq0.true c.loop-k.invariant

pub loop-k-preserved : goal.loop-k-preserved
loop-k-preserved c = open_goes c.loop-k.k c.index-cells-k.result c.args.cells.now c.loop-k-test.true c.index-cells-k.is c.if-cell-eq0.false c.loop-k.invariant

pub returns : goal.returns
returns c = open_done c.loop-k.k c.args.cells.now c.loop-k-test.false c.loop-k.invariant _ refl
