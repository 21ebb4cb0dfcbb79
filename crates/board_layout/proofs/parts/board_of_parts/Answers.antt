use Rattle.std.proofs.Common.{ap, arith}
use Rattle.std.specs.Prelude.{sum_by}
use Rattle.std.proofs.lemmas.Bool.{iff_false}
use Rattle.board_layout.specs.Layout.{base_size}
use Rattle.board_layout.proofs.OutlineLaws.{own_board}
use Rattle.board_layout.proofs.ReadingParts.{is_board}
use Rattle.board_layout.proofs.SizeLaws.{size_in}
use Rattle.board_layout.proofs.parts.board_of_parts.Goals as goal

pub returns-then-not-are_short : goal.returns-then-not-are_short
returns-then-not-are_short c =
    let long = iff_false c.are_short.ensures c.if-not-are_short.true in
    let same = ap (sum_by base_size) c.as_slice.ensures in
    omega (arith, long, same, size_in c.args.ledger c.args.bases c.requires.shapes)

pub new-requires-clause-board : goal.new-requires-clause-board
new-requires-clause-board c =
    let short = c.are_short.ensures.0 c.if-not-are_short.false in
    let same = ap (sum_by base_size) c.as_slice.ensures in
    is_board c.args.ledger c.args.bases c.requires.shapes c.requires.ledger c.requires.conferences c.requires.highs (omega (arith, short, same, size_in c.args.ledger c.args.bases c.requires.shapes))

pub new-requires-clause-outline : goal.new-requires-clause-outline
new-requires-clause-outline c = own_board c.args.ledger c.args.bases c.requires.outlines
