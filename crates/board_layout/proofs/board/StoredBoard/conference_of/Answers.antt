use Rattle.std.proofs.Common.{◌≡◌, None, slice_get, sym, ap, ◌∙◌, arith}
use Rattle.std.specs.Option.{option_copied}
use Rattle.board_layout.proofs.BoardLookups.{conferences_count, not_past}
use Rattle.board_layout.specs.Board.{Board}
use Rattle.board_ledger.specs.declared.ledger.Ledger.{Ledger}
use Rattle.board_layout.proofs.board.StoredBoard.conference_of.Goals as goal

pub unreachable-requires : goal.unreachable-requires
unreachable-requires c =
    let b : Board = c.args.self.now in
    let none : slice_get b.ledger.setup.conferences c.args.place ≡ None =
    sym (c.get.ensures ∙ (λ i. slice_get ((c.fields.ensures.fields ∙ ap (λ (l : Ledger). l.setup) c.ledger.ensures.ledger) i).conferences (c.from.ensures i))) ∙ ap option_copied c.in-None.is in
    not_past b.ledger.setup.conferences c.args.place (omega (arith, conferences_count b c.ledger.ensures.board, c.requires)) none
