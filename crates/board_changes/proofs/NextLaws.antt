-- What a change makes new, in place of the old, is the next board.
use Rattle.std.proofs.Common.{◌≡◌, sym, ap, ◌∙◌, subst}
use Rattle.std.specs.Prelude.{unwrap_or}
use Rattle.board_changes.specs.Change.{Becomes}
use Rattle.board_changes.specs.declared.change.BoardChange.{BoardChange}
use Rattle.board_changes.proofs.OneBase.{conferences_back, shapes_back}
use Rattle.board_layout.specs.Board.{Board, board_with, conferences_in, shapes_in, shapes_of}
use Rattle.board_layout.specs.Renewed.{contents_of, renewed}
use Rattle.board_layout.specs.Valid.{IsBoard}

module _ (old next : Board) (change : BoardChange) (becomes : Becomes old next change) (ok : IsBoard next) where
  pub next_is : board_with (unwrap_or change.ledger old.ledger) (renewed (contents_of old) change.bases) ≡ next
  next_is =
      let conferences = ap conferences_in becomes.bases ∙ conferences_back (shapes_of next.ledger) next.conferences ok.conferences in
      λ i. record { ledger = becomes.ledger i; conferences = conferences i }

  pub next_board : IsBoard (board_with (unwrap_or change.ledger old.ledger) (renewed (contents_of old) change.bases))
  next_board = subst IsBoard (sym next_is) ok

  pub next_shapes : shapes_in (renewed (contents_of old) change.bases) ≡ shapes_of (unwrap_or change.ledger old.ledger)
  next_shapes = ap shapes_in becomes.bases ∙ (shapes_back (shapes_of next.ledger) next.conferences ok.conferences ∙ sym (ap shapes_of becomes.ledger))
