use Rattle.std.proofs.Common.{◌≡◌, drop}
use Rattle.board_layout.specs.Board.{conferences_in}
use Rattle.board_layout.specs.Valid.{offers_fit}
use Rattle.board_layout.proofs.highs.offers_fit.Given as goal

-- the offers that are left say whether all fit
abbrev pub invariant-loop-offer : goal.invariant-loop-offer
invariant-loop-offer l = offers_fit (conferences_in l.bases) (drop l.offer-index l.offers) ≡ offers_fit (conferences_in l.bases) l.offers
