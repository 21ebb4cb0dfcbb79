use Rattle.std.proofs.Common.{◌≡◌, ◌∙◌, ◌++◌, List, length, take, drop, sym, ap, subst, arith}
use Rattle.std.proofs.Math.Seq.{take-append_seam}
use Rattle.jam_base.specs.Contents.{Contents}
use Rattle.std.specs.Prelude.{unwrap_or}
use Rattle.board_ledger.specs.declared.ledger.Ledger.{Ledger}
use Rattle.board_layout.specs.Board.{Board, board_with, shapes_in, shapes_of}
use Rattle.board_layout.specs.Outlines.{board_outline}
use Rattle.board_layout.specs.Renewed.{contents_of, renewed}
use Rattle.board_layout.specs.Valid.{IsBoard}
use Rattle.board_layout.proofs.RenewedBases.{contents_are, renewed_count}
use Rattle.board_layout.proofs.board.StoredBoard.renew.Goals as goal

-- the board is its own outline
abbrev IsOwn : Board → Type 0
IsOwn b = board_outline b ≡ b

pub invariant_of-self : goal.invariant_of-self
invariant_of-self c =
    let old : List Contents = c.self.inside.bases.items in
    let new : List Contents = c.renew_bases.new.olds in
    let from : contents_of c.args.self.now ≡ old = ap contents_of (sym c.self.view_is) ∙ contents_are c.self.inside.ledger old c.self.invariant.1 in
    let made : new ≡ renewed (contents_of c.args.self.now) c.args.bases =
    c.renew_bases.ensures ∙ ((λ i. renewed (c.deref_mut.ensures.value i) (c.into_vec.ensures i)) ∙ ap (λ (xs : List Contents). renewed xs c.args.bases) (sym from)) in
    let count : c.self.inside.bases.len ≡ length new = omega (arith, ap length made, renewed_count (contents_of c.args.self.now) c.args.bases, ap length from, c.self.inside.bases.ok.0) in
    let taken : take c.self.inside.bases.len (new ++ drop (length new) old) ≡ renewed (contents_of c.args.self.now) c.args.bases =
    ap (λ n. take n (new ++ drop (length new) old)) count ∙ (take-append_seam new (drop (length new) old) ∙ made) in
    let ledger : c.renew_ledger.new.ledger ≡ unwrap_or c.args.ledger c.args.self.now.ledger = c.renew_ledger.ensures ∙ ap (λ (b : Board). unwrap_or c.args.ledger b.ledger) c.self.view_is in
    subst (λ (l : Ledger). IsBoard (board_with l (take c.self.inside.bases.len (new ++ drop (length new) old))) × (shapes_in (take c.self.inside.bases.len (new ++ drop (length new) old)) ≡ shapes_of l) × IsOwn (board_with l (take c.self.inside.bases.len (new ++ drop (length new) old)))) (sym ledger)
    (subst (λ (xs : List Contents). IsBoard (board_with (unwrap_or c.args.ledger c.args.self.now.ledger) xs) × (shapes_in xs ≡ shapes_of (unwrap_or c.args.ledger c.args.self.now.ledger)) × IsOwn (board_with (unwrap_or c.args.ledger c.args.self.now.ledger) xs)) (sym taken) (c.requires.board, c.requires.shapes, c.requires.outline))

pub returns : goal.returns
returns c =
    let old : List Contents = c.self.inside.bases.items in
    let new : List Contents = c.renew_bases.new.olds in
    let from : contents_of c.args.self.now ≡ old = ap contents_of (sym c.self.view_is) ∙ contents_are c.self.inside.ledger old c.self.invariant.1 in
    let made : new ≡ renewed (contents_of c.args.self.now) c.args.bases =
    c.renew_bases.ensures ∙ ((λ i. renewed (c.deref_mut.ensures.value i) (c.into_vec.ensures i)) ∙ ap (λ (xs : List Contents). renewed xs c.args.bases) (sym from)) in
    let count : c.self.inside.bases.len ≡ length new = omega (arith, ap length made, renewed_count (contents_of c.args.self.now) c.args.bases, ap length from, c.self.inside.bases.ok.0) in
    let ledger : c.renew_ledger.new.ledger ≡ unwrap_or c.args.ledger c.args.self.now.ledger = c.renew_ledger.ensures ∙ ap (λ (b : Board). unwrap_or c.args.ledger b.ledger) c.self.view_is in
    let bases : take c.self.inside.bases.len (new ++ drop (length new) old) ≡ renewed (contents_of c.args.self.now) c.args.bases = ap (λ n. take n (new ++ drop (length new) old)) count ∙ (take-append_seam new (drop (length new) old) ∙ made) in
    λ i. board_with (ledger i) (bases i)
