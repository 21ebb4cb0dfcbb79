use Rattle.std.proofs.Common.{rules, ◌≡◌, Err, refl, arith}
use Rattle.std.proofs.lemmas.List.{drop_all}
use Rattle.entry_runs.proofs.Voice.{no_pieces, pieces_more, pieces_cut, all_pieces}
use Rattle.entry_runs.proofs.saying.Gathered.add.Goals as goal

pub loop-piece-init : goal.loop-piece-init
loop-piece-init g c = record { gathered = λ tells. no_pieces c.args.pieces.now _ _; voice = refl; disk = refl }

pub returns-in_err-add_piece-clause-gathers : goal.returns-in_err-add_piece-clause-gathers
returns-in_err-add_piece-clause-gathers g c tells =
    let is : c.from_residual.result ≡ Err c.in_err-add_piece.field-0.0 = search rules in
    rw is (pieces_cut c.args.pieces.now c.loop-piece.piece-index (c.loop-piece.invariant.gathered tells) _ (omega arith) (c.in_err-add_piece.ensures.gathers tells))

pub loop-piece-preserved : goal.loop-piece-preserved
loop-piece-preserved g c = record {
  gathered = λ tells. pieces_more c.args.pieces.now c.loop-piece.piece-index (c.loop-piece.invariant.gathered tells) _ (omega arith) (c.in_ok-add_piece.ensures.gathers tells);
  voice = search rules;
  disk = search rules;
}

pub returns-clause-gathers : goal.returns-clause-gathers
returns-clause-gathers g c tells = all_pieces c.args.pieces.now c.loop-piece.piece-index (c.loop-piece.invariant.gathered tells) (drop_all c.loop-piece.piece-index c.args.pieces.now (omega arith))
