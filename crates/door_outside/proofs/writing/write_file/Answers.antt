use Rattle.std.proofs.lemmas.Result.{err_from_is_err_and}
use Rattle.door_outside.proofs.Shelves.{begun_or_not, begun_then}
use Rattle.door_outside.proofs.writing.write_file.Goals as goal

pub returns-in_err-begin-clause-done : goal.returns-in_err-begin-clause-done
returns-in_err-begin-clause-done g c tells =
    let p = err_from_is_err_and c.from_residual.result c.from_residual.ensures.1 in
    rw p.1 (begun_or_not (g.S.Shelf.files c.args.shelf.now) (g.S.Shelf.files c.begin.new.self) c.args.name.now (c.in_err-begin.ensures.done tells))

pub returns-clause-done : goal.returns-clause-done
returns-clause-done g c tells =
    begun_then (g.S.Shelf.files c.args.shelf.now) (g.S.Shelf.files c.begin.new.self) (g.S.Shelf.files c.append.new.self) c.args.name.now c.args.bytes.now c.append.result (c.in_ok-begin.ensures.done tells)
    (c.append.ensures.done tells)
