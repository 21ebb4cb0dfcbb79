use Rattle.std.proofs.lemmas.Result.{err_from_is_err_and}
use Rattle.door_export.proofs.FolderLaws.{both_written, first_fails}
use Rattle.door_export.proofs.folder.write_packet.Goals as goal

pub returns-in_err-write_file-clause-done : goal.returns-in_err-write_file-clause-done
returns-in_err-write_file-clause-done g c tells folder control message =
    let p = err_from_is_err_and c.from_residual.result c.from_residual.ensures.1 in
    rw p.1 (first_fails folder c.args.names.now.control (g.S.Shelf.files c.args.shelf.now) (g.S.Shelf.files c.write_file.new.shelf) control (c.in_err-write_file.ensures.done tells))

pub returns-clause-done : goal.returns-clause-done
returns-clause-done g c tells folder control message =
    both_written folder c.args.names.now.control c.args.names.now.messages c.args.controls.now c.args.messages.now (g.S.Shelf.files c.args.shelf.now) (g.S.Shelf.files c.write_file.new.shelf) (g.S.Shelf.files c.write_file-2.new.shelf)
    c.write_file-2.result control message (c.in_ok-write_file.ensures.done tells) (c.write_file-2.ensures.done tells)
