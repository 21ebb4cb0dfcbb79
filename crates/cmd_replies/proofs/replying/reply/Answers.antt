use Rattle.std.proofs.lemmas.Result.{err_from_is_err_and}
use Rattle.cmd_replies.specs.Reply.{ReplyMakes, reply_line}
use Rattle.cmd_replies.proofs.Makings.{serves_put, serves_halt}
use Rattle.cmd_replies.proofs.replying.reply.Goals as goal

pub returns-clause-serves : goal.returns-clause-serves
returns-clause-serves g c tells =
    serves_put c.args.rep.now (ReplyMakes c.args.folder.now c.args.place c.args.text.now c.args.rep.now c.args.now) (reply_line c.args.place c.args.rep.now) (g.S.Shelf.files c.args.shelf.now) _ (g.S.Shelf.files c.put.new.shelf) c.in_ok-made.made c.put.result
    (c.in_ok-made.ensures.unchanged tells) (c.in_ok-made.ensures.made tells) (c.put.ensures.puts tells)

pub returns-in_err-made-clause-serves : goal.returns-in_err-made-clause-serves
returns-in_err-made-clause-serves g c tells =
    let p = err_from_is_err_and c.from_residual.result c.from_residual.ensures.1 in
    rw (p.1, p.2) (serves_halt c.args.rep.now (ReplyMakes c.args.folder.now c.args.place c.args.text.now c.args.rep.now c.args.now) (reply_line c.args.place c.args.rep.now) (g.S.Shelf.files c.args.shelf.now) _ c.in_err-made.field-0.0 (c.in_err-made.ensures.unchanged tells) (c.in_err-made.ensures.made tells))
