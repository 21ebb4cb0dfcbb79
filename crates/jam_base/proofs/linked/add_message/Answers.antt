use Rattle.std.proofs.Common.{sym, ◌∙◌}
use Rattle.jam_base.proofs.LinkLoop.{some_number}
use Rattle.jam_base.proofs.linked.add_message.Goals as goal

pub add_link-requires-clause-some : goal.add_link-requires-clause-some
add_link-requires-clause-some c =
    some_number c.requires.threads.slots c.args.message.now c.as_slice-replyid.result.now c.in-Some.link c.as_slice-replyid.ensures.same (sym c.in-Some.is ∙ c.link_new.ensures c.requires.threads.slots c.requires.threads.are)
