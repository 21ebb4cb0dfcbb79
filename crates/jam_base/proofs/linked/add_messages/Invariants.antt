use Rattle.jam_base.proofs.LinkLoop.{LinksSoFar}
use Rattle.jam_base.proofs.linked.add_messages.Given as goal

abbrev pub invariant-loop-message : goal.invariant-loop-message
invariant-loop-message l = LinksSoFar l.place l.slots l.messages l.message-index l.threads l.patches
