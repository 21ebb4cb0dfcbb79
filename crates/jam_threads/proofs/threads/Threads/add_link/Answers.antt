use Rattle.std.proofs.Common.{length, refl, ap, ◌∙◌, arith}
use Rattle.jam_threads.proofs.ChildrenLemmas.{length-push}
use Rattle.jam_threads.proofs.ChainLemmas.{added_plain, added_hung, last_child_so_far}
use Rattle.jam_threads.proofs.threads.Threads.add_link.Goals as goal

pub hang-requires-clause-last : goal.hang-requires-clause-last
hang-requires-clause-last c =
    let bound = last_child_so_far c.requires.slots.0 c.args.self.now.links.items c.args.self.now.last_answers.items c.put_behind-2.new.values.items c.args.original c.requires.slots.1 (omega arith) c.requires.within c.put_behind-2.ensures.items in
    omega (arith, bound, ap length c.put_behind.ensures.items ∙ length-push c.args.self.now.links.items _)

pub returns-then-original-ne0-clause-chains : goal.returns-then-original-ne0-clause-chains
returns-then-original-ne0-clause-chains c = λ slots s chains is number.
    added_hung slots _ s c.args.self.now.links.items c.put_behind.new.values.items _ c.args.self.now.last_answers.items c.put_behind-2.new.values.items _ c.args.original c.args.number refl c.put_behind.ensures.items c.put_behind-2.ensures.items chains is c.if-original-ne0.true number c.hang.ensures.count c.hang.ensures.links c.hang.ensures.lasts

pub returns-else-original-ne0-clause-chains : goal.returns-else-original-ne0-clause-chains
returns-else-original-ne0-clause-chains c = λ slots s chains is number.
    added_plain slots _ s c.args.self.now.links.items c.put_behind.new.values.items c.args.self.now.last_answers.items c.put_behind-2.new.values.items c.args.original refl c.put_behind.ensures.items c.put_behind-2.ensures.items chains is c.if-original-ne0.false
