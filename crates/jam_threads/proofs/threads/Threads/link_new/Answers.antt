use Rattle.std.proofs.Common.{◌≡◌, ◌≤◌, ◌<◌, length, sym, ◌∙◌, arith}
use Rattle.jam_threads.specs.Chains.{last_in}
use Rattle.jam_threads.specs.Children.{children}
use Rattle.jam_threads.proofs.ChildrenLemmas.{original_behind-le}
use Rattle.jam_threads.proofs.ChangeLemmas.{change_none, change_is, last_answer}
use Rattle.jam_threads.proofs.threads.Threads.link_new.Goals as goal

pub returns-then-original-eq0 : goal.returns-then-original-eq0
returns-then-original-eq0 c = λ slots are. change_none slots c.args.replyid.now (sym (c.original-original.ensures slots are) ∙ c.if-original-eq0.true)

pub returns : goal.returns
returns c = λ slots are.
    let original = c.original-original.ensures slots are in
    let count = are.chains.count in
    let some : 0 < c.original-original.result = omega arith in
    let within : c.original-original.result ≤ length slots = omega (arith, original, original_behind-le slots c.args.replyid.now) in
    let last : c.index-last.result.now ≡ last_in (children slots c.original-original.result) = c.index-last.ensures ∙ last_answer slots c.args.self.now.links.items c.args.self.now.last_answers.items c.original-original.result c.index-last.result.now are.chains some within in
    change_is slots c.args.replyid.now c.original-original.result c.index-last.result.now _ _ original last (omega (arith, count, c.len.ensures)) c.change.ensures
