use Rattle.std.proofs.Common.{◌∙◌, sym, ap, arith}
use Rattle.jam_threads.proofs.ChangeLemmas.{chains_links}
use Rattle.jam_threads.specs.Children.{original}
use Rattle.jam_threads.proofs.LookUpLemmas.{none_zero, found_original, missing_original}
use Rattle.jam_threads.proofs.threads.Threads.reply_to.Goals as goal

pub returns-then-number-eq0 : goal.returns-then-number-eq0
returns-then-number-eq0 c = λ slots are. sym (ap (original slots) c.if-number-eq0.true ∙ none_zero slots)

pub returns-in-Some : goal.returns-in-Some
returns-in-Some c = λ slots are. found_original slots c.args.self.now.links.items c.args.number c.in-Some.link (omega arith) (chains_links slots c.args.self.now.links.items c.args.self.now.last_answers.items are.chains) (sym c.in-Some.ensures)

pub returns-in-None : goal.returns-in-None
returns-in-None c = λ slots are. missing_original slots c.args.self.now.links.items c.args.number (omega arith) (chains_links slots c.args.self.now.links.items c.args.self.now.last_answers.items are.chains) (sym c.in-None.ensures)
