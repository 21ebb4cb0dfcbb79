use Rattle.std.proofs.Common.{sym, ap, ◌∙◌}
use Rattle.jam_threads.specs.Children.{original}
use Rattle.offered_packets.proofs.ShownMessages.{none_answers}
use Rattle.offered_packets.proofs.showing.original_in.Goals as goal

pub returns-in-None : goal.returns-in-None
returns-in-None c = sym (ap (λ slots. original slots c.args.number) c.in-None.ensures.none ∙ none_answers c.args.number)
