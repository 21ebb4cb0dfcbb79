use Rattle.std.proofs.Common.{ℕ, sym, ap, ◌∙◌}
use Rattle.std.specs.Prelude.{Option}
use Rattle.packet_verdicts.specs.Views.{addressed_place}
use Rattle.packet_verdicts.proofs.lookups.place_of.Goals as goal

pub returns-clause-place : goal.returns-clause-place
returns-clause-place c = c.place_of.ensures.place ∙ ap (λ (o : Option ℕ). addressed_place o c.args.board.now) (sym c.in_ok-number.was)
