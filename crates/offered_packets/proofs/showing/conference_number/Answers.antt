use Rattle.std.proofs.Common.{ap, ◌∙◌}
use Rattle.std.specs.Prelude.{slice_get}
use Rattle.board_layout.proofs.BoardLookups.{none_number}
use Rattle.offered_packets.proofs.showing.conference_number.Goals as goal

pub returns-in-None : goal.returns-in-None
returns-in-None c = none_number c.args.board.now.ledger.setup.conferences c.args.place (c.in-None.ensures ∙ ap (λ l. slice_get l.setup.conferences c.args.place) c.ledger.ensures.ledger)
