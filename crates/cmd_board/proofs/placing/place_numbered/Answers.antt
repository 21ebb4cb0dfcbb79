use Rattle.std.proofs.Common.{⊎_elim, sym}
use Rattle.std.proofs.lemmas.Bool.{cases_lt}
use Rattle.cmd_board.proofs.PlaceLaws.{found_within, no_place}
use Rattle.cmd_board.proofs.placing.place_numbered.Goals as goal

pub returns-in-Ok-clause-within : goal.returns-in-Ok-clause-within
returns-in-Ok-clause-within c = found_within c.args.board.now.board c.in-Ok.number c.place_of.result c.requires c.place_of.ensures

pub returns-in-Err-clause-place : goal.returns-in-Err-clause-place
returns-in-Err-clause-place c =
    sym (no_place c.args.board.now.board c.args.conference c.requires (⊎_elim (λ small. absurd (c.in-Err.ensures small)) (λ large. large) (cases_lt c.args.conference 65536)))
