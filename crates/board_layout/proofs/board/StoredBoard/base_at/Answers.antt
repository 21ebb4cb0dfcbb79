use Rattle.std.proofs.Common.{sym, ap, ◌∙◌}
use Rattle.std.specs.Prelude.{option_map}
use Rattle.board_layout.proofs.BoardLookups.{conference_at, found_slots, found_place, found_none}
use Rattle.jam_base.specs.Contents.{Contents}
use Rattle.board_layout.proofs.board.StoredBoard.base_at.Goals as goal

pub returns-clause-conference : goal.returns-clause-conference
returns-clause-conference c =
    ap (option_map (λ (base : Contents). base.conference)) c.base_in.ensures ∙ sym (conference_at c.args.self.now c.bases.result.now c.args.place c.bases.ensures.conferences)

pub returns-clause-slots : goal.returns-clause-slots
returns-clause-slots c = found_slots c.args.self.now c.bases.result.now c.args.place c.base_in.result c.bases.ensures.conferences c.base_in.ensures

pub returns-clause-place : goal.returns-clause-place
returns-clause-place c = found_place c.args.self.now c.bases.result.now c.args.place c.base_in.result c.bases.ensures.board c.bases.ensures.conferences c.base_in.ensures

pub returns-clause-none : goal.returns-clause-none
returns-clause-none c = found_none c.args.self.now c.bases.result.now c.args.place c.base_in.result c.bases.ensures.conferences c.base_in.ensures
