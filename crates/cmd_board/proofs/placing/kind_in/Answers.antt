use Rattle.std.proofs.Common.{◌∙◌, length, sym, ap, arith}
use Rattle.std.specs.Prelude.{Option, slice_get}
use Rattle.std.specs.Option.{option_map_or}
use Rattle.board_layout.specs.Board.{Board}
use Rattle.jam_records.specs.declared.message.Kind.TheVariants.{Local}
use Rattle.setup_file.specs.declared.conference.Conference.{Conference as SetupConference}
use Rattle.cmd_board.proofs.placing.kind_in.Goals as goal

pub conference_of-requires : goal.conference_of-requires
conference_of-requires c = omega (arith, c.requires, ap (λ (b : Board). length b.conferences) c.stored.ensures.board)

pub returns : goal.returns
returns c =
    ap (λ (o : Option SetupConference). option_map_or (λ (k : SetupConference). k.kind) o Local)
    (sym c.conference_of.ensures ∙ ap (λ (b : Board). slice_get b.ledger.setup.conferences c.args.place) c.stored.ensures.board)
