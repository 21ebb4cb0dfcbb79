use Rattle.std.proofs.Common.{◌∙◌, ◌++◌, ap}
use Rattle.jam_writing.proofs.EntryTexts.{piece_as_long}
use Rattle.jam_writing.proofs.jhr.add_slot.Goals as goal

pub returns-in_ok-add_header-in-Held-clause-text : goal.returns-in_ok-add_header-in-Held-clause-text
returns-in_ok-add_header-in-Held-clause-text c =
    c.in_ok-add_header-in-Held.ensures ∙ ap (λ xs. c.args.jhr.now ++ xs) (piece_as_long c.args.kind c.args.offset c.args.number c.args.length c.args.link c.in-Held.message c.args.slot.now c.in-Held.is)
