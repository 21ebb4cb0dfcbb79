use Rattle.std.proofs.Common.{ℕ, List, ◌++◌, Ok, subst}
use Rattle.std.specs.Prelude.{codes}
use Rattle.door_outside.specs.Shelf.{ShelfFiles}
use Rattle.cmd_packets.specs.Packets.{ControlOf}
use Rattle.qwk_control.specs.declared.control.Control.{Control}
use Rattle.shelf_files.specs.Halts.{Comes}
use Rattle.cmd_replies.specs.Compose.{ConferenceIn, SheetMakes}
use Rattle.cmd_replies.specs.Steps.{Then}
use Rattle.cmd_replies.proofs.Steps.{comes_next, conference_in}
use Rattle.cmd_replies.proofs.composing.made_messages.Goals as goal

pub returns-in-Some-clause-made : goal.returns-in-Some-clause-made
returns-in-Some-clause-made g c tells =
    let old = g.S.Shelf.files c.args.shelf.now in
    let makes = λ (control : Control) (number : ℕ). SheetMakes control number c.args.sheet.now c.args.rep.now c.args.now old in
    let control = c.in_ok-control.control in
    comes_next (ControlOf old (c.args.folder.now ++ codes "/CONTROL.DAT")) (λ (control : Control). Then (ConferenceIn control c.args.conference) (makes control)) control c.composed.result
    (subst (λ (name : List ℕ). ControlOf old name (Ok control)) c.in_ok-name.ensures (c.in_ok-control.ensures.control tells))
    (comes_next (ConferenceIn control c.args.conference) (makes control) c.in-Some.number c.composed.result (conference_in control c.args.conference c.in-Some.number c.in-Some.ensures.0 c.in-Some.ensures.1)
    (subst (λ (files : ShelfFiles). Comes c.composed.result (SheetMakes control c.in-Some.number c.args.sheet.now c.args.rep.now c.args.now files)) (c.in_ok-control.ensures.unchanged tells) (c.composed.ensures.made tells)))
