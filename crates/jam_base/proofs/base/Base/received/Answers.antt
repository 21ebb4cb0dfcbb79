use Rattle.std.proofs.Common.{◌≡◌, ◌∙◌, true, false, refl, sym, ap}
use Rattle.jam_writing.specs.jam_layout.Layout.{layout}
use Rattle.jam_base.specs.Contents.{Contents}
use Rattle.jam_base.specs.Slots.{any_due, slots_received}
use Rattle.jam_base.specs.declared.receipt.Receipt.{Receipt}
use Rattle.jam_base.proofs.ChangeClauses.{no_change}
use Rattle.jam_base.proofs.MarkClauses.{received_turns, received_lengthens, received_suits}
use Rattle.jam_base.proofs.OutlineChanges.{received_each, some_received, unreceived}
use Rattle.jam_base.proofs.base.Base.received.Goals as goal

pub returns-clause-files : goal.returns-clause-files
returns-clause-files c =
    let base : Contents = c.args.self.now in
    let receipt : Receipt = record { above = c.args.above; upto = c.args.upto; now = c.args.now } in
    received_turns base c.args.name.now receipt (slots_received c.args.name.now receipt 1 base.conference.slots) c.in_ok-marks.marks c.in_ok-read.read c.of_marks.result refl c.in_ok-marks.ensures c.in_ok-read.ensures c.of_marks.ensures.base c.of_marks.ensures.patches

pub returns-clause-intent : goal.returns-clause-intent
returns-clause-intent c =
    let base : Contents = c.args.self.now in
    let receipt : Receipt = record { above = c.args.above; upto = c.args.upto; now = c.args.now } in
    received_suits base c.args.name.now receipt (slots_received c.args.name.now receipt 1 base.conference.slots) c.in_ok-marks.marks c.in_ok-read.read c.of_marks.result refl c.in_ok-marks.ensures c.in_ok-read.ensures c.of_marks.ensures.base c.of_marks.ensures.patches

pub returns-clause-bodies : goal.returns-clause-bodies
returns-clause-bodies c =
    let base : Contents = c.args.self.now in
    let receipt : Receipt = record { above = c.args.above; upto = c.args.upto; now = c.args.now } in
    received_lengthens base c.args.name.now receipt (slots_received c.args.name.now receipt 1 base.conference.slots) c.in_ok-marks.marks c.in_ok-read.read c.of_marks.result refl c.in_ok-marks.ensures c.in_ok-read.ensures c.of_marks.ensures.base c.of_marks.ensures.patches

pub returns-clause-each : goal.returns-clause-each
returns-clause-each c =
    let base : Contents = c.args.self.now in
    let receipt : Receipt = record { above = c.args.above; upto = c.args.upto; now = c.args.now } in
    let due : any_due c.args.name.now receipt 1 base.conference.slots ≡ true = sym (c.any_due.ensures ∙ ap (any_due c.args.name.now receipt 1) c.slots.ensures.same) ∙ c.if-not-any_due.false in
    received_each base c.in_ok-read.read c.of_marks.result c.of_marks.ensures.base (returns-clause-files c) (returns-clause-bodies c) c.args.name.now receipt (c.in_ok-read.ensures ∙ some_received c.args.name.now receipt base due)

pub returns-then-not-any_due-clause-each : goal.returns-then-not-any_due-clause-each
returns-then-not-any_due-clause-each c =
    let base : Contents = c.args.self.now in
    let receipt : Receipt = record { above = c.args.above; upto = c.args.upto; now = c.args.now } in
    let none : any_due c.args.name.now receipt 1 base.conference.slots ≡ false = sym (c.any_due.ensures ∙ ap (any_due c.args.name.now receipt 1) c.slots.ensures.same) ∙ c.if-not-any_due.true in
    let turns = no_change base.shape.place (layout base.shape base.conference) base c.unchanged.result refl c.unchanged.ensures.base c.unchanged.ensures.patches in
    received_each base base c.unchanged.result c.unchanged.ensures.base turns c.unchanged.ensures.bodies c.args.name.now receipt (unreceived c.args.name.now receipt base none)
