use Rattle.std.proofs.Common.{◌≡◌, ap, ◌∙◌}
use Rattle.std.proofs.lemmas.Result.{IfOk-weaker}
use Rattle.long_names.specs.Plain.{in_capitals, with_long}
use Rattle.offered_packets.specs.Shown.{IsShort, shown_lines, whole_header}
use Rattle.offered_packets.proofs.ShownMessages.{made_short}
use Rattle.offered_packets.proofs.showing.shown.Goals as goal

pub returns-clause-short : goal.returns-clause-short
returns-clause-short c =
    let b = c.args.board.now in
    let m = c.args.message.now in
    let header_is = c.in_ok-header.ensures ∙ (λ i. whole_header (c.conference_number-conference.ensures i) c.args.number (c.original_in-original.ensures i) c.args.logical m) in
    let lines_is = c.in_ok-lines.ensures ∙ ap shown_lines c.as_slice.ensures.same in
    IfOk-weaker c.as_it_goes.result (λ made. made ≡ in_capitals (with_long (record { header = c.in_ok-header.header; lines = c.in_ok-lines.lines }))) IsShort
    (λ made is. made_short b c.args.place c.args.number c.args.logical m c.in_ok-header.header c.in_ok-lines.lines made c.ledger-ledger.ensures.board c.ranges.logical.fits c.requires header_is lines_is is) c.as_it_goes.ensures
