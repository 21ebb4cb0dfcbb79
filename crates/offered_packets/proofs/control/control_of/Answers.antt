use Rattle.std.proofs.Common.{◌≡◌, sym, subst}
use Rattle.std.proofs.lemmas.Result.{IfOk-weaker}
use Rattle.qwk_control.specs.Written.{WritableControl}
use Rattle.offered_packets.specs.Control.{control}
use Rattle.offered_packets.proofs.Controls.{control_fits}
use Rattle.offered_packets.proofs.control.control_of.Goals as goal

pub returns-clause-writable : goal.returns-clause-writable
returns-clause-writable c = λ few.
    let b = c.args.board.now in
    let u = c.in-Some.user.now in
    let fits = control_fits b u c.args.count c.args.now c.in-Some.ensures.board c.in-Some.ensures.there few (c.written_bytes.ensures.stamp c.args.now c.ranges.now.fits) in
    IfOk-weaker c.control_for.result (λ made. made ≡ control b u c.args.count c.args.now) WritableControl (λ made is. subst WritableControl (sym is) fits) c.control_for.ensures
