use Rattle.std.proofs.lemmas.Result.{err_from_is_err_and}
use Rattle.jam_layout.proofs.HeaderTests.{fixed_stops, values_stop, header_read, header_bounds}
use Rattle.jam_layout.proofs.headers.header_of.Goals as goal

pub returns-in_err-header-clause-gives : goal.returns-in_err-header-clause-gives
returns-in_err-header-clause-gives c =
    let p = err_from_is_err_and c.from_residual.result c.from_residual.ensures.1 in
    rw (p.1, p.2) (fixed_stops c.args.place c.args.kind c.args.front c.args.bytes.now c.in_err-header.field-0.0 c.in_err-header.ensures.gives)

pub returns-in_err-values-clause-gives : goal.returns-in_err-values-clause-gives
returns-in_err-values-clause-gives c =
    let p = err_from_is_err_and c.from_residual-in_err-values.result c.from_residual-in_err-values.ensures.1 in
    rw (p.1, p.2) (values_stop c.args.place c.args.kind c.args.front c.args.bytes.now c.in_ok-header.header c.in_err-values.field-0.0 c.in_ok-header.ensures.gives c.in_err-values.ensures.gives)

pub returns-clause-gives : goal.returns-clause-gives
returns-clause-gives c =
    rw c.entry_of.ensures (header_read c.args.place c.args.kind c.args.front c.args.bytes.now c.in_ok-header.header c.in_ok-values.values c.in_ok-header.ensures.gives c.in_ok-values.ensures.gives)

pub returns-clause-bounds : goal.returns-clause-bounds
returns-clause-bounds c =
    let b = header_bounds c.args.place c.args.kind c.args.front c.args.bytes.now c.in_ok-header.header c.in_ok-values.values c.in_ok-header.ensures.gives c.in_ok-values.ensures.gives in
    rw c.entry_of.ensures (b.rising, b.few, b.text)
