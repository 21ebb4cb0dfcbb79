use Rattle.std.proofs.Common.{sym}
use Rattle.door_outside.specs.File.{jhr_file}
use Rattle.jam_layout.proofs.HeaderTests.{too_long, wrong_value, right_value}
use Rattle.jam_layout.proofs.headers.values_behind.Goals as goal

pub returns-then-bytes-end-clause-gives : goal.returns-then-bytes-end-clause-gives
returns-then-bytes-end-clause-gives c =
    rw (c.damaged.ensures, c.jhr.ensures) (too_long (jhr_file c.args.place) c.args.item c.args.header.now c.args.bytes.now c.if-bytes-end.true)

pub returns-in-Some-clause-gives : goal.returns-in-Some-clause-gives
returns-in-Some-clause-gives c =
    rw (c.damaged-in-Some.ensures, c.jhr-in-Some.ensures) (wrong_value (jhr_file c.args.place) c.args.item c.args.header.now c.args.bytes.now c.in_ok-values.values c.in-Some.rule c.if-bytes-end.false c.in_ok-values.ensures (sym c.in-Some.ensures))

pub returns-in-None-clause-gives : goal.returns-in-None-clause-gives
returns-in-None-clause-gives c =
    right_value (jhr_file c.args.place) c.args.item c.args.header.now c.args.bytes.now c.in_ok-values.values c.if-bytes-end.false c.in_ok-values.ensures (sym c.in-None.ensures)
