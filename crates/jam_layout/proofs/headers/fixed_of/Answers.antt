use Rattle.door_outside.specs.File.{jhr_file}
use Rattle.jam_layout.specs.Headers.{front_rules, field_rules}
use Rattle.jam_records.specs.MessageHeaders.{message_header_at}
use Rattle.damage_rules.proofs.KeptRules.{part_fails}
use Rattle.jam_layout.proofs.HeaderTests.{fixed_fails}
use Rattle.jam_layout.proofs.headers.fixed_of.Goals as goal

pub returns-in-Err-clause-gives : goal.returns-in-Err-clause-gives
returns-in-Err-clause-gives c =
    rw (c.damaged.ensures, c.jhr.ensures) (part_fails (jhr_file c.args.place) c.args.front.item (front_rules c.args.bytes.now) (field_rules c.args.kind c.args.front (message_header_at c.args.bytes.now)) c.in-Err.rule (message_header_at c.args.bytes.now) c.in-Err.ensures.broken)

pub returns-in-Some-clause-gives : goal.returns-in-Some-clause-gives
returns-in-Some-clause-gives c =
    rw (c.damaged-in-Some.ensures, c.jhr-in-Some.ensures) (fixed_fails (jhr_file c.args.place) c.args.front.item c.args.kind c.args.front c.args.bytes.now c.in-Ok.header (message_header_at c.args.bytes.now) c.in-Some.rule c.in-Ok.ensures.fields c.in-Ok.ensures.ok c.in-Some.ensures)
