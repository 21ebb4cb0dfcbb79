use Rattle.std.proofs.Common.{Ok, Err, refl, sym, ap}
use Rattle.door_outside.specs.Shelf.{held}
use Rattle.shelf_files.specs.Halts.{done, refused}
use Rattle.shelf_files.specs.declared.refusal.Refusal.TheVariants.{NoFile, TooLarge, Broken}
use Rattle.cmd_packets.specs.Scan.{count_line}
use Rattle.cmd_packets.proofs.PacketAnswers.{scan_counts, scan_misses, scan_passes, scan_breaks}
use Rattle.cmd_packets.proofs.scanning.scan.Goals as goal

pub returns-in-Ok-Count-clause-serves : goal.returns-in-Ok-Count-clause-serves
returns-in-Ok-Count-clause-serves g c tells =
    let file = held (g.S.Shelf.files c.args.shelf.now) c.args.file.now in
    let found = scan_counts c.args.file.now file c.in-Ok-Count.count (rw c.in-Ok-Count.field-0-is at (c.in-Ok-Count.ensures.value tells)) in
    (c.in-Ok-Count.ensures.unchanged tells, (Ok found.0, found.1, ap (λ n. done (count_line n)) (sym found.2)))

pub returns-in_ok-copy-in-Ok-Missing-clause-serves : goal.returns-in_ok-copy-in-Ok-Missing-clause-serves
returns-in_ok-copy-in-Ok-Missing-clause-serves g c tells =
    let file = held (g.S.Shelf.files c.args.shelf.now) c.args.file.now in
    let found = scan_misses c.args.file.now file (rw c.in-Ok-Missing.field-0-is at (c.in-Ok-Missing.ensures.value tells)) in
    (c.in-Ok-Missing.ensures.unchanged tells, (Err (NoFile c.args.file.now), found, ap (λ name. refused (NoFile name)) c.in_ok-copy-in-Ok-Missing.ensures))

pub returns-in_ok-copy-in-Ok-TooLarge-clause-serves : goal.returns-in_ok-copy-in-Ok-TooLarge-clause-serves
returns-in_ok-copy-in-Ok-TooLarge-clause-serves g c tells =
    let file = held (g.S.Shelf.files c.args.shelf.now) c.args.file.now in
    let found = scan_passes c.args.file.now file (rw c.in-Ok-TooLarge.field-0-is at (c.in-Ok-TooLarge.ensures.value tells)) in
    (c.in-Ok-TooLarge.ensures.unchanged tells, (Err (TooLarge c.args.file.now), found, ap (λ name. refused (TooLarge name)) c.in_ok-copy-in-Ok-TooLarge.ensures))

pub returns-in-Ok-Fault-clause-serves : goal.returns-in-Ok-Fault-clause-serves
returns-in-Ok-Fault-clause-serves g c tells =
    let file = held (g.S.Shelf.files c.args.shelf.now) c.args.file.now in
    let found = scan_breaks c.args.file.now file c.in-Ok-Fault.fault (rw c.in-Ok-Fault.field-0-is at (c.in-Ok-Fault.ensures.value tells)) in
    (c.in-Ok-Fault.ensures.unchanged tells, (Err (Broken c.in-Ok-Fault.fault), found, refl))
