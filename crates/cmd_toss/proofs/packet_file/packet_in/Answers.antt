use Rattle.std.proofs.Common.{Ok, Err, ap, ◌∙◌}
use Rattle.cmd_toss.proofs.PacketLaws.{packet_refused}
use Rattle.cmd_toss.proofs.packet_file.packet_in.Goals as goal

pub returns-clause-packet : goal.returns-clause-packet
returns-clause-packet g c tells =
    packet_refused (g.S.Shelf.files c.args.shelf.now) c.args.name.now c.as_slice.result.now c.in-Err.error c.halt_of.result c.halt_of.ensures (ap Ok c.as_slice.ensures.same ∙ c.in_ok-bytes.ensures.file tells)
    (λ rule at is. c.in-Err.ensures.fault rule at (ap Err is))
