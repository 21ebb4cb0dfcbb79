use Rattle.std.proofs.Common.{ℕ, List, Err, ap, subst}
use Rattle.qwk_blocks.specs.Packet.{PacketReads, FirstFault}
use Rattle.qwk_blocks.specs.declared.fault.QwkFault.{QwkFault}
use Rattle.shelf_files.specs.declared.refusal.Refusal.TheVariants.{Broken}
use Rattle.shelf_files.proofs.Replies.{refused_by}
use Rattle.cmd_packets.proofs.packet_file.packet_in.Goals as goal

pub returns-in-Err-Fault-clause-packet : goal.returns-in-Err-Fault-clause-packet
returns-in-Err-Fault-clause-packet g c tells =
    let fault = c.in-Err-Fault.fault in
    let first : FirstFault c.as_slice.result.now fault = c.in-Err-Fault.ensures.fault fault (ap Err c.in-Err-Fault.field-0-is) in
    refused_by PacketReads FirstFault (λ (f : QwkFault). Broken f) _ c.in_ok-bytes.bytes fault (c.in_ok-bytes.ensures.file tells)
    (subst (λ (bytes : List ℕ). FirstFault bytes fault) c.as_slice.ensures.same first)
