use Rattle.std.proofs.Common.{List, ℕ, ◌*◌, ◌-◌, take, drop, subst, arith}
use Rattle.std.proofs.lemmas.List.{take_all}
use Rattle.qwk_blocks.specs.Packet.{MessageReads}
use Rattle.qwk_blocks.specs.Text.{TextReads}
use Rattle.qwk_blocks.proofs.First.{count_of_front, first_message}
use Rattle.qwk_blocks.proofs.packet.message_of.Goals as goal

pub returns : goal.returns
returns c = λ count reads len.
    let blocks = c.args.blocks.now in
    let h = c.in_ok-header_of.ensures count (count_of_front 128 blocks count (omega arith) reads) in
    let t = subst (λ (n : ℕ). TextReads (take (n - 128) (drop 128 blocks)) c.in_ok-lines_of.field-0) len c.in_ok-lines_of.ensures in
    subst (λ (l : List ℕ). MessageReads l record { header = c.in_ok-header_of.field-0; lines = c.in_ok-lines_of.field-0 }) (take_all (128 * count) blocks (omega arith))
    (first_message blocks count c.in_ok-header_of.field-0 c.in_ok-lines_of.field-0 (omega arith) reads.positive h t)
