use Rattle.std.proofs.Common.{◌≡◌, ℕ, ◌*◌, List, length, subst}
use Rattle.std.proofs.lemmas.List.{take_rest}
use Rattle.qwk_blocks.specs.Header.{BlockCountReads}
use Rattle.qwk_blocks.specs.Packet.{MessageReads}
use Rattle.qwk_blocks.specs.Reader.{IsEvent}
use Rattle.qwk_blocks.proofs.Reading.{reads_ended, reads_notice}
use Rattle.qwk_blocks.proofs.packet.add_ended.Goals as goal

pub returns-then-ends_message-clause-reads : goal.returns-then-ends_message-clause-reads
returns-then-ends_message-clause-reads c =
    let reads = subst (λ (l : List ℕ). (count : ℕ) → BlockCountReads l count → length l ≡ 128 * count → MessageReads l c.in_ok-message_of.field-0) (take_rest c.args.stream.now c.args.start) c.in_ok-message_of.ensures in
    reads_ended c.args.start c.args.stream.now c.args.event _ _ c.in_ok-message_of.field-0 c.requires (c.ends_message.ensures.0 c.if-ends_message.true) reads c.in_ok-add.ensures.ok

pub returns-in-Notice-clause-reads : goal.returns-in-Notice-clause-reads
returns-in-Notice-clause-reads c =
    reads_notice c.args.start c.args.stream.now c.args.messages.now (subst (IsEvent c.args.start c.args.stream.now) c.in-Notice.is c.requires)
