use Rattle.std.proofs.Common.{ℕ, ◌+◌, ◌-◌, ◌*◌, ◌^◌, length, min, sym, ap, ◌∙◌}
use Rattle.qwk_blocks.specs.Text.{joined_lines}
use Rattle.qwk_blocks.specs.Written.{header_block, blocks_of}
use Rattle.rep_packet.proofs.Sizes.{message_length, whole_size}
use Rattle.rep_packet.proofs.size.message_size.Goals as goal

pub returns : goal.returns
returns c =
    let m = c.args.message.now in
    let k = c.lines_size.result in
    let head = c.header_size.ensures ∙ ap (λ (b : ℕ). min (length (header_block m.header (1 + b))) (2 ^ 64 - 1)) c.text_blocks-blocks.ensures.blocks in
    let text = c.saturating_mul.ensures ∙ ap (λ (b : ℕ). min (b * 128) (2 ^ 64 - 1)) c.text_blocks-blocks.ensures.blocks in
    let sum = c.saturating_add.ensures ∙ (ap (λ (a : ℕ). min (a + c.saturating_mul.result) (2 ^ 64 - 1)) head ∙ ap (λ (b : ℕ). min (min (length (header_block m.header (1 + blocks_of k))) (2 ^ 64 - 1) + b) (2 ^ 64 - 1)) text) in
    whole_size (λ (b : ℕ). length (header_block m.header b)) (length (joined_lines m.lines)) k c.saturating_add.result c.lines_size.ensures sum
    ∙ ap (λ (n : ℕ). min n (2 ^ 64 - 1)) (sym (message_length m))
