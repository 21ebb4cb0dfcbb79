use Rattle.std.proofs.Common.{◌≡◌, length, take, ap, arith}
use Rattle.text_fields.proofs.Trimming.{trimmed_end_unique}
use Rattle.qwk_blocks.specs.Header.{IsPad}
use Rattle.rep_packet.proofs.read.board_id.Goals as goal

-- the field is blank, and reads as the empty text alone
pub returns-then-is_empty : goal.returns-then-is_empty
returns-then-is_empty c = λ id has.
    let same = trimmed_end_unique IsPad (take 8 c.args.bytes.now) id c.trimmed_end-id.result.now has.text c.trimmed_end-id.ensures in
    let none : length c.trimmed_end-id.result.now ≡ 0 = grind arith in
    omega (arith, ap length same, has.some, none)
