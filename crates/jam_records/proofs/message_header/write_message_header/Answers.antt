use Rattle.std.proofs.Common.{refl, ap, ◌∙◌}
use Rattle.record_numbers.specs.Numbers.{u32s_text}
use Rattle.jam_records.specs.MessageHeaders.{header_text}
use Rattle.jam_records.proofs.message_header.write_message_header.Goals as goal

pub returns : goal.returns
unfolding header_text
returns c =
    let numbers = c.write_u32_into.ensures ∙ ap u32s_text c.fields_of.ensures in
    rw (c.copy_from_slice.ensures.after, c.write_u16_into.ensures, numbers) refl
