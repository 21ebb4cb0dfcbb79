use Rattle.std.proofs.Common.{arith}
use Rattle.jam_layout.proofs.SizeLaws.{header_with}
use Rattle.jam_layout.proofs.sizes.header_with.Goals as goal

pub returns-clause-size : goal.returns-clause-size
returns-clause-size c = λ msgid same. omega (
  arith,
  header_with c.args.message.now msgid,
  c.field_size.ensures.size 4 msgid same,
  c.text_size.ensures.size 0,
  c.text_size-2.ensures.size 1,
  c.text_size-3.ensures.size 2,
  c.text_size-4.ensures.size 3,
  c.text_size-5.ensures.size 5,
  c.text_size-6.ensures.size 6,
)
