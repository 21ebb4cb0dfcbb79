use Rattle.std.proofs.Common.{arith}
use Rattle.board_ledger.proofs.OpeningTests.{same_places}
use Rattle.board_ledger.proofs.opening.setup_of.Goals as goal

pub text_at-requires : goal.text_at-requires
text_at-requires c = (same_places c.args.bytes.now c.args.places.now c.requires.places c.requires.whole).board

pub text_at-requires-2 : goal.text_at-requires-2
text_at-requires-2 c = (same_places c.args.bytes.now c.args.places.now c.requires.places c.requires.whole).city

pub text_at-requires-3 : goal.text_at-requires-3
text_at-requires-3 c = (same_places c.args.bytes.now c.args.places.now c.requires.places c.requires.whole).phone

pub text_at-requires-4 : goal.text_at-requires-4
text_at-requires-4 c = (same_places c.args.bytes.now c.args.places.now c.requires.places c.requires.whole).sysop

pub text_at-requires-5 : goal.text_at-requires-5
text_at-requires-5 c = (same_places c.args.bytes.now c.args.places.now c.requires.places c.requires.whole).bbsid

pub u16s_at-requires : goal.u16s_at-requires
u16s_at-requires c = let fit = (same_places c.args.bytes.now c.args.places.now c.requires.places c.requires.whole).zones in omega arith
