use Rattle.std.proofs.Common.{ap, arith, length}
use Rattle.board_ledger.proofs.SetupBounds.{name_small}
use Rattle.board_ledger.proofs.conferences.add_conference.Goals as goal

pub add_text-requires : goal.add_text-requires
add_text-requires c = omega (arith, name_small c.args.conference.now.name c.requires.name, ap length c.as_slice.ensures.same)
