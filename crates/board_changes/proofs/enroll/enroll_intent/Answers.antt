use Rattle.std.proofs.Common.{[], sym, subst}
use Rattle.board_changes.specs.Gathered.{Joins}
use Rattle.board_changes.proofs.LedgerPuts.{enroll_joins}
use Rattle.board_changes.proofs.enroll.enroll_intent.Goals as goal

pub intent_with-requires : goal.intent_with-requires
intent_with-requires c = subst (Joins []) (sym c.in_ok-enroll_patches.ensures.puts) (enroll_joins c.args.ledger.now c.args.user.now c.requires.longer)
