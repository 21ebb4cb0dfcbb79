use Rattle.std.proofs.Common.{arith}
use Rattle.open_offers.specs.declared.version.Version.TheVariants.{Second}
use Rattle.board_ledger.proofs.LedgerBounds.{text_short}
use Rattle.board_ledger.proofs.VersionLaws.{as_today}
use Rattle.board_ledger.proofs.upload_puts.record_put.Goals as goal

pub ledger_size-at-requires : goal.ledger_size-at-requires
ledger_size-at-requires c = as_today c.args.ledger.now c.requires.ledger

pub overflow_cast-at : goal.overflow_cast-at
overflow_cast-at c = let short = text_short Second c.args.ledger.now (as_today c.args.ledger.now c.requires.ledger) in omega (arith, short, c.ledger_size-at.ensures)
