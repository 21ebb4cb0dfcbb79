use Rattle.board_ledger.proofs.VersionLaws.{today_valid}
use Rattle.board_ledger.proofs.ledger.Ledger.size.Goals as goal

pub ledger_size-requires : goal.ledger_size-requires
ledger_size-requires c = today_valid c.args.self.now c.requires
