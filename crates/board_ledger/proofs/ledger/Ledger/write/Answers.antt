use Rattle.board_ledger.proofs.VersionLaws.{today_valid}
use Rattle.board_ledger.proofs.ledger.Ledger.write.Goals as goal

pub ledger_text-requires : goal.ledger_text-requires
ledger_text-requires c = today_valid c.args.self.now c.requires
