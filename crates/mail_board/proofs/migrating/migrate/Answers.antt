use Rattle.mail_board.proofs.MigrationLaws.{found_first, found_second}
use Rattle.mail_board.proofs.migrating.migrate.Goals as goal

pub write_ledger-requires-clause-stands : goal.write_ledger-requires-clause-stands
write_ledger-requires-clause-stands g c = λ tells. found_first c.args.found.now (g.H.Host.disk c.args.host.now).files (c.requires.stands tells) c.if-found.true

pub returns-else-found-clause-rests : goal.returns-else-found-clause-rests
returns-else-found-clause-rests g c = λ tells. record { calm = c.requires.calm tells; stands = found_second c.args.found.now (g.H.Host.disk c.args.host.now).files (c.requires.stands tells) c.if-found.false }
