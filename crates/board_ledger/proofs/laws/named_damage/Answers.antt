-- What is named is what the flat list says.
use Rattle.damage_rules.proofs.TestLists.{all_named, first_named}
use Rattle.board_ledger.proofs.TestedLedgers.{ledger_tested}
use Rattle.board_ledger.specs.Ledger.{ledger_of}
use Rattle.board_ledger.specs.LedgerTests.{ledger_read, ledger_tests}
use Rattle.board_ledger.proofs.laws.named_damage.Goals as goal

pub returns-clause-first : goal.returns-clause-first
returns-clause-first c = λ bytes. first_named (ledger_tests bytes) (ledger_of bytes) (record { value = ledger_read bytes; is = ledger_tested bytes })

pub returns-clause-none : goal.returns-clause-none
returns-clause-none c = λ bytes. all_named (ledger_tests bytes) (ledger_of bytes) (record { value = ledger_read bytes; is = ledger_tested bytes })
