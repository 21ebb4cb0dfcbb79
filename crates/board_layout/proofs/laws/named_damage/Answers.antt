-- What is named is what the flat list says.
use Rattle.board_ledger.proofs.damage_rules.TestLists.{all_named, first_named}
use Rattle.board_layout.specs.BoardTests.{board_tests}
use Rattle.board_layout.specs.Damage.{board_of}
use Rattle.board_layout.proofs.TestedBoards.{board_tested}
use Rattle.board_layout.proofs.laws.named_damage.Goals as goal

pub returns-clause-first : goal.returns-clause-first
returns-clause-first c = λ files. first_named (board_tests files) (board_of files) (board_tested files)

pub returns-clause-none : goal.returns-clause-none
returns-clause-none c = λ files. all_named (board_tests files) (board_of files) (board_tested files)
