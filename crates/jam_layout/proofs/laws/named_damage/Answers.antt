-- What is named is what the flat list says.
use Rattle.damage_rules.proofs.TestLists.{all_named, first_named}
use Rattle.jam_layout.specs.BaseTests.{base_tests}
use Rattle.jam_layout.specs.Layout.{conference_of}
use Rattle.jam_layout.proofs.TestedBases.{base_tested}
use Rattle.jam_layout.proofs.laws.named_damage.Goals as goal

pub returns-clause-first : goal.returns-clause-first
returns-clause-first c = λ shape files. first_named (base_tests shape files) (conference_of shape files) (base_tested shape files).tested

pub returns-clause-none : goal.returns-clause-none
returns-clause-none c = λ shape files. all_named (base_tests shape files) (conference_of shape files) (base_tested shape files).tested
