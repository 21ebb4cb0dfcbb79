use Rattle.std.proofs.Common.{List, length, sym, ap, ◌∙◌, subst, arith}
use Rattle.intent_journal.specs.Patches.{byte_count}
use Rattle.intent_journal.specs.declared.patch.Patch.{Patch}
use Rattle.board_ledger.specs.EnrollPuts.{with_user}
use Rattle.board_ledger.specs.Ledger.{ledger_text}
use Rattle.board_ledger.specs.OneFile.{TurnsFile}
use Rattle.board_ledger.proofs.EnrollPutLaws.{enroll_turns, enroll_bytes, last_user}
use Rattle.board_ledger.proofs.SetupBounds.{user_small}
use Rattle.board_ledger.proofs.TwoPuts.{two_patches}
use Rattle.board_ledger.proofs.enroll_puts.enroll_patches.Goals as goal

pub records_put-requires-clause-name : goal.records_put-requires-clause-name
records_put-requires-clause-name c = omega (arith, user_small c.args.user.now.name (last_user c.args.ledger.now c.args.user.now c.requires.longer).name)

pub records_put-requires-clause-offers : goal.records_put-requires-clause-offers
records_put-requires-clause-offers c = (last_user c.args.ledger.now c.args.user.now c.requires.longer).offers.few

pub returns-clause-puts : goal.returns-clause-puts
returns-clause-puts c =
    two_patches c.new-patches.result c.add.new.self c.add-2.new.self c.in_ok-count_put.field-0 c.in_ok-records_put.field-0 _ _
    c.new-patches.ensures c.in_ok-count_put.ensures c.in_ok-records_put.ensures c.in_ok-add.ensures.ok c.in_ok-add-2.ensures.ok

pub returns-clause-files : goal.returns-clause-files
returns-clause-files c =
    let l = c.args.ledger.now in
    let u = c.args.user.now in
    subst (λ (patches : List Patch). TurnsFile 0 (ledger_text l) (ledger_text (with_user u l)) patches) (sym (returns-clause-puts c)) (enroll_turns l u)

pub returns-clause-costs : goal.returns-clause-costs
returns-clause-costs c =
    let puts = returns-clause-puts c in
    (ap length puts, ap byte_count puts ∙ enroll_bytes c.args.ledger.now c.args.user.now c.requires.ledger)
