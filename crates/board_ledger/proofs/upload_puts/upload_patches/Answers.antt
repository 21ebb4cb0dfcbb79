use Rattle.std.proofs.Common.{List, length, sym, ap, ◌∙◌, subst}
use Rattle.intent_journal.specs.Patches.{byte_count}
use Rattle.intent_journal.specs.declared.patch.Patch.{Patch}
use Rattle.board_ledger.specs.Ledger.{ledger_text}
use Rattle.board_ledger.specs.OneFile.{TurnsFile}
use Rattle.board_ledger.specs.UploadPuts.{with_upload}
use Rattle.board_ledger.proofs.TwoPuts.{two_patches}
use Rattle.board_ledger.proofs.UploadPutLaws.{upload_turns, upload_bytes, last_digest}
use Rattle.board_ledger.proofs.upload_puts.upload_patches.Goals as goal

pub returns-clause-puts : goal.returns-clause-puts
returns-clause-puts c =
    two_patches c.new-patches.result c.add.new.self c.add-2.new.self c.in_ok-count_put.field-0 c.in_ok-record_put.field-0 _ _
    c.new-patches.ensures c.in_ok-count_put.ensures c.in_ok-record_put.ensures c.in_ok-add.ensures.ok c.in_ok-add-2.ensures.ok

pub returns-clause-files : goal.returns-clause-files
returns-clause-files c =
    let l = c.args.ledger.now in
    let r = c.args.added.now in
    subst (λ (ps : List Patch). TurnsFile 0 (ledger_text l) (ledger_text (with_upload r l)) ps) (sym (returns-clause-puts c)) (upload_turns l r)

pub returns-clause-costs : goal.returns-clause-costs
returns-clause-costs c =
    let l = c.args.ledger.now in
    let r = c.args.added.now in
    let puts = returns-clause-puts c in
    (ap length puts, ap byte_count puts ∙ upload_bytes l r (last_digest l r c.requires.longer))
