use Rattle.std.proofs.Common.{◌≡◌, ◌∙◌, ap, arith}
use Rattle.std.specs.Prelude.{All}
use Rattle.jam_records.specs.byte_lists.Byte.{IsByte}
use Rattle.damage_rules.proofs.ReadingClauses.{if_read, is_damage, only_damage, only_ok}
use Rattle.jam_records.proofs.record_numbers.NumberLemmas.{all_bytes}
use Rattle.board_ledger.specs.Ledger.{stored_text, ledger_of}
use Rattle.board_ledger.specs.Valid.{IsStored}
use Rattle.board_ledger.specs.declared.ledger.Ledger.{Ledger}
use Rattle.board_ledger.proofs.LedgerLaws.{ledger_takes, ledger_again}
use Rattle.board_ledger.proofs.ReadingClauses.{ledger_tells}
use Rattle.board_ledger.proofs.ledger.Ledger.read.Goals as goal

pub returns-clause-ok : goal.returns-clause-ok
returns-clause-ok c =
    let all : All IsByte c.args.bytes.now = all_bytes c.args.bytes.now (λ i. omega (arith, c.type_inv.bytes i)) in
    if_read ledger_tells c.ledger_of.result (ledger_of c.args.bytes.now) (λ (l : Ledger). IsStored l × (c.args.bytes.now ≡ stored_text l)) c.ledger_of.ensures (λ l e. ledger_takes c.args.bytes.now l all e)

pub returns-clause-only_ok : goal.returns-clause-only_ok
returns-clause-only_ok c = λ l ok e. only_ok ledger_tells c.ledger_of.result (ledger_of c.args.bytes.now) l c.ledger_of.ensures (ap ledger_of e ∙ ledger_again l ok)

pub returns-clause-damaged : goal.returns-clause-damaged
returns-clause-damaged c = λ d e. is_damage ledger_tells c.ledger_of.result (ledger_of c.args.bytes.now) d c.ledger_of.ensures e

pub returns-clause-only_damaged : goal.returns-clause-only_damaged
returns-clause-only_damaged c = λ d e. only_damage ledger_tells c.ledger_of.result (ledger_of c.args.bytes.now) d c.ledger_of.ensures e
