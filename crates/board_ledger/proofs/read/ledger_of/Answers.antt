use Rattle.std.proofs.Common.{◌∙◌, sym, subst, Ok, inl, inr, arith}
use Rattle.std.specs.Prelude.{All}
use Rattle.std.proofs.lemmas.Result.{err_from_is_err_and}
use Rattle.jam_records.proofs.record_numbers.NumberLemmas.{all_bytes}
use Rattle.jam_records.specs.byte_lists.Byte.{IsByte}
use Rattle.setup_file.specs.Valid.{IsSetup}
use Rattle.board_ledger.specs.Ledger.{ledger_with}
use Rattle.board_ledger.specs.Rules.{damage_of_ledger}
use Rattle.board_ledger.specs.Valid.{IsStored}
use Rattle.board_ledger.specs.declared.ledger.Ledger.{Ledger}
use Rattle.board_ledger.proofs.LedgerLaws.{ledger_takes}
use Rattle.board_ledger.proofs.ReadingSteps.{opening_fails}
use Rattle.board_ledger.proofs.read.ledger_of.Goals as goal

stored_setup : (l : Ledger) → IsStored l → IsSetup l.setup
stored_setup l (inl now) = now.setup
stored_setup l (inr old) = old.valid.setup

pub returns-in_err-opening : goal.returns-in_err-opening
returns-in_err-opening c =
    let p = err_from_is_err_and c.from_residual.result c.from_residual.ensures.1 in
    rw (p.1, p.2) (opening_fails c.args.bytes.now (damage_of_ledger c.in_err-opening.field-0.0) c.in_err-opening.ensures.gives)

pub returns-in_err-conferences : goal.returns-in_err-conferences
returns-in_err-conferences c =
    let p = err_from_is_err_and c.from_residual-in_err-conferences.result c.from_residual-in_err-conferences.ensures.1 in
    rw (p.1, p.2) c.in_err-conferences.ensures

pub of-requires : goal.of-requires
of-requires c =
    let bytes = c.args.bytes.now in
    let all : All IsByte bytes = all_bytes bytes (λ i. omega (arith, c.type_inv.bytes i)) in
    let l : Ledger = ledger_with c.in_ok-opening.opening c.in_ok-conferences.conferences c.in_ok-conferences.users c.in_ok-conferences.uploads in
    subst IsSetup (sym c.with_conferences.ensures) (stored_setup l (ledger_takes bytes l all c.in_ok-conferences.ensures).0)

pub returns : goal.returns
returns c = c.in_ok-conferences.ensures ∙ λ i. Ok (record { version = sym c.number.ensures i; setup = sym (c.of.ensures ∙ c.with_conferences.ensures) i; created = c.in_ok-opening.opening.created; users = c.in_ok-conferences.users; uploads = c.in_ok-conferences.uploads })
