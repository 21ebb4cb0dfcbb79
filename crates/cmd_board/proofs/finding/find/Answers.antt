use Rattle.std.proofs.Common.{rules, ◌≡◌, Result, Err, sym, subst}
use Rattle.board_layout.specs.Damage.{board_in}
use Rattle.board_layout.specs.Rules.{damage_of_read}
use Rattle.board_layout.specs.declared.error.ReadError.{ReadError}
use Rattle.damage_rules.specs.Rules.{Stops}
use Rattle.entry_runs.specs.Entry.{Finds}
use Rattle.intent_journal.specs.Recovered.{recovered}
use Rattle.mail_board.proofs.LoadLaws.{damage_back}
use Rattle.mail_board.specs.Loading.{outline_in}
use Rattle.cmd_board.specs.Kept.{IsStateFound, found}
use Rattle.cmd_board.specs.State.{Stores, migrated}
use Rattle.cmd_board.proofs.FindLaws.{kept_settled, load_finds, load_is_found, loaded_is, still_finds, still_is, told_finds}
use Rattle.cmd_board.proofs.finding.find.Goals as goal

pub returns-in_err-load-clause-finds : goal.returns-in_err-load-clause-finds
returns-in_err-load-clause-finds g c tells s stores =
    let e : ReadError = c.in_err-load.field-0.0 in
    let old = g.H.Host.disk c.args.host.now in
    let new = g.H.Host.disk c.load.new.host in
    let gives = c.in_err-load.ensures in
    let is : c.from_residual.result ≡ Err e = search rules in
    subst (λ (r : Result (Unit {0}) ReadError). Finds Stores s (migrated s) old new (found r)) (sym is)
    (load_finds (kept_settled c.args.kept.now old (c.requires.kept tells)) (gives.moments tells) (gives.same tells) (gives.settled tells) stores e
    (λ d damaged. damage_back (board_in (recovered old.files)) d (subst (λ (error : ReadError). Stops (damage_of_read error) (outline_in (recovered old.files))) damaged (gives.gives tells)))
    (λ starved. gives.firm starved tells) (λ is. gives.calm is tells) (λ is. gives.done is tells))

pub returns-in_ok-load-clause-finds : goal.returns-in_ok-load-clause-finds
returns-in_ok-load-clause-finds g c tells s stores =
    let old = g.H.Host.disk c.args.host.now in
    let gives = c.in_ok-load.ensures in
    told_finds (kept_settled c.args.kept.now old (c.requires.kept tells)) (gives.moments tells) (gives.same tells) (gives.settled tells) stores c.in_ok-load.field-0 (gives.stands tells) (gives.calm tt tells) (gives.done tt tells)

pub returns-else-is_none-clause-finds : goal.returns-else-is_none-clause-finds
returns-else-is_none-clause-finds g c tells s stores =
    still_finds c.args.kept.now (g.H.Host.disk c.args.host.now) s c.if-is_none.ensures (c.requires.kept tells) stores

pub returns-in_err-load-clause-state : goal.returns-in_err-load-clause-state
returns-in_err-load-clause-state g c tells s stores =
    let old = g.H.Host.disk c.args.host.now in
    let is : c.from_residual.result ≡ Err c.in_err-load.field-0.0 = search rules in
    subst (IsStateFound s c.args.kept.now) (sym is)
    (load_is_found c.in_err-load.field-0.0 old s c.args.kept.now
    (λ d damaged. damage_back (board_in (recovered old.files)) d (subst (λ (e : ReadError). Stops (damage_of_read e) (outline_in (recovered old.files))) damaged (c.in_err-load.ensures.gives tells))) stores)

pub returns-in_ok-load-clause-state : goal.returns-in_ok-load-clause-state
returns-in_ok-load-clause-state g c tells s stores =
    loaded_is c.in_ok-load.field-0 (g.H.Host.disk c.args.host.now) (g.H.Host.disk c.load.new.host) s (c.in_ok-load.ensures.stands tells) (c.in_ok-load.ensures.done tt tells) stores

pub returns-else-is_none-clause-state : goal.returns-else-is_none-clause-state
returns-else-is_none-clause-state g c tells s stores =
    still_is c.args.kept.now (g.H.Host.disk c.args.host.now) s c.if-is_none.ensures (c.requires.kept tells) stores
