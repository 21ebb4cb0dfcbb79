use Rattle.std.proofs.Common.{rules, arith, Option, ap, subst}
use Rattle.board_layout.specs.Damage.{board_in}
use Rattle.board_layout.specs.Rules.{AreFoundOf, ReadSo}
use Rattle.board_layout.specs.declared.read.FoundBoard.{FoundBoard}
use Rattle.intent_journal.specs.Hosts.{IsCalm}
use Rattle.intent_journal.specs.Patches.{HostFiles}
use Rattle.intent_journal.specs.Recovered.{recovered}
use Rattle.mail_board.proofs.LoadLaws.{none_found, some_found}
use Rattle.mail_board.proofs.MigrationLaws.{opens_done, opens_same, writes_nothing}
use Rattle.mail_board.proofs.board.Board.load.Goals as goal

-- ---- no board
pub returns-in-None-clause-gives : goal.returns-in-None-clause-gives
returns-in-None-clause-gives g c = λ tells.
    let files : HostFiles = (g.H.Host.disk c.recover_board.new.host).files in
    let read = board_in (recovered (g.H.Host.disk c.args.host.now).files) in
    (none_found files read (subst (λ (found : Option FoundBoard). ReadSo (AreFoundOf files) found read) c.in-None.is (c.in_ok-recover_board.ensures.gives tells))).1

pub returns-in-None-clause-stands : goal.returns-in-None-clause-stands
returns-in-None-clause-stands g c = λ tells.
    let files : HostFiles = (g.H.Host.disk c.recover_board.new.host).files in
    let read = board_in (recovered (g.H.Host.disk c.args.host.now).files) in
    (none_found files read (subst (λ (found : Option FoundBoard). ReadSo (AreFoundOf files) found read) c.in-None.is (c.in_ok-recover_board.ensures.gives tells))).0

-- ---- a board
pub migrate-requires-clause-stands : goal.migrate-requires-clause-stands
migrate-requires-clause-stands g c = λ tells.
    let files : HostFiles = (g.H.Host.disk c.recover_board.new.host).files in
    let read = board_in (recovered (g.H.Host.disk c.args.host.now).files) in
    (some_found files read c.in-Some.found (subst (λ (found : Option FoundBoard). ReadSo (AreFoundOf files) found read) c.in-Some.is (c.in_ok-recover_board.ensures.gives tells))).0

pub returns-in_err-map_err-in-Some-clause-same : goal.returns-in_err-map_err-in-Some-clause-same
returns-in_err-map_err-in-Some-clause-same g c = λ tells.
    opens_same (g.H.Host.disk c.args.host.now) (g.H.Host.disk c.recover_board.new.host) (c.recover_board.ensures.same tells) (g.H.Host.disk c.migrate.new.host) (c.migrate.ensures.now tells)

pub returns-in_err-map_err-in-Some-clause-wrote : goal.returns-in_err-map_err-in-Some-clause-wrote
returns-in_err-map_err-in-Some-clause-wrote g c = λ tells other.
    let mid = g.H.Host.disk c.recover_board.new.host in
    let read = board_in (recovered (g.H.Host.disk c.args.host.now).files) in
    let stands = some_found mid.files read c.in-Some.found (subst (λ (found : Option FoundBoard). ReadSo (AreFoundOf mid.files) found read) c.in-Some.is (c.in_ok-recover_board.ensures.gives tells)) in
    let still = writes_nothing c.in-Some.found (g.H.Host.disk c.args.host.now) mid (g.H.Host.disk c.migrate.new.host).wrote stands.0 (c.in_ok-recover_board.ensures.done tt tells)
    other (λ new. ap (λ host. (g.H.Host.disk host).wrote) (c.migrate.ensures.same new)) in
    omega (arith, still, c.recover_board.ensures.wrote tells)

pub returns-in_ok-map_err-in-Some-clause-same : goal.returns-in_ok-map_err-in-Some-clause-same
returns-in_ok-map_err-in-Some-clause-same g c = λ tells.
    opens_same (g.H.Host.disk c.args.host.now) (g.H.Host.disk c.recover_board.new.host) (c.recover_board.ensures.same tells) (g.H.Host.disk c.migrate.new.host) (c.migrate.ensures.now tells)

pub returns-in_ok-map_err-in-Some-clause-done : goal.returns-in_ok-map_err-in-Some-clause-done
returns-in_ok-map_err-in-Some-clause-done g c = λ told tells.
    let calm : IsCalm (g.H.Host.disk c.migrate.new.host) = search rules in
    opens_done (g.H.Host.disk c.args.host.now) (g.H.Host.disk c.migrate.new.host) calm
    (opens_same (g.H.Host.disk c.args.host.now) (g.H.Host.disk c.recover_board.new.host) (c.recover_board.ensures.same tells) (g.H.Host.disk c.migrate.new.host) (c.migrate.ensures.now tells))

pub returns-in_ok-map_err-in-Some-clause-gives : goal.returns-in_ok-map_err-in-Some-clause-gives
returns-in_ok-map_err-in-Some-clause-gives g c = λ tells.
    let files : HostFiles = (g.H.Host.disk c.recover_board.new.host).files in
    let read = board_in (recovered (g.H.Host.disk c.args.host.now).files) in
    (some_found files read c.in-Some.found (subst (λ (found : Option FoundBoard). ReadSo (AreFoundOf files) found read) c.in-Some.is (c.in_ok-recover_board.ensures.gives tells))).1

pub returns-in_ok-map_err-in-Some-clause-wrote : goal.returns-in_ok-map_err-in-Some-clause-wrote
returns-in_ok-map_err-in-Some-clause-wrote g c = λ tells other.
    let mid = g.H.Host.disk c.recover_board.new.host in
    let read = board_in (recovered (g.H.Host.disk c.args.host.now).files) in
    let stands = some_found mid.files read c.in-Some.found (subst (λ (found : Option FoundBoard). ReadSo (AreFoundOf mid.files) found read) c.in-Some.is (c.in_ok-recover_board.ensures.gives tells)) in
    let still = writes_nothing c.in-Some.found (g.H.Host.disk c.args.host.now) mid (g.H.Host.disk c.migrate.new.host).wrote stands.0 (c.in_ok-recover_board.ensures.done tt tells)
    other (λ new. ap (λ host. (g.H.Host.disk host).wrote) (c.migrate.ensures.same new)) in
    omega (arith, still, c.recover_board.ensures.wrote tells)
