use Rattle.std.proofs.Common.{◌≡◌, false, Ok, refl}
use Rattle.entry_runs.proofs.Commands.{serves}
use Rattle.entry_runs.proofs.Entries.{performs_spoken}
use Rattle.entry_runs.specs.Entry.{on_shelf}
use Rattle.cmd_board.specs.shelf_files.Halts.{refused}
use Rattle.cmd_entries.specs.Answers.{usage}
use Rattle.cmd_board.specs.State.{Stores}
use Rattle.mail_cli.proofs.CommandBounds.{command_bound, entry_between}
use Rattle.mail_cli.proofs.Staying.{said_only}
use Rattle.mail_cli.specs.Step.{says, uses_shelf}
use Rattle.mail_cli.proofs.perform.perform.Goals as goal

pub returns-in-Wrong-clause-performs : goal.returns-in-Wrong-clause-performs
returns-in-Wrong-clause-performs g c tells shelf_tells world at =
    let reply = usage c.in-Wrong.usage in
    rw c.in-Wrong.is (rw c.once_said.ensures
    (performs_spoken Stores (on_shelf (says reply)) (serves Stores (says reply) at (Ok reply) (refl, refl)) c.say.result (c.say.ensures.voiced tells)))

pub returns-in-Refuse-clause-performs : goal.returns-in-Refuse-clause-performs
returns-in-Refuse-clause-performs g c tells shelf_tells world at =
    let reply = refused c.in-Refuse.refusal in
    rw c.in-Refuse.is (rw c.once_said-in-Refuse.ensures
    (performs_spoken Stores (on_shelf (says reply)) (serves Stores (says reply) at (Ok reply) (refl, refl)) c.say-in-Refuse.result (c.say-in-Refuse.ensures.voiced tells)))

pub returns-in-Wrong-clause-files_stay : goal.returns-in-Wrong-clause-files_stay
returns-in-Wrong-clause-files_stay g c off tells = said_only (c.say.ensures.voiced tells)

pub returns-in-Refuse-clause-files_stay : goal.returns-in-Refuse-clause-files_stay
returns-in-Refuse-clause-files_stay g c off tells = said_only (c.say-in-Refuse.ensures.voiced tells)

pub returns-in-Run-clause-wrote : goal.returns-in-Run-clause-wrote
returns-in-Run-clause-wrote g c tells shelf_tells = rw c.in-Run.is (command_bound c.args.now c.in-Run.command (g.H.Host.disk c.args.host.now) (g.H.Host.disk c.perform_command.new.host) (g.S.Shelf.files c.args.shelf.now) (c.perform_command.ensures.wrote tells shelf_tells))

pub returns-in-Wrong-clause-wrote : goal.returns-in-Wrong-clause-wrote
returns-in-Wrong-clause-wrote g c tells shelf_tells = rw c.in-Wrong.is (λ other never. absurd (cc never))

pub returns-in-Refuse-clause-wrote : goal.returns-in-Refuse-clause-wrote
returns-in-Refuse-clause-wrote g c tells shelf_tells = rw c.in-Refuse.is (λ other never. absurd (cc never))

-- ---- whatever the shelf holds
pub returns-in-Wrong-clause-performs_any : goal.returns-in-Wrong-clause-performs_any
returns-in-Wrong-clause-performs_any g c off tells files world at =
    let reply = usage c.in-Wrong.usage in
    rw c.in-Wrong.is (rw c.once_said.ensures
    (performs_spoken Stores (on_shelf (says reply)) (serves Stores (says reply) at (Ok reply) (refl, refl)) c.say.result (c.say.ensures.voiced tells)))

pub returns-in-Refuse-clause-performs_any : goal.returns-in-Refuse-clause-performs_any
returns-in-Refuse-clause-performs_any g c off tells files world at =
    let reply = refused c.in-Refuse.refusal in
    rw c.in-Refuse.is (rw c.once_said-in-Refuse.ensures
    (performs_spoken Stores (on_shelf (says reply)) (serves Stores (says reply) at (Ok reply) (refl, refl)) c.say-in-Refuse.result (c.say-in-Refuse.ensures.voiced tells)))

pub returns-in-Run-clause-performs_any : goal.returns-in-Run-clause-performs_any
returns-in-Run-clause-performs_any g c off tells files world at =
    let none : uses_shelf c.in-Run.command ≡ false = rw c.in-Run.is at off in
    rw c.in-Run.is (c.perform_command.ensures.performs_any none tells files world at)

pub returns-in-Run-clause-wrote_any : goal.returns-in-Run-clause-wrote_any
returns-in-Run-clause-wrote_any g c off tells files =
    let none : uses_shelf c.in-Run.command ≡ false = rw c.in-Run.is at off in
    rw c.in-Run.is (command_bound c.args.now c.in-Run.command (g.H.Host.disk c.args.host.now) (g.H.Host.disk c.perform_command.new.host) files (c.perform_command.ensures.wrote_any none tells files))

pub returns-in-Wrong-clause-wrote_any : goal.returns-in-Wrong-clause-wrote_any
returns-in-Wrong-clause-wrote_any g c off tells files = rw c.in-Wrong.is (λ other never. absurd (cc never))

pub returns-in-Refuse-clause-wrote_any : goal.returns-in-Refuse-clause-wrote_any
returns-in-Refuse-clause-wrote_any g c off tells files = rw c.in-Refuse.is (λ other never. absurd (cc never))

pub returns-in-Run-clause-wrote_between : goal.returns-in-Run-clause-wrote_between
returns-in-Run-clause-wrote_between g c tells sound = rw c.in-Run.is (entry_between c.args.now c.in-Run.command (g.H.Host.disk c.args.host.now) (g.H.Host.disk c.perform_command.new.host) (c.perform_command.ensures.wrote_between tells sound))

pub returns-in-Wrong-clause-wrote_between : goal.returns-in-Wrong-clause-wrote_between
returns-in-Wrong-clause-wrote_between g c tells sound = rw c.in-Wrong.is (λ other never. absurd (cc never))

pub returns-in-Refuse-clause-wrote_between : goal.returns-in-Refuse-clause-wrote_between
returns-in-Refuse-clause-wrote_between g c tells sound = rw c.in-Refuse.is (λ other never. absurd (cc never))
