use Rattle.std.proofs.Common.{refl}
use Rattle.cmd_entries.specs.declared.command.Command.TheVariants as command
use Rattle.cmd_entries.specs.declared.entry.Entry.TheVariants.{Run}
use Rattle.entry_runs.proofs.Commands.{serves}
use Rattle.entry_runs.proofs.Entries.{performs_as_said}
use Rattle.cmd_board.specs.State.{Stores}
use Rattle.cmd_packets.specs.List.{lists}
use Rattle.cmd_packets.specs.Read.{reads, shows}
use Rattle.cmd_packets.specs.Scan.{count_line, scans}
use Rattle.cmd_replies.specs.Compose.{composed_line, composes}
use Rattle.cmd_replies.specs.Reply.{replies, reply_line}
use Rattle.mail_cli.proofs.AnyShelf.{at_some, performed_keeps, said_between, said_keeps}
use Rattle.mail_cli.proofs.Arms.{may_be_damaged, never_damaged, shelf_causes, spoken_kept}
use Rattle.mail_cli.proofs.CommandBounds.{spoken_bound}
use Rattle.mail_cli.proofs.EntryLaws.{entry_keeps_state}
use Rattle.mail_cli.proofs.Staying.{spoken_only}
use Rattle.mail_cli.proofs.perform.perform_command.Goals as goal

-- ---- what reaches the shelf alone
pub returns-in-Compose-clause-performs : goal.returns-in-Compose-clause-performs
returns-in-Compose-clause-performs g c tells shelf_tells world at = rw c.in-Compose.is (performs_as_said Stores _ g.H.Host.disk _ (serves Stores (composes c.in-Compose.folder c.in-Compose.conference c.in-Compose.sheet c.in-Compose.rep c.args.now) at _ (c.compose.ensures.serves shelf_tells)) (c.say_served.ensures.spoken tells))

pub returns-in-Compose-clause-causes : goal.returns-in-Compose-clause-causes
returns-in-Compose-clause-causes g c = c.say_served.ensures.causes _ _ (shelf_causes (composed_line c.in-Compose.rep) _ _ c.compose.result c.compose.ensures.causes)

pub returns-in-Compose-clause-damaged : goal.returns-in-Compose-clause-damaged
returns-in-Compose-clause-damaged g c = never_damaged _ c.say_served.result c.say_served.ensures.undamaged

pub returns-in-Compose-clause-kept : goal.returns-in-Compose-clause-kept
returns-in-Compose-clause-kept g c tells = spoken_kept g.H.Host.disk _ _ c.args.kept.now _ _ (c.say_served.ensures.spoken tells) (c.requires.kept tells)

pub returns-in-Compose-clause-files_stay : goal.returns-in-Compose-clause-files_stay
returns-in-Compose-clause-files_stay g c off tells = spoken_only g.H.Host.disk _ _ (c.say_served.ensures.spoken tells)

pub returns-in-Compose-clause-wrote : goal.returns-in-Compose-clause-wrote
returns-in-Compose-clause-wrote g c tells shelf_tells = rw c.in-Compose.is (λ posts closed. absurd posts)

pub returns-in-List-clause-performs : goal.returns-in-List-clause-performs
returns-in-List-clause-performs g c tells shelf_tells world at = rw c.in-List.is (performs_as_said Stores _ g.H.Host.disk _ (serves Stores (lists c.in-List.file) at _ (c.list.ensures.serves shelf_tells)) (c.say_served-in-List.ensures.spoken tells))

pub returns-in-List-clause-causes : goal.returns-in-List-clause-causes
returns-in-List-clause-causes g c = c.say_served-in-List.ensures.causes _ _ (shelf_causes (λ text. text) _ _ c.list.result c.list.ensures.causes)

pub returns-in-List-clause-damaged : goal.returns-in-List-clause-damaged
returns-in-List-clause-damaged g c = never_damaged _ c.say_served-in-List.result c.say_served-in-List.ensures.undamaged

pub returns-in-List-clause-kept : goal.returns-in-List-clause-kept
returns-in-List-clause-kept g c tells = spoken_kept g.H.Host.disk _ _ c.args.kept.now _ _ (c.say_served-in-List.ensures.spoken tells) (c.requires.kept tells)

pub returns-in-List-clause-files_stay : goal.returns-in-List-clause-files_stay
returns-in-List-clause-files_stay g c off tells = spoken_only g.H.Host.disk _ _ (c.say_served-in-List.ensures.spoken tells)

pub returns-in-List-clause-wrote : goal.returns-in-List-clause-wrote
returns-in-List-clause-wrote g c tells shelf_tells = rw c.in-List.is (λ posts closed. absurd posts)

pub returns-in-Read-clause-performs : goal.returns-in-Read-clause-performs
returns-in-Read-clause-performs g c tells shelf_tells world at = rw c.in-Read.is (performs_as_said Stores _ g.H.Host.disk _ (serves Stores (reads c.in-Read.folder) at _ (c.read.ensures.serves shelf_tells)) (c.say_served-in-Read.ensures.spoken tells))

pub returns-in-Read-clause-causes : goal.returns-in-Read-clause-causes
returns-in-Read-clause-causes g c = c.say_served-in-Read.ensures.causes _ _ (shelf_causes (λ text. text) _ _ c.read.result c.read.ensures.causes)

pub returns-in-Read-clause-damaged : goal.returns-in-Read-clause-damaged
returns-in-Read-clause-damaged g c = never_damaged _ c.say_served-in-Read.result c.say_served-in-Read.ensures.undamaged

pub returns-in-Read-clause-kept : goal.returns-in-Read-clause-kept
returns-in-Read-clause-kept g c tells = spoken_kept g.H.Host.disk _ _ c.args.kept.now _ _ (c.say_served-in-Read.ensures.spoken tells) (c.requires.kept tells)

pub returns-in-Read-clause-files_stay : goal.returns-in-Read-clause-files_stay
returns-in-Read-clause-files_stay g c off tells = spoken_only g.H.Host.disk _ _ (c.say_served-in-Read.ensures.spoken tells)

pub returns-in-Read-clause-wrote : goal.returns-in-Read-clause-wrote
returns-in-Read-clause-wrote g c tells shelf_tells = rw c.in-Read.is (λ posts closed. absurd posts)

pub returns-in-Reply-clause-performs : goal.returns-in-Reply-clause-performs
returns-in-Reply-clause-performs g c tells shelf_tells world at = rw c.in-Reply.is (performs_as_said Stores _ g.H.Host.disk _ (serves Stores (replies c.in-Reply.folder c.in-Reply.place c.in-Reply.text c.in-Reply.rep c.args.now) at _ (c.reply.ensures.serves shelf_tells)) (c.say_served-in-Reply.ensures.spoken tells))

pub returns-in-Reply-clause-causes : goal.returns-in-Reply-clause-causes
returns-in-Reply-clause-causes g c = c.say_served-in-Reply.ensures.causes _ _ (shelf_causes (reply_line c.in-Reply.place c.in-Reply.rep) _ _ c.reply.result c.reply.ensures.causes)

pub returns-in-Reply-clause-damaged : goal.returns-in-Reply-clause-damaged
returns-in-Reply-clause-damaged g c = never_damaged _ c.say_served-in-Reply.result c.say_served-in-Reply.ensures.undamaged

pub returns-in-Reply-clause-kept : goal.returns-in-Reply-clause-kept
returns-in-Reply-clause-kept g c tells = spoken_kept g.H.Host.disk _ _ c.args.kept.now _ _ (c.say_served-in-Reply.ensures.spoken tells) (c.requires.kept tells)

pub returns-in-Reply-clause-files_stay : goal.returns-in-Reply-clause-files_stay
returns-in-Reply-clause-files_stay g c off tells = spoken_only g.H.Host.disk _ _ (c.say_served-in-Reply.ensures.spoken tells)

pub returns-in-Reply-clause-wrote : goal.returns-in-Reply-clause-wrote
returns-in-Reply-clause-wrote g c tells shelf_tells = rw c.in-Reply.is (λ posts closed. absurd posts)

pub returns-in-Show-clause-performs : goal.returns-in-Show-clause-performs
returns-in-Show-clause-performs g c tells shelf_tells world at = rw c.in-Show.is (performs_as_said Stores _ g.H.Host.disk _ (serves Stores (shows c.in-Show.folder c.in-Show.place) at _ (c.show.ensures.serves shelf_tells)) (c.say_served-in-Show.ensures.spoken tells))

pub returns-in-Show-clause-causes : goal.returns-in-Show-clause-causes
returns-in-Show-clause-causes g c = c.say_served-in-Show.ensures.causes _ _ (shelf_causes (λ text. text) _ _ c.show.result c.show.ensures.causes)

pub returns-in-Show-clause-damaged : goal.returns-in-Show-clause-damaged
returns-in-Show-clause-damaged g c = never_damaged _ c.say_served-in-Show.result c.say_served-in-Show.ensures.undamaged

pub returns-in-Show-clause-kept : goal.returns-in-Show-clause-kept
returns-in-Show-clause-kept g c tells = spoken_kept g.H.Host.disk _ _ c.args.kept.now _ _ (c.say_served-in-Show.ensures.spoken tells) (c.requires.kept tells)

pub returns-in-Show-clause-files_stay : goal.returns-in-Show-clause-files_stay
returns-in-Show-clause-files_stay g c off tells = spoken_only g.H.Host.disk _ _ (c.say_served-in-Show.ensures.spoken tells)

pub returns-in-Show-clause-wrote : goal.returns-in-Show-clause-wrote
returns-in-Show-clause-wrote g c tells shelf_tells = rw c.in-Show.is (λ posts closed. absurd posts)

pub returns-in-Scan-clause-performs : goal.returns-in-Scan-clause-performs
returns-in-Scan-clause-performs g c tells shelf_tells world at = rw c.in-Scan.is (performs_as_said Stores _ g.H.Host.disk _ (serves Stores (scans c.in-Scan.file) at _ (c.scan.ensures.serves shelf_tells)) (c.say_served-in-Scan.ensures.spoken tells))

pub returns-in-Scan-clause-causes : goal.returns-in-Scan-clause-causes
returns-in-Scan-clause-causes g c = c.say_served-in-Scan.ensures.causes _ _ (shelf_causes (count_line) _ _ c.scan.result c.scan.ensures.causes)

pub returns-in-Scan-clause-damaged : goal.returns-in-Scan-clause-damaged
returns-in-Scan-clause-damaged g c = never_damaged _ c.say_served-in-Scan.result c.say_served-in-Scan.ensures.undamaged

pub returns-in-Scan-clause-kept : goal.returns-in-Scan-clause-kept
returns-in-Scan-clause-kept g c tells = spoken_kept g.H.Host.disk _ _ c.args.kept.now _ _ (c.say_served-in-Scan.ensures.spoken tells) (c.requires.kept tells)

pub returns-in-Scan-clause-files_stay : goal.returns-in-Scan-clause-files_stay
returns-in-Scan-clause-files_stay g c off tells = spoken_only g.H.Host.disk _ _ (c.say_served-in-Scan.ensures.spoken tells)

pub returns-in-Scan-clause-wrote : goal.returns-in-Scan-clause-wrote
returns-in-Scan-clause-wrote g c tells shelf_tells = rw c.in-Scan.is (λ posts closed. absurd posts)

-- ---- what touches the board
pub returns-in-Ack-clause-performs : goal.returns-in-Ack-clause-performs
returns-in-Ack-clause-performs g c tells shelf_tells world at = rw (c.in-Ack.is, ← c.as_slice.ensures.same) (performs_as_said Stores _ g.H.Host.disk _ (c.ack.ensures.works tells world _ at) (c.say_told.ensures.spoken tells))

pub returns-in-Ack-clause-performs_any : goal.returns-in-Ack-clause-performs_any
returns-in-Ack-clause-performs_any g c off tells files world at = rw (c.in-Ack.is, ← c.as_slice.ensures.same) (performs_as_said Stores _ g.H.Host.disk _ (c.ack.ensures.works tells world _ at) (c.say_told.ensures.spoken tells))

pub returns-in-Ack-clause-wrote_any : goal.returns-in-Ack-clause-wrote_any
returns-in-Ack-clause-wrote_any g c off tells files = rw c.in-Ack.is (λ posts closed. absurd posts)

pub returns-in-Ack-clause-keeps : goal.returns-in-Ack-clause-keeps
returns-in-Ack-clause-keeps g c on tells =
    let at = at_some (g.H.Host.disk c.args.host.now) c.args.kept.now (g.S.Shelf.files c.args.shelf.now) (c.requires.kept tells) in
    performed_keeps c.say_told.result (entry_keeps_state c.args.now (Run (command.Ack c.as_slice.result.now c.in-Ack.packet))) refl at (performs_as_said Stores _ g.H.Host.disk _ (c.ack.ensures.works tells _ _ at) (c.say_told.ensures.spoken tells))

pub returns-in-Ack-clause-causes : goal.returns-in-Ack-clause-causes
returns-in-Ack-clause-causes g c = c.say_told.ensures.causes _ _ (c.ack.ensures.causes _)

pub returns-in-Ack-clause-damaged : goal.returns-in-Ack-clause-damaged
returns-in-Ack-clause-damaged g c = rw c.in-Ack.is (may_be_damaged c.say_told.result)

pub returns-in-Ack-clause-kept : goal.returns-in-Ack-clause-kept
returns-in-Ack-clause-kept g c tells = spoken_kept g.H.Host.disk _ _ c.ack.new.kept _ _ (c.say_told.ensures.spoken tells) (c.ack.ensures.kept tells)

pub returns-in-Ack-clause-wrote : goal.returns-in-Ack-clause-wrote
returns-in-Ack-clause-wrote g c tells shelf_tells = rw c.in-Ack.is (λ posts closed. absurd posts)

pub returns-in-Adopt-clause-performs : goal.returns-in-Adopt-clause-performs
returns-in-Adopt-clause-performs g c tells shelf_tells world at = rw (c.in-Adopt.is, ← c.as_slice-in-Adopt.ensures.same) (performs_as_said Stores _ g.H.Host.disk _ (c.adopt.ensures.works tells shelf_tells world at) (c.say_told-in-Adopt.ensures.spoken tells))

pub returns-in-Adopt-clause-keeps : goal.returns-in-Adopt-clause-keeps
returns-in-Adopt-clause-keeps g c on tells = said_keeps g.H.Host.disk (g.H.Host.disk c.args.host.now) _ _ _ c.say_told-in-Adopt.result c.adopt.result (c.say_told-in-Adopt.ensures.spoken tells) (c.adopt.ensures.keeps tells)

pub returns-in-Adopt-clause-causes : goal.returns-in-Adopt-clause-causes
returns-in-Adopt-clause-causes g c = c.say_told-in-Adopt.ensures.causes _ _ c.adopt.ensures.causes

pub returns-in-Adopt-clause-damaged : goal.returns-in-Adopt-clause-damaged
returns-in-Adopt-clause-damaged g c = rw c.in-Adopt.is (may_be_damaged c.say_told-in-Adopt.result)

pub returns-in-Adopt-clause-kept : goal.returns-in-Adopt-clause-kept
returns-in-Adopt-clause-kept g c tells = spoken_kept g.H.Host.disk _ _ c.adopt.new.kept _ _ (c.say_told-in-Adopt.ensures.spoken tells) (c.adopt.ensures.kept tells)

pub returns-in-Adopt-clause-wrote : goal.returns-in-Adopt-clause-wrote
returns-in-Adopt-clause-wrote g c tells shelf_tells = spoken_bound c.args.now c.args.command.now g.H.Host.disk (g.H.Host.disk c.args.host.now) (g.S.Shelf.files c.args.shelf.now) _ _ (c.say_told-in-Adopt.ensures.spoken tells)
    (rw (c.in-Adopt.is, ← c.as_slice-in-Adopt.ensures.same) (λ posts closed. c.adopt.ensures.wrote tells shelf_tells closed))

pub returns-in-Check-clause-performs : goal.returns-in-Check-clause-performs
returns-in-Check-clause-performs g c tells shelf_tells world at = rw c.in-Check.is (performs_as_said Stores _ g.H.Host.disk _ (c.check.ensures.works tells world _ at) (c.say_told-in-Check.ensures.spoken tells))

pub returns-in-Check-clause-performs_any : goal.returns-in-Check-clause-performs_any
returns-in-Check-clause-performs_any g c off tells files world at = rw c.in-Check.is (performs_as_said Stores _ g.H.Host.disk _ (c.check.ensures.works tells world _ at) (c.say_told-in-Check.ensures.spoken tells))

pub returns-in-Check-clause-wrote_any : goal.returns-in-Check-clause-wrote_any
returns-in-Check-clause-wrote_any g c off tells files = rw c.in-Check.is (λ posts closed. absurd posts)

pub returns-in-Check-clause-keeps : goal.returns-in-Check-clause-keeps
returns-in-Check-clause-keeps g c on tells =
    let at = at_some (g.H.Host.disk c.args.host.now) c.args.kept.now (g.S.Shelf.files c.args.shelf.now) (c.requires.kept tells) in
    performed_keeps c.say_told-in-Check.result (entry_keeps_state c.args.now (Run (command.Check))) refl at (performs_as_said Stores _ g.H.Host.disk _ (c.check.ensures.works tells _ _ at) (c.say_told-in-Check.ensures.spoken tells))

pub returns-in-Check-clause-causes : goal.returns-in-Check-clause-causes
returns-in-Check-clause-causes g c = c.say_told-in-Check.ensures.causes _ _ (c.check.ensures.causes _)

pub returns-in-Check-clause-damaged : goal.returns-in-Check-clause-damaged
returns-in-Check-clause-damaged g c = rw c.in-Check.is (may_be_damaged c.say_told-in-Check.result)

pub returns-in-Check-clause-kept : goal.returns-in-Check-clause-kept
returns-in-Check-clause-kept g c tells = spoken_kept g.H.Host.disk _ _ c.check.new.kept _ _ (c.say_told-in-Check.ensures.spoken tells) (c.check.ensures.kept tells)

pub returns-in-Check-clause-wrote : goal.returns-in-Check-clause-wrote
returns-in-Check-clause-wrote g c tells shelf_tells = rw c.in-Check.is (λ posts closed. absurd posts)

pub returns-in-Enroll-clause-performs : goal.returns-in-Enroll-clause-performs
returns-in-Enroll-clause-performs g c tells shelf_tells world at = rw (c.in-Enroll.is, ← c.as_slice-in-Enroll.ensures.same, ← c.as_slice-in-Enroll-2.ensures.same, ← c.as_slice-in-Enroll-3.ensures.same) (performs_as_said Stores _ g.H.Host.disk _ (c.enroll.ensures.works tells world _ at) (c.say_told-in-Enroll.ensures.spoken tells))

pub returns-in-Enroll-clause-performs_any : goal.returns-in-Enroll-clause-performs_any
returns-in-Enroll-clause-performs_any g c off tells files world at = rw (c.in-Enroll.is, ← c.as_slice-in-Enroll.ensures.same, ← c.as_slice-in-Enroll-2.ensures.same, ← c.as_slice-in-Enroll-3.ensures.same) (performs_as_said Stores _ g.H.Host.disk _ (c.enroll.ensures.works tells world _ at) (c.say_told-in-Enroll.ensures.spoken tells))

pub returns-in-Enroll-clause-wrote_any : goal.returns-in-Enroll-clause-wrote_any
returns-in-Enroll-clause-wrote_any g c off tells files = rw c.in-Enroll.is (λ posts closed. absurd posts)

pub returns-in-Enroll-clause-keeps : goal.returns-in-Enroll-clause-keeps
returns-in-Enroll-clause-keeps g c on tells =
    let at = at_some (g.H.Host.disk c.args.host.now) c.args.kept.now (g.S.Shelf.files c.args.shelf.now) (c.requires.kept tells) in
    performed_keeps c.say_told-in-Enroll.result (entry_keeps_state c.args.now (Run (command.Enroll c.as_slice-in-Enroll.result.now c.as_slice-in-Enroll-2.result.now c.as_slice-in-Enroll-3.result.now))) refl at (performs_as_said Stores _ g.H.Host.disk _ (c.enroll.ensures.works tells _ _ at) (c.say_told-in-Enroll.ensures.spoken tells))

pub returns-in-Enroll-clause-causes : goal.returns-in-Enroll-clause-causes
returns-in-Enroll-clause-causes g c = c.say_told-in-Enroll.ensures.causes _ _ (c.enroll.ensures.causes _)

pub returns-in-Enroll-clause-damaged : goal.returns-in-Enroll-clause-damaged
returns-in-Enroll-clause-damaged g c = rw c.in-Enroll.is (may_be_damaged c.say_told-in-Enroll.result)

pub returns-in-Enroll-clause-kept : goal.returns-in-Enroll-clause-kept
returns-in-Enroll-clause-kept g c tells = spoken_kept g.H.Host.disk _ _ c.enroll.new.kept _ _ (c.say_told-in-Enroll.ensures.spoken tells) (c.enroll.ensures.kept tells)

pub returns-in-Enroll-clause-wrote : goal.returns-in-Enroll-clause-wrote
returns-in-Enroll-clause-wrote g c tells shelf_tells = rw c.in-Enroll.is (λ posts closed. absurd posts)

pub returns-in-Export-clause-performs : goal.returns-in-Export-clause-performs
returns-in-Export-clause-performs g c tells shelf_tells world at = rw (c.in-Export.is, ← c.as_slice-in-Export.ensures.same) (performs_as_said Stores _ g.H.Host.disk _ (c.export.ensures.works tells shelf_tells world at) (c.say_told-in-Export.ensures.spoken tells))

pub returns-in-Export-clause-keeps : goal.returns-in-Export-clause-keeps
returns-in-Export-clause-keeps g c on tells = said_keeps g.H.Host.disk (g.H.Host.disk c.args.host.now) _ _ _ c.say_told-in-Export.result c.export.result (c.say_told-in-Export.ensures.spoken tells) (c.export.ensures.keeps tells)

pub returns-in-Export-clause-causes : goal.returns-in-Export-clause-causes
returns-in-Export-clause-causes g c = c.say_told-in-Export.ensures.causes _ _ c.export.ensures.causes

pub returns-in-Export-clause-damaged : goal.returns-in-Export-clause-damaged
returns-in-Export-clause-damaged g c = rw c.in-Export.is (may_be_damaged c.say_told-in-Export.result)

pub returns-in-Export-clause-kept : goal.returns-in-Export-clause-kept
returns-in-Export-clause-kept g c tells = spoken_kept g.H.Host.disk _ _ c.export.new.kept _ _ (c.say_told-in-Export.ensures.spoken tells) (c.export.ensures.kept tells)

pub returns-in-Export-clause-wrote : goal.returns-in-Export-clause-wrote
returns-in-Export-clause-wrote g c tells shelf_tells = rw c.in-Export.is (λ posts closed. absurd posts)

pub returns-in-Import-clause-performs : goal.returns-in-Import-clause-performs
returns-in-Import-clause-performs g c tells shelf_tells world at = rw c.in-Import.is (performs_as_said Stores _ g.H.Host.disk _ (c.import.ensures.works tells shelf_tells world at) (c.say_told-in-Import.ensures.spoken tells))

pub returns-in-Import-clause-keeps : goal.returns-in-Import-clause-keeps
returns-in-Import-clause-keeps g c on tells = said_keeps g.H.Host.disk (g.H.Host.disk c.args.host.now) _ _ _ c.say_told-in-Import.result c.import.result (c.say_told-in-Import.ensures.spoken tells) (c.import.ensures.keeps tells)

pub returns-in-Import-clause-causes : goal.returns-in-Import-clause-causes
returns-in-Import-clause-causes g c = c.say_told-in-Import.ensures.causes _ _ c.import.ensures.causes

pub returns-in-Import-clause-damaged : goal.returns-in-Import-clause-damaged
returns-in-Import-clause-damaged g c = rw c.in-Import.is (may_be_damaged c.say_told-in-Import.result)

pub returns-in-Import-clause-kept : goal.returns-in-Import-clause-kept
returns-in-Import-clause-kept g c tells = spoken_kept g.H.Host.disk _ _ c.import.new.kept _ _ (c.say_told-in-Import.ensures.spoken tells) (c.import.ensures.kept tells)

pub returns-in-Import-clause-wrote : goal.returns-in-Import-clause-wrote
returns-in-Import-clause-wrote g c tells shelf_tells = spoken_bound c.args.now c.args.command.now g.H.Host.disk (g.H.Host.disk c.args.host.now) (g.S.Shelf.files c.args.shelf.now) _ _ (c.say_told-in-Import.ensures.spoken tells)
    (rw c.in-Import.is (λ posts closed. c.import.ensures.wrote tells shelf_tells closed))

pub returns-in-Init-clause-performs : goal.returns-in-Init-clause-performs
returns-in-Init-clause-performs g c tells shelf_tells world at = rw c.in-Init.is (performs_as_said Stores _ g.H.Host.disk _ (c.init.ensures.works tells shelf_tells world at) (c.say_told-in-Init.ensures.spoken tells))

pub returns-in-Init-clause-keeps : goal.returns-in-Init-clause-keeps
returns-in-Init-clause-keeps g c on tells = said_keeps g.H.Host.disk (g.H.Host.disk c.args.host.now) _ _ _ c.say_told-in-Init.result c.init.result (c.say_told-in-Init.ensures.spoken tells) (c.init.ensures.keeps tells)

pub returns-in-Init-clause-causes : goal.returns-in-Init-clause-causes
returns-in-Init-clause-causes g c = c.say_told-in-Init.ensures.causes _ _ c.init.ensures.causes

pub returns-in-Init-clause-damaged : goal.returns-in-Init-clause-damaged
returns-in-Init-clause-damaged g c = rw c.in-Init.is (may_be_damaged c.say_told-in-Init.result)

pub returns-in-Init-clause-kept : goal.returns-in-Init-clause-kept
returns-in-Init-clause-kept g c tells = spoken_kept g.H.Host.disk _ _ c.init.new.kept _ _ (c.say_told-in-Init.ensures.spoken tells) (c.init.ensures.kept tells)

pub returns-in-Init-clause-wrote : goal.returns-in-Init-clause-wrote
returns-in-Init-clause-wrote g c tells shelf_tells = rw c.in-Init.is (λ posts closed. absurd posts)

pub returns-in-Kill-clause-performs : goal.returns-in-Kill-clause-performs
returns-in-Kill-clause-performs g c tells shelf_tells world at = rw c.in-Kill.is (performs_as_said Stores _ g.H.Host.disk _ (c.kill.ensures.works tells world _ at) (c.say_told-in-Kill.ensures.spoken tells))

pub returns-in-Kill-clause-performs_any : goal.returns-in-Kill-clause-performs_any
returns-in-Kill-clause-performs_any g c off tells files world at = rw c.in-Kill.is (performs_as_said Stores _ g.H.Host.disk _ (c.kill.ensures.works tells world _ at) (c.say_told-in-Kill.ensures.spoken tells))

pub returns-in-Kill-clause-wrote_any : goal.returns-in-Kill-clause-wrote_any
returns-in-Kill-clause-wrote_any g c off tells files = rw c.in-Kill.is (λ posts closed. absurd posts)

pub returns-in-Kill-clause-keeps : goal.returns-in-Kill-clause-keeps
returns-in-Kill-clause-keeps g c on tells =
    let at = at_some (g.H.Host.disk c.args.host.now) c.args.kept.now (g.S.Shelf.files c.args.shelf.now) (c.requires.kept tells) in
    performed_keeps c.say_told-in-Kill.result (entry_keeps_state c.args.now (Run (command.Kill c.in-Kill.conference c.in-Kill.number))) refl at (performs_as_said Stores _ g.H.Host.disk _ (c.kill.ensures.works tells _ _ at) (c.say_told-in-Kill.ensures.spoken tells))

pub returns-in-Kill-clause-causes : goal.returns-in-Kill-clause-causes
returns-in-Kill-clause-causes g c = c.say_told-in-Kill.ensures.causes _ _ (c.kill.ensures.causes _)

pub returns-in-Kill-clause-damaged : goal.returns-in-Kill-clause-damaged
returns-in-Kill-clause-damaged g c = rw c.in-Kill.is (may_be_damaged c.say_told-in-Kill.result)

pub returns-in-Kill-clause-kept : goal.returns-in-Kill-clause-kept
returns-in-Kill-clause-kept g c tells = spoken_kept g.H.Host.disk _ _ c.kill.new.kept _ _ (c.say_told-in-Kill.ensures.spoken tells) (c.kill.ensures.kept tells)

pub returns-in-Kill-clause-wrote : goal.returns-in-Kill-clause-wrote
returns-in-Kill-clause-wrote g c tells shelf_tells = rw c.in-Kill.is (λ posts closed. absurd posts)

pub returns-in-Pack-clause-performs : goal.returns-in-Pack-clause-performs
returns-in-Pack-clause-performs g c tells shelf_tells world at = rw c.in-Pack.is (performs_as_said Stores _ g.H.Host.disk _ (c.pack.ensures.works tells world _ at) (c.say_told-in-Pack.ensures.spoken tells))

pub returns-in-Pack-clause-performs_any : goal.returns-in-Pack-clause-performs_any
returns-in-Pack-clause-performs_any g c off tells files world at = rw c.in-Pack.is (performs_as_said Stores _ g.H.Host.disk _ (c.pack.ensures.works tells world _ at) (c.say_told-in-Pack.ensures.spoken tells))

pub returns-in-Pack-clause-wrote_any : goal.returns-in-Pack-clause-wrote_any
returns-in-Pack-clause-wrote_any g c off tells files = rw c.in-Pack.is (λ posts closed. absurd posts)

pub returns-in-Pack-clause-keeps : goal.returns-in-Pack-clause-keeps
returns-in-Pack-clause-keeps g c on tells =
    let at = at_some (g.H.Host.disk c.args.host.now) c.args.kept.now (g.S.Shelf.files c.args.shelf.now) (c.requires.kept tells) in
    performed_keeps c.say_told-in-Pack.result (entry_keeps_state c.args.now (Run (command.Pack c.in-Pack.conference))) refl at (performs_as_said Stores _ g.H.Host.disk _ (c.pack.ensures.works tells _ _ at) (c.say_told-in-Pack.ensures.spoken tells))

pub returns-in-Pack-clause-causes : goal.returns-in-Pack-clause-causes
returns-in-Pack-clause-causes g c = c.say_told-in-Pack.ensures.causes _ _ (c.pack.ensures.causes _)

pub returns-in-Pack-clause-damaged : goal.returns-in-Pack-clause-damaged
returns-in-Pack-clause-damaged g c = rw c.in-Pack.is (may_be_damaged c.say_told-in-Pack.result)

pub returns-in-Pack-clause-kept : goal.returns-in-Pack-clause-kept
returns-in-Pack-clause-kept g c tells = spoken_kept g.H.Host.disk _ _ c.pack.new.kept _ _ (c.say_told-in-Pack.ensures.spoken tells) (c.pack.ensures.kept tells)

pub returns-in-Pack-clause-wrote : goal.returns-in-Pack-clause-wrote
returns-in-Pack-clause-wrote g c tells shelf_tells = rw c.in-Pack.is (λ posts closed. absurd posts)

pub returns-in-Sample-clause-performs : goal.returns-in-Sample-clause-performs
returns-in-Sample-clause-performs g c tells shelf_tells world at = rw c.in-Sample.is (performs_as_said Stores _ g.H.Host.disk _ (c.sample.ensures.works tells world _ at) (c.say_told-in-Sample.ensures.spoken tells))

pub returns-in-Sample-clause-performs_any : goal.returns-in-Sample-clause-performs_any
returns-in-Sample-clause-performs_any g c off tells files world at = rw c.in-Sample.is (performs_as_said Stores _ g.H.Host.disk _ (c.sample.ensures.works tells world _ at) (c.say_told-in-Sample.ensures.spoken tells))

pub returns-in-Sample-clause-wrote_any : goal.returns-in-Sample-clause-wrote_any
returns-in-Sample-clause-wrote_any g c off tells files = spoken_bound c.args.now c.args.command.now g.H.Host.disk (g.H.Host.disk c.args.host.now) files _ _ (c.say_told-in-Sample.ensures.spoken tells)
    (rw c.in-Sample.is (λ posts closed. c.sample.ensures.wrote tells closed _))

pub returns-in-Sample-clause-keeps : goal.returns-in-Sample-clause-keeps
returns-in-Sample-clause-keeps g c on tells =
    let at = at_some (g.H.Host.disk c.args.host.now) c.args.kept.now (g.S.Shelf.files c.args.shelf.now) (c.requires.kept tells) in
    performed_keeps c.say_told-in-Sample.result (entry_keeps_state c.args.now (Run (command.Sample c.in-Sample.seed c.in-Sample.count))) refl at (performs_as_said Stores _ g.H.Host.disk _ (c.sample.ensures.works tells _ _ at) (c.say_told-in-Sample.ensures.spoken tells))

pub returns-in-Sample-clause-causes : goal.returns-in-Sample-clause-causes
returns-in-Sample-clause-causes g c = c.say_told-in-Sample.ensures.causes _ _ (c.sample.ensures.causes _)

pub returns-in-Sample-clause-damaged : goal.returns-in-Sample-clause-damaged
returns-in-Sample-clause-damaged g c = rw c.in-Sample.is (may_be_damaged c.say_told-in-Sample.result)

pub returns-in-Sample-clause-kept : goal.returns-in-Sample-clause-kept
returns-in-Sample-clause-kept g c tells = spoken_kept g.H.Host.disk _ _ c.sample.new.kept _ _ (c.say_told-in-Sample.ensures.spoken tells) (c.sample.ensures.kept tells)

pub returns-in-Sample-clause-wrote : goal.returns-in-Sample-clause-wrote
returns-in-Sample-clause-wrote g c tells shelf_tells = spoken_bound c.args.now c.args.command.now g.H.Host.disk (g.H.Host.disk c.args.host.now) (g.S.Shelf.files c.args.shelf.now) _ _ (c.say_told-in-Sample.ensures.spoken tells)
    (rw c.in-Sample.is (λ posts closed. c.sample.ensures.wrote tells closed _))

pub returns-in-Toss-clause-performs : goal.returns-in-Toss-clause-performs
returns-in-Toss-clause-performs g c tells shelf_tells world at = rw c.in-Toss.is (performs_as_said Stores _ g.H.Host.disk _ (c.toss.ensures.works tells shelf_tells world at) (c.say_told-in-Toss.ensures.spoken tells))

pub returns-in-Toss-clause-keeps : goal.returns-in-Toss-clause-keeps
returns-in-Toss-clause-keeps g c on tells = said_keeps g.H.Host.disk (g.H.Host.disk c.args.host.now) _ _ _ c.say_told-in-Toss.result c.toss.result (c.say_told-in-Toss.ensures.spoken tells) (c.toss.ensures.keeps tells)

pub returns-in-Toss-clause-causes : goal.returns-in-Toss-clause-causes
returns-in-Toss-clause-causes g c = c.say_told-in-Toss.ensures.causes _ _ c.toss.ensures.causes

pub returns-in-Toss-clause-damaged : goal.returns-in-Toss-clause-damaged
returns-in-Toss-clause-damaged g c = rw c.in-Toss.is (may_be_damaged c.say_told-in-Toss.result)

pub returns-in-Toss-clause-kept : goal.returns-in-Toss-clause-kept
returns-in-Toss-clause-kept g c tells = spoken_kept g.H.Host.disk _ _ c.toss.new.kept _ _ (c.say_told-in-Toss.ensures.spoken tells) (c.toss.ensures.kept tells)

pub returns-in-Toss-clause-wrote : goal.returns-in-Toss-clause-wrote
returns-in-Toss-clause-wrote g c tells shelf_tells = spoken_bound c.args.now c.args.command.now g.H.Host.disk (g.H.Host.disk c.args.host.now) (g.S.Shelf.files c.args.shelf.now) _ _ (c.say_told-in-Toss.ensures.spoken tells)
    (rw c.in-Toss.is (λ posts closed. c.toss.ensures.wrote tells shelf_tells closed))

pub returns-in-Upload-clause-performs : goal.returns-in-Upload-clause-performs
returns-in-Upload-clause-performs g c tells shelf_tells world at = rw (c.in-Upload.is, ← c.as_slice-in-Upload.ensures.same) (performs_as_said Stores _ g.H.Host.disk _ (c.upload.ensures.works tells shelf_tells world at) (c.say_told-in-Upload.ensures.spoken tells))

pub returns-in-Upload-clause-keeps : goal.returns-in-Upload-clause-keeps
returns-in-Upload-clause-keeps g c on tells = said_keeps g.H.Host.disk (g.H.Host.disk c.args.host.now) _ _ _ c.say_told-in-Upload.result c.upload.result (c.say_told-in-Upload.ensures.spoken tells) (c.upload.ensures.keeps tells)

pub returns-in-Upload-clause-causes : goal.returns-in-Upload-clause-causes
returns-in-Upload-clause-causes g c = c.say_told-in-Upload.ensures.causes _ _ c.upload.ensures.causes

pub returns-in-Upload-clause-damaged : goal.returns-in-Upload-clause-damaged
returns-in-Upload-clause-damaged g c = rw c.in-Upload.is (may_be_damaged c.say_told-in-Upload.result)

pub returns-in-Upload-clause-kept : goal.returns-in-Upload-clause-kept
returns-in-Upload-clause-kept g c tells = spoken_kept g.H.Host.disk _ _ c.upload.new.kept _ _ (c.say_told-in-Upload.ensures.spoken tells) (c.upload.ensures.kept tells)

pub returns-in-Upload-clause-wrote : goal.returns-in-Upload-clause-wrote
returns-in-Upload-clause-wrote g c tells shelf_tells = spoken_bound c.args.now c.args.command.now g.H.Host.disk (g.H.Host.disk c.args.host.now) (g.S.Shelf.files c.args.shelf.now) _ _ (c.say_told-in-Upload.ensures.spoken tells)
    (rw (c.in-Upload.is, ← c.as_slice-in-Upload.ensures.same) (λ posts closed. c.upload.ensures.wrote tells shelf_tells closed))

-- ---- what is written, whatever the shelf holds
pub returns-in-Compose-clause-wrote_between : goal.returns-in-Compose-clause-wrote_between
returns-in-Compose-clause-wrote_between g c tells sound = rw c.in-Compose.is (λ posts closed. absurd posts)

pub returns-in-List-clause-wrote_between : goal.returns-in-List-clause-wrote_between
returns-in-List-clause-wrote_between g c tells sound = rw c.in-List.is (λ posts closed. absurd posts)

pub returns-in-Read-clause-wrote_between : goal.returns-in-Read-clause-wrote_between
returns-in-Read-clause-wrote_between g c tells sound = rw c.in-Read.is (λ posts closed. absurd posts)

pub returns-in-Reply-clause-wrote_between : goal.returns-in-Reply-clause-wrote_between
returns-in-Reply-clause-wrote_between g c tells sound = rw c.in-Reply.is (λ posts closed. absurd posts)

pub returns-in-Show-clause-wrote_between : goal.returns-in-Show-clause-wrote_between
returns-in-Show-clause-wrote_between g c tells sound = rw c.in-Show.is (λ posts closed. absurd posts)

pub returns-in-Scan-clause-wrote_between : goal.returns-in-Scan-clause-wrote_between
returns-in-Scan-clause-wrote_between g c tells sound = rw c.in-Scan.is (λ posts closed. absurd posts)

pub returns-in-Ack-clause-wrote_between : goal.returns-in-Ack-clause-wrote_between
returns-in-Ack-clause-wrote_between g c tells sound = rw c.in-Ack.is (λ posts closed. absurd posts)

pub returns-in-Check-clause-wrote_between : goal.returns-in-Check-clause-wrote_between
returns-in-Check-clause-wrote_between g c tells sound = rw c.in-Check.is (λ posts closed. absurd posts)

pub returns-in-Enroll-clause-wrote_between : goal.returns-in-Enroll-clause-wrote_between
returns-in-Enroll-clause-wrote_between g c tells sound = rw c.in-Enroll.is (λ posts closed. absurd posts)

pub returns-in-Export-clause-wrote_between : goal.returns-in-Export-clause-wrote_between
returns-in-Export-clause-wrote_between g c tells sound = rw c.in-Export.is (λ posts closed. absurd posts)

pub returns-in-Init-clause-wrote_between : goal.returns-in-Init-clause-wrote_between
returns-in-Init-clause-wrote_between g c tells sound = rw c.in-Init.is (λ posts closed. absurd posts)

pub returns-in-Kill-clause-wrote_between : goal.returns-in-Kill-clause-wrote_between
returns-in-Kill-clause-wrote_between g c tells sound = rw c.in-Kill.is (λ posts closed. absurd posts)

pub returns-in-Pack-clause-wrote_between : goal.returns-in-Pack-clause-wrote_between
returns-in-Pack-clause-wrote_between g c tells sound = rw c.in-Pack.is (λ posts closed. absurd posts)

pub returns-in-Adopt-clause-wrote_between : goal.returns-in-Adopt-clause-wrote_between
returns-in-Adopt-clause-wrote_between g c tells sound posts closed = said_between g.H.Host.disk (g.H.Host.disk c.args.host.now) _ _ _ c.say_told-in-Adopt.result c.adopt.result (c.say_told-in-Adopt.ensures.spoken tells) sound (c.adopt.ensures.wrote_between tells closed)

pub returns-in-Import-clause-wrote_between : goal.returns-in-Import-clause-wrote_between
returns-in-Import-clause-wrote_between g c tells sound posts closed = said_between g.H.Host.disk (g.H.Host.disk c.args.host.now) _ _ _ c.say_told-in-Import.result c.import.result (c.say_told-in-Import.ensures.spoken tells) sound (c.import.ensures.wrote_between tells closed)

pub returns-in-Sample-clause-wrote_between : goal.returns-in-Sample-clause-wrote_between
returns-in-Sample-clause-wrote_between g c tells sound posts closed = said_between g.H.Host.disk (g.H.Host.disk c.args.host.now) _ _ _ c.say_told-in-Sample.result c.sample.result (c.say_told-in-Sample.ensures.spoken tells) sound (c.sample.ensures.wrote_between tells closed)

pub returns-in-Toss-clause-wrote_between : goal.returns-in-Toss-clause-wrote_between
returns-in-Toss-clause-wrote_between g c tells sound posts closed = said_between g.H.Host.disk (g.H.Host.disk c.args.host.now) _ _ _ c.say_told-in-Toss.result c.toss.result (c.say_told-in-Toss.ensures.spoken tells) sound (c.toss.ensures.wrote_between tells closed)

pub returns-in-Upload-clause-wrote_between : goal.returns-in-Upload-clause-wrote_between
returns-in-Upload-clause-wrote_between g c tells sound posts closed = said_between g.H.Host.disk (g.H.Host.disk c.args.host.now) _ _ _ c.say_told-in-Upload.result c.upload.result (c.say_told-in-Upload.ensures.spoken tells) sound (c.upload.ensures.wrote_between tells closed)
