use Rattle.std.proofs.Common.{sym}
use Rattle.board_layout.specs.jam_base.Slots.{numbered}
use Rattle.jam_pack.proofs.FetchedSlots.{deleted_held, deleted_none}
use Rattle.jam_pack.proofs.counting.is_deleted.Goals as goal

pub returns-in-Some : goal.returns-in-Some
returns-in-Some c = deleted_held (numbered c.args.base.now.conference.slots c.args.number) c.in-Some.message.now (sym c.in-Some.ensures)

pub returns-in-None : goal.returns-in-None
returns-in-None c = deleted_none (numbered c.args.base.now.conference.slots c.args.number) (sym c.in-None.ensures)
