use Rattle.std.proofs.Common.{◌≡◌, arith}
use Rattle.offline_writer.proofs.Places.{listed_at}
use Rattle.offline_writer.proofs.composing.listed_conference.Goals as goal

pub returns-then-from-number : goal.returns-then-from-number
returns-then-from-number c =
    let has : c.listed-item.result.0 ≡ c.args.number = omega arith in
    (has, listed_at c.as_slice-listed-items.result.now c.args.control.now.conferences c.loop-listed.listed-index c.args.number c.listed-item.result c.as_slice-listed-items.ensures (omega arith) c.listed-item.is has)
