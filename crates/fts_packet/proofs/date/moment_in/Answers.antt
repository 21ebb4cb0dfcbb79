use Rattle.std.proofs.Common.{sym, ◌∙◌, arith}
use Rattle.fts_packet.proofs.Dates.{moment_small}
use Rattle.fts_packet.proofs.date.moment_in.Goals as goal

pub overflow_add-result : goal.overflow_add-result
overflow_add-result c =
    let read = sym c.read_moment.ensures ∙ c.in_ok-minute.was in
    omega (arith, moment_small c.date_field.result c.time_field.result c.in_ok-minute.minute read, c.in_ok-second.ensures.small)
