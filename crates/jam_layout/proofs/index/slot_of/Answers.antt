use Rattle.std.proofs.Common.{◌∙◌, refl, ap}
use Rattle.std.proofs.lemmas.Result.{err_from_is_err_and}
use Rattle.name_crc.specs.JamCrc.{jam_crc}
use Rattle.jam_layout.proofs.IndexTests.{held_read, held_fails, gone_read, gone_fails}
use Rattle.jam_layout.proofs.index.slot_of.Goals as goal

pub returns-in_err-check_pair-in-None-clause-gives : goal.returns-in_err-check_pair-in-None-clause-gives
returns-in_err-check_pair-in-None-clause-gives c =
    let p = err_from_is_err_and c.from_residual.result c.from_residual.ensures.1 in
    rw (p.1, p.2) (gone_fails c.args.place c.args.item c.args.at c.args.pending.now.items c.args.bytes.now c.in_err-check_pair-in-None.field-0.0 (c.in-None.ensures.none refl).1 c.in_err-check_pair-in-None.ensures.gives)

pub returns-in_ok-check_pair-in-None-clause-gives : goal.returns-in_ok-check_pair-in-None-clause-gives
returns-in_ok-check_pair-in-None-clause-gives c =
    let none = c.in-None.ensures.none refl in
    gone_read c.args.place c.args.item c.args.at c.args.pending.now.items c.take_next.new.pending.items c.args.bytes.now c.in_ok-check_pair-in-None.field-0 none.1 none.0 c.in_ok-check_pair-in-None.ensures.gives

pub returns-in_err-check_pair-in-Some-clause-gives : goal.returns-in_err-check_pair-in-Some-clause-gives
returns-in_err-check_pair-in-Some-clause-gives c =
    let p = err_from_is_err_and c.from_residual-in_err-check_pair-in-Some.result c.from_residual-in_err-check_pair-in-Some.ensures.1 in
    let one = c.in-Some.ensures.some in
    rw (p.1, p.2) (held_fails c.args.place c.args.item c.args.at c.args.pending.now.items c.args.bytes.now one.0 c.take_next.new.pending.items c.in-Some.message c.name_crc.result c.in_err-check_pair-in-Some.field-0.0
    one.1 one.2 one.3 (c.name_crc.ensures ∙ ap jam_crc c.as_slice.ensures.same) c.in_err-check_pair-in-Some.ensures.gives)

pub returns-in_ok-check_pair-in-Some-clause-gives : goal.returns-in_ok-check_pair-in-Some-clause-gives
returns-in_ok-check_pair-in-Some-clause-gives c =
    let one = c.in-Some.ensures.some in
    held_read c.args.place c.args.item c.args.at c.args.pending.now.items c.args.bytes.now one.0 c.take_next.new.pending.items c.in-Some.message c.header_size.result c.name_crc.result c.in_ok-check_pair-in-Some.field-0
    one.1 one.2 one.3 c.in_ok-check_pair-in-Some.ensures.gives (c.name_crc.ensures ∙ ap jam_crc c.as_slice.ensures.same) c.header_size.ensures
