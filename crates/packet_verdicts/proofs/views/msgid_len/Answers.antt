use Rattle.std.proofs.Common.{◌≡◌, length, arith, sym, ap, ◌∙◌}
use Rattle.std.specs.Option.{option_map_or}
use Rattle.board_layout.proofs.BoardLookups.{conferences_count}
use Rattle.post_changes.specs.slot_changes.Msgids.{generated, msgid_in}
use Rattle.packet_verdicts.proofs.Validity.{short_id}
use Rattle.packet_verdicts.proofs.views.msgid_len.Goals as goal

pub conference_of-requires : goal.conference_of-requires
conference_of-requires c = omega (arith, conferences_count c.args.board.now c.requires.board, c.requires.place)

pub overflow_cast-result : goal.overflow_cast-result
overflow_cast-result c =
    let len : length (msgid_in c.args.place c.args.board.now c.args.number) ≡ length (generated c.conference_of.result.now.number c.as_slice-bbsid.result.now c.args.number) =
    λ i. length (generated (option_map_or (λ x. x.number) (c.conference_of.ensures i) 0) (sym (c.as_slice-bbsid.ensures.same ∙ c.bbsid.ensures ∙ ap (λ l. l.setup.bbsid) c.ledger.ensures.ledger) i) c.args.number) in
    omega (arith, c.generated_len.ensures, len, ap (λ n. length (generated c.conference_of.result.now.number c.as_slice-bbsid.result.now n)) c.from.ensures, short_id c.args.board.now c.args.place c.args.number c.requires.board c.requires.place c.requires.number)
