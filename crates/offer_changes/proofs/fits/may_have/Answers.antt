use Rattle.std.proofs.Common.{length, ap, arith}
use Rattle.std.proofs.lemmas.List.{length-map}
use Rattle.board_layout.proofs.BoardLookups.{conferences_count}
use Rattle.board_layout.specs.jam_base.Contents.{Contents}
use Rattle.offer_changes.proofs.fits.may_have.Goals as goal

pub are_of_member-requires : goal.are_of_member-requires
are_of_member-requires c =
    let ok = c.bases-bases.ensures.board in
    omega (
      arith,
      c.if-highs-bases.false,
      ap length c.bases-bases.ensures.conferences,
      length-map c.bases-bases.result.now (λ (base : Contents). base.conference),
      conferences_count c.args.board.now ok,
      ok.ledger.setup.conferences.many,
    )
