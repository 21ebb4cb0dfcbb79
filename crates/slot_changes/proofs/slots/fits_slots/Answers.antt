use Rattle.std.proofs.Common.{length, ap, arith}
use Rattle.std.proofs.lemmas.Bool.{lt-ltb, ltb-true}
use Rattle.std.proofs.lemmas.List.{length-map}
use Rattle.board_layout.specs.jam_base.Contents.{Contents}
use Rattle.slot_changes.proofs.ReplaceLaws.{slots_place}
use Rattle.slot_changes.proofs.slots.fits_slots.Goals as goal

pub returns-else-from-bases : goal.returns-else-from-bases
returns-else-from-bases c = (
  λ yes. absurd (omega (arith, ltb-true c.from.result (length c.bases.result.now) yes, c.if-from-bases.false)),
  λ both.
      let within = slots_place c.args.board.now c.args.place (length c.args.slots.now) both.0 in
      lt-ltb c.from.result (length c.bases.result.now) (omega (arith, within, c.from.ensures, ap length c.bases.ensures.conferences, length-map c.bases.result.now (λ (base : Contents). base.conference))),
)
