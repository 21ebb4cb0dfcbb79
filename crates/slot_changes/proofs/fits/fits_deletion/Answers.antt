use Rattle.std.proofs.Common.{◌≡◌, true, length, sym, ap, ◌∙◌, subst, arith}
use Rattle.std.specs.Prelude.{IsSomeAnd, Option}
use Rattle.std.proofs.lemmas.Bool.{lt-ltb, ltb-true}
use Rattle.std.proofs.lemmas.List.{length-map}
use Rattle.board_layout.specs.jam_base.Contents.{Contents}
use Rattle.board_layout.specs.jam_base.Slots.{has_live}
use Rattle.slot_changes.proofs.DeleteLaws.{deleted_board, place_there}
use Rattle.slot_changes.proofs.fits.fits_deletion.Goals as goal

pub returns-then-from-bases : goal.returns-then-from-bases
returns-then-from-bases c = (
  λ yes.
      let live = sym c.has_message.ensures ∙ yes in (
        subst (λ (o : Option Contents). IsSomeAnd o (λ (base : Contents). has_live c.args.number base.conference.slots ≡ true)) (sym c.base_of.ensures.base) live,
        deleted_board c.args.board.now c.args.place c.args.number c.base_of.result.now c.base_of.ensures.board c.base_of.ensures.base live,
      ),
  λ both. c.has_message.ensures ∙ subst (λ (o : Option Contents). IsSomeAnd o (λ (base : Contents). has_live c.args.number base.conference.slots ≡ true)) c.base_of.ensures.base both.0,
)

pub returns-else-from-bases : goal.returns-else-from-bases
returns-else-from-bases c = (
  λ yes. absurd (omega (arith, ltb-true c.from.result (length c.bases.result.now) yes, c.if-from-bases.false)),
  λ both.
      let within = place_there c.args.board.now c.args.place c.args.number both.0 in
      lt-ltb c.from.result (length c.bases.result.now) (omega (arith, within, c.from.ensures, ap length c.bases.ensures.conferences, length-map c.bases.result.now (λ (base : Contents). base.conference))),
)
