use Rattle.std.proofs.Common.{true≢false, sym, ◌∙◌, subst, arith}
use Rattle.std.specs.Prelude.{All}
use Rattle.std.proofs.lemmas.Bool.{leb-true, le-leb}
use Rattle.board_layout.specs.Valid.{board_limit}
use Rattle.slot_changes.proofs.AppendLaws.{appended_few}
use Rattle.slot_changes.proofs.FitLaws.{fits_then, then_may}
use Rattle.slot_changes.specs.Values.{MayHold}
use Rattle.slot_changes.proofs.fits.fits_in_place.Goals as goal

pub returns-then-not-has_slots : goal.returns-then-not-has_slots
returns-then-not-has_slots c = (
  λ no. absurd (true≢false (sym no)),
  λ next.
      let few = appended_few c.args.board.now c.args.place c.args.messages.now c.base_of.result.now c.base_of.ensures.board c.base_of.ensures.base next in
      sym c.if-not-has_slots.true ∙ c.has_slots.ensures.1 (omega (arith, few, c.len.ensures)),
)

pub returns-then-not-may_hold_all : goal.returns-then-not-may_hold_all
returns-then-not-may_hold_all c = (
  λ no. absurd (true≢false (sym no)),
  λ next.
      let may = then_may c.args.board.now c.args.place c.args.messages.now c.base_of.result.now c.conference_of.result.now c.base_of.ensures.board c.base_of.ensures.base c.conference_of.ensures next in
      sym c.if-not-may_hold_all.true ∙ c.may_hold_all.ensures.1 (subst (All (MayHold c.conference_of.result.now.kind)) (sym c.as_slice.ensures) may),
)

pub returns : goal.returns
returns c = (
  λ small.
      let may = subst (All (MayHold c.conference_of.result.now.kind)) c.as_slice.ensures (c.may_hold_all.ensures.0 c.if-not-may_hold_all.false) in
      let few = c.has_slots.ensures.0 c.if-not-has_slots.false in
      fits_then c.args.board.now c.args.place c.args.messages.now c.base_of.result.now c.conference_of.result.now c.base_of.ensures.board c.base_of.ensures.base c.conference_of.ensures may (omega (arith, few, c.len.ensures))
      (omega (arith, c.size_with_messages.ensures, leb-true c.size_with_messages.result board_limit small)),
  λ next. le-leb c.size_with_messages.result board_limit (omega (arith, c.size_with_messages.ensures, next.small)),
)
