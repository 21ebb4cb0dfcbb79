use Rattle.std.proofs.Common.{◌≡◌, ◌∙◌, ℕ, true, Ok, Result, refl, sym, ap}
use Rattle.jam_base.specs.Contents.{Contents}
use Rattle.jam_base.specs.Slots.{has_live, slots_deleted}
use Rattle.jam_base.specs.declared.change.BaseChange.{BaseChange}
use Rattle.jam_base.proofs.SlotChanges.{live_above, live_within}
use Rattle.jam_base.proofs.MarkClauses.{killed_turns, killed_lengthens, killed_suits, killed_costs}
use Rattle.jam_base.proofs.OutlineChanges.{killed_each}
use Rattle.jam_base.proofs.base.Base.killed.Goals as goal

pub deletion-requires-clause-above : goal.deletion-requires-clause-above
deletion-requires-clause-above c =
    let base : Contents = c.args.self.now in
    let live : has_live c.args.number base.conference.slots ≡ true = sym (c.has_live.ensures ∙ ap (has_live c.args.number) c.slots.ensures.same) ∙ c.if-not-has_live.false in
    live_above c.args.number base.conference.slots live

pub deletion-requires-clause-within : goal.deletion-requires-clause-within
deletion-requires-clause-within c =
    let base : Contents = c.args.self.now in
    let live : has_live c.args.number base.conference.slots ≡ true = sym (c.has_live.ensures ∙ ap (has_live c.args.number) c.slots.ensures.same) ∙ c.if-not-has_live.false in
    live_within c.args.number base.conference.slots live

pub with_deletion-requires : goal.with_deletion-requires
with_deletion-requires c = sym (c.has_live.ensures ∙ ap (has_live c.args.number) c.slots.ensures.same) ∙ c.if-not-has_live.false

pub returns-clause-files : goal.returns-clause-files
returns-clause-files c =
    let base : Contents = c.args.self.now in
    let live : has_live c.args.number base.conference.slots ≡ true = sym (c.has_live.ensures ∙ ap (has_live c.args.number) c.slots.ensures.same) ∙ c.if-not-has_live.false in
    let change : Result BaseChange ℕ = Ok c.in_ok-of_marks.field-0 in
    killed_turns base c.args.number (slots_deleted c.args.number base.conference.slots) c.in_ok-marks.marks c.in_ok-base.base change live refl c.in_ok-marks.ensures c.in_ok-base.ensures c.in_ok-of_marks.ensures.base c.in_ok-of_marks.ensures.patches

pub returns-clause-intent : goal.returns-clause-intent
returns-clause-intent c =
    let base : Contents = c.args.self.now in
    let live : has_live c.args.number base.conference.slots ≡ true = sym (c.has_live.ensures ∙ ap (has_live c.args.number) c.slots.ensures.same) ∙ c.if-not-has_live.false in
    let change : Result BaseChange ℕ = Ok c.in_ok-of_marks.field-0 in
    killed_suits base c.args.number (slots_deleted c.args.number base.conference.slots) c.in_ok-marks.marks c.in_ok-base.base change live refl c.in_ok-marks.ensures c.in_ok-base.ensures c.in_ok-of_marks.ensures.base c.in_ok-of_marks.ensures.patches

pub returns-clause-costs : goal.returns-clause-costs
returns-clause-costs c =
    let base : Contents = c.args.self.now in
    let live : has_live c.args.number base.conference.slots ≡ true = sym (c.has_live.ensures ∙ ap (has_live c.args.number) c.slots.ensures.same) ∙ c.if-not-has_live.false in
    let change : Result BaseChange ℕ = Ok c.in_ok-of_marks.field-0 in
    killed_costs base c.args.number (slots_deleted c.args.number base.conference.slots) c.in_ok-marks.marks c.in_ok-base.base change live refl c.in_ok-marks.ensures c.in_ok-base.ensures c.in_ok-of_marks.ensures.base c.in_ok-of_marks.ensures.patches

pub returns-clause-bodies : goal.returns-clause-bodies
returns-clause-bodies c =
    let base : Contents = c.args.self.now in
    let live : has_live c.args.number base.conference.slots ≡ true = sym (c.has_live.ensures ∙ ap (has_live c.args.number) c.slots.ensures.same) ∙ c.if-not-has_live.false in
    let change : Result BaseChange ℕ = Ok c.in_ok-of_marks.field-0 in
    killed_lengthens base c.args.number (slots_deleted c.args.number base.conference.slots) c.in_ok-marks.marks c.in_ok-base.base change live refl c.in_ok-marks.ensures c.in_ok-base.ensures c.in_ok-of_marks.ensures.base c.in_ok-of_marks.ensures.patches

pub returns-clause-each : goal.returns-clause-each
returns-clause-each c =
    let base : Contents = c.args.self.now in
    let live : has_live c.args.number base.conference.slots ≡ true = sym (c.has_live.ensures ∙ ap (has_live c.args.number) c.slots.ensures.same) ∙ c.if-not-has_live.false in
    let change : Result BaseChange ℕ = Ok c.in_ok-of_marks.field-0 in
    killed_each base c.in_ok-base.base change c.in_ok-of_marks.ensures.base (returns-clause-files c) (returns-clause-bodies c) c.args.number live c.in_ok-base.ensures
