use Rattle.std.proofs.Common.{◌≡◌, List, length, map, sym, ap, ◌∙◌, subst, arith}
use Rattle.std.specs.Prelude.{sum_by}
use Rattle.jam_writing.specs.jam_layout.Bodies.{body_size}
use Rattle.jam_writing.specs.jam_layout.Layout.{layout}
use Rattle.jam_writing.specs.jam_layout.Outlines.{slot_outline}
use Rattle.jam_writing.specs.jam_layout.Sizes.{slot_header}
use Rattle.jam_writing.specs.jam_layout.Valid.{IsConference}
use Rattle.jam_records.specs.declared.message.Slot.{Slot}
use Rattle.jam_threads.specs.Threading.{AreThreads}
use Rattle.jam_base.proofs.EndOutlines.{outlined_threads}
use Rattle.jam_base.proofs.ReplacedBases.{new_bodies, new_headers, new_suits, new_turns, new_valid, outline_valid}
use Rattle.jam_base.specs.Change.{SuitsIntent, message_files}
use Rattle.jam_base.specs.Contents.{Contents, with_slots}
use Rattle.jam_base.specs.Outlined.{outlined}
use Rattle.jam_base.proofs.base.Base.replaced.Goals as goal

-- ---- what is kept of the slots
pub kept_of-requires-clause-few : goal.kept_of-requires-clause-few
kept_of-requires-clause-few c = let few = c.shape-shape.ensures.is_conference.few in omega (arith, few, c.requires.count, ap length c.as_slice.ensures)

pub kept_of-requires-clause-headers : goal.kept_of-requires-clause-headers
kept_of-requires-clause-headers c =
    let valid = new_valid c.args.slots.now c.args.self.now c.shape-shape.ensures.is_conference c.requires.count c.requires.slots in
    omega (arith, ap (sum_by slot_header) c.as_slice.ensures, new_headers c.args.slots.now c.args.self.now valid)

pub kept_of-requires-clause-bodies : goal.kept_of-requires-clause-bodies
kept_of-requires-clause-bodies c =
    let valid = new_valid c.args.slots.now c.args.self.now c.shape-shape.ensures.is_conference c.requires.count c.requires.slots in
    omega (arith, ap (sum_by body_size) c.as_slice.ensures, new_bodies c.args.slots.now c.args.self.now valid)

pub of-requires : goal.of-requires
of-requires c = let few = c.shape-shape.ensures.is_conference.few in omega (arith, few, c.requires.count)

-- ---- the base
pub with_threads-requires-clause-conference : goal.with_threads-requires-clause-conference
with_threads-requires-clause-conference c =
    let base : Contents = c.args.self.now in
    let valid = new_valid c.args.slots.now base c.shape-shape.ensures.is_conference c.requires.count c.requires.slots in
    subst (λ (xs : List Slot). IsConference base.shape (with_slots xs base).conference) (sym (c.in_ok-kept.ensures ∙ ap (map slot_outline) c.as_slice.ensures)) (outline_valid c.args.slots.now base valid)

pub with_threads-requires-clause-threads : goal.with_threads-requires-clause-threads
with_threads-requires-clause-threads c =
    outlined_threads c.args.slots.now c.in_ok-kept.kept (c.in_ok-kept.ensures ∙ ap (map slot_outline) c.as_slice.ensures) c.in_ok-threads.threads
    (subst (AreThreads c.args.slots.now) (sym c.in_ok-threads.ensures) c.in_ok-of.ensures)

pub whole-requires : goal.whole-requires
whole-requires c = ap (map slot_outline) c.as_slice-2.ensures ∙ (sym (ap (map slot_outline) c.as_slice.ensures) ∙ (sym c.in_ok-kept.ensures ∙ sym (ap (λ (k : Contents). k.conference.slots) c.in_ok-base.ensures)))

-- ---- what it gives
pub returns-clause-base : goal.returns-clause-base
returns-clause-base c =
    c.in_ok-base.ensures ∙ ap (λ (xs : List Slot). with_slots xs c.args.self.now) (c.in_ok-kept.ensures ∙ ap (map slot_outline) c.as_slice.ensures)

pub returns-clause-each : goal.returns-clause-each
returns-clause-each c =
    let base : Contents = c.args.self.now in
    let written : c.in_ok-patches.patches ≡ message_files base.shape.place (layout base.shape (with_slots c.args.slots.now base).conference) =
    c.in_ok-patches.ensures
    ∙ ((λ i. message_files (c.in_ok-base.ensures i).shape.place (layout (c.in_ok-base.ensures i).shape (record (c.in_ok-base.ensures i).conference { slots = c.as_slice-2.result.now })))
    ∙ ap (λ (xs : List Slot). message_files base.shape.place (layout base.shape (with_slots xs base).conference)) c.as_slice-2.ensures) in
    new_turns c.args.slots.now base c.in_ok-patches.patches written

pub returns-clause-intent : goal.returns-clause-intent
returns-clause-intent c =
    let base : Contents = c.args.self.now in
    let made : c.in_ok-base.base ≡ outlined (with_slots c.args.slots.now base) = c.in_ok-base.ensures ∙ ap (λ (xs : List Slot). with_slots xs base) (c.in_ok-kept.ensures ∙ ap (map slot_outline) c.as_slice.ensures) in
    let written : c.in_ok-patches.patches ≡ message_files base.shape.place (layout base.shape (with_slots c.args.slots.now base).conference) =
    c.in_ok-patches.ensures
    ∙ ((λ i. message_files (c.in_ok-base.ensures i).shape.place (layout (c.in_ok-base.ensures i).shape (record (c.in_ok-base.ensures i).conference { slots = c.as_slice-2.result.now })))
    ∙ ap (λ (xs : List Slot). message_files base.shape.place (layout base.shape (with_slots xs base).conference)) c.as_slice-2.ensures) in
    subst (λ (k : Contents). SuitsIntent base.shape.place (layout k.shape k.conference) c.in_ok-patches.patches) (sym made) (new_suits c.args.slots.now base c.in_ok-patches.patches written)
