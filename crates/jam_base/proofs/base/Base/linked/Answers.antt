use Rattle.std.proofs.Common.{◌≡◌, ◌∙◌, ◌<◌, ◌^◌, ℕ, List, refl, sym, ap, subst, arith}
use Rattle.std.specs.Prelude.{sum_by}
use Rattle.jam_threads.specs.Threading.{AreThreads}
use Rattle.jam_writing.specs.jam_layout.Bare.{filled, filled_slots}
use Rattle.jam_writing.specs.jam_layout.Bodies.{body_size}
use Rattle.jam_writing.specs.jam_layout.Valid.{IsConference}
use Rattle.jam_writing.specs.jam_layout.declared.bare.BareConference.{BareConference}
use Rattle.jam_writing.proofs.PieceLaws.{headers_small, bodies_small}
use Rattle.jam_writing.proofs.shared_slots.KeptLaws.{filled_length, headers_filled}
use Rattle.jam_base.proofs.BaseLaws.{made_of}
use Rattle.jam_base.proofs.EndOutlines.{filled_threads}
use Rattle.jam_base.proofs.base.Base.linked.Goals as goal

pub from_bare-requires-clause-few : goal.from_bare-requires-clause-few
from_bare-requires-clause-few c =
    let parts : BareConference = c.into_parts-bare.result.0 in
    let valid = subst (λ (b : BareConference). IsConference c.args.shape.now (filled b)) (sym c.into_parts-bare.ensures.bare) c.requires.conference in
    let most = valid.few in
    omega (arith, most, filled_length parts.lengths parts.conference.slots)

pub from_bare-requires-clause-headers : goal.from_bare-requires-clause-headers
from_bare-requires-clause-headers c =
    let parts : BareConference = c.into_parts-bare.result.0 in
    let valid = subst (λ (b : BareConference). IsConference c.args.shape.now (filled b)) (sym c.into_parts-bare.ensures.bare) c.requires.conference in
    omega (arith, headers_small c.args.shape.now (filled parts) valid, headers_filled parts.lengths parts.conference.slots)

pub from_bare-requires-clause-bodies : goal.from_bare-requires-clause-bodies
from_bare-requires-clause-bodies c =
    let parts : BareConference = c.into_parts-bare.result.0 in
    let valid = subst (λ (b : BareConference). IsConference c.args.shape.now (filled b)) (sym c.into_parts-bare.ensures.bare) c.requires.conference in
    subst (λ (lengths : List ℕ). sum_by body_size (filled_slots lengths parts.conference.slots) < 2 ^ 31) (sym c.as_slice.ensures) (bodies_small c.args.shape.now (filled parts) valid)

pub invariant_of-result-3 : goal.invariant_of-result-3
invariant_of-result-3 c =
    let parts : BareConference = c.into_parts-bare.result.0 in
    let valid = subst (λ (b : BareConference). IsConference c.args.shape.now (filled b)) (sym c.into_parts-bare.ensures.bare) c.requires.conference in
    let are = subst (λ (b : BareConference). AreThreads b.conference.slots c.into_parts-bare.result.1) (sym c.into_parts-bare.ensures.bare) c.into_parts-bare.ensures.threads in
    let slots : c.in_ok-slots.slots ≡ filled_slots parts.lengths parts.conference.slots = c.in_ok-slots.ensures ∙ ap (λ (lengths : List ℕ). filled_slots lengths parts.conference.slots) c.as_slice.ensures in
    made_of c.args.shape.now c.in_ok-new.field-0 (filled parts) parts.conference.counter _ _ c.in_ok-new-2.field-0 c.into_parts-bare.result.1
    (c.in_ok-new.ensures ∙ c.in_ok-duplicate.ensures) refl (c.slots.view_is ∙ slots) (c.pointers.view_is ∙ c.in_ok-pointers.ensures) c.in_ok-new-2.ensures c.requires.shape valid
    (filled_threads parts.lengths parts.conference.slots c.into_parts-bare.result.1 are)
