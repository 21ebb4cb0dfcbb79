use Rattle.std.proofs.Common.{◌≡◌, ◌∙◌, ◌≤◌, length, take, ap, subst, arith}
use Rattle.std.specs.Prelude.{sum_by}
use Rattle.std.proofs.lemmas.List.{take_all}
use Rattle.jam_records.specs.declared.message.Slot.{Slot}
use Rattle.jam_writing.specs.jam_layout.Sizes.{slot_header}
use Rattle.jam_writing.specs.jam_layout.Valid.{IsConference}
use Rattle.jam_writing.specs.jam_layout.Bodies.{body_size}
use Rattle.jam_base.specs.Contents.{Contents}
use Rattle.jam_base.proofs.BaseLaws.{size_apart}
use Rattle.jam_base.proofs.base.Base.size.Goals as goal

pub returns : goal.returns
returns c =
    let base : Contents = c.args.self.now in
    let ok : IsConference base.shape base.conference = subst (λ (k : Contents). IsConference k.shape k.conference) c.self.view_is c.self.invariant.1 in
    let slots : c.self.inside.slots ≡ base.conference.slots = ap (λ (k : Contents). k.conference.slots) c.self.view_is in
    let most : length c.self.inside.slots ≤ c.len-count.result = omega (arith, c.len-count.ensures.count) in
    let all : take c.len-count.result c.self.inside.slots ≡ base.conference.slots = take_all c.len-count.result c.self.inside.slots most ∙ slots in
    omega (arith, size_apart base.shape base.conference ok, c.header_place.ensures.place, ap (sum_by slot_header) all, c.body_place.ensures.place, ap (sum_by body_size) all, c.len-count.ensures.count, ap (length {A = Slot}) slots, c.jlr_size.ensures.size)
