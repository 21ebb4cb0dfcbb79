use Rattle.std.proofs.Common.{◌≡◌, ◌∙◌, ℕ, length, sym, ap, subst, arith}
use Rattle.std.proofs.Math.ListN.{set}
use Rattle.jam_writing.specs.jam_layout.Valid.{IsShape, IsConference}
use Rattle.jam_base.specs.Contents.{Contents}
use Rattle.jam_base.proofs.ChangeClauses.{one_ok}
use Rattle.jam_base.proofs.ReadingLaws.{moved_is, pointer_at}
use Rattle.jam_base.proofs.base.Base.with_pointer.Goals as goal

pub moved-requires : goal.moved-requires
moved-requires c = omega (arith, ap (λ (k : Contents). length k.conference.pointers) c.self.view_is, c.requires.there)

pub with_readers-requires-clause-shape : goal.with_readers-requires-clause-shape
with_readers-requires-clause-shape c = subst IsShape (sym c.in_ok-share.ensures) c.self.invariant.0

pub with_readers-requires-clause-conference : goal.with_readers-requires-clause-conference
with_readers-requires-clause-conference c =
    let base : Contents = c.args.self.now in
    let place : ℕ = c.args.place in
    moved_is base c.in_ok-share.field-0 c.in_ok-pointers.pointers place c.args.number
    (c.in_ok-share.ensures ∙ ap (λ (k : Contents). k.shape) c.self.view_is) (c.in_ok-pointers.ensures ∙ ap (λ (k : Contents). set k.conference.pointers place c.args.number) c.self.view_is)
    c.requires.within (subst (λ (k : Contents). IsConference k.shape k.conference) c.self.view_is c.self.invariant.1)

pub returns : goal.returns
returns c =
    let base : Contents = c.args.self.now in
    let place : ℕ = c.args.place in
    let shape_is = c.in_ok-share.ensures ∙ ap (λ (k : Contents). k.shape) c.self.view_is in
    let pointers_are = c.in_ok-pointers.ensures ∙ ap (λ (k : Contents). set k.conference.pointers place c.args.number) c.self.view_is in
    one_ok (λ (made : Contents). made ≡ record { shape = c.in_ok-share.field-0; conference = record base.conference { pointers = c.in_ok-pointers.pointers } }) (λ (made : Contents). made ≡ pointer_at place c.args.number base) c.with_readers.result
    (λ made is. is ∙ (λ i. record { shape = shape_is i; conference = record base.conference { pointers = pointers_are i } })) c.with_readers.ensures
