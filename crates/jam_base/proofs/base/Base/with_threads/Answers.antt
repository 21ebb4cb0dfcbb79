use Rattle.std.proofs.Common.{refl, sym, subst}
use Rattle.jam_writing.specs.jam_layout.Valid.{IsConference}
use Rattle.jam_base.specs.Contents.{Contents, with_slots}
use Rattle.jam_base.proofs.BaseLaws.{made_of}
use Rattle.jam_base.proofs.base.Base.with_threads.Goals as goal

pub invariant_of-result-2 : goal.invariant_of-result-2
invariant_of-result-2 c =
    let old : Contents = record { shape = c.self.inside.shape; conference = record { counter = c.self.inside.counter; slots = c.self.inside.slots; pointers = c.self.inside.pointers } } in
    let conference : IsConference old.shape (with_slots c.args.slots old).conference = subst (λ (k : Contents). IsConference k.shape (with_slots c.args.slots k).conference) (sym c.self.view_is) c.requires.conference in
    made_of old.shape c.in_ok-share.field-0 (with_slots c.args.slots old).conference c.saturating_add.result _ c.in_ok-copy.field-0 c.args.threads c.args.threads
    c.in_ok-share.ensures c.saturating_add.ensures c.slots.view_is c.in_ok-copy.ensures refl c.self.invariant.0 conference c.requires.threads
