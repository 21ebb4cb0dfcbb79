use Rattle.std.proofs.Common.{refl, sym, subst}
use Rattle.jam_writing.specs.jam_layout.Valid.{IsConference}
use Rattle.jam_base.specs.Contents.{Contents}
use Rattle.jam_base.proofs.BaseLaws.{made_of}
use Rattle.jam_base.proofs.base.Base.with_readers.Goals as goal

pub invariant_of-result-2 : goal.invariant_of-result-2
invariant_of-result-2 c =
    let old : Contents = record { shape = c.self.inside.shape; conference = record { counter = c.self.inside.counter; slots = c.self.inside.slots; pointers = c.self.inside.pointers } } in
    let conference : IsConference c.args.shape (record old.conference { pointers = c.args.pointers }) = subst (λ (k : Contents). IsConference c.args.shape (record k.conference { pointers = c.args.pointers })) (sym c.self.view_is) c.requires.conference in
    made_of c.args.shape c.args.shape (record old.conference { pointers = c.args.pointers }) c.self.inside.counter c.in_ok-copy.field-0 _ c.in_ok-share.field-0 c.self.inside.threads
    refl refl c.in_ok-copy.ensures c.pointers.view_is c.in_ok-share.ensures c.requires.shape conference c.self.invariant.2
