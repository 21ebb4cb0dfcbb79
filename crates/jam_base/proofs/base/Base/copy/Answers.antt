use Rattle.std.proofs.Common.{refl}
use Rattle.jam_base.specs.Contents.{Contents}
use Rattle.jam_base.proofs.BaseLaws.{made_of}
use Rattle.jam_base.proofs.base.Base.copy.Goals as goal

pub invariant_of-result : goal.invariant_of-result
invariant_of-result c =
    let old : Contents = record { shape = c.self.inside.shape; conference = record { counter = c.self.inside.counter; slots = c.self.inside.slots; pointers = c.self.inside.pointers } } in
    made_of old.shape c.in_ok-share.field-0 old.conference c.self.inside.counter c.in_ok-copy.field-0 c.in_ok-copy-2.field-0 c.in_ok-share-2.field-0 c.self.inside.threads
    c.in_ok-share.ensures refl c.in_ok-copy.ensures c.in_ok-copy-2.ensures c.in_ok-share-2.ensures c.self.invariant.0 c.self.invariant.1 c.self.invariant.2
