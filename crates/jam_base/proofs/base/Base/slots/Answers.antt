use Rattle.std.proofs.Common.{◌≡◌, subst}
use Rattle.jam_writing.specs.jam_layout.Valid.{IsConference}
use Rattle.jam_base.specs.Contents.{Contents}
use Rattle.jam_base.specs.Outlined.{outlined}
use Rattle.jam_base.proofs.OutlineChanges.{own_outline}
use Rattle.jam_base.proofs.base.Base.slots.Goals as goal

pub returns-clause-is_conference : goal.returns-clause-is_conference
returns-clause-is_conference c = subst (λ (k : Contents). IsConference k.shape k.conference) c.self.view_is c.self.invariant.1

pub returns-clause-outline : goal.returns-clause-outline
returns-clause-outline c = subst (λ (k : Contents). outlined k ≡ k) c.self.view_is (own_outline (record { shape = c.self.inside.shape; conference = record { counter = c.self.inside.counter; slots = c.self.inside.slots; pointers = c.self.inside.pointers } }) c.len-count.ensures.outline)
