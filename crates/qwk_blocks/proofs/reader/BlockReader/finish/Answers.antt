use Rattle.std.proofs.Common.{sym, subst}
use Rattle.qwk_blocks.specs.Reader.{ReaderState, HoldsStream}
use Rattle.qwk_blocks.proofs.Stream.{exact_count, exact_fault}
use Rattle.qwk_blocks.proofs.reader.BlockReader.finish.Goals as goal

pub returns-clause-count : goal.returns-clause-count
returns-clause-count c = λ s h n.
    let v = subst (λ (r : ReaderState). HoldsStream r s) (sym c.self.view_is) h in
    exact_count s c.finish.result n (c.finish.ensures _ s v.short (sym v.taken) v.progress)

pub returns-clause-fault : goal.returns-clause-fault
returns-clause-fault c = λ s h f.
    let v = subst (λ (r : ReaderState). HoldsStream r s) (sym c.self.view_is) h in
    exact_fault s c.finish.result f (c.finish.ensures _ s v.short (sym v.taken) v.progress)
