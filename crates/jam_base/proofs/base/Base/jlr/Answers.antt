use Rattle.std.proofs.Common.{◌≡◌, ◌∙◌, ℕ, List, ap}
use Rattle.jam_writing.specs.jam_layout.Layout.{layout}
use Rattle.jam_writing.specs.jam_layout.Readers.{last_reads}
use Rattle.jam_writing.specs.jam_layout.declared.shape.Shape.{Shape}
use Rattle.jam_base.specs.Contents.{Contents}
use Rattle.jam_base.proofs.ChangeClauses.{one_ok}
use Rattle.jam_base.proofs.base.Base.jlr.Goals as goal

pub returns : goal.returns
returns c =
    let base : Contents = c.args.self.now in
    let shape : Shape = c.shape.result.now in
    let readers : shape.readers ≡ base.shape.readers = ap (λ (s : Shape). s.readers) c.shape.ensures.same in
    let pointers : c.as_slice.result.now ≡ base.conference.pointers = c.as_slice.ensures ∙ (c.in_ok-pointers.ensures ∙ c.pointers.ensures) in
    one_ok (λ (jlr : List ℕ). jlr ≡ last_reads shape.readers c.as_slice.result.now) (λ (jlr : List ℕ). jlr ≡ (layout base.shape base.conference).jlr) c.write_jlr.result
    (λ jlr is. is ∙ (λ i. last_reads (readers i) (pointers i))) c.write_jlr.ensures
