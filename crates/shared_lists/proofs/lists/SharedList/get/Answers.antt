use Rattle.std.proofs.Common.{◌≡◌, ◌∙◌, sym, ap, ◌*◌, ◌-◌, ◌%◌, arith, slice_get, length}
use Rattle.shared_lists.proofs.ChunkLaws.{get_chunk, get_last}
use Rattle.shared_lists.proofs.lists.SharedList.get.Goals as goal

pub returns-then-chunk-len : goal.returns-then-chunk-len
returns-then-chunk-len g c =
    let found = get_chunk c.self.inside.chunks.items c.self.inside.last.items c.args.place c.self.invariant.full c.index.result.now (omega (arith, c.if-chunk-len.true, c.len.ensures)) in
    c.get-then-chunk-len.ensures ∙ (ap (λ xs. slice_get xs (c.args.place % 128)) (c.get.ensures ∙ c.index.ensures) ∙ (sym found ∙ ap (λ xs. slice_get xs c.args.place) c.self.view_is))

pub returns-else-chunk-len : goal.returns-else-chunk-len
returns-else-chunk-len g c =
    let count : c.len-else-chunk-len.result ≡ length c.self.inside.chunks.items = omega (arith, c.len-else-chunk-len.ensures, c.self.inside.chunks.ok) in
    let found = get_last c.self.inside.chunks.items c.self.inside.last.items c.args.place c.self.invariant.full (omega (arith, c.if-chunk-len.false, c.len.ensures)) in
    c.item_of.ensures ∙ ((λ i. slice_get (c.as_slice.ensures.value i) (c.args.place - 128 * count i)) ∙ (sym found ∙ ap (λ xs. slice_get xs c.args.place) c.self.view_is))
