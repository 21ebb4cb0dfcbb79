use Rattle.std.proofs.Common.{◌≡◌, ◌∙◌, length, sym}
use Rattle.std.specs.Iterator.Adapters.{zip_first, zip_second}
use Rattle.std.specs.Slice.Iter.{iter_rest}
use Rattle.std.proofs.lemmas.Slice.Zip.{zip_end}
use Rattle.board_layout.proofs.HighLaws.{highs_done}
use Rattle.board_layout.proofs.highs.highs_fit.Goals as goal

pub returns : goal.returns
returns c =
    let first : iter_rest (zip_first c.into_iter-base-iterator.result) ≡ c.args.bases.now = search in
    let second : iter_rest (zip_second c.into_iter-base-iterator.result) ≡ c.args.highs.now = search in
    let count = zip_end c.args.bases.now c.args.highs.now c.loop-base.yielded c.into_iter-base-iterator.result c.loop-base.base-iterator c.next.new.self c.next.result first second c.loop-base.yielded_by c.in-None.is c.next.ensures.steps in
    sym (highs_done c.args.bases.now c.args.highs.now (length c.loop-base.yielded) count) ∙ c.loop-base.invariant
