use Rattle.std.proofs.Common.{sym, subst, arith}
use Rattle.jam_writing.specs.jam_layout.Valid.{Rise}
use Rattle.jam_writing.specs.jam_layout.declared.shape.Shape.{Shape}
use Rattle.jam_writing.proofs.jam_layout.SlotSizes.{few_readers}
use Rattle.jam_base.proofs.base.Base.jlr_size.Goals as goal

pub overflow_mul-result : goal.overflow_mul-result
overflow_mul-result c =
    let shape : Shape = c.shape.result.now in
    let rise : Rise shape.readers = subst (λ (s : Shape). Rise s.readers) (sym c.shape.ensures.same) c.shape.ensures.is_shape.rise in
    omega (arith, c.len.ensures.count, few_readers shape.readers rise c.len.ensures.fit)

pub returns-clause-bound : goal.returns-clause-bound
returns-clause-bound c =
    let shape : Shape = c.shape.result.now in
    let rise : Rise shape.readers = subst (λ (s : Shape). Rise s.readers) (sym c.shape.ensures.same) c.shape.ensures.is_shape.rise in
    omega (arith, c.len.ensures.count, few_readers shape.readers rise c.len.ensures.fit)
