use Rattle.std.proofs.Common.{◌+◌, ap, ◌∙◌, arith}
use Rattle.std.specs.Prelude.{slice_range, slice_index}
use Rattle.jam_adopt.proofs.Feeds.{counts_rise, text_found}
use Rattle.jam_adopt.proofs.texts.Texts.text.Goals as goal

pub part-requires-clause-rising : goal.part-requires-clause-rising
part-requires-clause-rising c =
    let rise = counts_rise c.args.jdt.now c.args.self.now c.args.offset (c.args.offset + c.args.len) c.requires (omega arith) c.if-jdt-to.false in
    omega (arith, rise.0, c.kept_before-start.ensures, c.kept_before-end.ensures)

pub part-requires-clause-within : goal.part-requires-clause-within
part-requires-clause-within c =
    let rise = counts_rise c.args.jdt.now c.args.self.now c.args.offset (c.args.offset + c.args.len) c.requires (omega arith) c.if-jdt-to.false in
    omega (arith, rise.1, c.kept_before-end.ensures)

pub returns : goal.returns
returns c =
    let texts = c.args.self.now in (
      c.if-jdt-to.false,
      c.part.ensures
          ∙ (ap (λ n. slice_range texts.kept.items n c.kept_before-end.result) c.kept_before-start.ensures
          ∙ (ap (λ n. slice_range texts.kept.items (slice_index texts.counts.items c.args.offset) n) c.kept_before-end.ensures
          ∙ text_found c.args.jdt.now texts c.args.offset (c.args.offset + c.args.len) c.requires (omega arith) c.if-jdt-to.false)),
    )
