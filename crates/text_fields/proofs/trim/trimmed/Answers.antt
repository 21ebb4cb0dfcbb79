use Rattle.std.proofs.Common.{[], arith}
use Rattle.std.proofs.lemmas.List.Elements.{All-nil}
use Rattle.text_fields.specs.Blank.{IsBlank}
use Rattle.text_fields.proofs.Trimming.{cut_more}
use Rattle.text_fields.proofs.trim.trimmed.Goals as goal

pub loop-text-init : goal.loop-text-init
loop-text-init c = record {
  before = [];
  after = c.trimmed_end-text.ensures.pad;
  whole = c.trimmed_end-text.ensures.whole;
  blank_before = All-nil (IsBlank c.args.blank);
  blank_after = c.trimmed_end-text.ensures.blank;
  ends = c.trimmed_end-text.ensures.ends;
}

pub loop-text-preserved : goal.loop-text-preserved
loop-text-preserved c = cut_more (IsBlank c.args.blank) c.args.field.now c.loop-text.text.now c.loop-text.invariant (omega arith) (c.is_blank.ensures.0 c.if-not-is_blank.false)
