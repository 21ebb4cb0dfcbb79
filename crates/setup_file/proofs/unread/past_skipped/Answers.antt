use Rattle.std.proofs.Common.{◌≡◌, ◌++◌, ◌∷◌, [], true}
use Rattle.std.specs.Str.Lines.{lines}
use Rattle.text_fields.specs.Lines.{is_skipped}
use Rattle.text_fields.proofs.Numbered.{more_taken, left_numbered}
use Rattle.setup_file.proofs.Lines.{skip_one}
use Rattle.setup_file.proofs.unread.past_skipped.Goals as goal

pub loop-line-preserved : goal.loop-line-preserved
loop-line-preserved c =
    let h = c.loop-line.invariant in
    let a = c.in-Some.ensures in
    let here = c.loop-line.here in
    let after = c.in-Some.after in
    let line = c.in-Some.line.now in
    let skipped : is_skipped line ≡ true = cc (c.is_skipped.ensures, c.if-not-is_skipped.false) in
    record {
      skipped = h.skipped ++ line ∷ [];
      each = skip_one h.skipped line h.each skipped;
      ahead = more_taken (lines c.args.start.text.now) (lines here.text.now) (lines after.text.now) h.skipped (line ∷ []) c.args.start.line here.line after.line h.ahead a;
      numbered = left_numbered (lines here.text.now) (lines after.text.now) (line ∷ []) here.line after.line h.numbered a;
    }
