use Rattle.std.proofs.Common.{◌≡◌, ℕ, List, [], ◌∷◌, ◌++◌, arith}
use Rattle.std.proofs.lemmas.Bool.Decides.{nat_tests}
use Rattle.std.proofs.lemmas.List.Elements.{All-push}
use Rattle.std.specs.Str.Lines.{lines}
use Rattle.text_fields.proofs.Numbered.{more_taken, left_numbered}
use Rattle.import_sheet.proofs.Lines.{no_length}
use Rattle.import_sheet.proofs.unread.without_empty_lines.Goals as goal

pub loop-line-preserved : goal.loop-line-preserved
loop-line-preserved c =
    let h = c.loop-line.invariant in
    let empty : c.in-Some.line.now ≡ [] = no_length c.in-Some.line.now (grind (arith, nat_tests)) in
    record {
      blanks = h.blanks ++ c.in-Some.line.now ∷ [];
      empty = All-push (λ (line : List ℕ). line ≡ []) h.blanks c.in-Some.line.now h.empty empty;
      ahead = more_taken (lines c.args.start.text.now) (lines c.loop-line.here.text.now) (lines c.in-Some.after.text.now) h.blanks (c.in-Some.line.now ∷ []) c.args.start.line c.loop-line.here.line c.in-Some.after.line h.ahead c.in-Some.ensures;
      numbered = left_numbered (lines c.loop-line.here.text.now) (lines c.in-Some.after.text.now) (c.in-Some.line.now ∷ []) c.loop-line.here.line c.in-Some.after.line h.numbered c.in-Some.ensures;
    }
