use Rattle.std.proofs.Common.{◌≡◌, ℕ, List, [], ◌∷◌, ◌++◌, length, length-append, Option, Some, true, false, not, sym, ap, ◌∙◌, subst, arith, append_assoc}
use Rattle.std.proofs.lemmas.List.{append-nil}
use Rattle.std.specs.Option.{is_none}
use Rattle.std.specs.Str.Lines.{lines}
use Rattle.setup_file.specs.Words.{value_behind}
use Rattle.setup_file.specs.Rules.{number_before, conference_key}
use Rattle.setup_file.specs.Fault.{LinesFault}
use Rattle.setup_file.specs.State.{Kept, SetupFaultOrMemory, conference_of_value}
use Rattle.text_fields.proofs.Numbered.{left_numbered}
use Rattle.setup_file.proofs.Lines.{starts_counted}
use Rattle.setup_file.proofs.KeptLines.{kept_skip, kept_more, line_fault, end_fault}
use Rattle.setup_file.proofs.ConferenceLines.{number_behind, no_number_before, rule_of_next, conferences_more, count_is, none_before, some_own}
use Rattle.setup_file.proofs.conference_line.conferences_of.Goals as goal

pub loop-line-init : goal.loop-line-init
loop-line-init c =
    let start = c.args.start in
    let here = c.past_skipped-here.result in
    let s = c.past_skipped-here.ensures in
    record {
      numbered = left_numbered (lines start.text.now) (lines here.text.now) s.skipped start.line here.line c.requires s.ahead;
      starts = s.starts;
      own = [];
      are = c.new-conferences.ensures;
      last = λ kept seven. sym (ap number_before (append-nil kept) ∙ no_number_before kept seven);
      kept = λ all kept seven k. subst (Kept all (lines here.text.now) here.line) (sym (append-nil kept)) (kept_skip all (lines start.text.now) (lines here.text.now) kept start.line here.line k s);
    }

pub returns-in-Err : goal.returns-in-Err
returns-in-Err c = λ all kept seven k.
    let h = c.loop-line.invariant in
    let here = c.loop-line.here in
    let after = c.in-Some.after in
    let line = c.in-Some.line.now in
    let left = lines here.text.now in
    let counts = starts_counted left (lines after.text.now) line h.starts c.in-Some.ensures.whole in
    let count = count_is c.loop-line.conferences h.own h.are in
    subst (SetupFaultOrMemory (LinesFault all)) (sym c.breaks.ensures)
    (line_fault all left (kept ++ h.own) (lines after.text.now) line here.line c.in-Err.rule (h.kept all kept seven k) c.in-Some.ensures.whole counts
    (rule_of_next kept h.own line c.len.result c.loop-line.last seven (c.len.ensures ∙ count) (h.last kept seven) ∙ c.in-Err.ensures))

pub loop-line-preserved : goal.loop-line-preserved
loop-line-preserved c =
    let h = c.loop-line.invariant in
    let start = c.args.start in
    let here = c.loop-line.here in
    let after = c.in-Some.after in
    let next = c.past_skipped-here-in-Some.result in
    let s = c.past_skipped-here-in-Some.ensures in
    let line = c.in-Some.line.now in
    let left = lines here.text.now in
    let ahead = c.in-Some.ensures in
    let value = value_behind conference_key line in
    let counts = starts_counted left (lines after.text.now) line h.starts ahead.whole in
    let count = count_is c.loop-line.conferences h.own h.are in
    let parts = c.in-Ok.ensures in
    let same : c.in_ok-conference.field-0 ≡ conference_of_value value = c.in_ok-conference.ensures value parts.1 in
    record {
      numbered = left_numbered (lines after.text.now) (lines next.text.now) s.skipped after.line next.line (left_numbered left (lines after.text.now) (line ∷ []) here.line after.line h.numbered ahead) s.ahead;
      starts = s.starts;
      own = h.own ++ line ∷ [];
      are = c.in_ok-add.ensures.ok ∙ conferences_more c.loop-line.conferences h.own line c.in_ok-conference.field-0 h.are same;
      last = λ kept seven.
          ap Some parts.1.number
          ∙ sym (ap number_before (sym (append_assoc kept h.own (line ∷ []))) ∙ number_behind (kept ++ h.own) line (omega (arith, seven, length-append kept h.own)));
      kept = λ all kept seven k.
          subst (Kept all (lines next.text.now) next.line) (append_assoc kept h.own (line ∷ []))
          (kept_skip all (lines after.text.now) (lines next.text.now) ((kept ++ h.own) ++ line ∷ []) after.line next.line
          (kept_more all left (lines after.text.now) (kept ++ h.own) line here.line after.line (h.kept all kept seven k) ahead counts
          (rule_of_next kept h.own line c.len.result c.loop-line.last seven (c.len.ensures ∙ count) (h.last kept seven) ∙ parts.0))
          s);
    }

pub returns-then-is_none : goal.returns-then-is_none
returns-then-is_none c = λ all kept seven k.
    let h = c.loop-line.invariant in
    let here = c.loop-line.here in
    let none : is_none c.loop-line.last ≡ true = ap not (c.is_none.ensures ∙ ap not c.if-is_none.true) in
    let few : length h.own ≡ 0 = none_before kept h.own seven (subst (λ (o : Option ℕ). is_none o ≡ true) (h.last kept seven) none) in
    subst (SetupFaultOrMemory (LinesFault all)) (sym c.breaks-then-is_none.ensures)
    (end_fault all (lines here.text.now) (kept ++ h.own) here.line (h.kept all kept seven k) c.in_default.ensures (omega (arith, few, seven, length-append kept h.own)))

pub returns : goal.returns
returns c = λ all kept seven k.
    let h = c.loop-line.invariant in
    let here = c.loop-line.here in
    let some : is_none c.loop-line.last ≡ false = ap not (c.is_none.ensures ∙ ap not c.if-is_none.false) in
    record {
      own = h.own;
      some = some_own kept h.own c.loop-line.last seven (h.last kept seven) some;
      are = h.are;
      number = here.line;
      whole = subst (λ (l : List (List ℕ)). Kept all l here.line (kept ++ h.own)) c.in_default.ensures (h.kept all kept seven k);
    }
