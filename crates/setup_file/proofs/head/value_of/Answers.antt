use Rattle.std.proofs.Common.{sym, subst, ◌∙◌, arith}
use Rattle.std.specs.Str.Lines.{lines}
use Rattle.setup_file.specs.Fault.{LinesFault}
use Rattle.setup_file.specs.State.{SetupFaultOrMemory}
use Rattle.setup_file.proofs.Lines.{starts_counted}
use Rattle.setup_file.proofs.RuleLists.{rule_by_key}
use Rattle.setup_file.proofs.KeptLines.{kept_skip, kept_more, line_fault, end_fault, key_place}
use Rattle.setup_file.proofs.head.value_of.Goals as goal

pub returns-in_default-clause-value : goal.returns-in_default-clause-value
returns-in_default-clause-value c = λ all kept place k.
    let start = c.args.start in
    let here = c.past_skipped-here.result in
    let left = lines here.text.now in
    subst (SetupFaultOrMemory (LinesFault all)) (sym c.breaks.ensures)
    (end_fault all left kept here.line (kept_skip all (lines start.text.now) left kept start.line here.line k c.past_skipped-here.ensures) c.in_default.ensures
    (let few : _ = key_place _ c.args.key place in omega (arith, few)))

pub returns-in-Ok-clause-value : goal.returns-in-Ok-clause-value
returns-in-Ok-clause-value c = λ all kept place k.
    let start = c.args.start in
    let here = c.past_skipped-here.result in
    let after = c.in-Some.after in
    let line = c.in-Some.line.now in
    let left = lines here.text.now in
    let ahead = c.in-Some.ensures in
    let counts = starts_counted left (lines after.text.now) line c.past_skipped-here.ensures.starts ahead.whole in (
      line,
      c.in-Ok.ensures.1,
      kept_more all left (lines after.text.now) kept line here.line after.line (kept_skip all (lines start.text.now) left kept start.line here.line k c.past_skipped-here.ensures) ahead counts
          (rule_by_key kept line c.args.key place ∙ c.in-Ok.ensures.0),
    )

pub returns-in-Err-clause-value : goal.returns-in-Err-clause-value
returns-in-Err-clause-value c = λ all kept place k.
    let start = c.args.start in
    let here = c.past_skipped-here.result in
    let after = c.in-Some.after in
    let line = c.in-Some.line.now in
    let left = lines here.text.now in
    let counts = starts_counted left (lines after.text.now) line c.past_skipped-here.ensures.starts c.in-Some.ensures.whole in
    subst (SetupFaultOrMemory (LinesFault all)) (sym c.breaks-in-Err.ensures)
    (line_fault all left kept (lines after.text.now) line here.line c.in-Err.rule (kept_skip all (lines start.text.now) left kept start.line here.line k c.past_skipped-here.ensures) c.in-Some.ensures.whole counts
    (rule_by_key kept line c.args.key place ∙ c.in-Err.ensures))
