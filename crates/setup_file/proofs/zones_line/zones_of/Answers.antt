use Rattle.std.proofs.Common.{ℕ, sym, subst, ◌∙◌, arith}
use Rattle.std.proofs.lemmas.Result.{err_from_is_err_and}
use Rattle.std.specs.Str.Lines.{lines}
use Rattle.setup_file.specs.Rules.{zones_rules}
use Rattle.setup_file.specs.Fault.{LinesFault}
use Rattle.setup_file.specs.State.{SetupFaultOrMemory, BreaksAt}
use Rattle.setup_file.proofs.Lines.{starts_counted}
use Rattle.setup_file.proofs.RuleLists.{rule_by_zones}
use Rattle.setup_file.proofs.KeptLines.{kept_skip, kept_more, line_fault, end_fault, weaker_fault}
use Rattle.setup_file.proofs.zones_line.zones_of.Goals as goal

pub returns-in_default-clause-zones : goal.returns-in_default-clause-zones
returns-in_default-clause-zones c = λ all kept place k.
    let start = c.args.start in
    let here = c.past_skipped-here.result in
    let left = lines here.text.now in
    subst (SetupFaultOrMemory (LinesFault all)) (sym c.breaks.ensures)
    (end_fault all left kept here.line (kept_skip all (lines start.text.now) left kept start.line here.line k c.past_skipped-here.ensures) c.in_default.ensures (omega (arith, place)))

pub returns-in_err-zones-clause-zones : goal.returns-in_err-zones-clause-zones
returns-in_err-zones-clause-zones c = λ all kept place k.
    let p = err_from_is_err_and c.from_residual.result c.from_residual.ensures.1 in
    let start = c.args.start in
    let here = c.past_skipped-here.result in
    let after = c.in-Some.after in
    let line = c.in-Some.line.now in
    let left = lines here.text.now in
    let counts = starts_counted left (lines after.text.now) line c.past_skipped-here.ensures.starts c.in-Some.ensures.whole in
    let here_kept = kept_skip all (lines start.text.now) left kept start.line here.line k c.past_skipped-here.ensures in
    rw (p.1, p.2)
    (weaker_fault (BreaksAt here.line (zones_rules line)) (LinesFault all)
    (λ n r b. subst (λ (m : ℕ). LinesFault all m r) (sym b.0)
    (line_fault all left kept (lines after.text.now) line here.line r here_kept c.in-Some.ensures.whole counts (rule_by_zones kept line place ∙ b.1)))
    c.in_err-zones.field-0.0 c.in_err-zones.ensures)

pub returns-clause-zones : goal.returns-clause-zones
returns-clause-zones c = λ all kept place k.
    let start = c.args.start in
    let here = c.past_skipped-here.result in
    let after = c.in-Some.after in
    let line = c.in-Some.line.now in
    let left = lines here.text.now in
    let ahead = c.in-Some.ensures in
    let counts = starts_counted left (lines after.text.now) line c.past_skipped-here.ensures.starts ahead.whole in (
      line,
      c.in_ok-zones.ensures.1,
      kept_more all left (lines after.text.now) kept line here.line after.line (kept_skip all (lines start.text.now) left kept start.line here.line k c.past_skipped-here.ensures) ahead counts
          (rule_by_zones kept line place ∙ c.in_ok-zones.ensures.0),
    )
