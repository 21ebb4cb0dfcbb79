use Rattle.std.proofs.Common.{ℕ, List, ◌∷◌, ◌++◌, refl, ap, ◌∙◌}
use Rattle.std.proofs.lemmas.Result.{err_from_is_err_and}
use Rattle.fts_packet.specs.Fault.{text_rule, subject_rule, from_rule}
use Rattle.fts_packet.proofs.Nuls.{stage_broken, stage_passed}
use Rattle.fts_packet.proofs.parts.fields_of.Goals as goal

pub returns-in_err-to : goal.returns-in_err-to
returns-in_err-to c =
    let p = err_from_is_err_and c.from_residual.result c.from_residual.ensures.1 in
    rw (p.1, p.2) (stage_broken 36 from_rule c.args.bytes.now c.in_err-to.field-0.0 c.in_err-to.ensures)

pub returns-in_err-from : goal.returns-in_err-from
returns-in_err-from c =
    let p = err_from_is_err_and c.from_residual-in_err-from.result c.from_residual-in_err-from.ensures.1 in
    let t = c.in_ok-to in
    rw (p.1, p.2) (stage_passed 36 from_rule c.args.bytes.now t.to.now t.behind_to.now t.ensures.0 t.ensures.1
    ∙ stage_broken 36 subject_rule t.behind_to.now c.in_err-from.field-0.0 c.in_err-from.ensures)

pub returns-in_err-subject : goal.returns-in_err-subject
returns-in_err-subject c =
    let p = err_from_is_err_and c.from_residual-in_err-subject.result c.from_residual-in_err-subject.ensures.1 in
    let t = c.in_ok-to in
    let f = c.in_ok-from in
    rw (p.1, p.2) (stage_passed 36 from_rule c.args.bytes.now t.to.now t.behind_to.now t.ensures.0 t.ensures.1
    ∙ (stage_passed 36 subject_rule t.behind_to.now f.from.now f.behind_from.now f.ensures.0 f.ensures.1
    ∙ stage_broken 72 text_rule f.behind_from.now c.in_err-subject.field-0.0 c.in_err-subject.ensures))

pub returns-in_err-text : goal.returns-in_err-text
returns-in_err-text c =
    let p = err_from_is_err_and c.from_residual-in_err-text.result c.from_residual-in_err-text.ensures.1 in
    let t = c.in_ok-to in
    let f = c.in_ok-from in
    let s = c.in_ok-subject in
    rw (p.1, p.2) (stage_passed 36 from_rule c.args.bytes.now t.to.now t.behind_to.now t.ensures.0 t.ensures.1
    ∙ (stage_passed 36 subject_rule t.behind_to.now f.from.now f.behind_from.now f.ensures.0 f.ensures.1
    ∙ (stage_passed 72 text_rule f.behind_from.now s.subject.now s.behind_subject.now s.ensures.0 s.ensures.1
    ∙ c.in_err-text.ensures)))

pub returns : goal.returns
returns c =
    let t = c.in_ok-to in
    let f = c.in_ok-from in
    let s = c.in_ok-subject in
    let e = c.in_ok-text in
    record {
      front_is = refl;
      whole =
          t.ensures.0.whole
          ∙ (ap (λ (xs : List ℕ). t.to.now ++ 0 ∷ xs) f.ensures.0.whole
          ∙ (ap (λ (xs : List ℕ). t.to.now ++ 0 ∷ (f.from.now ++ 0 ∷ xs)) s.ensures.0.whole
          ∙ ap (λ (xs : List ℕ). t.to.now ++ 0 ∷ (f.from.now ++ 0 ∷ (s.subject.now ++ 0 ∷ xs))) e.ensures.whole));
      to = record { clear = t.ensures.0.first; short = t.ensures.1 };
      from = record { clear = f.ensures.0.first; short = f.ensures.1 };
      subject = record { clear = s.ensures.0.first; short = s.ensures.1 };
      text = e.ensures.first;
    }
