use Rattle.std.proofs.Common.{take, sym, ap, ◌∙◌, arith}
use Rattle.std.proofs.lemmas.List.{take_all, length-take}
use Rattle.setup_file.specs.declared.fields.SetupFields.{SetupFields}
use Rattle.fts_packet.proofs.conference.counted.Goals as goal

pub returns-then-conferences-le255-clause-same : goal.returns-then-conferences-le255-clause-same
returns-then-conferences-le255-clause-same c = sym (take_all 255 c.as_slice-conferences.result.now (omega arith)) ∙ ap (take 255) (c.as_slice-conferences.ensures ∙ ap (λ (s : SetupFields). s.conferences) c.fields.ensures.fields)

pub returns-clause-same : goal.returns-clause-same
returns-clause-same c = ap (take 255) (c.as_slice-conferences.ensures ∙ ap (λ (s : SetupFields). s.conferences) c.fields.ensures.fields)

pub returns-clause-few : goal.returns-clause-few
returns-clause-few c = omega (arith, length-take 255 c.as_slice-conferences.result.now)

pub slice_bounds-result-end : goal.slice_bounds-result-end
slice_bounds-result-end c = omega (arith, length-take 255 c.as_slice-conferences.result.now)
