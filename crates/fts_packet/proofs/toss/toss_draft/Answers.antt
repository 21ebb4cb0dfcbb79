use Rattle.std.proofs.Common.{ℕ, List, Option, Some, None, ap, ◌∙◌}
use Rattle.fts_packet.specs.Lines.{tag_of}
use Rattle.fts_packet.specs.Tossed.{missing, place_for}
use Rattle.fts_packet.proofs.Verdicts.{refused_first, judged_later}
use Rattle.fts_packet.proofs.toss.toss_draft.Goals as goal

pub returns-in_default : goal.returns-in_default
returns-in_default c =
    let s = c.args.setup.now in
    let tag = c.tag_of-tag.ensures ∙ ap tag_of c.as_slice.ensures in
    refused_first s c.args.message.now c.args.now c.missing.result
    (c.in_default.ensures ∙ ap (λ (t : Option (List ℕ)). place_for t s) tag) (c.missing.ensures ∙ ap missing tag)

pub returns-in-Some-refusal_of : goal.returns-in-Some-refusal_of
returns-in-Some-refusal_of c =
    let s = c.args.setup.now in
    let tag = c.tag_of-tag.ensures ∙ ap tag_of c.as_slice.ensures in
    judged_later s c.args.message.now c.args.now c.in-Some.place c.in_ok-draft.draft (Some c.in-Some-refusal_of.rule)
    (c.in-Some.ensures ∙ ap (λ (t : Option (List ℕ)). place_for t s) tag) c.in_ok-draft.ensures c.in-Some-refusal_of.ensures

pub returns-in-None : goal.returns-in-None
returns-in-None c =
    let s = c.args.setup.now in
    let tag = c.tag_of-tag.ensures ∙ ap tag_of c.as_slice.ensures in
    judged_later s c.args.message.now c.args.now c.in-Some.place c.in_ok-draft.draft None
    (c.in-Some.ensures ∙ ap (λ (t : Option (List ℕ)). place_for t s) tag) c.in_ok-draft.ensures c.in-None.ensures
