use Rattle.std.proofs.Common.{None, Some, sym, ap, ◌∙◌}
use Rattle.std.specs.Option.{option_copied}
use Rattle.packet_verdicts.proofs.DraftLists.{draft_found, list_at, no_draft}
use Rattle.packet_verdicts.proofs.accepted.Accepted.draft.Goals as goal

pub returns-in_err-index : goal.returns-in_err-index
returns-in_err-index c =
    let list = list_at c.args.self.now c.args.place c.from.result c.index.result.now c.requires.indexed c.requires.place c.from.ensures c.index.ensures in
    ap option_copied c.from_residual.ensures ∙ no_draft c.args.self.now.posts c.args.place c.args.behind c.index.result.now list (sym (ap option_copied c.in_err-index.was) ∙ c.get.ensures)

pub returns-in-Some : goal.returns-in-Some
returns-in-Some c =
    let list = list_at c.args.self.now c.args.place c.from.result c.index.result.now c.requires.indexed c.requires.place c.from.ensures c.index.ensures in
    draft_found c.args.self.now.posts c.args.place c.args.behind c.in_ok-index.index.now c.index.result.now (Some c.in-Some.field-0.now) list (sym (ap option_copied c.in_ok-index.was) ∙ c.get.ensures) (sym (ap option_copied c.in-Some.is) ∙ c.get-2.ensures)

pub returns-in-None : goal.returns-in-None
returns-in-None c =
    let list = list_at c.args.self.now c.args.place c.from.result c.index.result.now c.requires.indexed c.requires.place c.from.ensures c.index.ensures in
    draft_found c.args.self.now.posts c.args.place c.args.behind c.in_ok-index.index.now c.index.result.now None list (sym (ap option_copied c.in_ok-index.was) ∙ c.get.ensures) (sym (ap option_copied c.in-None.is) ∙ c.get-2.ensures)
