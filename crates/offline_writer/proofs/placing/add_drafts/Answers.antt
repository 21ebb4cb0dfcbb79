use Rattle.std.proofs.Common.{ap, ◌∙◌, ◌+◌, min}
use Rattle.std.proofs.lemmas.Result.{on_ok_weaker}
use Rattle.offline_writer.proofs.Places.{placed_in}
use Rattle.offline_writer.proofs.placing.add_drafts.Goals as goal

pub returns-clause-ok : goal.returns-clause-ok
returns-clause-ok c =
    on_ok_weaker c.append.result
    (placed_in c.args.rep.now c.args.drafts c.in_ok-more.more.items c.append.new.messages c.next_number.result (c.next_number.ensures ∙ ap (λ n. min (n + 1) 65535) c.len.ensures) c.in_ok-more.ensures)
    c.append.ensures.ok
