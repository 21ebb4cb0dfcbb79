use Rattle.std.proofs.lemmas.Result.{on_ok_weaker}
use Rattle.packet_verdicts.proofs.DraftLists.{indexed_more}
use Rattle.packet_verdicts.proofs.accepted.Accepted.add.Goals as goal

pub returns-clause-indexed : goal.returns-clause-indexed
returns-clause-indexed c =
    on_ok_weaker c.add-2.result
    (λ is. indexed_more c.args.self.now c.args.place c.len-index.result c.from.result c.index_mut.result.now c.add.new.self c.args.draft c.requires.indexed c.requires.place c.from.ensures c.len-index.ensures c.index_mut.ensures.value c.in_ok-add.ensures.ok c.add-2.new.self c.requires.draft c.requires.typed is)
    c.add-2.ensures.ok
