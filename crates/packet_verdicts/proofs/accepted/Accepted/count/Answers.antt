use Rattle.std.proofs.Common.{length, ap, ◌∙◌}
use Rattle.packet_verdicts.proofs.DraftLists.{list_at}
use Rattle.packet_verdicts.proofs.Indexes.{index_count}
use Rattle.packet_verdicts.proofs.accepted.Accepted.count.Goals as goal

pub returns : goal.returns
returns c =
    c.len.ensures ∙ (ap length (list_at c.args.self.now c.args.place c.from.result c.index.result.now c.requires.indexed c.requires.place c.from.ensures c.index.ensures) ∙ index_count c.args.place c.args.self.now.posts)
