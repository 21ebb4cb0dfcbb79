use Rattle.std.proofs.Common.{◌∙◌}
use Rattle.fts_packet.specs.Lines.{tag_of}
use Rattle.fts_packet.proofs.Verdicts.{some_copied}
use Rattle.fts_packet.proofs.draft.has_tag.Goals as goal

pub returns : goal.returns
returns c = c.is_some.ensures ∙ some_copied c.tag_of.result (tag_of c.args.lines.now) c.tag_of.ensures
