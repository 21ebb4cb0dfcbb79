use Rattle.std.proofs.Common.{ap, ◌∙◌}
use Rattle.offline_writer.proofs.Texts.{trimmed_is}
use Rattle.offline_writer.specs.Drafts.{sender, without_pads}
use Rattle.offline_writer.proofs.drafting.sender.Goals as goal

pub returns : goal.returns
unfolding sender
returns c = trimmed_is _ _ c.trimmed_end.ensures ∙ ap without_pads c.front.ensures
