use Rattle.packet_verdicts.proofs.OutlineLaws.{outline_judged, outline_spread, outline_view}
use Rattle.packet_verdicts.proofs.laws.outlines_judge_alike.Goals as goal

pub returns : goal.returns
returns c = record { view = outline_view; judged = outline_judged; posts = outline_spread }
