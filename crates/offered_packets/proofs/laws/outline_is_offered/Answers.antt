use Rattle.offered_packets.proofs.OutlineLaws.{outline_highs, outline_message, outline_offered, outline_sees, outline_shown}
use Rattle.offered_packets.proofs.laws.outline_is_offered.Goals as goal

pub returns : goal.returns
returns c = record { message = outline_message; sees = outline_sees; offered = outline_offered; highs = outline_highs; shown = outline_shown }
