use Rattle.fts_packet.proofs.Posted.{posted_is_message, posted_id}
use Rattle.fts_packet.proofs.laws.posted_fits.Goals as goal

pub returns : goal.returns
returns c = record { message = posted_is_message; msgid = posted_id }
