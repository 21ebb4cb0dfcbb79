use Rattle.netmail_rules.proofs.PostedDrafts.{posted_is_message, posted_has_room}
use Rattle.netmail_rules.proofs.laws.posted_fits.Goals as goal

pub returns : goal.returns
returns c = record { message = posted_is_message; room = posted_has_room }
