use Rattle.cmd_messages.proofs.SampleLists.{are_placed, posts_count}
use Rattle.cmd_messages.proofs.laws.all_are_posted.Goals as goal

pub returns-clause-count : goal.returns-clause-count
returns-clause-count c = posts_count

pub returns-clause-places : goal.returns-clause-places
returns-clause-places c = are_placed
