use Rattle.std.specs.Prelude.{Ok, Err}
use Rattle.cmd_entries.proofs.entries.entries_of_batch.Goals as goal

pub returns-in_ok-entries_in-in-Ok-clause-some : goal.returns-in_ok-entries_in-in-Ok-clause-some
returns-in_ok-entries_in-in-Ok-clause-some g c = (Ok c.as_slice.result.now, c.in_ok-entries_in-in-Ok.ensures.reads)

pub returns-in_ok-only-in-Err-Refused-clause-some : goal.returns-in_ok-only-in-Err-Refused-clause-some
returns-in_ok-only-in-Err-Refused-clause-some g c = (Err c.in-Err-Refused.refusal, c.in_ok-only-in-Err-Refused.ensures)
