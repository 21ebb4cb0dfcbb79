use Rattle.entry_runs.proofs.Commands.{spoken_causes}
use Rattle.entry_runs.specs.declared.class.Class.TheVariants.{Done, Refused}
use Rattle.shelf_files.proofs.telling.say_served.Goals as goal

pub returns-in-Ok-clause-spoken : goal.returns-in-Ok-clause-spoken
returns-in-Ok-clause-spoken g c tells = rw c.in-Ok.is (c.say.result, c.say.ensures.voiced tells, c.once_said.ensures)

pub returns-in-Ok-clause-causes : goal.returns-in-Ok-clause-causes
returns-in-Ok-clause-causes g c before shelf causes = rw c.once_said.ensures (spoken_causes Done c.say.result (rw c.in-Ok.is at causes) c.say.ensures.disk c.say.ensures.cause)

pub returns-in-Err-Refused-clause-spoken : goal.returns-in-Err-Refused-clause-spoken
returns-in-Err-Refused-clause-spoken g c tells =
    rw (c.in-Err-Refused.is, c.in-Err-Refused.field-0-is) (c.say-in-Err-Refused.result, c.say-in-Err-Refused.ensures.voiced tells, c.once_said-in-Err-Refused.ensures)

pub returns-in-Err-Refused-clause-causes : goal.returns-in-Err-Refused-clause-causes
returns-in-Err-Refused-clause-causes g c before shelf causes =
    rw c.once_said-in-Err-Refused.ensures (spoken_causes Refused c.say-in-Err-Refused.result (rw (c.in-Err-Refused.is, c.in-Err-Refused.field-0-is) at causes) c.say-in-Err-Refused.ensures.disk c.say-in-Err-Refused.ensures.cause)
