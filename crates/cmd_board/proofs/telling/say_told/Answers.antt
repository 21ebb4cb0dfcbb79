use Rattle.entry_runs.proofs.Commands.{spoken_causes}
use Rattle.entry_runs.specs.declared.class.Class.TheVariants.{Done, Refused, Damaged}
use Rattle.cmd_board.proofs.telling.say_told.Goals as goal

pub returns-in-Ok-clause-spoken : goal.returns-in-Ok-clause-spoken
returns-in-Ok-clause-spoken g c tells = rw c.in-Ok.is (c.say.result, c.say.ensures.voiced tells, c.once_said.ensures)

pub returns-in-Ok-clause-causes : goal.returns-in-Ok-clause-causes
returns-in-Ok-clause-causes g c before shelf causes = rw c.once_said.ensures (spoken_causes Done c.say.result (rw c.in-Ok.is at causes) c.say.ensures.disk c.say.ensures.cause)

pub returns-in-Err-Refused-clause-spoken : goal.returns-in-Err-Refused-clause-spoken
returns-in-Err-Refused-clause-spoken g c tells =
    rw (c.in-Err-Refused.is, c.in-Err-Refused.field-0-is) (c.say-in-Err-Refused.result, c.say-in-Err-Refused.ensures.voiced tells, c.once_said-in-Err-Refused.ensures)

pub returns-in-Err-Refused-clause-causes : goal.returns-in-Err-Refused-clause-causes
returns-in-Err-Refused-clause-causes g c before shelf causes =
    rw c.once_said-in-Err-Refused.ensures (spoken_causes Refused c.say-in-Err-Refused.result (rw (c.in-Err-Refused.is, c.in-Err-Refused.field-0-is) at causes) c.say-in-Err-Refused.ensures.disk c.say-in-Err-Refused.ensures.cause)

pub returns-in-Err-Damaged-clause-spoken : goal.returns-in-Err-Damaged-clause-spoken
returns-in-Err-Damaged-clause-spoken g c tells =
    rw (c.in-Err-Damaged.is, c.in-Err-Damaged.field-0-is) (c.say_damage.result, c.say_damage.ensures.voiced tells, c.once_said-in-Err-Damaged.ensures)

pub returns-in-Err-Damaged-clause-causes : goal.returns-in-Err-Damaged-clause-causes
returns-in-Err-Damaged-clause-causes g c before shelf causes =
    rw c.once_said-in-Err-Damaged.ensures (spoken_causes Damaged c.say_damage.result (rw (c.in-Err-Damaged.is, c.in-Err-Damaged.field-0-is) at causes) c.say_damage.ensures.disk c.say_damage.ensures.cause)
