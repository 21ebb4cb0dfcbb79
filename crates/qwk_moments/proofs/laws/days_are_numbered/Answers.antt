-- What the walk over the calendar comes to.
use Rattle.qwk_moments.proofs.CalendarWalk.{civil_date-number}
use Rattle.qwk_moments.proofs.laws.days_are_numbered.Goals as goal

pub returns-clause-calendar : goal.returns-clause-calendar
returns-clause-calendar c = λ days h. (civil_date-number days h).civil

pub returns-clause-number : goal.returns-clause-number
returns-clause-number c = λ days h. (civil_date-number days h).number
