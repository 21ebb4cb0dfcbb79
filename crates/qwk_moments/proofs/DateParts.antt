-- A date of the library by its parts.
use Rattle.std.proofs.Common.{ℕ, pos}
use Rattle.jiff_core.specs.declared.civil.date.Date.{Date}
use Rattle.jiff_core.specs.Calendar.{IsCivilDate}

unfoldable pub date_of_parts : (y m d : ℕ) → IsCivilDate (pos y) m d → Date
date_of_parts y m d h = record { year = pos y; month = m; day = d; year_in = h.0; month_in = h.1; day_in = h.2 }
