-- The moments that QWK's fields read as end with the year 2069.
use Rattle.std.proofs.Common.{◌≡◌, ℕ, ◌<◌, List, Some, arith}
use Rattle.jiff_core.proofs.SignedLemmas.{signed_arith}
use Rattle.qwk_moments.specs.Moments.{moment_of}
use Rattle.qwk_moments.specs.Spelled.{MomentReads}
use Rattle.qwk_moments.proofs.DateParts.{date_of_parts}
use Rattle.qwk_moments.proofs.Readings.{reading_spells}
use Rattle.qwk_moments.proofs.Window.{before_2070}

pub moment_small : (date time : List ℕ) (seconds : ℕ) → moment_of date time ≡ Some seconds → seconds < 3_155_760_000
unfolding date_of_parts
moment_small date time seconds e =
    let r : MomentReads date time seconds = reading_spells date time seconds e in
    let early = before_2070 (date_of_parts r.day.year r.day.month r.day.day r.on_calendar) (omega (arith, signed_arith, r.window.1)) in
    omega (arith, signed_arith, r.begins, early, r.on_clock.0, r.on_clock.1)
