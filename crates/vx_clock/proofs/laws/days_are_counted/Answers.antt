use Rattle.std.proofs.Common.{◌+◌, pos, refl, arith}
use Rattle.jiff_core.specs.Calendar.{days_in_month}
use Rattle.jiff_core.proofs.SignedLemmas.{signed_arith}
use Rattle.jiff_core.proofs.CalendarLemmas.{days_from_civil-day_count, day_count-epoch}
use Rattle.jiff_core.proofs.DateLemmas.{days_from_civil-day, days_from_civil-next_month, days_from_civil-next_year}
use Rattle.vx_clock.proofs.laws.days_are_counted.Goals as goal

pub returns-clause-start : goal.returns-clause-start
returns-clause-start c = omega (arith, signed_arith, days_from_civil-day_count (pos 1970) 1 1, day_count-epoch)

pub returns-clause-next_day : goal.returns-clause-next_day
returns-clause-next_day c =
    λ year month day low. omega (arith, signed_arith, days_from_civil-day (pos year) month (day + 1) day (omega arith) low)

pub returns-clause-next_month : goal.returns-clause-next_month
returns-clause-next_month c =
    λ year month low. days_from_civil-next_month (pos year) month (days_in_month (pos year) month) low refl

pub returns-clause-next_year : goal.returns-clause-next_year
returns-clause-next_year c =
    λ year. days_from_civil-next_year (pos year) (pos (year + 1)) (omega (arith, signed_arith)) (omega (arith, signed_arith))
