use Rattle.std.proofs.Common.{pos, refl, arith}
use Rattle.jiff_core.proofs.SignedLemmas.{signed_arith}
use Rattle.jiff_core.proofs.CalendarLemmas.{days_from_civil-day_count, day_count-last_of_year}
use Rattle.vx_clock.proofs.DayNumbers.{year_start}
use Rattle.vx_clock.proofs.laws.days_in_range.Goals as goal

pub returns-clause-first : goal.returns-clause-first
returns-clause-first c =
    omega (arith, signed_arith, days_from_civil-day_count (pos 2000) 1 1, year_start (pos 2000) 11999 refl (omega arith))

pub returns-clause-last : goal.returns-clause-last
returns-clause-last c =
    omega (arith, signed_arith, days_from_civil-day_count (pos 2099) 12 31, day_count-last_of_year (pos 2099), year_start (pos 2099) 12098 refl (omega arith))
