-- Minutes to settlement.
use Rattle.std.specs.Prelude.{ℕ, ◌+◌, ◌-◌, ◌*◌, ℤ, ◌-ℤ◌, unsigned_abs}
use Rattle.vx_clock.specs.declared.days.DayNo.{DayNo}
use Rattle.vx_clock.specs.declared.terms.Root.{Root}
use Rattle.vx_clock.specs.declared.terms.Root.TheVariants.{Spx, Spxw}
use Rattle.vx_clock.specs.declared.terms.Expiry.{Expiry}
use Rattle.vx_clock.specs.declared.terms.Moment.{Moment}
use Rattle.vx_clock.specs.declared.limits.TheConstants.{DAY_MINUTES, MORNING_SETTLEMENT, AFTERNOON_SETTLEMENT}

-- the calendar days from one day to another, negative where that is an earlier one
abbrev pub days_until : DayNo → DayNo → ℤ
days_until from day = day.0 -ℤ from.0

-- the minute of its day at which a term settles (after the Cboe VIX white paper; that the root says
-- which is this project's own)
abbrev pub settlement_minute : Root → ℕ
settlement_minute Spx = MORNING_SETTLEMENT
settlement_minute Spxw = AFTERNOON_SETTLEMENT

-- the minutes from a moment to a term's settlement on a later day: those left of the current day
-- until midnight, a day's for each whole day between, and those of the settlement day (after the
-- Cboe VIX white paper)
abbrev pub minutes_between : Moment → Expiry → ℕ
minutes_between now expiry =
    (DAY_MINUTES - now.minute) + DAY_MINUTES * (unsigned_abs (days_until now.day expiry.date) - 1)
    + settlement_minute expiry.root
