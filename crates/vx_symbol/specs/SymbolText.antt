-- The text that names a series, in the 21 bytes of its symbol.
use Rattle.std.specs.Prelude.{ℕ, ◌-◌, List, ◌∷◌, ◌++◌}
use Rattle.vx_clock.specs.DayText.{year_of, month_of, day_in_month, two_digits, eight_digits}
use Rattle.vx_clock.specs.declared.days.DayNo.{DayNo}
use Rattle.vx_clock.specs.declared.limits.TheConstants.{YEAR_MIN}
use Rattle.vx_symbol.specs.declared.symbols.Symbol.{Symbol}
use Rattle.vx_symbol.specs.Symbol.{root_text, side_byte}

-- the digits `yymmdd` of a day of 20yy
abbrev pub date_digits : DayNo → List ℕ
date_digits day = two_digits (year_of day - YEAR_MIN) ++ two_digits (month_of day) ++ two_digits (day_in_month day)

-- the root, the day, the side, and the strike in thousandths of a point
unfoldable pub symbol_text : Symbol → List ℕ
symbol_text s = root_text s.root ++ (date_digits s.date ++ side_byte s.side ∷ eight_digits s.strike)
