-- The text of a series' symbol, in the 21 bytes that the Options Clearing Corporation gives it: a
-- root padded with spaces on its right to six, the digits `yymmdd` of a day, `C` or `P`, and the
-- strike in thousandths of a point in eight digits. That `yy` means 20yy, that the roots are `SPX`
-- and `SPXW`, and the range of strikes, is this project's own.
use Rattle.std.specs.Prelude.{ℕ, ◌+◌, ◌≤◌, Bool, ◌&&◌, ◌==◌, nat_le, List, length, take, codes, bytes_eq, slice_index, slice_range, Option, Some, None, Result, Ok, Err, if◌then◌else◌}
use Rattle.std.specs.Result.{result_ok}
use Rattle.vx_clock.specs.declared.days.DayNo.{DayNo}
use Rattle.vx_clock.specs.declared.limits.TheConstants.{YEAR_MIN}
use Rattle.vx_clock.specs.declared.terms.Root.{Root}
use Rattle.vx_clock.specs.declared.terms.Root.TheVariants.{Spx, Spxw}
use Rattle.vx_clock.specs.Day.{IsDayInRange, day_of_date}
use Rattle.vx_clock.specs.Digits.{are_digits, digits_value}
use Rattle.vx_symbol.specs.declared.limits.TheConstants.{STRIKE_MIN, STRIKE_MAX, SYMBOL_LEN}
use Rattle.vx_symbol.specs.declared.symbols.Side.{Side}
use Rattle.vx_symbol.specs.declared.symbols.Side.TheVariants.{Call, Put}
use Rattle.vx_symbol.specs.declared.symbols.Symbol.{Symbol}
use Rattle.vx_symbol.specs.declared.symbols.SymbolFault.{SymbolFault}
use Rattle.vx_symbol.specs.declared.symbols.SymbolFault.TheVariants.{Length, Root as NoRoot, Date, Side as NoSide, Strike}

-- how a root is written
abbrev pub root_text : Root → List ℕ
root_text Spx = codes "SPX   "
root_text Spxw = codes "SPXW  "

-- how a side is written: the byte of `C` or of `P`
abbrev pub side_byte : Side → ℕ
side_byte Call = 67
side_byte Put = 80

-- the root that six bytes write
abbrev pub root_of : List ℕ → Option Root
root_of text =
    if bytes_eq text (root_text Spx) then Some Spx
    else (if bytes_eq text (root_text Spxw) then Some Spxw else None)

-- the day that the digits `yymmdd` write
abbrev pub date_of_digits : List ℕ → Option DayNo
date_of_digits text =
    if are_digits text then result_ok (day_of_date (YEAR_MIN + digits_value (take 2 text))
    (digits_value (slice_range text 2 4)) (digits_value (slice_range text 4 6)))
    else None

-- the side that a byte writes
abbrev pub side_of : ℕ → Option Side
side_of byte =
    if byte == side_byte Call then Some Call
    else (if byte == side_byte Put then Some Put else None)

-- the strike is from 100 to 50,000 points
abbrev pub IsStrikeInRange : ℕ → Type 0
IsStrikeInRange strike = (STRIKE_MIN ≤ strike) × (strike ≤ STRIKE_MAX)

-- the test of it
abbrev pub is_strike_in_range : ℕ → Bool
is_strike_in_range strike = nat_le STRIKE_MIN strike && nat_le strike STRIKE_MAX

-- the strike that digits write, in thousandths of a point
abbrev pub strike_of : List ℕ → Option ℕ
strike_of text =
    if are_digits text && is_strike_in_range (digits_value text) then Some (digits_value text)
    else None

-- the symbol of four fields, or else the fault of the first that is missing
abbrev pub symbol_of_fields : Option Root → Option DayNo → Option Side → Option ℕ → Result Symbol SymbolFault
symbol_of_fields None _ _ _ = Err NoRoot
symbol_of_fields (Some _) None _ _ = Err Date
symbol_of_fields (Some _) (Some _) None _ = Err NoSide
symbol_of_fields (Some _) (Some _) (Some _) None = Err Strike
symbol_of_fields (Some r) (Some d) (Some s) (Some k) =
    Ok (record { root = r; date = d; side = s; strike = k })

-- the symbol that a text writes, or else the first fault
abbrev pub symbol_of_text : List ℕ → Result Symbol SymbolFault
symbol_of_text text =
    if length text == SYMBOL_LEN then symbol_of_fields (root_of (take 6 text))
    (date_of_digits (slice_range text 6 12)) (side_of (slice_index text 12))
    (strike_of (slice_range text 13 21))
    else Err Length

-- the day is of the years 2000 to 2099, and the strike in range
pub record IsSymbolInRange (s : Symbol) : Type 0 where
  pub date : IsDayInRange s.date
  pub strike : IsStrikeInRange s.strike
