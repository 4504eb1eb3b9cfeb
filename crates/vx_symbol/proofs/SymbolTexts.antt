-- The text of a symbol is read back.
use Rattle.std.proofs.Common.{◌≡◌, ℕ, ◌+◌, ◌-◌, ◌<◌, ◌≤◌, List, ◌∷◌, ◌++◌, true, slice_index, Some, Ok, refl, ap, arith}
use Rattle.std.specs.Result.{result_ok}
use Rattle.std.proofs.lemmas.Bool.Decides.{nat_tests}
use Rattle.vx_clock.specs.declared.days.DayNo.{DayNo}
use Rattle.vx_clock.specs.declared.terms.Root.{Root}
use Rattle.vx_clock.specs.declared.terms.Root.TheVariants.{Spx, Spxw}
use Rattle.vx_clock.specs.Day.{day_of_date}
use Rattle.vx_clock.specs.DayText.{year_of, month_of, day_in_month, two_digits, eight_digits}
use Rattle.vx_clock.proofs.DigitText.{digit_below, are_digits-eight, digits_value-two, digits_value-eight}
use Rattle.vx_clock.proofs.DayTexts.{dated, date_bounds}
use Rattle.vx_symbol.specs.declared.symbols.Side.{Side}
use Rattle.vx_symbol.specs.declared.symbols.Side.TheVariants.{Call, Put}
use Rattle.vx_symbol.specs.declared.symbols.Symbol.{Symbol}
use Rattle.vx_symbol.specs.Symbol.{root_text, date_of_digits, side_byte, side_of, is_strike_in_range, strike_of, symbol_of_text, IsSymbolInRange}
use Rattle.vx_symbol.specs.SymbolText.{symbol_text}

-- the bytes of a root, of which the fourth differs
pub root_form : (root : Root) (rest : List ℕ) → 83 ∷ 80 ∷ 88 ∷ slice_index (root_text root) 3 ∷ 32 ∷ 32 ∷ rest ≡ root_text root ++ rest
root_form Spx rest = refl
root_form Spxw rest = refl

side_back : (side : Side) → side_of (side_byte side) ≡ Some side
side_back Call = refl
side_back Put = refl

in_range : (v : ℕ) → 100000 ≤ v → v ≤ 50000000 → is_strike_in_range v ≡ true
in_range v low high = grind (arith, nat_tests)

strike_back : (v : ℕ) → 100000 ≤ v → v ≤ 50000000 → strike_of (eight_digits v) ≡ Some v
strike_back v low high = rw (are_digits-eight v, digits_value-eight v (omega arith), in_range v low high) refl

digits_of_date_back : (y m d : ℕ) (day : DayNo) → y < 100 → m < 100 → d < 100 → day_of_date (2000 + y) m d ≡ Ok day → date_of_digits (two_digits y ++ two_digits m ++ two_digits d) ≡ Some day
digits_of_date_back y m d day year month small is =
    rw (digit_below y 10, digit_below y 1, digit_below m 10, digit_below m 1, digit_below d 10, digit_below d 1)
    (rw (digits_value-two y year, digits_value-two m month, digits_value-two d small) (ap result_ok is))

-- the symbol of four parts that are read back
parts_back : (s : Symbol) (y m d : ℕ) → date_of_digits (two_digits y ++ two_digits m ++ two_digits d) ≡ Some s.date → side_of (side_byte s.side) ≡ Some s.side → strike_of (eight_digits s.strike) ≡ Some s.strike
    → symbol_of_text (root_text s.root ++ ((two_digits y ++ two_digits m ++ two_digits d) ++ side_byte s.side ∷ eight_digits s.strike)) ≡ Ok s
parts_back s y m d date side strike =
    elim s.root as (λ r. symbol_of_text (root_text r ++ ((two_digits y ++ two_digits m ++ two_digits d) ++ side_byte s.side ∷ eight_digits s.strike)) ≡ Ok (record s { root = r }))
    [ Spx ↦ rw (date, side, strike) refl | Spxw ↦ rw (date, side, strike) refl ]

-- the text of a symbol in range is read back as that symbol
pub read_back_symbol : (s : Symbol) → IsSymbolInRange s → symbol_of_text (symbol_text s) ≡ Ok s
unfolding symbol_text
read_back_symbol s is =
    let bounds = date_bounds s.date is.date in
    let year : 2000 + (year_of s.date - 2000) ≡ year_of s.date = omega (arith, bounds.0) in
    let date = digits_of_date_back (year_of s.date - 2000) (month_of s.date) (day_in_month s.date) s.date (omega (arith, bounds.1)) (omega (arith, bounds.2)) (omega (arith, bounds.3)) (rw year (dated s.date is.date)) in
    parts_back s (year_of s.date - 2000) (month_of s.date) (day_in_month s.date) date (side_back s.side) (strike_back s.strike is.strike.0 is.strike.1)
