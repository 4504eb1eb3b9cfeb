-- Tests for sameness.
use Rattle.std.specs.Prelude.{Bool, true, false, ◌&&◌, ◌==◌}
use Rattle.std.specs.Ordering.{int_eq}
use Rattle.vx_clock.specs.declared.days.DayNo.{DayNo}
use Rattle.vx_clock.specs.declared.terms.Root.{Root}
use Rattle.vx_clock.specs.declared.terms.Root.TheVariants.{Spx, Spxw}
use Rattle.vx_clock.specs.declared.terms.Expiry.{Expiry}
use Rattle.vx_symbol.specs.declared.symbols.Side.{Side}
use Rattle.vx_symbol.specs.declared.symbols.Side.TheVariants.{Call, Put}
use Rattle.vx_symbol.specs.declared.symbols.Symbol.{Symbol}

abbrev pub is_same_root : Root → Root → Bool
is_same_root Spx Spx = true
is_same_root Spx Spxw = false
is_same_root Spxw Spx = false
is_same_root Spxw Spxw = true

abbrev pub is_same_side : Side → Side → Bool
is_same_side Call Call = true
is_same_side Call Put = false
is_same_side Put Call = false
is_same_side Put Put = true

abbrev pub is_same_day : DayNo → DayNo → Bool
is_same_day a b = int_eq a.0 b.0

abbrev pub is_same_expiry : Expiry → Expiry → Bool
is_same_expiry a b = is_same_root a.root b.root && is_same_day a.date b.date

abbrev pub is_same_series : Symbol → Symbol → Bool
is_same_series a b =
    is_same_root a.root b.root && is_same_day a.date b.date && is_same_side a.side b.side
    && (a.strike == b.strike)
