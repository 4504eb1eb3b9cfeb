-- The level K0. After the Cboe VIX white paper: the listed strike equal to the forward, or else the one immediately below it.
use Rattle.std.specs.Prelude.{ℕ, ◌<◌, pos, List, map, slice_index, Contains}
use Rattle.vx_num.specs.Fraction.{Fraction, whole, ◌≤ᶠ◌, ◌<ᶠ◌}
use Rattle.vx_symbol.specs.declared.rows.StrikeRow.{StrikeRow}
pub use Rattle.vx_symbol.specs.Rows.{StrikesRise}
use Rattle.vx_formula.specs.Term.{Term, InBracket}
use Rattle.vx_formula.specs.Forward.{forward_at}

-- the strikes of the rows, in thousandths of a point
abbrev pub strikes : List StrikeRow → List ℕ
strikes rows = map (λ row. row.strike) rows

-- the strike of the row at a place
abbrev pub strike_at : List StrikeRow → ℕ → ℕ
strike_at rows place = slice_index (strikes rows) place

abbrev pub IsListed : List StrikeRow → ℕ → Type 0
IsListed rows strike = Contains (strikes rows) strike

-- k is the greatest listed strike that is at most the forward
pub record IsGreatestBelow (rows : List StrikeRow) (forward : Fraction) (k : ℕ) : Type 0 where
  pub is_listed : IsListed rows k
  pub at_most : whole (pos k) ≤ᶠ forward
  pub others_above : (other : ℕ) → IsListed rows other → k < other → forward <ᶠ whole (pos other)

-- k is the level where the exponential is e
abbrev pub IsLevelAt : Term → ℕ → Fraction → Type 0
IsLevelAt term k e = IsGreatestBelow term.rows (forward_at term.pair e) k

-- k is the level, whatever the exponential is within some bracket
pub record IsLevel (term : Term) (k : ℕ) : Type 0 where
  pub depth : ℕ
  pub holds : (e : Fraction) → InBracket term depth e → IsLevelAt term k e
