-- What a position in volatility futures settles to (after the contracts' terms; the units are this project's own).
use Rattle.std.specs.Prelude.{◌≡◌, ℕ, ◌*◌, ℤ, pos, ◌-ℤ◌, ◌*ℤ◌}

-- so many contracts, negative where they were sold, last settled at a price
pub record OpenPosition : Type 0 where
  -- dollars a point: 1,000 for the standard contract and 100 for the mini
  pub multiplier : ℕ
  pub quantity : ℤ
  -- in ten-thousandths of a point
  pub last : ℕ

-- the amount in cents at a figure in hundredths of a point: figure less last price, times multiplier and quantity. A
-- ten-thousandth of a point times dollars a point is a hundredth of a cent
abbrev pub IsSettlementAmount : ℕ → OpenPosition → ℤ → Type 0
IsSettlementAmount figure position amount =
    pos 100 *ℤ amount ≡ (pos (100 * figure) -ℤ pos position.last) *ℤ pos position.multiplier *ℤ position.quantity
