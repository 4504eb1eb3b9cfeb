-- Positions in volatility futures (after the contracts' terms; the ranges are this project's own).
use Rattle.std.specs.Prelude.{ℕ, ◌≤◌, unsigned_abs}
use Rattle.vx_formula.specs.Settlement.{OpenPosition}
use Rattle.vx_settle.specs.declared.limits.TheConstants.{LAST_MAX, MINI_MULTIPLIER, QUANTITY_MAX, STANDARD_MULTIPLIER}
use Rattle.vx_settle.specs.declared.position.Contract.{Contract}
use Rattle.vx_settle.specs.declared.position.Contract.TheVariants.{Vx, Vxm}
use Rattle.vx_settle.specs.declared.position.Position.{Position}

-- dollars a point of a contract
abbrev pub multiplier_of : Contract → ℕ
multiplier_of Vx = STANDARD_MULTIPLIER
multiplier_of Vxm = MINI_MULTIPLIER

-- a position as what the formula settles
abbrev pub open_position_of : Position → OpenPosition
open_position_of p = record { multiplier = multiplier_of p.contract; quantity = p.quantity; last = p.last }

-- at most a million contracts, and a last price of at most 1,000 points
abbrev pub IsPositionInRange : Position → Type 0
IsPositionInRange p = (unsigned_abs p.quantity ≤ QUANTITY_MAX) × (p.last ≤ LAST_MAX)
