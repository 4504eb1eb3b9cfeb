-- The laws of settlement.
use Rattle.std.specs.Prelude.{◌≡◌, ℕ, ℤ, pos, List}
use Rattle.vx_settle.specs.declared.position.Contract.{Contract}
use Rattle.vx_settle.specs.declared.position.Position.{Position}
use Rattle.vx_settle.specs.Amount.{AreAmounts, IsAmount, net_quantity, sum_of_amounts}

-- a position has one amount at a figure
abbrev pub AmountIsOne : Type 0
AmountIsOne = (figure : ℕ) (p : Position) (a b : ℤ) → IsAmount figure p a → IsAmount figure p b → a ≡ b

-- and it is a whole number of cents
abbrev pub AmountIsThere : Type 0
AmountIsThere = (figure : ℕ) (p : Position) → (amount : ℤ) × IsAmount figure p amount

-- where for each contract and each last price the quantities add to zero, the amounts do so at every figure
abbrev pub NettedSettlesToZero : Type 0
NettedSettlesToZero =
    (figure : ℕ) (ps : List Position) (amounts : List ℤ) → ((contract : Contract) (last : ℕ) → net_quantity contract last ps ≡ pos 0) → AreAmounts figure ps amounts → sum_of_amounts amounts ≡ pos 0
