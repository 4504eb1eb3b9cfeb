-- What positions settle to, and how they net (after the contracts' terms).
use Rattle.std.specs.Prelude.{ℕ, Bool, true, false, ◌&&◌, ◌==◌, ℤ, pos, ◌+ℤ◌, List, [], ◌∷◌, if◌then◌else◌}
use Rattle.vx_formula.specs.Settlement.{IsSettlementAmount}
use Rattle.vx_settle.specs.declared.position.Contract.{Contract}
use Rattle.vx_settle.specs.declared.position.Contract.TheVariants.{Vx, Vxm}
use Rattle.vx_settle.specs.declared.position.Position.{Position}
use Rattle.vx_settle.specs.Position.{open_position_of}

-- the amount of a position in cents at a figure in hundredths of a point; negative where it is paid
abbrev pub IsAmount : ℕ → Position → ℤ → Type 0
IsAmount figure p amount = IsSettlementAmount figure (open_position_of p) amount

-- the amounts of positions at one figure, in their order
abbrev pub AreAmounts : ℕ → List Position → List ℤ → Type 0
AreAmounts figure [] [] = Unit {0}
AreAmounts figure [] (amount ∷ amounts) = ⊥
AreAmounts figure (p ∷ ps) [] = ⊥
AreAmounts figure (p ∷ ps) (amount ∷ amounts) = IsAmount figure p amount × AreAmounts figure ps amounts

-- the sum of amounts, in cents
abbrev pub sum_of_amounts : List ℤ → ℤ
sum_of_amounts [] = pos 0
sum_of_amounts (amount ∷ amounts) = amount +ℤ sum_of_amounts amounts

abbrev pub is_same_contract : Contract → Contract → Bool
is_same_contract Vx Vx = true
is_same_contract Vx Vxm = false
is_same_contract Vxm Vx = false
is_same_contract Vxm Vxm = true

-- a position in this contract with this last price
abbrev pub is_position_at : Contract → ℕ → Position → Bool
is_position_at contract last p = is_same_contract contract p.contract && (last == p.last)

-- the sum of the quantities of the positions in a contract with a last price
abbrev pub net_quantity : Contract → ℕ → List Position → ℤ
net_quantity contract last [] = pos 0
net_quantity contract last (p ∷ ps) =
    if is_position_at contract last p then p.quantity +ℤ net_quantity contract last ps
    else net_quantity contract last ps
