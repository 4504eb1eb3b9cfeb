-- The laws of the root's ends and of the decision.
use Rattle.std.specs.Prelude.{◌≡◌, ℤ, pos, ◌≤ℤ◌, ◌<ℤ◌}
use Rattle.vx_bounds.specs.Root.{IsGreatestRoot, IsLeastRoot}
use Rattle.vx_bounds.specs.Cents.{Decides}
use Rattle.vx_bounds.specs.declared.cents.Decision.{Decision}

-- at most one number is the greatest root of y / u, and at most one the least
abbrev pub RootsAreOne : Type 0
RootsAreOne = (u y a b : ℤ) → pos 0 ≤ℤ u → (IsGreatestRoot u y a → IsGreatestRoot u y b → a ≡ b) × (IsLeastRoot u y a → IsLeastRoot u y b → a ≡ b)

-- the greatest root of x / u is at most the least root of y / u, where x is at most y
abbrev pub RootsAreOrdered : Type 0
RootsAreOrdered = (u x y a b : ℤ) → pos 0 <ℤ u → x ≤ℤ y → IsGreatestRoot u x a → IsLeastRoot u y b → a ≤ℤ b

-- at most one decision is that of two ends in order
abbrev pub DecisionIsOne : Type 0
DecisionIsOne = (lo hi : ℤ) (a b : Decision) → lo ≤ℤ hi → Decides lo hi a → Decides lo hi b → a ≡ b
