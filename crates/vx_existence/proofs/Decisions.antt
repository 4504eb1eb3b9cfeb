-- Of any two ends there is a decision.
use Rattle.std.proofs.Common.{refl, ℕ, ◌+◌, ◌*◌, ◌<◌, ◌≤◌, ℤ, pos, negsuc, ◌<ℤ◌, inl, inr, arith}
use Rattle.std.proofs.lemmas.Int.{ints, by_lt_z}
use Rattle.vx_bounds.specs.Cents.{cents_of, IsStraddled}
use Rattle.vx_bounds.specs.declared.cents.Decision.TheVariants.{Cents, Straddle, Negative}
use Rattle.vx_existence.specs.Existence.{EndsAreDecided}

-- the first boundary above v
abbrev next_boundary : ℕ → ℕ
next_boundary v = 10000 * cents_of v + 5000

is_above : (v : ℕ) → v < next_boundary v
is_above v = omega arith

-- no boundary comes between
no_earlier : (v k : ℕ) → v < 10000 * k + 5000 → next_boundary v ≤ 10000 * k + 5000
no_earlier v k above = omega (arith, above)

-- no boundary lies between a number and an end below the boundary that comes next after it
pub not_straddled : (v : ℕ) (hi : ℤ) → hi <ℤ pos (next_boundary v) → IsStraddled (pos v) hi → ⊥
not_straddled v hi short (b, inl zero, above, most) = omega (arith, ints, zero, above)
not_straddled v hi short (b, inr (k, is), above, most) =
    let later : v < 10000 * k + 5000 = omega (arith, ints, is, above) in
    let past = no_earlier v k later in
    omega (arith, ints, is, most, short, past)

-- two ends below zero straddle no boundary
negative_not_straddled : (n : ℕ) (hi : ℤ) → hi <ℤ pos 0 → IsStraddled (negsuc n) hi → ⊥
negative_not_straddled n hi below (b, inl zero, above, most) = omega (arith, ints, zero, most, below)
negative_not_straddled n hi below (b, inr (k, is), above, most) = omega (arith, ints, is, most, below)

-- of any two ends there is a decision
pub ends_are_decided : EndsAreDecided
ends_are_decided (pos v) hi =
    by_lt_z hi (pos (next_boundary v)) (λ short. (Cents (cents_of v), (not_straddled v hi short, omega (arith, ints), v, refl, refl)))
    (λ long. let above = is_above v in (Straddle, (pos (next_boundary v), inr (cents_of v, refl), omega (arith, ints, above), long)))
ends_are_decided (negsuc n) hi =
    by_lt_z hi (pos 0) (λ below. (Negative, (negative_not_straddled n hi below, below))) (λ most. (Straddle, (pos 0, inl refl, omega (arith, ints), most)))
