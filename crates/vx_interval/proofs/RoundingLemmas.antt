-- The quotients as functions are the floor and the ceiling.
use Rattle.std.proofs.Common.{◌≡◌, ℤ, pos, neg_ℤ, ◌<ℤ◌, arith}
use Rattle.std.proofs.lemmas.Int.{ints}
use Rattle.vx_num.specs.Quotient.{IsFloor, IsCeiling}
use Rattle.vx_num.proofs.Whole.{neg_mul}
use Rattle.vx_num.proofs.Quotients.{floor_is, floor_unique, ceiling_unique}
use Rattle.vx_interval.specs.Rounding.{floor_of, ceiling_of}

-- the computed floor is the floor
pub floor_of_is : (a b : ℤ) → pos 0 <ℤ b → IsFloor a b (floor_of a b)
unfolding floor_of
floor_of_is a b h = floor_is a b h

ceiling_of_negative : (a b q : ℤ) → IsFloor (neg_ℤ a) b q → IsCeiling a b (neg_ℤ q)
ceiling_of_negative a b q f =
    let low = f.at_most in
    let high = f.next_above in
    record { at_least = omega (arith, ints, neg_mul q b); last_below = omega (arith, ints, neg_mul q b) }

-- the computed ceiling is the ceiling
pub ceiling_of_is : (a b : ℤ) → pos 0 <ℤ b → IsCeiling a b (ceiling_of a b)
unfolding ceiling_of
ceiling_of_is a b h = ceiling_of_negative a b _ (floor_is (neg_ℤ a) b h)

-- a floor is the computed one
pub floor_found : (a b z : ℤ) → pos 0 <ℤ b → IsFloor a b z → z ≡ floor_of a b
floor_found a b z h f = floor_unique a b z (floor_of a b) h f (floor_of_is a b h)

-- a ceiling is the computed one
pub ceiling_found : (a b z : ℤ) → pos 0 <ℤ b → IsCeiling a b z → z ≡ ceiling_of a b
ceiling_found a b z h f = ceiling_unique a b z (ceiling_of a b) h f (ceiling_of_is a b h)
