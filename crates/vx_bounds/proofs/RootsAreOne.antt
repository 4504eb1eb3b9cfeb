-- A value has at most one root on either side, and the lower root of a value is at most the upper root of one that is not less.
use Rattle.std.proofs.Common.{◌≡◌, ◌^◌, ℤ, pos, ◌+ℤ◌, ◌-ℤ◌, ◌≤ℤ◌, ◌<ℤ◌, arith}
use Rattle.std.proofs.lemmas.Int.{ints, by_lt_z}
use Rattle.vx_num.specs.SignedSquare.{signed_square}
use Rattle.vx_num.proofs.Whole.{mul_mono, mul_mono_left, mul_cancel}
use Rattle.vx_num.proofs.Squares.{signed_square_mono, signed_square_cancel}
use Rattle.vx_bounds.specs.Root.{IsGreatestRoot, IsLeastRoot}

-- a lesser number is not the greatest root
greatest_is_at_least : (u y a b : ℤ) → pos 0 ≤ℤ u → IsGreatestRoot u y a → IsGreatestRoot u y b → b ≤ℤ a
greatest_is_at_least u y a b h k l =
    by_lt_z a b
    (λ less.
    let step = mul_mono (signed_square (a +ℤ pos 1)) (signed_square b) u h (signed_square_mono (a +ℤ pos 1) b (omega (arith, ints))) in
    let above = k.next_above in
    let below = l.at_most in
    absurd (omega (arith, ints)))
    (λ more. more)

least_is_at_most : (u y a b : ℤ) → pos 0 ≤ℤ u → IsLeastRoot u y a → IsLeastRoot u y b → a ≤ℤ b
least_is_at_most u y a b h k l =
    by_lt_z b a
    (λ less.
    let step = mul_mono (signed_square b) (signed_square (a -ℤ pos 1)) u h (signed_square_mono b (a -ℤ pos 1) (omega (arith, ints))) in
    let below = k.last_below in
    let above = l.at_least in
    absurd (omega (arith, ints)))
    (λ more. more)

same : (a b : ℤ) → a ≤ℤ b → b ≤ℤ a → a ≡ b
same a b h k = omega (arith, ints)

-- there is one greatest root below and one least root above
pub roots_are_one : (u y a b : ℤ) → pos 0 ≤ℤ u → (IsGreatestRoot u y a → IsGreatestRoot u y b → a ≡ b) × (IsLeastRoot u y a → IsLeastRoot u y b → a ≡ b)
roots_are_one u y a b h = (
  (λ k l. same a b (greatest_is_at_least u y b a h l k) (greatest_is_at_least u y a b h k l)),
  (λ k l. same a b (least_is_at_most u y a b h k l) (least_is_at_most u y b a h l k)),
)

-- the root below a number is at most the root above a number that is no less
pub roots_are_ordered : (u x y a b : ℤ) → pos 0 <ℤ u → x ≤ℤ y → IsGreatestRoot u x a → IsLeastRoot u y b → a ≤ℤ b
roots_are_ordered u x y a b h less k l =
    let step = mul_mono_left x y (pos (10 ^ 16)) (omega (arith, ints)) less in
    let below = k.at_most in
    let above = l.at_least in
    signed_square_cancel a b (mul_cancel (signed_square a) (signed_square b) u h (omega (arith, ints)))
