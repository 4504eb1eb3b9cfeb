-- Laws of quotients that are rounded down and up. `IsFloor a b q` and `IsCeiling a b q` are the definitions; the divisor is above 0.
use Rattle.std.proofs.Common.{◌≡◌, ◌∙◌, ℕ, zero, suc, ◌*◌, ◌/◌, ◌<◌, ◌≤◌, ℤ, pos, negsuc, ◌+ℤ◌, ◌-ℤ◌, ◌*ℤ◌, neg_ℤ, ◌≤ℤ◌, ◌<ℤ◌, arith}
use Rattle.std.specs.Int.{int_div_euclid}
use Rattle.std.proofs.lemmas.Int.{ints}
use native.Mathlib.Nat.{mul-le-mul_left}
use Rattle.vx_num.specs.Quotient.{IsFloor, IsCeiling}
use Rattle.vx_num.proofs.Whole.{add_mul, sub_mul, neg_mul, mul_left_comm, mul_mono, mul_mono_left, mul_cancel, mul_cancel_strict, mul_strict_left, mul_add}

-- ---- what the code computes

-- the quotient whose remainder is not negative is the floor
pub floor_is : (a b : ℤ) → pos 0 <ℤ b → IsFloor a b (int_div_euclid a b)
floor_is (pos a) (pos b) h = record { at_most = omega (arith, ints); next_above = omega (arith, ints) }
floor_is (negsuc a) (pos b) h = record { at_most = omega (arith, ints); next_above = omega (arith, ints) }
floor_is a (negsuc b) h = absurd (omega (arith, ints))

-- of naturals it is the quotient of naturals
pub floor_of_naturals : (a b : ℕ) → 0 < b → IsFloor (pos a) (pos b) (pos (a / b))
floor_of_naturals a b h = floor_is (pos a) (pos b) (omega (arith, ints))

-- one above the floor of (a - 1) / b is the ceiling of a / b
pub ceiling_above : (a b q : ℤ) → IsFloor (a -ℤ pos 1) b q → IsCeiling a b (q +ℤ pos 1)
ceiling_above a b q h =
    let step = add_mul q (pos 1) b in
    let same : pos 1 *ℤ b ≡ b = omega (arith, ints) in
    let low = h.at_most in
    let high = h.next_above in
    record { at_least = omega (arith, ints); last_below = omega (arith, ints) }

-- the floor of a quotient that is not negative is at most its dividend
pub floor_at_most : (a b q : ℤ) → pos 0 ≤ℤ a → pos 0 <ℤ b → IsFloor a b q → q ≤ℤ a
floor_at_most a (pos zero) q n h f = absurd (omega (arith, ints))
floor_at_most a (pos (suc b)) (pos q) n h f = let low = f.at_most in let more : q * 1 ≤ q * suc b = mul-le-mul_left q (omega arith) in omega (arith, ints)
floor_at_most a (pos (suc b)) (negsuc q) n h f = omega (arith, ints)
floor_at_most a (negsuc b) q n h f = absurd (omega (arith, ints))

-- ---- greatest and least

next : (q b : ℤ) → (q +ℤ pos 1) *ℤ b ≡ q *ℤ b +ℤ b
next q b = add_mul q (pos 1) b ∙ omega (arith, ints)

-- z * b ≤ a exactly where z is at most the floor
pub floor_greatest : (a b q z : ℤ) → pos 0 <ℤ b → IsFloor a b q → (z *ℤ b) ≤ℤ a → z ≤ℤ q
floor_greatest a b q z p f h =
    let high = f.next_above in
    let below : z <ℤ (q +ℤ pos 1) = mul_cancel_strict z (q +ℤ pos 1) b p (omega (arith, ints, next q b)) in
    omega (arith, ints)

-- what is at most the floor is at most the quotient
pub below_floor : (a b q z : ℤ) → pos 0 <ℤ b → IsFloor a b q → z ≤ℤ q → (z *ℤ b) ≤ℤ a
below_floor a b q z p f h = let low = f.at_most in omega (arith, ints, mul_mono z q b (omega (arith, ints)) h)

-- a ≤ z * b exactly where z is at least the ceiling
pub ceiling_least : (a b q z : ℤ) → pos 0 <ℤ b → IsCeiling a b q → a ≤ℤ (z *ℤ b) → q ≤ℤ z
ceiling_least a b q z p f h =
    let high = f.last_below in
    let below : q <ℤ (z +ℤ pos 1) = mul_cancel_strict q (z +ℤ pos 1) b p (omega (arith, ints, next z b)) in
    omega (arith, ints)

-- what is at least the ceiling is at least the quotient
pub above_ceiling : (a b q z : ℤ) → pos 0 <ℤ b → IsCeiling a b q → q ≤ℤ z → a ≤ℤ (z *ℤ b)
above_ceiling a b q z p f h = let low = f.at_least in omega (arith, ints, mul_mono q z b (omega (arith, ints)) h)

-- there is one floor and one ceiling
pub floor_unique : (a b q r : ℤ) → pos 0 <ℤ b → IsFloor a b q → IsFloor a b r → q ≡ r
floor_unique a b q r p f g =
    let one = floor_greatest a b r q p g f.at_most in
    let two = floor_greatest a b q r p f g.at_most in
    omega (arith, ints)

-- two ceilings of one quotient are the same
pub ceiling_unique : (a b q r : ℤ) → pos 0 <ℤ b → IsCeiling a b q → IsCeiling a b r → q ≡ r
ceiling_unique a b q r p f g =
    let one = ceiling_least a b q r p f g.at_least in
    let two = ceiling_least a b r q p g f.at_least in
    omega (arith, ints)

-- they grow with the dividend, and the floor is at most the ceiling
pub floor_mono : (a a' b q q' : ℤ) → pos 0 <ℤ b → a ≤ℤ a' → IsFloor a b q → IsFloor a' b q' → q ≤ℤ q'
floor_mono a a' b q q' p h f g = let low = f.at_most in floor_greatest a' b q' q p g (omega (arith, ints))

-- a ceiling grows with its dividend
pub ceiling_mono : (a a' b q q' : ℤ) → pos 0 <ℤ b → a ≤ℤ a' → IsCeiling a b q → IsCeiling a' b q' → q ≤ℤ q'
ceiling_mono a a' b q q' p h f g = let low = g.at_least in ceiling_least a b q q' p f (omega (arith, ints))

-- the floor is at most the ceiling
pub floor_at_most_ceiling : (a b q r : ℤ) → pos 0 <ℤ b → IsFloor a b q → IsCeiling a b r → q ≤ℤ r
floor_at_most_ceiling a b q r p f g = let low = f.at_most in let high = g.at_least in mul_cancel q r b p (omega (arith, ints))

-- a quotient that is whole
pub floor_exact : (z b : ℤ) → pos 0 <ℤ b → IsFloor (z *ℤ b) b z
floor_exact z b p = record { at_most = omega (arith, ints); next_above = omega (arith, ints) }

-- a whole quotient is its own ceiling
pub ceiling_exact : (z b : ℤ) → pos 0 <ℤ b → IsCeiling (z *ℤ b) b z
ceiling_exact z b p = record { at_least = omega (arith, ints); last_below = omega (arith, ints) }

-- |a| ≤ m * b: the quotient is at most m in absolute value
pub floor_within : (a b q m : ℤ) → pos 0 <ℤ b → neg_ℤ (m *ℤ b) ≤ℤ a → a ≤ℤ (m *ℤ b) → IsFloor a b q → (neg_ℤ m ≤ℤ q) × (q ≤ℤ m)
floor_within a b q m p low high f =
    let f1 = f.at_most in
    let lower = floor_greatest a b q (neg_ℤ m) p f (omega (arith, ints, neg_mul m b)) in
    let upper = mul_cancel q m b p (omega (arith, ints)) in
    (lower, upper)

-- the same for a ceiling
pub ceiling_within : (a b q m : ℤ) → pos 0 <ℤ b → neg_ℤ (m *ℤ b) ≤ℤ a → a ≤ℤ (m *ℤ b) → IsCeiling a b q → (neg_ℤ m ≤ℤ q) × (q ≤ℤ m)
ceiling_within a b q m p low high f =
    let f1 = f.at_least in
    let upper = ceiling_least a b q m p f high in
    let lower = mul_cancel (neg_ℤ m) q b p (omega (arith, ints, neg_mul m b)) in
    (lower, upper)

-- |a| ≤ m: the same for every divisor
pub floor_within_dividend : (a b q m : ℤ) → pos 0 <ℤ b → neg_ℤ m ≤ℤ a → a ≤ℤ m → IsFloor a b q → (neg_ℤ m ≤ℤ q) × (q ≤ℤ m)
floor_within_dividend a b q m p low high f =
    let grown = mul_mono_left (pos 1) b m (omega (arith, ints)) (omega (arith, ints)) in
    let one : m *ℤ pos 1 ≡ m = omega (arith, ints) in
    floor_within a b q m p (omega (arith, ints)) (omega (arith, ints)) f

-- the same for a ceiling
pub ceiling_within_dividend : (a b q m : ℤ) → pos 0 <ℤ b → neg_ℤ m ≤ℤ a → a ≤ℤ m → IsCeiling a b q → (neg_ℤ m ≤ℤ q) × (q ≤ℤ m)
ceiling_within_dividend a b q m p low high f =
    let grown = mul_mono_left (pos 1) b m (omega (arith, ints)) (omega (arith, ints)) in
    let one : m *ℤ pos 1 ≡ m = omega (arith, ints) in
    ceiling_within a b q m p (omega (arith, ints)) (omega (arith, ints)) f

-- a' - a ≤ g: the ceiling of a' / b and the floor of a / b are less than g / b + 2 apart
pub quotient_gap : (a a' b g q r : ℤ) → (a' -ℤ a) ≤ℤ g → IsFloor a b q → IsCeiling a' b r → ((r -ℤ q) *ℤ b) <ℤ (g +ℤ (b +ℤ b))
quotient_gap a a' b g q r h f c = let low = f.next_above in let high = c.last_below in omega (arith, ints, sub_mul r q b)

-- the ceiling is at most one above the floor
pub quotient_one : (a b q r : ℤ) → pos 0 <ℤ b → IsFloor a b q → IsCeiling a b r → r ≤ℤ (q +ℤ pos 1)
quotient_one a b q r p f c =
    let low = f.next_above in
    let high = c.last_below in
    let below : r <ℤ (q +ℤ pos 1 +ℤ pos 1) = mul_cancel_strict r (q +ℤ pos 1 +ℤ pos 1) b p (omega (arith, ints, next (q +ℤ pos 1) b, next q b)) in
    omega (arith, ints)

-- a common factor above 0 cancels
pub floor_scaled : (k a b q : ℤ) → pos 0 <ℤ k → IsFloor a b q → IsFloor (k *ℤ a) (k *ℤ b) q
floor_scaled k a b q p f =
    let low = mul_mono_left (q *ℤ b) a k (omega (arith, ints)) f.at_most in
    let high = mul_strict_left a (q *ℤ b +ℤ b) k p f.next_above in
    let moved = mul_left_comm q k b in
    record { at_most = omega (arith, ints); next_above = omega (arith, ints, mul_add k (q *ℤ b) b) }

-- the same for a ceiling
pub ceiling_scaled : (k a b q : ℤ) → pos 0 <ℤ k → IsCeiling a b q → IsCeiling (k *ℤ a) (k *ℤ b) q
ceiling_scaled k a b q p f =
    let low = mul_mono_left a (q *ℤ b) k (omega (arith, ints)) f.at_least in
    let high = mul_strict_left (q *ℤ b) (a +ℤ b) k p f.last_below in
    let moved = mul_left_comm q k b in
    record { at_least = omega (arith, ints); last_below = omega (arith, ints, mul_add k a b) }
