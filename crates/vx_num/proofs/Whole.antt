-- Laws of products of whole numbers, which `omega (arith, ints)` does not find, since it takes a product for an unknown.
-- A proof in another crate cites them by `use Rattle.vx_num.proofs.Whole.{mul_mono}`, and hands them to `omega` with their arguments: `omega (arith, ints, mul_mono a b c p h)`.
use Rattle.std.proofs.Common.{◌≡◌, ap, ◌∙◌, ◌+◌, ◌*◌, ◌≤◌, ℤ, pos, negsuc, ◌+ℤ◌, ◌-ℤ◌, ◌*ℤ◌, neg_ℤ, ◌≤ℤ◌, ◌<ℤ◌, arith}
use Rattle.std.proofs.lemmas.Int.{ints, by_lt_z}
use Rattle.std.proofs.Math.IntN.{*ℤ_comm}
use native.Mathlib.Nat.{mul-le-mul_right}
use borrow.Author.Differences.{up, down, sum_is_lem, product_is, neg_is, same_in}

-- ---- the ring

up-mul : (a b : ℤ) → up (a *ℤ b) ≡ up a * up b + down a * down b
up-mul a b = (product_is a b).0

down-mul : (a b : ℤ) → down (a *ℤ b) ≡ up a * down b + down a * up b
down-mul a b = (product_is a b).1

up-neg : (a : ℤ) → up (neg_ℤ a) ≡ down a
up-neg a = (neg_is a).0

down-neg : (a : ℤ) → down (neg_ℤ a) ≡ up a
down-neg a = (neg_is a).1

-- products commute
pub mul_comm : (a b : ℤ) → a *ℤ b ≡ b *ℤ a
mul_comm a b = *ℤ_comm a b

-- and associate
pub mul_assoc : (a b c : ℤ) → (a *ℤ b) *ℤ c ≡ a *ℤ (b *ℤ c)
mul_assoc a b c = same_in ((a *ℤ b) *ℤ c) (a *ℤ (b *ℤ c)) (simp (up-mul, down-mul) (omega arith))

-- two products, their factors exchanged
pub mul_swap : (a b c d : ℤ) → (a *ℤ b) *ℤ (c *ℤ d) ≡ (a *ℤ c) *ℤ (b *ℤ d)
mul_swap a b c d = same_in ((a *ℤ b) *ℤ (c *ℤ d)) ((a *ℤ c) *ℤ (b *ℤ d)) (simp (up-mul, down-mul) (omega arith))

-- a factor moves out of a product
pub mul_left_comm : (a b c : ℤ) → a *ℤ (b *ℤ c) ≡ b *ℤ (a *ℤ c)
mul_left_comm a b c = same_in (a *ℤ (b *ℤ c)) (b *ℤ (a *ℤ c)) (simp (up-mul, down-mul) (omega arith))

-- the last two factors are exchanged
pub mul_right_comm : (a b c : ℤ) → (a *ℤ b) *ℤ c ≡ (a *ℤ c) *ℤ b
mul_right_comm a b c = same_in ((a *ℤ b) *ℤ c) ((a *ℤ c) *ℤ b) (simp (up-mul, down-mul) (omega arith))

-- a sum or a difference times c, and c times it
pub add_mul : (a b c : ℤ) → (a +ℤ b) *ℤ c ≡ a *ℤ c +ℤ b *ℤ c
add_mul a b c =
    let above = ap (λ x. x * up c) (sum_is_lem a b) in
    let below = ap (λ x. x * down c) (sum_is_lem a b) in
    omega (arith, ints)

-- a times a sum
pub mul_add : (a b c : ℤ) → a *ℤ (b +ℤ c) ≡ a *ℤ b +ℤ a *ℤ c
mul_add a b c = mul_comm a (b +ℤ c) ∙ add_mul b c a ∙ omega (arith, ints)

-- the opposite of the first factor gives the opposite product
pub neg_mul : (a b : ℤ) → neg_ℤ a *ℤ b ≡ neg_ℤ (a *ℤ b)
neg_mul a b = same_in (neg_ℤ a *ℤ b) (neg_ℤ (a *ℤ b)) (simp (up-mul, down-mul, up-neg, down-neg) (omega arith))

-- and so does that of the second
pub mul_neg : (a b : ℤ) → a *ℤ neg_ℤ b ≡ neg_ℤ (a *ℤ b)
mul_neg a b = mul_comm a (neg_ℤ b) ∙ neg_mul b a ∙ ap neg_ℤ (mul_comm b a)

-- a difference times c
pub sub_mul : (a b c : ℤ) → (a -ℤ b) *ℤ c ≡ a *ℤ c -ℤ b *ℤ c
sub_mul a b c = add_mul a (neg_ℤ b) c ∙ ap (λ z. a *ℤ c +ℤ z) (neg_mul b c)

-- a times a difference
pub mul_sub : (a b c : ℤ) → a *ℤ (b -ℤ c) ≡ a *ℤ b -ℤ a *ℤ c
mul_sub a b c = mul_add a b (neg_ℤ c) ∙ ap (λ z. a *ℤ b +ℤ z) (mul_neg a c)

-- ---- the order

-- both sides times a number that is not negative, or not positive
pub mul_mono : (a b c : ℤ) → pos 0 ≤ℤ c → a ≤ℤ b → (a *ℤ c) ≤ℤ (b *ℤ c)
mul_mono a b (pos c) p h = let s : up a + down b ≤ up b + down a = omega (arith, ints) in omega (arith, ints, mul-le-mul_right c s)
mul_mono a b (negsuc c) p h = absurd (omega (arith, ints))

-- the same with the common factor in front
pub mul_mono_left : (a b c : ℤ) → pos 0 ≤ℤ c → a ≤ℤ b → (c *ℤ a) ≤ℤ (c *ℤ b)
mul_mono_left a b c p h = rw (mul_comm c a, mul_comm c b) (mul_mono a b c p h)

-- a factor that is not positive turns the order
pub mul_anti : (a b c : ℤ) → c ≤ℤ pos 0 → a ≤ℤ b → (b *ℤ c) ≤ℤ (a *ℤ c)
mul_anti a b c p h =
    let turned : pos 0 ≤ℤ neg_ℤ c = omega (arith, ints) in
    omega (arith, ints, mul_mono a b (neg_ℤ c) turned h, mul_neg a c, mul_neg b c)

-- the same with the common factor in front
pub mul_anti_left : (a b c : ℤ) → c ≤ℤ pos 0 → a ≤ℤ b → (c *ℤ b) ≤ℤ (c *ℤ a)
mul_anti_left a b c p h = rw (mul_comm c a, mul_comm c b) (mul_anti a b c p h)

-- both sides times a number above 0
pub mul_strict : (a b c : ℤ) → pos 0 <ℤ c → a <ℤ b → (a *ℤ c) <ℤ (b *ℤ c)
mul_strict a b c p h =
    let next : (a +ℤ pos 1) ≤ℤ b = omega (arith, ints) in
    let one : pos 1 *ℤ c ≡ c = omega (arith, ints) in
    let some : pos 0 ≤ℤ c = omega (arith, ints) in
    omega (arith, ints, mul_mono (a +ℤ pos 1) b c some next, add_mul a (pos 1) c, one)

-- the same with the common factor in front
pub mul_strict_left : (a b c : ℤ) → pos 0 <ℤ c → a <ℤ b → (c *ℤ a) <ℤ (c *ℤ b)
mul_strict_left a b c p h = rw (mul_comm c a, mul_comm c b) (mul_strict a b c p h)

-- a factor above 0 cancels
pub mul_cancel : (a b c : ℤ) → pos 0 <ℤ c → (a *ℤ c) ≤ℤ (b *ℤ c) → a ≤ℤ b
mul_cancel a b c p h = by_lt_z b a (λ l. absurd (omega (arith, ints, mul_strict b a c p l))) (λ l. l)

-- also where the order is strict
pub mul_cancel_strict : (a b c : ℤ) → pos 0 <ℤ c → (a *ℤ c) <ℤ (b *ℤ c) → a <ℤ b
mul_cancel_strict a b c p h = by_lt_z a b (λ l. l) (λ l. absurd (omega (arith, ints, mul_mono b a c (omega (arith, ints)) l)))

-- the same with the common factor in front
pub mul_cancel_left : (a b c : ℤ) → pos 0 <ℤ c → (c *ℤ a) ≤ℤ (c *ℤ b) → a ≤ℤ b
mul_cancel_left a b c p h = mul_cancel a b c p (rw (mul_comm a c, mul_comm b c) h)

-- also where the order is strict
pub mul_cancel_strict_left : (a b c : ℤ) → pos 0 <ℤ c → (c *ℤ a) <ℤ (c *ℤ b) → a <ℤ b
mul_cancel_strict_left a b c p h = mul_cancel_strict a b c p (rw (mul_comm a c, mul_comm b c) h)

-- equal products with a factor above 0 have equal other factors
pub mul_cancel_equal : (a b c : ℤ) → pos 0 <ℤ c → a *ℤ c ≡ b *ℤ c → a ≡ b
mul_cancel_equal a b c p e =
    let low = mul_cancel a b c p (omega (arith, ints)) in
    let high = mul_cancel b a c p (omega (arith, ints)) in
    omega (arith, ints)

-- signs of a product
pub mul_nonneg : (a b : ℤ) → pos 0 ≤ℤ a → pos 0 ≤ℤ b → pos 0 ≤ℤ (a *ℤ b)
mul_nonneg a b p q = omega (arith, ints, mul_mono (pos 0) a b q p)

-- factors above 0 have a product above 0
pub mul_positive : (a b : ℤ) → pos 0 <ℤ a → pos 0 <ℤ b → pos 0 <ℤ (a *ℤ b)
mul_positive a b p q = omega (arith, ints, mul_strict (pos 0) a b q p)

-- 0 ≤ a ≤ b and 0 ≤ c ≤ d: a * c ≤ b * d
pub mul_both : (a b c d : ℤ) → pos 0 ≤ℤ a → a ≤ℤ b → pos 0 ≤ℤ c → c ≤ℤ d → (a *ℤ c) ≤ℤ (b *ℤ d)
mul_both a b c d p h q k = omega (arith, ints, mul_mono a b c q h, mul_mono_left c d b (omega (arith, ints)) k)

-- a square is not negative, and grows with a number that is not negative
pub square_nonneg : (a : ℤ) → pos 0 ≤ℤ (a *ℤ a)
square_nonneg (pos a) = omega (arith, ints)
square_nonneg (negsuc a) = omega (arith, ints)

-- squares keep the order of numbers that are not negative
pub square_mono : (a b : ℤ) → pos 0 ≤ℤ a → a ≤ℤ b → (a *ℤ a) ≤ℤ (b *ℤ b)
square_mono a b p h = mul_both a b a b p h p h

-- also where it is strict
pub square_strict : (a b : ℤ) → pos 0 ≤ℤ a → a <ℤ b → (a *ℤ a) <ℤ (b *ℤ b)
square_strict a b p h =
    let some : pos 0 <ℤ b = omega (arith, ints) in
    let low : a ≤ℤ b = omega (arith, ints) in
    omega (arith, ints, mul_mono_left a b a p low, mul_strict a b b some h)

-- ---- products of numbers between bounds

-- the product of x between a and b, and y, is at least what both ends give, and at most
pub between_lower : (l a b x y : ℤ) → a ≤ℤ x → x ≤ℤ b → l ≤ℤ (a *ℤ y) → l ≤ℤ (b *ℤ y) → l ≤ℤ (x *ℤ y)
between_lower l a b x y low high p q = by_lt_z y (pos 0) (λ n. omega (arith, ints, mul_anti x b y (omega (arith, ints)) high)) (λ n. omega (arith, ints, mul_mono a x y n low))

-- and at most what both ends give
pub between_upper : (h a b x y : ℤ) → a ≤ℤ x → x ≤ℤ b → (a *ℤ y) ≤ℤ h → (b *ℤ y) ≤ℤ h → (x *ℤ y) ≤ℤ h
between_upper h a b x y low high p q = by_lt_z y (pos 0) (λ n. omega (arith, ints, mul_anti a x y (omega (arith, ints)) low)) (λ n. omega (arith, ints, mul_mono x b y n high))

-- corners: a ≤ x ≤ b and c ≤ y ≤ d. What is at most each of the four corner products is at most x * y, and what is at least each is at least x * y
pub corners_lower : (l a b c d x y : ℤ) → a ≤ℤ x → x ≤ℤ b → c ≤ℤ y → y ≤ℤ d → l ≤ℤ (a *ℤ c) → l ≤ℤ (a *ℤ d) → l ≤ℤ (b *ℤ c) → l ≤ℤ (b *ℤ d) → l ≤ℤ (x *ℤ y)
corners_lower l a b c d x y xl xh yl yh ac ad bc bd =
    let at_a = between_lower l c d y a yl yh (rw (mul_comm c a) ac) (rw (mul_comm d a) ad) in
    let at_b = between_lower l c d y b yl yh (rw (mul_comm c b) bc) (rw (mul_comm d b) bd) in
    between_lower l a b x y xl xh (rw (mul_comm a y) at_a) (rw (mul_comm b y) at_b)

-- what is at least each corner product is at least x * y
pub corners_upper : (h a b c d x y : ℤ) → a ≤ℤ x → x ≤ℤ b → c ≤ℤ y → y ≤ℤ d → (a *ℤ c) ≤ℤ h → (a *ℤ d) ≤ℤ h → (b *ℤ c) ≤ℤ h → (b *ℤ d) ≤ℤ h → (x *ℤ y) ≤ℤ h
corners_upper h a b c d x y xl xh yl yh ac ad bc bd =
    let at_a = between_upper h c d y a yl yh (rw (mul_comm c a) ac) (rw (mul_comm d a) ad) in
    let at_b = between_upper h c d y b yl yh (rw (mul_comm c b) bc) (rw (mul_comm d b) bd) in
    between_upper h a b x y xl xh (rw (mul_comm a y) at_a) (rw (mul_comm b y) at_b)
