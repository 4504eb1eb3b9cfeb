-- Laws of fractions. Each is stated twice where both forms serve: of tops and bottoms, which are cross-multiplied in the statement, and of `Fraction`s.
-- Bottoms are naturals, written `pos m` in a product. A bound that divides by a scale `u` reads `l / u ≤ n / m` as `(l *ℤ pos m) ≤ℤ (n *ℤ pos u)`.
use Rattle.std.proofs.Common.{◌≡◌, refl, sym, ap, ◌∙◌, ℕ, zero, suc, ◌*◌, ◌≤◌, ◌⊎◌, ◌↔◌, inl, inr, ℤ, pos, ◌+ℤ◌, ◌-ℤ◌, ◌*ℤ◌, ◌≤ℤ◌, ◌<ℤ◌, arith}
use Rattle.std.proofs.lemmas.Int.{ints, by_lt_z}
use Rattle.vx_num.specs.Fraction.{Fraction, IsProper, ◌+ᶠ◌, ◌-ᶠ◌, ◌*ᶠ◌, ◌/ᶠ◌, ◌≤ᶠ◌, ◌<ᶠ◌, ◌≃ᶠ◌, whole}
use Rattle.vx_num.proofs.Differences.{is_difference, differences, same_difference}
use Rattle.vx_num.proofs.Whole.{mul_comm, mul_assoc, mul_swap, mul_right_comm, add_mul, mul_mono, mul_mono_left, mul_strict, mul_anti, mul_anti_left, mul_cancel, mul_cancel_strict, mul_both, mul_nonneg, mul_positive}

-- ---- tops and bottoms

-- n1 / m1 ≤ n2 / m2 ≤ n3 / m3. The bottoms may be any whole numbers of the stated signs
pub cross_trans : (n1 m1 n2 m2 n3 m3 : ℤ) → pos 0 ≤ℤ m1 → pos 0 <ℤ m2 → pos 0 ≤ℤ m3 → (n1 *ℤ m2) ≤ℤ (n2 *ℤ m1) → (n2 *ℤ m3) ≤ℤ (n3 *ℤ m2) → (n1 *ℤ m3) ≤ℤ (n3 *ℤ m1)
cross_trans n1 m1 n2 m2 n3 m3 p q r h k =
    let low = mul_mono (n1 *ℤ m2) (n2 *ℤ m1) m3 r h in
    let high = mul_mono (n2 *ℤ m3) (n3 *ℤ m2) m1 p k in
    let left = mul_right_comm n1 m2 m3 in
    let middle = mul_right_comm n2 m1 m3 in
    let right = mul_right_comm n3 m2 m1 in
    mul_cancel (n1 *ℤ m3) (n3 *ℤ m1) m2 q (omega (arith, ints))

-- the same where one of the two steps is strict
pub cross_trans_strict_left : (n1 m1 n2 m2 n3 m3 : ℤ) → pos 0 ≤ℤ m1 → pos 0 <ℤ m2 → pos 0 <ℤ m3 → (n1 *ℤ m2) <ℤ (n2 *ℤ m1) → (n2 *ℤ m3) ≤ℤ (n3 *ℤ m2) → (n1 *ℤ m3) <ℤ (n3 *ℤ m1)
cross_trans_strict_left n1 m1 n2 m2 n3 m3 p q r h k =
    let low = mul_strict (n1 *ℤ m2) (n2 *ℤ m1) m3 r h in
    let high = mul_mono (n2 *ℤ m3) (n3 *ℤ m2) m1 p k in
    let left = mul_right_comm n1 m2 m3 in
    let middle = mul_right_comm n2 m1 m3 in
    let right = mul_right_comm n3 m2 m1 in
    mul_cancel_strict (n1 *ℤ m3) (n3 *ℤ m1) m2 q (omega (arith, ints))

-- strict in the second step
pub cross_trans_strict_right : (n1 m1 n2 m2 n3 m3 : ℤ) → pos 0 <ℤ m1 → pos 0 <ℤ m2 → pos 0 ≤ℤ m3 → (n1 *ℤ m2) ≤ℤ (n2 *ℤ m1) → (n2 *ℤ m3) <ℤ (n3 *ℤ m2) → (n1 *ℤ m3) <ℤ (n3 *ℤ m1)
cross_trans_strict_right n1 m1 n2 m2 n3 m3 p q r h k =
    let low = mul_mono (n1 *ℤ m2) (n2 *ℤ m1) m3 r h in
    let high = mul_strict (n2 *ℤ m3) (n3 *ℤ m2) m1 p k in
    let left = mul_right_comm n1 m2 m3 in
    let middle = mul_right_comm n2 m1 m3 in
    let right = mul_right_comm n3 m2 m1 in
    mul_cancel_strict (n1 *ℤ m3) (n3 *ℤ m1) m2 q (omega (arith, ints))

-- products of fractions that are not negative
pub cross_mul : (n1 m1 n1' m1' n2 m2 n2' m2' : ℤ) → pos 0 ≤ℤ n1 → pos 0 ≤ℤ m1' → pos 0 ≤ℤ n2 → pos 0 ≤ℤ m2' → (n1 *ℤ m1') ≤ℤ (n1' *ℤ m1) → (n2 *ℤ m2') ≤ℤ (n2' *ℤ m2) → ((n1 *ℤ n2) *ℤ (m1' *ℤ m2')) ≤ℤ ((n1' *ℤ n2') *ℤ (m1 *ℤ m2))
cross_mul n1 m1 n1' m1' n2 m2 n2' m2' p q r s h k =
    rw (mul_swap n1 n2 m1' m2', mul_swap n1' n2' m1 m2)
    (mul_both (n1 *ℤ m1') (n1' *ℤ m1) (n2 *ℤ m2') (n2' *ℤ m2) (mul_nonneg n1 m1' p q) h (mul_nonneg n2 m2' r s) k)

-- what a sum, its bounds and a difference come to, each factor beside the one that it is compared with
bounds_apart : (a b c d : ℤ) → (a +ℤ b) *ℤ (c *ℤ d) ≡ (a *ℤ c) *ℤ d +ℤ (b *ℤ d) *ℤ c
bounds_apart a b c d = rw (is_difference a, is_difference b, is_difference c, is_difference d) (simp differences (same_difference _ _ _ _ (omega arith)))

tops_apart : (a b c d e : ℤ) → (a *ℤ d +ℤ b *ℤ c) *ℤ e ≡ (a *ℤ e) *ℤ d +ℤ (b *ℤ e) *ℤ c
tops_apart a b c d e = rw (is_difference a, is_difference b, is_difference c, is_difference d, is_difference e) (simp differences (same_difference _ _ _ _ (omega arith)))

bounds_differ : (a b c d : ℤ) → (a -ℤ b) *ℤ (c *ℤ d) ≡ (a *ℤ c) *ℤ d -ℤ (b *ℤ d) *ℤ c
bounds_differ a b c d = rw (is_difference a, is_difference b, is_difference c, is_difference d) (simp differences (same_difference _ _ _ _ (omega arith)))

tops_differ : (a b c d e : ℤ) → (a *ℤ d -ℤ b *ℤ c) *ℤ e ≡ (a *ℤ e) *ℤ d -ℤ (b *ℤ e) *ℤ c
tops_differ a b c d e = rw (is_difference a, is_difference b, is_difference c, is_difference d, is_difference e) (simp differences (same_difference _ _ _ _ (omega arith)))

-- sums and differences of bounds over one scale u: l1 / u ≤ n1 / m1 and l2 / u ≤ n2 / m2, and turned
pub cross_add_lower : (l1 l2 u n1 m1 n2 m2 : ℤ) → pos 0 ≤ℤ m1 → pos 0 ≤ℤ m2 → (l1 *ℤ m1) ≤ℤ (n1 *ℤ u) → (l2 *ℤ m2) ≤ℤ (n2 *ℤ u) → ((l1 +ℤ l2) *ℤ (m1 *ℤ m2)) ≤ℤ ((n1 *ℤ m2 +ℤ n2 *ℤ m1) *ℤ u)
cross_add_lower l1 l2 u n1 m1 n2 m2 p q h k =
    omega (arith, ints, mul_mono (l1 *ℤ m1) (n1 *ℤ u) m2 q h, mul_mono (l2 *ℤ m2) (n2 *ℤ u) m1 p k, bounds_apart l1 l2 m1 m2, tops_apart n1 n2 m1 m2 u)

-- the upper bound of a sum
pub cross_add_upper : (h1 h2 u n1 m1 n2 m2 : ℤ) → pos 0 ≤ℤ m1 → pos 0 ≤ℤ m2 → (n1 *ℤ u) ≤ℤ (h1 *ℤ m1) → (n2 *ℤ u) ≤ℤ (h2 *ℤ m2) → ((n1 *ℤ m2 +ℤ n2 *ℤ m1) *ℤ u) ≤ℤ ((h1 +ℤ h2) *ℤ (m1 *ℤ m2))
cross_add_upper h1 h2 u n1 m1 n2 m2 p q h k =
    omega (arith, ints, mul_mono (n1 *ℤ u) (h1 *ℤ m1) m2 q h, mul_mono (n2 *ℤ u) (h2 *ℤ m2) m1 p k, bounds_apart h1 h2 m1 m2, tops_apart n1 n2 m1 m2 u)

-- the lower bound of a difference
pub cross_sub_lower : (l1 h2 u n1 m1 n2 m2 : ℤ) → pos 0 ≤ℤ m1 → pos 0 ≤ℤ m2 → (l1 *ℤ m1) ≤ℤ (n1 *ℤ u) → (n2 *ℤ u) ≤ℤ (h2 *ℤ m2) → ((l1 -ℤ h2) *ℤ (m1 *ℤ m2)) ≤ℤ ((n1 *ℤ m2 -ℤ n2 *ℤ m1) *ℤ u)
cross_sub_lower l1 h2 u n1 m1 n2 m2 p q h k =
    omega (arith, ints, mul_mono (l1 *ℤ m1) (n1 *ℤ u) m2 q h, mul_mono (n2 *ℤ u) (h2 *ℤ m2) m1 p k, bounds_differ l1 h2 m1 m2, tops_differ n1 n2 m1 m2 u)

-- the upper bound of a difference
pub cross_sub_upper : (h1 l2 u n1 m1 n2 m2 : ℤ) → pos 0 ≤ℤ m1 → pos 0 ≤ℤ m2 → (n1 *ℤ u) ≤ℤ (h1 *ℤ m1) → (l2 *ℤ m2) ≤ℤ (n2 *ℤ u) → ((n1 *ℤ m2 -ℤ n2 *ℤ m1) *ℤ u) ≤ℤ ((h1 -ℤ l2) *ℤ (m1 *ℤ m2))
cross_sub_upper h1 l2 u n1 m1 n2 m2 p q h k =
    omega (arith, ints, mul_mono (n1 *ℤ u) (h1 *ℤ m1) m2 q h, mul_mono (l2 *ℤ m2) (n2 *ℤ u) m1 p k, bounds_differ h1 l2 m1 m2, tops_differ n1 n2 m1 m2 u)

-- a bound w over the scale u is a bound over its square
pub cross_rescale_lower : (w c u : ℤ) → pos 0 ≤ℤ u → (w *ℤ u) ≤ℤ c → (w *ℤ (u *ℤ u)) ≤ℤ (c *ℤ u)
cross_rescale_lower w c u p h = omega (arith, ints, mul_mono (w *ℤ u) c u p h, mul_assoc w u u)

-- the same for an upper bound
pub cross_rescale_upper : (w c u : ℤ) → pos 0 ≤ℤ u → c ≤ℤ (w *ℤ u) → (c *ℤ u) ≤ℤ (w *ℤ (u *ℤ u))
cross_rescale_upper w c u p h = omega (arith, ints, mul_mono c (w *ℤ u) u p h, mul_assoc w u u)

-- z / m lies between y1 and y2, and l is at most c + s * y at both ends: l ≤ c + s * (z / m), whichever the sign of s
pub corner_lower : (l c s y1 y2 m z : ℤ) → pos 0 ≤ℤ m → (y1 *ℤ m) ≤ℤ z → z ≤ℤ (y2 *ℤ m) → l ≤ℤ (c +ℤ s *ℤ y1) → l ≤ℤ (c +ℤ s *ℤ y2) → (l *ℤ m) ≤ℤ (c *ℤ m +ℤ s *ℤ z)
corner_lower l c s y1 y2 m z p low high at_low at_high =
    by_lt_z s (pos 0)
    (λ n. omega (arith, ints, mul_mono l (c +ℤ s *ℤ y2) m p at_high, add_mul c (s *ℤ y2) m, mul_assoc s y2 m, mul_anti_left z (y2 *ℤ m) s (omega (arith, ints)) high))
    (λ n. omega (arith, ints, mul_mono l (c +ℤ s *ℤ y1) m p at_low, add_mul c (s *ℤ y1) m, mul_assoc s y1 m, mul_mono_left (y1 *ℤ m) z s n low))

-- the same for an upper bound
pub corner_upper : (h c s y1 y2 m z : ℤ) → pos 0 ≤ℤ m → (y1 *ℤ m) ≤ℤ z → z ≤ℤ (y2 *ℤ m) → (c +ℤ s *ℤ y1) ≤ℤ h → (c +ℤ s *ℤ y2) ≤ℤ h → (c *ℤ m +ℤ s *ℤ z) ≤ℤ (h *ℤ m)
corner_upper h c s y1 y2 m z p low high at_low at_high =
    by_lt_z s (pos 0)
    (λ n. omega (arith, ints, mul_mono (c +ℤ s *ℤ y1) h m p at_low, add_mul c (s *ℤ y1) m, mul_assoc s y1 m, mul_anti_left (y1 *ℤ m) z s (omega (arith, ints)) low))
    (λ n. omega (arith, ints, mul_mono (c +ℤ s *ℤ y2) h m p at_high, add_mul c (s *ℤ y2) m, mul_assoc s y2 m, mul_mono_left z (y2 *ℤ m) s n high))

-- ---- fractions

natural : (n : ℕ) → pos 0 ≤ℤ pos n
natural n = omega (arith, ints)

above_zero : (n : ℕ) → 1 ≤ n → pos 0 <ℤ pos n
above_zero n h = omega (arith, ints)

pos_mul : (m n : ℕ) → pos (m * n) ≡ pos m *ℤ pos n
pos_mul m n = refl

-- the order
pub ≤ᶠ_refl : (f : Fraction) → f ≤ᶠ f
≤ᶠ_refl f = omega (arith, ints)

pub ≤ᶠ_trans : (f g h : Fraction) → IsProper g → f ≤ᶠ g → g ≤ᶠ h → f ≤ᶠ h
≤ᶠ_trans f g h p a b = cross_trans f.top (pos f.bottom) g.top (pos g.bottom) h.top (pos h.bottom) (natural f.bottom) (above_zero g.bottom p) (natural h.bottom) a b

pub ≤ᶠ_total : (f g : Fraction) → (f ≤ᶠ g) ⊎ (g ≤ᶠ f)
≤ᶠ_total f g = by_lt_z (g.top *ℤ pos f.bottom) (f.top *ℤ pos g.bottom) (λ l. inr (omega (arith, ints))) (λ l. inl l)

pub ≤ᶠ_antisym : (f g : Fraction) → f ≤ᶠ g → g ≤ᶠ f → f ≃ᶠ g
≤ᶠ_antisym f g a b = omega (arith, ints)

pub ≃ᶠ-≤ᶠ : (f g : Fraction) → f ≃ᶠ g → f ≤ᶠ g
≃ᶠ-≤ᶠ f g e = omega (arith, ints)

pub <ᶠ-≤ᶠ : (f g : Fraction) → f <ᶠ g → f ≤ᶠ g
<ᶠ-≤ᶠ f g e = omega (arith, ints)

pub <ᶠ-≤ᶠ_trans : (f g h : Fraction) → IsProper g → IsProper h → f <ᶠ g → g ≤ᶠ h → f <ᶠ h
<ᶠ-≤ᶠ_trans f g h p q a b = cross_trans_strict_left f.top (pos f.bottom) g.top (pos g.bottom) h.top (pos h.bottom) (natural f.bottom) (above_zero g.bottom p) (above_zero h.bottom q) a b

pub ≤ᶠ-<ᶠ_trans : (f g h : Fraction) → IsProper f → IsProper g → f ≤ᶠ g → g <ᶠ h → f <ᶠ h
≤ᶠ-<ᶠ_trans f g h p q a b = cross_trans_strict_right f.top (pos f.bottom) g.top (pos g.bottom) h.top (pos h.bottom) (above_zero f.bottom p) (above_zero g.bottom q) (natural h.bottom) a b

-- two facts that cannot both hold
pub clash_ᶠ : (f g : Fraction) → f <ᶠ g → g ≤ᶠ f → ⊥
clash_ᶠ f g a b = omega (arith, ints)

-- equality in value
pub ≃ᶠ_refl : (f : Fraction) → f ≃ᶠ f
≃ᶠ_refl f = refl

pub ≃ᶠ_sym : (f g : Fraction) → f ≃ᶠ g → g ≃ᶠ f
≃ᶠ_sym f g e = sym e

pub ≃ᶠ_trans : (f g h : Fraction) → IsProper g → f ≃ᶠ g → g ≃ᶠ h → f ≃ᶠ h
≃ᶠ_trans f g h p a b = ≤ᶠ_antisym f h (≤ᶠ_trans f g h p (≃ᶠ-≤ᶠ f g a) (≃ᶠ-≤ᶠ g h b)) (≤ᶠ_trans h g f p (≃ᶠ-≤ᶠ h g (sym b)) (≃ᶠ-≤ᶠ g f (sym a)))

-- proper fractions have proper sums, differences, products and quotients
proper_product : (m n : ℕ) → 1 ≤ m → 1 ≤ n → 1 ≤ m * n
proper_product (suc m) (suc n) p q = omega arith
proper_product zero n p q = absurd (omega arith)
proper_product (suc m) zero p q = absurd (omega arith)

pub IsProper-+ᶠ : (f g : Fraction) → IsProper f → IsProper g → IsProper (f +ᶠ g)
IsProper-+ᶠ f g p q = proper_product f.bottom g.bottom p q

-- a difference of proper fractions is proper
pub IsProper--ᶠ : (f g : Fraction) → IsProper f → IsProper g → IsProper (f -ᶠ g)
IsProper--ᶠ f g p q = proper_product f.bottom g.bottom p q

pub IsProper-*ᶠ : (f g : Fraction) → IsProper f → IsProper g → IsProper (f *ᶠ g)
IsProper-*ᶠ f g p q = proper_product f.bottom g.bottom p q

pub IsProper-/ᶠ : (f : Fraction) (n : ℕ) → IsProper f → 1 ≤ n → IsProper (f /ᶠ n)
IsProper-/ᶠ f n p q = proper_product f.bottom n p q

-- sums grow with both summands, and a difference falls with what is taken away
sum_apart : (a b c d e f : ℤ) → (a *ℤ d +ℤ b *ℤ c) *ℤ (e *ℤ f) ≡ (a *ℤ e) *ℤ (d *ℤ f) +ℤ (b *ℤ f) *ℤ (c *ℤ e)
sum_apart a b c d e f = rw (is_difference a, is_difference b, is_difference c, is_difference d, is_difference e, is_difference f) (simp differences (same_difference _ _ _ _ (omega arith)))

difference_apart : (a b c d e f : ℤ) → (a *ℤ d -ℤ b *ℤ c) *ℤ (e *ℤ f) ≡ (a *ℤ e) *ℤ (d *ℤ f) -ℤ (b *ℤ f) *ℤ (c *ℤ e)
difference_apart a b c d e f = rw (is_difference a, is_difference b, is_difference c, is_difference d, is_difference e, is_difference f) (simp differences (same_difference _ _ _ _ (omega arith)))

pub +ᶠ_mono : (f f' g g' : Fraction) → f ≤ᶠ f' → g ≤ᶠ g' → (f +ᶠ g) ≤ᶠ (f' +ᶠ g')
+ᶠ_mono f f' g g' h k =
    let a = f.top in let b = g.top in let c = pos f.bottom in let d = pos g.bottom in
    let a' = f'.top in let b' = g'.top in let e = pos f'.bottom in let i = pos g'.bottom in
    omega (
      arith,
      ints,
      sum_apart a b c d e i,
      sum_apart a' b' e i c d,
      mul_mono (a *ℤ e) (a' *ℤ c) (d *ℤ i) (natural (g.bottom * g'.bottom)) h,
      mul_mono (b *ℤ i) (b' *ℤ d) (c *ℤ e) (natural (f.bottom * f'.bottom)) k,
      ap (λ z. (a' *ℤ c) *ℤ z) (mul_comm i d),
      ap (λ z. (b' *ℤ d) *ℤ z) (mul_comm e c),
    )

-- a difference grows with what stands first, and falls with what is taken away
pub -ᶠ_mono : (f f' g g' : Fraction) → f ≤ᶠ f' → g' ≤ᶠ g → (f -ᶠ g) ≤ᶠ (f' -ᶠ g')
-ᶠ_mono f f' g g' h k =
    let a = f.top in let b = g.top in let c = pos f.bottom in let d = pos g.bottom in
    let a' = f'.top in let b' = g'.top in let e = pos f'.bottom in let i = pos g'.bottom in
    omega (
      arith,
      ints,
      difference_apart a b c d e i,
      difference_apart a' b' e i c d,
      mul_mono (a *ℤ e) (a' *ℤ c) (d *ℤ i) (natural (g.bottom * g'.bottom)) h,
      mul_mono (b' *ℤ d) (b *ℤ i) (c *ℤ e) (natural (f.bottom * f'.bottom)) k,
      ap (λ z. (a' *ℤ c) *ℤ z) (mul_comm i d),
      ap (λ z. (b' *ℤ d) *ℤ z) (mul_comm e c),
    )

-- products grow with a factor where the other is not negative, and fall where it is not positive
pub *ᶠ_mono_right : (f g h : Fraction) → pos 0 ≤ℤ h.top → f ≤ᶠ g → (f *ᶠ h) ≤ᶠ (g *ᶠ h)
*ᶠ_mono_right f g h p k =
    let m = pos h.bottom in
    rw (mul_swap f.top h.top (pos g.bottom) m, mul_swap g.top h.top (pos f.bottom) m)
    (mul_mono (f.top *ℤ pos g.bottom) (g.top *ℤ pos f.bottom) (h.top *ℤ m) (mul_nonneg h.top m p (natural h.bottom)) k)

pub *ᶠ_mono_left : (f g h : Fraction) → pos 0 ≤ℤ h.top → f ≤ᶠ g → (h *ᶠ f) ≤ᶠ (h *ᶠ g)
*ᶠ_mono_left f g h p k =
    let m = pos h.bottom in
    rw (mul_swap h.top f.top m (pos g.bottom), mul_swap h.top g.top m (pos f.bottom))
    (mul_mono_left (f.top *ℤ pos g.bottom) (g.top *ℤ pos f.bottom) (h.top *ℤ m) (mul_nonneg h.top m p (natural h.bottom)) k)

pub *ᶠ_anti_right : (f g h : Fraction) → h.top ≤ℤ pos 0 → f ≤ᶠ g → (g *ᶠ h) ≤ᶠ (f *ᶠ h)
*ᶠ_anti_right f g h p k =
    let m = pos h.bottom in
    rw (mul_swap f.top h.top (pos g.bottom) m, mul_swap g.top h.top (pos f.bottom) m)
    (mul_anti (f.top *ℤ pos g.bottom) (g.top *ℤ pos f.bottom) (h.top *ℤ m) (omega (arith, ints, mul_mono h.top (pos 0) m (natural h.bottom) p)) k)

-- products of fractions of which the lesser two are not negative
pub *ᶠ_mono : (f f' g g' : Fraction) → pos 0 ≤ℤ f.top → pos 0 ≤ℤ g.top → f ≤ᶠ f' → g ≤ᶠ g' → (f *ᶠ g) ≤ᶠ (f' *ᶠ g')
*ᶠ_mono f f' g g' p q h k = cross_mul f.top (pos f.bottom) f'.top (pos f'.bottom) g.top (pos g.bottom) g'.top (pos g'.bottom) p (natural f'.bottom) q (natural g'.bottom) h k

-- a factor above 0 cancels: scaling by it both ways
pub *ᶠ_cancel_right : (f g h : Fraction) → IsProper h → pos 0 <ℤ h.top → (f *ᶠ h) ≤ᶠ (g *ᶠ h) → f ≤ᶠ g
*ᶠ_cancel_right f g h p q k =
    let m = pos h.bottom in
    let turned = rw (mul_swap f.top h.top (pos g.bottom) m, mul_swap g.top h.top (pos f.bottom) m) at k in
    mul_cancel (f.top *ℤ pos g.bottom) (g.top *ℤ pos f.bottom) (h.top *ℤ m) (mul_positive h.top m q (above_zero h.bottom p)) turned

pub *ᶠ_cancel_right_strict : (f g h : Fraction) → IsProper h → pos 0 <ℤ h.top → (f *ᶠ h) <ᶠ (g *ᶠ h) → f <ᶠ g
*ᶠ_cancel_right_strict f g h p q k =
    let m = pos h.bottom in
    let turned = rw (mul_swap f.top h.top (pos g.bottom) m, mul_swap g.top h.top (pos f.bottom) m) at k in
    mul_cancel_strict (f.top *ℤ pos g.bottom) (g.top *ℤ pos f.bottom) (h.top *ℤ m) (mul_positive h.top m q (above_zero h.bottom p)) turned

-- a common factor of top and bottom changes nothing
pub extended : (f : Fraction) (k : ℕ) → record { top = f.top *ℤ pos k; bottom = f.bottom * k } ≃ᶠ f
extended f k = mul_right_comm f.top (pos k) (pos f.bottom) ∙ mul_assoc f.top (pos f.bottom) (pos k)

-- a quotient by a natural above 0, both ways
pub /ᶠ_mono : (f g : Fraction) (n : ℕ) → f ≤ᶠ g → (f /ᶠ n) ≤ᶠ (g /ᶠ n)
/ᶠ_mono f g n h =
    rw (sym (mul_assoc f.top (pos g.bottom) (pos n)), sym (mul_assoc g.top (pos f.bottom) (pos n)))
    (mul_mono (f.top *ℤ pos g.bottom) (g.top *ℤ pos f.bottom) (pos n) (natural n) h)

pub /ᶠ_cancel : (f g : Fraction) (n : ℕ) → 1 ≤ n → (f /ᶠ n) ≤ᶠ (g /ᶠ n) → f ≤ᶠ g
/ᶠ_cancel f g n p h =
    let turned = rw (sym (mul_assoc f.top (pos g.bottom) (pos n)), sym (mul_assoc g.top (pos f.bottom) (pos n))) at h in
    mul_cancel (f.top *ℤ pos g.bottom) (g.top *ℤ pos f.bottom) (pos n) (above_zero n p) turned

-- whole numbers are in the order of their fractions
pub whole-≤ᶠ : (a b : ℤ) → a ≤ℤ b → whole a ≤ᶠ whole b
whole-≤ᶠ a b h = omega (arith, ints)

pub ≤ᶠ-whole : (a b : ℤ) → whole a ≤ᶠ whole b → a ≤ℤ b
≤ᶠ-whole a b h = omega (arith, ints)

-- ---- the laws, as the calls state them

-- ordered both ways is equal in value, and the other way round
pub order_both_ways : (f g : Fraction) → ((f ≤ᶠ g) × (g ≤ᶠ f)) ↔ (f ≃ᶠ g)
order_both_ways f g = ((λ p. ≤ᶠ_antisym f g p.0 p.1), (λ e. (≃ᶠ-≤ᶠ f g e, ≃ᶠ-≤ᶠ g f (sym e))))

-- a factor above 0 keeps the order, both ways
pub factor_both_ways : (f g h : Fraction) → IsProper h → pos 0 <ℤ h.top → (f ≤ᶠ g) ↔ ((f *ᶠ h) ≤ᶠ (g *ᶠ h))
factor_both_ways f g h p q = (*ᶠ_mono_right f g h (omega (arith, ints)), *ᶠ_cancel_right f g h p q)

-- and so does a divisor
pub divisor_both_ways : (f g : Fraction) (n : ℕ) → 1 ≤ n → (f ≤ᶠ g) ↔ ((f /ᶠ n) ≤ᶠ (g /ᶠ n))
divisor_both_ways f g n p = (/ᶠ_mono f g n, /ᶠ_cancel f g n p)
