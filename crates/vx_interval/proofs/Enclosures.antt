-- Each operation's ends enclose its result for all members of its arguments: `l * n ≤ t * u` says that l/u is at most t/n.
use Rattle.std.proofs.Common.{◌≡◌, ℕ, ◌*◌, ◌≤◌, ℤ, pos, negsuc, ◌+ℤ◌, ◌-ℤ◌, ◌*ℤ◌, nat_abs, ◌≤ℤ◌, ◌<ℤ◌, refl, arith, one-mul, mul-pos}
use Rattle.std.proofs.lemmas.Int.{ints, clamps}
use Rattle.vx_num.specs.Fraction.{Fraction, whole, ◌+ᶠ◌, ◌-ᶠ◌, ◌*ᶠ◌, ◌/ᶠ◌}
use Rattle.vx_num.proofs.Differences.{is_difference, differences, same_difference}
use Rattle.vx_num.proofs.Whole.{mul_assoc, mul_swap, mul_right_comm, mul_mono, mul_mono_left, mul_anti_left, mul_cancel, corners_lower, corners_upper}
use Rattle.vx_interval.specs.Rounding.{floor_of, ceiling_of}
use Rattle.vx_interval.specs.Ends.{Ends, unit, least_of_four, greatest_of_four, exact_ends, ratio_ends, add_ends, sub_ends, scale_ends, mul_ends, over_ends, rescale_ends}
use Rattle.vx_interval.specs.Membership.{IsMember}
use Rattle.vx_interval.proofs.EndsLemmas.{unit_positive}
use Rattle.vx_interval.proofs.RoundingLemmas.{floor_of_is, ceiling_of_is}

-- ---- membership by whole numbers

-- a member is at least the low end, by cross multiplication
pub member_at_least : (P : ℕ) (x : Ends) (f : Fraction) → IsMember P x f → (x.lo *ℤ pos f.bottom) ≤ℤ (f.top *ℤ unit P)
unfolding unit
member_at_least P x f m = m.above

-- and at most the high end
pub member_at_most : (P : ℕ) (x : Ends) (f : Fraction) → IsMember P x f → (f.top *ℤ unit P) ≤ℤ (x.hi *ℤ pos f.bottom)
unfolding unit
member_at_most P x f m = m.below

-- what lies between the ends by cross multiplication is a member
pub member : (P : ℕ) (x : Ends) (f : Fraction) → 1 ≤ f.bottom → (x.lo *ℤ pos f.bottom) ≤ℤ (f.top *ℤ unit P) → (f.top *ℤ unit P) ≤ℤ (x.hi *ℤ pos f.bottom) → IsMember P x f
unfolding unit
member P x f p l h = record { proper = p; above = l; below = h }

natural_nonneg : (n : ℕ) → pos 0 ≤ℤ pos n
natural_nonneg n = omega (arith, ints)

-- ---- sums and differences

sum_of : (l1 l2 n1 n2 : ℤ) → (l1 +ℤ l2) *ℤ (n1 *ℤ n2) ≡ (l1 *ℤ n1) *ℤ n2 +ℤ (l2 *ℤ n2) *ℤ n1
sum_of l1 l2 n1 n2 = rw (is_difference l1, is_difference l2, is_difference n1, is_difference n2) (simp differences (same_difference _ _ _ _ (omega arith)))

top_of : (t1 t2 n1 n2 u : ℤ) → (t1 *ℤ n2 +ℤ t2 *ℤ n1) *ℤ u ≡ (t1 *ℤ u) *ℤ n2 +ℤ (t2 *ℤ u) *ℤ n1
top_of t1 t2 n1 n2 u = rw (is_difference t1, is_difference t2, is_difference n1, is_difference n2, is_difference u) (simp differences (same_difference _ _ _ _ (omega arith)))

-- a sum of two numbers is at least the sum of their low ends
pub sum_at_least : (l1 l2 t1 t2 u n1 n2 : ℤ) → pos 0 ≤ℤ n1 → pos 0 ≤ℤ n2 → (l1 *ℤ n1) ≤ℤ (t1 *ℤ u) → (l2 *ℤ n2) ≤ℤ (t2 *ℤ u) → ((l1 +ℤ l2) *ℤ (n1 *ℤ n2)) ≤ℤ ((t1 *ℤ n2 +ℤ t2 *ℤ n1) *ℤ u)
sum_at_least l1 l2 t1 t2 u n1 n2 p1 p2 h1 h2 =
    omega (arith, ints, mul_mono (l1 *ℤ n1) (t1 *ℤ u) n2 p2 h1, mul_mono (l2 *ℤ n2) (t2 *ℤ u) n1 p1 h2, sum_of l1 l2 n1 n2, top_of t1 t2 n1 n2 u)

-- and at most the sum of their high ends
pub sum_at_most : (h1 h2 t1 t2 u n1 n2 : ℤ) → pos 0 ≤ℤ n1 → pos 0 ≤ℤ n2 → (t1 *ℤ u) ≤ℤ (h1 *ℤ n1) → (t2 *ℤ u) ≤ℤ (h2 *ℤ n2) → ((t1 *ℤ n2 +ℤ t2 *ℤ n1) *ℤ u) ≤ℤ ((h1 +ℤ h2) *ℤ (n1 *ℤ n2))
sum_at_most h1 h2 t1 t2 u n1 n2 p1 p2 k1 k2 =
    omega (arith, ints, mul_mono (t1 *ℤ u) (h1 *ℤ n1) n2 p2 k1, mul_mono (t2 *ℤ u) (h2 *ℤ n2) n1 p1 k2, sum_of h1 h2 n1 n2, top_of t1 t2 n1 n2 u)

difference_of : (l h n1 n2 : ℤ) → (l -ℤ h) *ℤ (n1 *ℤ n2) ≡ (l *ℤ n1) *ℤ n2 -ℤ (h *ℤ n2) *ℤ n1
difference_of l h n1 n2 = rw (is_difference l, is_difference h, is_difference n1, is_difference n2) (simp differences (same_difference _ _ _ _ (omega arith)))

top_difference : (t1 t2 n1 n2 u : ℤ) → (t1 *ℤ n2 -ℤ t2 *ℤ n1) *ℤ u ≡ (t1 *ℤ u) *ℤ n2 -ℤ (t2 *ℤ u) *ℤ n1
top_difference t1 t2 n1 n2 u = rw (is_difference t1, is_difference t2, is_difference n1, is_difference n2, is_difference u) (simp differences (same_difference _ _ _ _ (omega arith)))

-- the sum of two intervals has the sums of their members
pub add_encloses : (P : ℕ) (x y : Ends) (f g : Fraction) → IsMember P x f → IsMember P y g → IsMember P (add_ends x y) (f +ᶠ g)
add_encloses P x y f g mf mg =
    member P (add_ends x y) (f +ᶠ g) (mul-pos mf.proper mg.proper)
    (sum_at_least x.lo y.lo f.top g.top (unit P) (pos f.bottom) (pos g.bottom) (natural_nonneg f.bottom) (natural_nonneg g.bottom) (member_at_least P x f mf) (member_at_least P y g mg))
    (sum_at_most x.hi y.hi f.top g.top (unit P) (pos f.bottom) (pos g.bottom) (natural_nonneg f.bottom) (natural_nonneg g.bottom) (member_at_most P x f mf) (member_at_most P y g mg))

-- the difference of two intervals has the differences of their members
pub sub_encloses : (P : ℕ) (x y : Ends) (f g : Fraction) → IsMember P x f → IsMember P y g → IsMember P (sub_ends x y) (f -ᶠ g)
sub_encloses P x y f g mf mg =
    let n1 : ℤ = pos f.bottom in
    let n2 : ℤ = pos g.bottom in
    let p1 : pos 0 ≤ℤ n1 = natural_nonneg f.bottom in
    let p2 : pos 0 ≤ℤ n2 = natural_nonneg g.bottom in
    let fl = mul_mono (x.lo *ℤ n1) (f.top *ℤ unit P) n2 p2 (member_at_least P x f mf) in
    let fh = mul_mono (f.top *ℤ unit P) (x.hi *ℤ n1) n2 p2 (member_at_most P x f mf) in
    let gl = mul_mono (y.lo *ℤ n2) (g.top *ℤ unit P) n1 p1 (member_at_least P y g mg) in
    let gh = mul_mono (g.top *ℤ unit P) (y.hi *ℤ n2) n1 p1 (member_at_most P y g mg) in
    member P (sub_ends x y) (f -ᶠ g) (mul-pos mf.proper mg.proper)
    (omega (arith, ints, fl, gh, difference_of x.lo y.hi n1 n2, top_difference f.top g.top n1 n2 (unit P)))
    (omega (arith, ints, fh, gl, difference_of x.hi y.lo n1 n2, top_difference f.top g.top n1 n2 (unit P)))

-- ---- a whole number, a quotient

-- the interval of a whole number has that number
pub exact_encloses : (P : ℕ) (n : ℤ) → IsMember P (exact_ends P n) (whole n)
exact_encloses P n = member P (exact_ends P n) (whole n) (omega arith) (omega (arith, ints)) (omega (arith, ints))

-- the interval of a quotient has that quotient
pub ratio_encloses : (P : ℕ) (num den : ℤ) → pos 0 <ℤ den → IsMember P (ratio_ends P num den) (record { top = num; bottom = nat_abs den })
ratio_encloses P num (pos d) h =
    let l = floor_of_is (num *ℤ unit P) (pos d) h in
    let c = ceiling_of_is (num *ℤ unit P) (pos d) h in
    member P (ratio_ends P num (pos d)) (record { top = num; bottom = d }) (omega (arith, ints)) l.at_most c.at_least
ratio_encloses P num (negsuc d) h = absurd (omega (arith, ints))

-- ---- a whole factor

one_bottom : (z : ℤ) (n : ℕ) → z *ℤ pos (1 * n) ≡ z *ℤ pos n
one_bottom z n = rw (one-mul n) refl

-- a multiple of an interval has the multiples of its members
pub scale_encloses : (P : ℕ) (x : Ends) (k : ℤ) (f : Fraction) → IsMember P x f → IsMember P (scale_ends x k) (whole k *ᶠ f)
scale_encloses P x (pos k) f m =
    let l = mul_mono_left (x.lo *ℤ pos f.bottom) (f.top *ℤ unit P) (pos k) (natural_nonneg k) (member_at_least P x f m) in
    let h = mul_mono_left (f.top *ℤ unit P) (x.hi *ℤ pos f.bottom) (pos k) (natural_nonneg k) (member_at_most P x f m) in
    member P (scale_ends x (pos k)) (whole (pos k) *ᶠ f) (omega (arith, m.proper))
    (omega (arith, ints, l, one_bottom (pos k *ℤ x.lo) f.bottom, mul_assoc (pos k) x.lo (pos f.bottom), mul_assoc (pos k) f.top (unit P)))
    (omega (arith, ints, h, one_bottom (pos k *ℤ x.hi) f.bottom, mul_assoc (pos k) x.hi (pos f.bottom), mul_assoc (pos k) f.top (unit P)))
scale_encloses P x (negsuc k) f m =
    let low : negsuc k ≤ℤ pos 0 = omega (arith, ints) in
    let l = mul_anti_left (f.top *ℤ unit P) (x.hi *ℤ pos f.bottom) (negsuc k) low (member_at_most P x f m) in
    let h = mul_anti_left (x.lo *ℤ pos f.bottom) (f.top *ℤ unit P) (negsuc k) low (member_at_least P x f m) in
    member P (scale_ends x (negsuc k)) (whole (negsuc k) *ᶠ f) (omega (arith, m.proper))
    (omega (arith, ints, l, one_bottom (negsuc k *ℤ x.hi) f.bottom, mul_assoc (negsuc k) x.hi (pos f.bottom), mul_assoc (negsuc k) f.top (unit P)))
    (omega (arith, ints, h, one_bottom (negsuc k *ℤ x.lo) f.bottom, mul_assoc (negsuc k) x.lo (pos f.bottom), mul_assoc (negsuc k) f.top (unit P)))

-- ---- least and greatest

-- the least of four is at most each of them
pub least_at_most : (a b c d : ℤ) → (least_of_four a b c d ≤ℤ a) × (least_of_four a b c d ≤ℤ b) × (least_of_four a b c d ≤ℤ c) × (least_of_four a b c d ≤ℤ d)
unfolding least_of_four
least_at_most a b c d = (omega (arith, ints, clamps), omega (arith, ints, clamps), omega (arith, ints, clamps), omega (arith, ints, clamps))

-- the greatest of four is at least each of them
pub greatest_at_least : (a b c d : ℤ) → (a ≤ℤ greatest_of_four a b c d) × (b ≤ℤ greatest_of_four a b c d) × (c ≤ℤ greatest_of_four a b c d) × (d ≤ℤ greatest_of_four a b c d)
unfolding greatest_of_four
greatest_at_least a b c d = (omega (arith, ints, clamps), omega (arith, ints, clamps), omega (arith, ints, clamps), omega (arith, ints, clamps))

-- what is at most each of four is at most the least of them
pub least_above : (a b c d l : ℤ) → l ≤ℤ a → l ≤ℤ b → l ≤ℤ c → l ≤ℤ d → l ≤ℤ least_of_four a b c d
unfolding least_of_four
least_above a b c d l p q r s = omega (arith, ints, clamps)

-- what is at least each of four is at least the greatest of them
pub greatest_below : (a b c d h : ℤ) → a ≤ℤ h → b ≤ℤ h → c ≤ℤ h → d ≤ℤ h → greatest_of_four a b c d ≤ℤ h
unfolding greatest_of_four
greatest_below a b c d h p q r s = omega (arith, ints, clamps)

-- ---- products

-- the low end: what is at most every product of ends, over u
pub product_low : (l least t v u n : ℤ) → pos 0 <ℤ u → pos 0 ≤ℤ n → (l *ℤ u) ≤ℤ least → (least *ℤ n) ≤ℤ ((t *ℤ u) *ℤ (v *ℤ u)) → (l *ℤ n) ≤ℤ ((t *ℤ v) *ℤ u)
product_low l least t v u n hu hn below products =
    let scaled = mul_mono (l *ℤ u) least n hn below in
    mul_cancel (l *ℤ n) ((t *ℤ v) *ℤ u) u hu
    (omega (arith, ints, scaled, mul_right_comm l u n, mul_swap t u v u, mul_assoc (t *ℤ v) u u))

-- a product stays below the rounded greatest product of the ends
pub product_high : (h greatest t v u n : ℤ) → pos 0 <ℤ u → pos 0 ≤ℤ n → greatest ≤ℤ (h *ℤ u) → ((t *ℤ u) *ℤ (v *ℤ u)) ≤ℤ (greatest *ℤ n) → ((t *ℤ v) *ℤ u) ≤ℤ (h *ℤ n)
product_high h greatest t v u n hu hn above products =
    let scaled = mul_mono greatest (h *ℤ u) n hn above in
    mul_cancel ((t *ℤ v) *ℤ u) (h *ℤ n) u hu
    (omega (arith, ints, scaled, mul_right_comm h u n, mul_swap t u v u, mul_assoc (t *ℤ v) u u))

corner_low : (l a b m n : ℤ) → pos 0 ≤ℤ (m *ℤ n) → l ≤ℤ (a *ℤ b) → (l *ℤ (m *ℤ n)) ≤ℤ ((a *ℤ m) *ℤ (b *ℤ n))
corner_low l a b m n p h = omega (arith, ints, mul_mono l (a *ℤ b) (m *ℤ n) p h, mul_swap a m b n)

corner_high : (h a b m n : ℤ) → pos 0 ≤ℤ (m *ℤ n) → (a *ℤ b) ≤ℤ h → ((a *ℤ m) *ℤ (b *ℤ n)) ≤ℤ (h *ℤ (m *ℤ n))
corner_high h a b m n p k = omega (arith, ints, mul_mono (a *ℤ b) h (m *ℤ n) p k, mul_swap a m b n)

-- the product of two intervals has the products of their members
pub mul_encloses : (P : ℕ) (x y : Ends) (f g : Fraction) → IsMember P x f → IsMember P y g → IsMember P (mul_ends P x y) (f *ᶠ g)
mul_encloses P x y f g mf mg =
    let n1 : ℤ = pos f.bottom in
    let n2 : ℤ = pos g.bottom in
    let p : pos 0 ≤ℤ (n1 *ℤ n2) = natural_nonneg (f.bottom * g.bottom) in
    let u : ℤ = unit P in
    let hu : pos 0 <ℤ u = unit_positive P in
    let ll : ℤ = x.lo *ℤ y.lo in
    let lh : ℤ = x.lo *ℤ y.hi in
    let hl : ℤ = x.hi *ℤ y.lo in
    let hh : ℤ = x.hi *ℤ y.hi in
    let least : ℤ = least_of_four ll lh hl hh in
    let greatest : ℤ = greatest_of_four ll lh hl hh in
    let a = least_at_most ll lh hl hh in
    let b = greatest_at_least ll lh hl hh in
    let low = corners_lower (least *ℤ (n1 *ℤ n2)) (x.lo *ℤ n1) (x.hi *ℤ n1) (y.lo *ℤ n2) (y.hi *ℤ n2) (f.top *ℤ u) (g.top *ℤ u)
    (member_at_least P x f mf) (member_at_most P x f mf) (member_at_least P y g mg) (member_at_most P y g mg)
    (corner_low least x.lo y.lo n1 n2 p a.0) (corner_low least x.lo y.hi n1 n2 p a.1) (corner_low least x.hi y.lo n1 n2 p a.2) (corner_low least x.hi y.hi n1 n2 p a.3) in
    let high = corners_upper (greatest *ℤ (n1 *ℤ n2)) (x.lo *ℤ n1) (x.hi *ℤ n1) (y.lo *ℤ n2) (y.hi *ℤ n2) (f.top *ℤ u) (g.top *ℤ u)
    (member_at_least P x f mf) (member_at_most P x f mf) (member_at_least P y g mg) (member_at_most P y g mg)
    (corner_high greatest x.lo y.lo n1 n2 p b.0) (corner_high greatest x.lo y.hi n1 n2 p b.1) (corner_high greatest x.hi y.lo n1 n2 p b.2) (corner_high greatest x.hi y.hi n1 n2 p b.3) in
    let floor = floor_of_is least u hu in
    let ceiling = ceiling_of_is greatest u hu in
    member P (mul_ends P x y) (f *ᶠ g) (mul-pos mf.proper mg.proper)
    (product_low (floor_of least u) least f.top g.top u (n1 *ℤ n2) hu p floor.at_most low)
    (product_high (ceiling_of greatest u) greatest f.top g.top u (n1 *ℤ n2) hu p ceiling.at_least high)

-- ---- over a whole divisor, and at another scale

-- an interval over a whole number has the quotients of its members
pub over_encloses : (P : ℕ) (x : Ends) (den : ℤ) (f : Fraction) → pos 0 <ℤ den → IsMember P x f → IsMember P (over_ends x den) (f /ᶠ nat_abs den)
over_encloses P x (negsuc d) f h m = absurd (omega (arith, ints))
over_encloses P x (pos d) f h m =
    let n : ℤ = pos f.bottom in
    let floor = floor_of_is x.lo (pos d) h in
    let ceiling = ceiling_of_is x.hi (pos d) h in
    let low = mul_mono (floor_of x.lo (pos d) *ℤ pos d) x.lo n (natural_nonneg f.bottom) floor.at_most in
    let high = mul_mono x.hi (ceiling_of x.hi (pos d) *ℤ pos d) n (natural_nonneg f.bottom) ceiling.at_least in
    let l = member_at_least P x f m in
    let k = member_at_most P x f m in
    member P (over_ends x (pos d)) (f /ᶠ d) (mul-pos m.proper (omega (arith, ints)))
    (omega (arith, ints, low, l, mul_right_comm (floor_of x.lo (pos d)) (pos d) n, mul_assoc (floor_of x.lo (pos d)) n (pos d)))
    (omega (arith, ints, high, k, mul_right_comm (ceiling_of x.hi (pos d)) (pos d) n, mul_assoc (ceiling_of x.hi (pos d)) n (pos d)))

-- an interval at another scale has the same members and more
pub rescale_encloses : (P R : ℕ) (x : Ends) (f : Fraction) → IsMember P x f → IsMember R (rescale_ends P R x) f
rescale_encloses P R x f m =
    let n : ℤ = pos f.bottom in
    let u : ℤ = unit P in
    let r : ℤ = unit R in
    let hu : pos 0 <ℤ u = unit_positive P in
    let hr : pos 0 ≤ℤ r = let q = unit_positive R in omega (arith, ints) in
    let l : ℤ = floor_of (x.lo *ℤ r) u in
    let h : ℤ = ceiling_of (x.hi *ℤ r) u in
    let floor = floor_of_is (x.lo *ℤ r) u hu in
    let ceiling = ceiling_of_is (x.hi *ℤ r) u hu in
    let low = mul_mono (l *ℤ u) (x.lo *ℤ r) n (natural_nonneg f.bottom) floor.at_most in
    let high = mul_mono (x.hi *ℤ r) (h *ℤ u) n (natural_nonneg f.bottom) ceiling.at_least in
    let bottom = mul_mono (x.lo *ℤ n) (f.top *ℤ u) r hr (member_at_least P x f m) in
    let top = mul_mono (f.top *ℤ u) (x.hi *ℤ n) r hr (member_at_most P x f m) in
    member R (rescale_ends P R x) f m.proper
    (mul_cancel (l *ℤ n) (f.top *ℤ r) u hu (omega (arith, ints, low, bottom, mul_right_comm l u n, mul_right_comm x.lo r n, mul_right_comm f.top u r)))
    (mul_cancel (f.top *ℤ r) (h *ℤ n) u hu (omega (arith, ints, high, top, mul_right_comm h u n, mul_right_comm x.hi r n, mul_right_comm f.top u r)))
