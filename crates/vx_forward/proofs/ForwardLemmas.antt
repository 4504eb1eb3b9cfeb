-- The forward's interval: its range, its members and its width.
use Rattle.std.proofs.Common.{◌≡◌, ◌∙◌, ℕ, ◌+◌, ◌*◌, ◌^◌, ◌<◌, ◌≤◌, ℤ, pos, negsuc, ◌*ℤ◌, neg_ℤ, nat_abs, ◌≤ℤ◌, ◌<ℤ◌, sym, ap, ap₂, subst, arith, pow-add, lit<, lt_of_le_of_lt, to_z, of_z, to_z-of_z}
use Rattle.std.specs.Prelude.{FitsSigned}
use Rattle.std.proofs.lemmas.Int.{ints, fits_signed_from_abs, unsigned_abs-mul}
use mir.Syntax.{w32, w64}
use lib.Signed.{mag}
use Rattle.vx_num.specs.Fraction.{Fraction, whole, ◌*ᶠ◌}
use Rattle.vx_num.specs.Quotient.{IsFloor, IsCeiling}
use Rattle.vx_num.proofs.Whole.{mul_mono, mul_mono_left, mul_anti_left, mul_nonneg, neg_mul}
use Rattle.vx_interval.specs.Rounding.{floor_of, ceiling_of}
use Rattle.vx_interval.specs.Ends.{Ends, IsScale, IsIntervalInRange, unit, width, exact_ends, add_ends, scale_ends}
use Rattle.vx_interval.specs.Membership.{IsMember}
use Rattle.vx_interval.proofs.EndsLemmas.{unit_positive}
use Rattle.vx_interval.proofs.Enclosures.{add_encloses, exact_encloses, scale_encloses}
use Rattle.vx_interval.proofs.RoundingLemmas.{floor_found, ceiling_found}
use Rattle.vx_interval.proofs.Ranges.{cast, cast_is, unit_at_most}
use Rattle.vx_interval.proofs.Widths.{within, from_within, add_width, scale_width}
use Rattle.vx_formula.specs.Pair.{Pair}
use Rattle.vx_formula.specs.Forward.{forward_at}
use Rattle.vx_forward.specs.Laws.{ForwardReachesEnds}
use Rattle.vx_forward.specs.Forward.{IsForwardInRange, forward_interval}

-- 2^27 thousandths of a point, in units of 2^-P
pub range_unit : (P : ℕ) → pos (2 ^ (P + 27)) ≡ pos (2 ^ 27) *ℤ unit P
unfolding unit
range_unit P = let e : 2 ^ (P + 27) ≡ 2 ^ P * 2 ^ 27 = pow-add 2 P 27 in omega (arith, ints)

-- ---- an end of the exponential times five times the difference

pub five_is_small : (d : ℤ) → nat_abs d ≤ 10000000 → nat_abs (pos 5 *ℤ d) ≤ 50000000
five_is_small d h = rw (unsigned_abs-mul (pos 5) d) (omega arith)

-- from -m * y to m * y
record IsWithinTimes (m y z : ℤ) : Type 0 where
  low : neg_ℤ (m *ℤ y) ≤ℤ z
  high : z ≤ℤ (m *ℤ y)

times_within : (k y : ℤ) → nat_abs k ≤ 50000000 → pos 0 ≤ℤ y → IsWithinTimes (pos 50000000) y (k *ℤ y)
times_within k y h p =
    let r = from_within k 50000000 h in
    let a = mul_mono k (pos 50000000) y p r.0 in
    let b = mul_mono (neg_ℤ (pos 50000000)) k y p r.1 in
    record { low = omega (arith, ints, b, neg_mul (pos 50000000) y); high = omega (arith, ints, a) }

-- both ends of the product are at most 50,000,000 times the high end of the exponential, in absolute value
record IsSpreadWithin (bound : ℤ) (x : Ends) : Type 0 where
  low : neg_ℤ (pos 50000000 *ℤ bound) ≤ℤ x.lo
  high : x.hi ≤ℤ (pos 50000000 *ℤ bound)

spread_within : (e : Ends) (k : ℤ) → nat_abs k ≤ 50000000 → pos 0 ≤ℤ e.lo → e.lo ≤ℤ e.hi → IsSpreadWithin e.hi (scale_ends e k)
spread_within e (pos k) h p q =
    let a = times_within (pos k) e.lo h p in
    let b = times_within (pos k) e.hi h (omega (arith, ints)) in
    let al = a.low in let ah = a.high in let bl = b.low in let bh = b.high in
    record { low = omega (arith, ints); high = omega (arith, ints) }
spread_within e (negsuc k) h p q =
    let a = times_within (negsuc k) e.lo h p in
    let b = times_within (negsuc k) e.hi h (omega (arith, ints)) in
    let al = a.low in let ah = a.high in let bl = b.low in let bh = b.high in
    record { low = omega (arith, ints); high = omega (arith, ints) }

pub spread_in_range : (P : ℕ) (e : Ends) (k : ℤ) → IsScale P → nat_abs k ≤ 50000000 → pos 0 ≤ℤ e.lo → e.lo ≤ℤ e.hi → e.hi ≤ℤ (pos 2 *ℤ unit P) → IsIntervalInRange (scale_ends e k)
spread_in_range P e k s h p q r =
    let w = spread_within e k h p q in
    let l = w.low in let t = w.high in
    let u = unit_at_most P s in
    record { low = omega (arith, ints); high = omega (arith, ints) }

-- ---- the strike

strike_within : (P : ℕ) (strike : ℕ) → strike ≤ 50000000 → (pos 0 ≤ℤ (pos strike *ℤ unit P)) × ((pos strike *ℤ unit P) ≤ℤ (pos 50000000 *ℤ unit P))
strike_within P strike h =
    let u = unit_positive P in
    (mul_nonneg (pos strike) (unit P) (omega (arith, ints)) (omega (arith, ints)), mul_mono (pos strike) (pos 50000000) (unit P) (omega (arith, ints)) (omega (arith, ints)))

-- the interval of a strike alone is in range
pub exact_strike_in_range : (P : ℕ) (strike : ℕ) → IsScale P → strike ≤ 50000000 → IsIntervalInRange (exact_ends P (pos strike))
exact_strike_in_range P strike s h =
    let w = strike_within P strike h in
    let u = unit_at_most P s in
    record { low = omega (arith, ints, w); high = omega (arith, ints, w) }

-- ---- the forward

pub sum_in_range : (P : ℕ) (pair : Pair) (e : Ends) → IsScale P → pair.strike ≤ 50000000 → nat_abs pair.d ≤ 10000000 → pos 0 ≤ℤ e.lo → e.lo ≤ℤ e.hi → e.hi ≤ℤ (pos 2 *ℤ unit P) → IsIntervalInRange (forward_interval P pair e)
sum_in_range P pair e s h k p q r =
    let w = spread_within e (pos 5 *ℤ pair.d) (five_is_small pair.d k) p q in
    let l = w.low in let t = w.high in
    let u = unit_at_most P s in
    let v = strike_within P pair.strike h in
    record { low = omega (arith, ints, v); high = omega (arith, ints, v) }

pub forward_in_range : (P : ℕ) (pair : Pair) (e : Ends) → pair.strike ≤ 50000000 → nat_abs pair.d ≤ 10000000 → pos 0 ≤ℤ e.lo → e.lo ≤ℤ e.hi → (pos 4 *ℤ e.hi) ≤ℤ (pos 5 *ℤ unit P) → IsForwardInRange P (forward_interval P pair e)
forward_in_range P pair e h k p q r =
    let w = spread_within e (pos 5 *ℤ pair.d) (five_is_small pair.d k) p q in
    let l = w.low in let t = w.high in
    let u = unit_positive P in
    let v = strike_within P pair.strike h in
    let m = range_unit P in
    record { low = omega (arith, ints, v); high = omega (arith, ints, v) }

pub forward_encloses : (P : ℕ) (pair : Pair) (e : Ends) (x : Fraction) → IsMember P e x → IsMember P (forward_interval P pair e) (forward_at pair x)
forward_encloses P pair e x m =
    let k : ℤ = pos 5 *ℤ pair.d in
    add_encloses P (exact_ends P (pos pair.strike)) (scale_ends e k) (whole (pos pair.strike)) (whole k *ᶠ x) (exact_encloses P (pos pair.strike)) (scale_encloses P e k x m)

pub forward_width : (P : ℕ) (pair : Pair) (e : Ends) → width (forward_interval P pair e) ≡ pos (5 * nat_abs pair.d) *ℤ width e
forward_width P pair e =
    let k : ℤ = pos 5 *ℤ pair.d in
    let a : width (scale_ends e k) ≡ pos (5 * nat_abs pair.d) *ℤ width e = scale_width e k ∙ ap (λ n. pos n *ℤ width e) (unsigned_abs-mul (pos 5) pair.d) in
    let b = add_width (exact_ends P (pos pair.strike)) (scale_ends e k) in
    b ∙ omega (arith, ints, a)

spread_reaches : (e : Ends) (k : ℤ) → e.lo ≤ℤ e.hi →
    ((scale_ends e k).lo ≤ℤ (k *ℤ e.lo)) × ((scale_ends e k).lo ≤ℤ (k *ℤ e.hi)) × ((k *ℤ e.lo) ≤ℤ (scale_ends e k).hi) × ((k *ℤ e.hi) ≤ℤ (scale_ends e k).hi)
spread_reaches e (pos k) h =
    let m = mul_mono_left e.lo e.hi (pos k) (omega (arith, ints)) h in
    (omega (arith, ints), m, m, omega (arith, ints))
spread_reaches e (negsuc k) h =
    let m = mul_anti_left e.lo e.hi (negsuc k) (omega (arith, ints)) h in
    (m, omega (arith, ints), omega (arith, ints), m)

pub forward_reaches : ForwardReachesEnds
forward_reaches P pair e h =
    let s = spread_reaches e (pos 5 *ℤ pair.d) h in
    (omega (arith, ints, s), omega (arith, ints, s), omega (arith, ints, s), omega (arith, ints, s))

-- ---- what is printed

pub end_is_small : (P : ℕ) (z : ℤ) → IsScale P → neg_ℤ (pos (2 ^ (P + 27))) ≤ℤ z → z ≤ℤ pos (2 ^ (P + 27)) → nat_abs z ≤ 2 ^ 89
end_is_small P z s l h =
    let u = unit_at_most P s in
    let m = range_unit P in
    within z (2 ^ 89) (omega (arith, ints)) (omega (arith, ints))

-- a floor that the code computes, of numbers equal to these, is their floor
pub floor_cast_is : (a b a' b' n : ℤ) → a' ≡ a → b' ≡ b → pos 0 <ℤ b → mag n < 2 ^ 127 → IsFloor a' b' n → cast n ≡ floor_of a b
floor_cast_is a b a' b' n p q h f k =
    let P : ℤ → Type 0 = λ x. IsFloor x b' n in
    let Q : ℤ → Type 0 = λ x. IsFloor a x n in
    cast_is n (floor_of a b) f (floor_found a b n h (subst Q q (subst P p k)))

-- and a ceiling their ceiling
pub ceiling_cast_is : (a b a' b' n : ℤ) → a' ≡ a → b' ≡ b → pos 0 <ℤ b → mag n < 2 ^ 127 → IsCeiling a' b' n → cast n ≡ ceiling_of a b
ceiling_cast_is a b a' b' n p q h f k =
    let P : ℤ → Type 0 = λ x. IsCeiling x b' n in
    let Q : ℤ → Type 0 = λ x. IsCeiling a x n in
    cast_is n (ceiling_of a b) f (ceiling_found a b n h (subst Q q (subst P p k)))

-- a number equal to one of at most 2^89 in absolute value is as small
pub small_end_given : (z z' : ℤ) → z' ≡ z → nat_abs z ≤ 2 ^ 89 → nat_abs z' ≤ 2 ^ 89
small_end_given z z' e h = let P : ℤ → Type 0 = λ x. nat_abs x ≤ 2 ^ 89 in subst P (sym e) h

pub positive_given : (z z' : ℤ) → z' ≡ z → pos 0 <ℤ z → pos 0 <ℤ z'
positive_given z z' e h = let P : ℤ → Type 0 = λ x. pos 0 <ℤ x in subst P (sym e) h

pub five_given : (r d : ℤ) → mag r < 2 ^ 63 → nat_abs d ≤ 10000000 → r ≡ pos 5 *ℤ to_z w32 (of_z w32 d) → to_z w64 (of_z w64 r) ≡ pos 5 *ℤ d
five_given r d f h e =
    let small : FitsSigned w32 d = fits_signed_from_abs w32 d (lt_of_le_of_lt h (lit< tt)) in
    to_z-of_z {w = w64} (record { sfits = f }) ∙ e ∙ ap (λ z. pos 5 *ℤ z) (to_z-of_z small)

pub strike_given : (r : ℤ) (strike : ℕ) → mag r < 2 ^ 63 → r ≡ pos strike → to_z w64 (of_z w64 r) ≡ pos strike
strike_given r strike f e = to_z-of_z {w = w64} (record { sfits = f }) ∙ e

pub sum_given : (P : ℕ) (pair : Pair) (e x y : Ends) (s k : ℤ) → x ≡ exact_ends P s → s ≡ pos pair.strike → y ≡ scale_ends e k → k ≡ pos 5 *ℤ pair.d → add_ends x y ≡ forward_interval P pair e
sum_given P pair e x y s k p q r t = ap₂ add_ends (p ∙ ap (exact_ends P) q) (r ∙ ap (scale_ends e) t)
