-- How far the printed ends of a forward lie apart.
use Rattle.std.proofs.Common.{◌≡◌, ◌∙◌, ℕ, ◌*◌, ◌^◌, ◌≤◌, ◌⊎◌, ℤ, pos, negsuc, ◌+ℤ◌, ◌-ℤ◌, ◌*ℤ◌, nat_abs, ◌≤ℤ◌, ◌<ℤ◌, sym, ap, subst, inl, inr, arith}
use Rattle.std.proofs.lemmas.Int.{ints}
use Rattle.std.proofs.Math.Pow.{pow_mono}
use Rattle.vx_num.specs.Quotient.{IsFloor, IsCeiling}
use Rattle.vx_num.proofs.Whole.{add_mul, mul_assoc, mul_both, mul_cancel_strict}
use Rattle.vx_num.proofs.Quotients.{quotient_gap, floor_exact, ceiling_exact}
use Rattle.vx_interval.specs.Rounding.{floor_of, ceiling_of}
use Rattle.vx_interval.specs.Ends.{Ends, unit, width, scale_ends}
use Rattle.vx_interval.proofs.EndsLemmas.{unit_positive}
use Rattle.vx_interval.proofs.RoundingLemmas.{floor_of_is, ceiling_of_is, floor_found, ceiling_found}
use Rattle.vx_formula.specs.declared.limits.TheConstants.{FORWARD_UNITS, FORWARD_WIDTH_MAX}
use Rattle.vx_formula.specs.Pair.{Pair}
use Rattle.vx_forward.specs.Forward.{forward_interval, printed_forward}
use Rattle.vx_forward.proofs.ForwardLemmas.{forward_width}

-- from scale 60 on the unit is at least 2^60
unit_at_least_sixty : (P : ℕ) → 60 ≤ P → pos (2 ^ 60) ≤ℤ unit P
unfolding unit
unit_at_least_sixty P h = let m : 2 ^ 60 ≤ 2 ^ P = pow_mono h in omega (arith, ints)

-- 5 * 10,000,000 * 32 at most
spread_is_small : (pair : Pair) (e : Ends) → nat_abs pair.d ≤ 10000000 → e.lo ≤ℤ e.hi → width e ≤ℤ pos 32 → (pos (5 * nat_abs pair.d) *ℤ width e) ≤ℤ pos 1600000000
spread_is_small pair e h q w =
    let a = mul_both (pos (5 * nat_abs pair.d)) (pos 50000000) (width e) (pos 32) (omega (arith, ints)) (omega (arith, ints)) (omega (arith, ints)) w in
    omega (arith, ints, a)

pub ends_are_near : (P : ℕ) (pair : Pair) (e : Ends) → 60 ≤ P → nat_abs pair.d ≤ 10000000 → e.lo ≤ℤ e.hi → width e ≤ℤ pos 32
    → (printed_forward P (forward_interval P pair e)).1 ≤ℤ ((printed_forward P (forward_interval P pair e)).0 +ℤ pos FORWARD_WIDTH_MAX)
ends_are_near P pair e s h q w =
    let f : Ends = forward_interval P pair e in
    let u : ℤ = unit P in
    let p = unit_positive P in
    let big = unit_at_least_sixty P s in
    let a : ℤ = pos FORWARD_UNITS *ℤ f.lo in
    let b : ℤ = pos FORWARD_UNITS *ℤ f.hi in
    let lo : ℤ = floor_of a u in
    let hi : ℤ = ceiling_of b u in
    let wide : width f ≤ℤ pos 1600000000 = (let x = forward_width P pair e in let y = spread_is_small pair e h q w in omega (arith, ints, x, y)) in
    let apart : (b -ℤ a) ≤ℤ pos 1600000000000000000 = omega (arith, ints, wide) in
    let gap = quotient_gap a b u (pos 1600000000000000000) lo hi apart (floor_of_is a u p) (ceiling_of_is b u p) in
    let below : (hi -ℤ lo) <ℤ pos 4 = mul_cancel_strict (hi -ℤ lo) (pos 4) u p (omega (arith, ints, gap)) in
    omega (arith, ints, below)

-- ---- equal ends

exact_ends_are_equal : (P : ℕ) (f : Ends) (z : ℤ) → f.lo ≡ z *ℤ unit P → f.hi ≡ z *ℤ unit P → (printed_forward P f).0 ≡ (printed_forward P f).1
exact_ends_are_equal P f z l h =
    let u : ℤ = unit P in
    let p = unit_positive P in
    let k : ℤ = pos FORWARD_UNITS *ℤ z in
    let F : ℤ → Type 0 = λ a. IsFloor a u k in
    let C : ℤ → Type 0 = λ a. IsCeiling a u k in
    let low : k *ℤ u ≡ pos FORWARD_UNITS *ℤ f.lo = mul_assoc (pos FORWARD_UNITS) z u ∙ ap (λ a. pos FORWARD_UNITS *ℤ a) (sym l) in
    let high : k *ℤ u ≡ pos FORWARD_UNITS *ℤ f.hi = mul_assoc (pos FORWARD_UNITS) z u ∙ ap (λ a. pos FORWARD_UNITS *ℤ a) (sym h) in
    sym (floor_found (pos FORWARD_UNITS *ℤ f.lo) u k p (subst F low (floor_exact k u p)))
    ∙ ceiling_found (pos FORWARD_UNITS *ℤ f.hi) u k p (subst C high (ceiling_exact k u p))

-- both ends of the exponential times k, where they are equal
same_spread : (e : Ends) (k y : ℤ) → e.lo ≡ y → e.hi ≡ y → ((scale_ends e k).lo ≡ k *ℤ y) × ((scale_ends e k).hi ≡ k *ℤ y)
same_spread e (pos k) y p q = (ap (λ z. pos k *ℤ z) p, ap (λ z. pos k *ℤ z) q)
same_spread e (negsuc k) y p q = (ap (λ z. negsuc k *ℤ z) q, ap (λ z. negsuc k *ℤ z) p)

nothing_spread : (e : Ends) (k : ℤ) → k ≡ pos 0 → ((scale_ends e k).lo ≡ pos 0) × ((scale_ends e k).hi ≡ pos 0)
nothing_spread e k p =
    let P : ℤ → Type 0 = λ z. ((scale_ends e z).lo ≡ pos 0) × ((scale_ends e z).hi ≡ pos 0) in
    subst P (sym p) (omega (arith, ints), omega (arith, ints))

pub ends_are_equal : (P : ℕ) (pair : Pair) (e : Ends) → (pair.d ≡ pos 0) ⊎ ((e.lo ≡ unit P) × (e.hi ≡ unit P)) → (printed_forward P (forward_interval P pair e)).0 ≡ (printed_forward P (forward_interval P pair e)).1
ends_are_equal P pair e (inl none) =
    let k : ℤ = pos 5 *ℤ pair.d in
    let zero : k ≡ pos 0 = omega (arith, ints) in
    let s = nothing_spread e k zero in
    exact_ends_are_equal P (forward_interval P pair e) (pos pair.strike) (omega (arith, ints, s)) (omega (arith, ints, s))
ends_are_equal P pair e (inr one) =
    let k : ℤ = pos 5 *ℤ pair.d in
    let s = same_spread e k (unit P) one.0 one.1 in
    exact_ends_are_equal P (forward_interval P pair e) (pos pair.strike +ℤ k) (omega (arith, ints, s, add_mul (pos pair.strike) k (unit P))) (omega (arith, ints, s, add_mul (pos pair.strike) k (unit P)))
