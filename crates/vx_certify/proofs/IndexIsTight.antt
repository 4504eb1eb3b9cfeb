-- The ends of the index lie near each other where its variances are narrow.
use Rattle.std.proofs.Common.{◌≡◌, ℕ, ◌*◌, ◌^◌, ◌≤◌, ℤ, pos, ◌+ℤ◌, ◌-ℤ◌, ◌*ℤ◌, ◌≤ℤ◌, ◌<ℤ◌, arith}
use Rattle.std.proofs.lemmas.Int.{ints, by_lt_z}
use Rattle.std.proofs.Math.Pow.{pow_mono}
use Rattle.vx_num.specs.SignedSquare.{signed_square}
use Rattle.vx_num.proofs.Whole.{mul_assoc, sub_mul, mul_mono, mul_cancel_strict, square_mono}
use Rattle.vx_num.proofs.Squares.{signed_square_half}
use Rattle.vx_interval.specs.Ends.{Ends, unit, width}
use Rattle.vx_term.proofs.Widths.{interpolated_narrow, single_narrow}
use Rattle.vx_certify.specs.Certified.{AreIndexEnds}
use Rattle.vx_certify.specs.Laws.{IsTight, IndexIsTight, SingleIsTight}

unit_is_large : (P : ℕ) → 62 ≤ P → pos (2 ^ 62) ≤ℤ unit P
unfolding unit
unit_is_large P h = let m : 2 ^ 62 ≤ 2 ^ P = pow_mono h in omega (arith, ints)

-- two whole numbers whose signed squares lie this near, in units of which 2^62 are 1, are less than 199 apart
near_roots : (u p r a b : ℤ) → pos (2 ^ 62) ≤ℤ u → p ≤ℤ r → (b -ℤ a) ≤ℤ pos 5788000
    → (pos (10 ^ 16) *ℤ a) <ℤ (signed_square p *ℤ u) → (signed_square r *ℤ u) <ℤ (pos (10 ^ 16) *ℤ b) → (r -ℤ p) <ℤ pos 199
near_roots u p r a b big order narrow low high =
    let d : ℤ = r -ℤ p in
    let positive : pos 0 <ℤ u = omega (arith, ints) in
    let half = signed_square_half p r order in
    let scaled = mul_mono (d *ℤ d) (pos 2 *ℤ (signed_square r -ℤ signed_square p)) u (omega (arith, ints)) half in
    let parts : (pos 2 *ℤ (signed_square r -ℤ signed_square p)) *ℤ u ≡ pos 2 *ℤ ((signed_square r -ℤ signed_square p) *ℤ u) = mul_assoc (pos 2) (signed_square r -ℤ signed_square p) u in
    let apart : (signed_square r -ℤ signed_square p) *ℤ u ≡ signed_square r *ℤ u -ℤ signed_square p *ℤ u = sub_mul (signed_square r) (signed_square p) u in
    let less : ((d *ℤ d) *ℤ u) <ℤ (pos 39601 *ℤ u) = omega (arith, ints, scaled, parts, apart, low, high, narrow, big) in
    let squares : (d *ℤ d) <ℤ pos 39601 = mul_cancel_strict (d *ℤ d) (pos 39601) u positive less in
    by_lt_z d (pos 199) (λ h. h) (λ most. let more = square_mono (pos 199) d (omega (arith, ints)) most in absurd (omega (arith, ints, more, squares)))

root_ends_are_near : (P : ℕ) (square : Ends) (lo hi : ℤ) → 62 ≤ P → width square ≤ℤ pos 5788000 → AreIndexEnds P square lo hi → hi ≤ℤ (lo +ℤ pos 200)
root_ends_are_near P square lo hi scale narrow h =
    let low = h.low in
    let high = h.high in
    by_lt_z (hi -ℤ pos 1) (lo +ℤ pos 1) (λ crossed. omega (arith, ints))
    (λ order.
    let near = near_roots (unit P) (lo +ℤ pos 1) (hi -ℤ pos 1) square.lo square.hi (unit_is_large P scale) order narrow low.next_above high.last_below in
    omega (arith, ints, near))

is_tight : (P : ℕ) (square : Ends) → 62 ≤ P → width square ≤ℤ pos 5788000 → IsTight P square
is_tight P square scale narrow = record { narrow = narrow; near = λ lo hi h. root_ends_are_near P square lo hi scale narrow h }

-- the ends of an index of narrow variances are at most 200 millionths of a point apart at scale 62, from 7 to 120 days ahead
pub index_is_tight : IndexIsTight
index_is_tight P days n1 n2 w1 w2 scale range rising weights near next =
    let more : 7 ≤ days = range.0 in
    is_tight P _ scale (interpolated_narrow w1 w2 n1 n2 (1440 * days) rising (omega arith) weights near next)

-- and so are those of one narrow variance
pub single_is_tight : SingleIsTight
single_is_tight P w scale narrow = is_tight P _ scale (single_narrow w narrow)
