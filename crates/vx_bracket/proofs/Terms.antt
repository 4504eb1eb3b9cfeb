-- Two lists of rounded terms enclose Taylor's sums: the lower list by products at most, the upper list by products at least.
use Rattle.std.proofs.Common.{ℕ, zero, suc, ◌+◌, ◌*◌, ◌^◌, ◌<◌, ◌≤◌, arith, mul-le-mul_left, mul-le-mul_right}
use Rattle.std.proofs.Math.Nat.{pow-succ', pow-zero, le_of_mul-le-mul_left}
use Rattle.vx_bracket.specs.Cleared.{series_bottom, series_top, upper_top}
use Rattle.vx_bracket.proofs.Cleared.{quotient_trans, bottom_positive}

-- t 0 + t 1 + .. + t n
unfoldable pub partial_sum : (ℕ → ℕ) → ℕ → ℕ
partial_sum t zero = t 0
partial_sum t (suc n) = partial_sum t n + t (suc n)

-- t n is at most u * x^n/n!
pub term_below : (u p q : ℕ) (t : ℕ → ℕ) (n : ℕ) → t 0 ≤ u → ((k : ℕ) → k < n → t (suc k) * (q * suc k) ≤ t k * p) → t n * series_bottom q n ≤ u * p ^ n
unfolding series_bottom
term_below u p q t zero first steps = rw (pow-zero p) (omega arith)
term_below u p q t (suc n) first steps =
    let before : t n * series_bottom q n ≤ u * p ^ n = term_below u p q t n first (λ k h. steps k (omega arith)) in
    let here : t (suc n) * (q * suc n) ≤ t n * p = steps n (omega arith) in
    let one : (t (suc n) * (q * suc n)) * series_bottom q n ≤ (t n * p) * series_bottom q n = mul-le-mul_right (series_bottom q n) here in
    let two : p * (t n * series_bottom q n) ≤ p * (u * p ^ n) = mul-le-mul_left p before in
    rw (pow-succ' p n) (omega arith)

-- t n is at least u * x^n/n!
pub term_above : (u p q : ℕ) (t : ℕ → ℕ) (n : ℕ) → u ≤ t 0 → ((k : ℕ) → k < n → t k * p ≤ t (suc k) * (q * suc k)) → u * p ^ n ≤ t n * series_bottom q n
unfolding series_bottom
term_above u p q t zero first steps = rw (pow-zero p) (omega arith)
term_above u p q t (suc n) first steps =
    let before : u * p ^ n ≤ t n * series_bottom q n = term_above u p q t n first (λ k h. steps k (omega arith)) in
    let here : t n * p ≤ t (suc n) * (q * suc n) = steps n (omega arith) in
    let one : (t n * p) * series_bottom q n ≤ (t (suc n) * (q * suc n)) * series_bottom q n = mul-le-mul_right (series_bottom q n) here in
    let two : p * (u * p ^ n) ≤ p * (t n * series_bottom q n) = mul-le-mul_left p before in
    rw (pow-succ' p n) (omega arith)

-- the lower list's sum is at most u times the sum of the series
pub sum_below : (u p q : ℕ) (t : ℕ → ℕ) (n : ℕ) → t 0 ≤ u → ((k : ℕ) → k < n → t (suc k) * (q * suc k) ≤ t k * p) → partial_sum t n * series_bottom q n ≤ u * series_top p q n
unfolding partial_sum series_bottom series_top
sum_below u p q t zero first steps = omega arith
sum_below u p q t (suc n) first steps =
    let before : partial_sum t n * series_bottom q n ≤ u * series_top p q n = sum_below u p q t n first (λ k h. steps k (omega arith)) in
    let scaled : (partial_sum t n * series_bottom q n) * (q * suc n) ≤ (u * series_top p q n) * (q * suc n) = mul-le-mul_right (q * suc n) before in
    let last : t (suc n) * (series_bottom q n * (q * suc n)) ≤ u * p ^ suc n = term_below u p q t (suc n) first steps in
    omega arith

-- the upper list's sum is at least u times the sum of the series
pub sum_above : (u p q : ℕ) (t : ℕ → ℕ) (n : ℕ) → u ≤ t 0 → ((k : ℕ) → k < n → t k * p ≤ t (suc k) * (q * suc k)) → u * series_top p q n ≤ partial_sum t n * series_bottom q n
unfolding partial_sum series_bottom series_top
sum_above u p q t zero first steps = omega arith
sum_above u p q t (suc n) first steps =
    let before : u * series_top p q n ≤ partial_sum t n * series_bottom q n = sum_above u p q t n first (λ k h. steps k (omega arith)) in
    let scaled : (u * series_top p q n) * (q * suc n) ≤ (partial_sum t n * series_bottom q n) * (q * suc n) = mul-le-mul_right (q * suc n) before in
    let last : u * p ^ suc n ≤ t (suc n) * (series_bottom q n * (q * suc n)) = term_above u p q t (suc n) first steps in
    omega arith

-- with twice the next term it is at least u times the upper sum
pub value_above : (u p q : ℕ) (t : ℕ → ℕ) (n : ℕ) → u ≤ t 0 → ((k : ℕ) → k < suc n → t k * p ≤ t (suc k) * (q * suc k)) → u * upper_top p q n ≤ (partial_sum t n + 2 * t (suc n)) * series_bottom q (suc n)
unfolding series_bottom upper_top
value_above u p q t n first steps =
    let before : u * series_top p q n ≤ partial_sum t n * series_bottom q n = sum_above u p q t n first (λ k h. steps k (omega arith)) in
    let scaled : (u * series_top p q n) * (q * suc n) ≤ (partial_sum t n * series_bottom q n) * (q * suc n) = mul-le-mul_right (q * suc n) before in
    let last : u * p ^ suc n ≤ t (suc n) * (series_bottom q n * (q * suc n)) = term_above u p q t (suc n) first steps in
    omega arith

-- a fraction top/bottom between the sums lies between low/u and high/u
pub enclosed_up : (u p q n low high top bottom : ℕ) → 0 < q
    → low * series_bottom q n ≤ u * series_top p q n → u * upper_top p q n ≤ high * series_bottom q (suc n)
    → series_top p q n * bottom ≤ top * series_bottom q n → top * series_bottom q (suc n) ≤ upper_top p q n * bottom
    → (low * bottom ≤ top * u) × (top * u ≤ high * bottom)
enclosed_up u p q n low high top bottom hq below above from to =
    let b = bottom_positive q n hq in
    let b' = bottom_positive q (suc n) hq in (
      quotient_trans low u (series_top p q n) (series_bottom q n) top bottom b (omega arith) from,
      quotient_trans top bottom (upper_top p q n) (series_bottom q (suc n)) high u b' to (omega arith),
    )

-- its reciprocal lies between (u*u)/high and (u*u)/low, over u
pub enclosed_down : (u low high floor ceil top bottom : ℕ) → 0 < u
    → floor * high ≤ u * u → u * u ≤ ceil * low
    → low * top ≤ bottom * u → bottom * u ≤ high * top
    → (floor * bottom ≤ top * u) × (top * u ≤ ceil * bottom)
enclosed_down u low high floor ceil top bottom hu below above from to =
    let one : floor * (bottom * u) ≤ floor * (high * top) = mul-le-mul_left floor to in
    let two : (floor * high) * top ≤ (u * u) * top = mul-le-mul_right top below in
    let three : u * (floor * bottom) ≤ u * (top * u) = omega arith in
    let four : ceil * (low * top) ≤ ceil * (bottom * u) = mul-le-mul_left ceil from in
    let five : (u * u) * top ≤ (ceil * low) * top = mul-le-mul_right top above in
    let six : u * (top * u) ≤ u * (ceil * bottom) = omega arith in
    (le_of_mul-le-mul_left three hu, le_of_mul-le-mul_left six hu)
