-- The index has ends: where a function of whole numbers is at most a value at one number and above it at a later one, it is so at two
-- neighbours between them.
use Rattle.std.proofs.Common.{◌≡◌, sym, subst, ℕ, zero, suc, ◌+◌, ◌^◌, ◌⊎◌, ℤ, pos, negsuc, ◌+ℤ◌, ◌-ℤ◌, ◌*ℤ◌, neg_ℤ, ◌≤ℤ◌, ◌<ℤ◌, nat_abs, inl, inr, arith}
use Rattle.std.proofs.lemmas.Int.{ints, by_lt_z}
use Rattle.vx_num.specs.SignedSquare.{signed_square}
use Rattle.vx_num.proofs.Whole.{mul_mono, mul_mono_left}
use Rattle.vx_interval.specs.Ends.{unit}
use Rattle.vx_interval.proofs.EndsLemmas.{unit_positive}
use Rattle.vx_existence.specs.Existence.{SquareHasIndexEnds}

-- ---- a step between two numbers

module _ (Below : ℤ → Type 0) (below_or_not : (z : ℤ) → Below z ⊎ ¬ Below z) where
  -- the step from below to not below, among so many numbers from z on
  step : (n : ℕ) (z : ℤ) → Below z → ¬ Below (z +ℤ pos n) → (y : ℤ) × Below y × (¬ Below (y +ℤ pos 1))
  step zero z below not = let same : z +ℤ pos 0 ≡ z = omega (arith, ints) in absurd (subst (λ (w : ℤ). ¬ Below w) same not below)
  step (suc n) z below not =
      elim (below_or_not (z +ℤ pos 1)) [
        | inl next ↦
            let same : z +ℤ pos (suc n) ≡ (z +ℤ pos 1) +ℤ pos n = omega (arith, ints) in
            step n (z +ℤ pos 1) next (subst (λ (w : ℤ). ¬ Below w) same not)
        | inr past ↦ (z, below, past)
      ]

-- ---- the signed square, times a positive number, goes below and above any value

module _ (u c : ℤ) (positive : pos 0 <ℤ u) where
  abbrev size : ℕ
  size = nat_abs c

  at_least_size : (s : ℤ) → pos (suc size) ≤ℤ s → c <ℤ (s *ℤ u)
  at_least_size s h =
      let one : (pos (suc size) *ℤ pos 1) ≤ℤ (pos (suc size) *ℤ u) =
      mul_mono_left (pos 1) u (pos (suc size)) (omega (arith, ints)) (omega (arith, ints, positive)) in
      let more = mul_mono (pos (suc size)) s u (omega (arith, ints, positive)) h in
      omega (arith, ints, one, more)

  at_most_size : (s : ℤ) → s ≤ℤ negsuc size → (s *ℤ u) <ℤ c
  at_most_size s h =
      let one = mul_mono_left (pos 1) u (pos (suc size)) (omega (arith, ints)) (omega (arith, ints, positive)) in
      let more = mul_mono s (negsuc size) u (omega (arith, ints, positive)) h in
      let turned : negsuc size *ℤ u ≡ neg_ℤ (pos (suc size) *ℤ u) = omega (arith, ints) in
      omega (arith, ints, one, more, turned)

  square_above : pos (suc size) ≤ℤ signed_square (pos (suc size))
  square_above = omega (arith, ints)

  square_below : signed_square (negsuc size) ≤ℤ negsuc size
  square_below = omega (arith, ints)

  width_is : negsuc size +ℤ pos (suc size + suc size) ≡ pos (suc size)
  width_is = omega (arith, ints)

  -- a greatest number whose signed square times u is at most c
  pub greatest_at_most : (z : ℤ) × ((signed_square z *ℤ u) ≤ℤ c) × (c <ℤ (signed_square (z +ℤ pos 1) *ℤ u))
  greatest_at_most =
      let Below : ℤ → Type 0 = λ z. (signed_square z *ℤ u) ≤ℤ c in
      let low = at_most_size (signed_square (negsuc size)) square_below in
      let high = at_least_size (signed_square (pos (suc size))) square_above in
      let found =
      step Below (λ z. by_lt_z c (signed_square z *ℤ u) (λ more. inr (λ h. omega (arith, ints, more, h))) (λ most. inl most))
      (suc size + suc size) (negsuc size) (omega (arith, ints, low))
      (subst (λ (w : ℤ). ¬ Below w) (sym width_is) (λ h. omega (arith, ints, high, h))) in
      (found.0, found.1, by_lt_z c (signed_square (found.0 +ℤ pos 1) *ℤ u) (λ more. more) (λ most. absurd (found.2 most)))

  -- a least number whose signed square times u is at least c
  pub least_at_least : (z : ℤ) × (c ≤ℤ (signed_square z *ℤ u)) × ((signed_square (z -ℤ pos 1) *ℤ u) <ℤ c)
  least_at_least =
      let Below : ℤ → Type 0 = λ z. (signed_square z *ℤ u) <ℤ c in
      let low = at_most_size (signed_square (negsuc size)) square_below in
      let high = at_least_size (signed_square (pos (suc size))) square_above in
      let found =
      step Below (λ z. by_lt_z (signed_square z *ℤ u) c (λ less. inl less) (λ most. inr (λ h. omega (arith, ints, most, h))))
      (suc size + suc size) (negsuc size) low
      (subst (λ (w : ℤ). ¬ Below w) (sym width_is) (λ h. omega (arith, ints, high, h))) in
      let back : found.0 ≡ (found.0 +ℤ pos 1) -ℤ pos 1 = omega (arith, ints) in (
        found.0 +ℤ pos 1,
        by_lt_z (signed_square (found.0 +ℤ pos 1) *ℤ u) c (λ less. absurd (found.2 less)) (λ most. most),
        subst (λ (w : ℤ). (signed_square w *ℤ u) <ℤ c) back found.1,
      )

-- ---- the ends

-- the index has ends, whatever the ends of its square
pub square_has_index_ends : SquareHasIndexEnds
square_has_index_ends P square =
    let low = greatest_at_most (unit P) (pos (10 ^ 16) *ℤ square.lo) (unit_positive P) in
    let high = least_at_least (unit P) (pos (10 ^ 16) *ℤ square.hi) (unit_positive P) in
    (low.0, high.0, record { low = record { at_most = low.1; next_above = low.2 }; high = record { at_least = high.1; last_below = high.2 } })
