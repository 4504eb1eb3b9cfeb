-- The terms and the ends of a run's exponential pass the tests of a certificate's.
use Rattle.std.proofs.Common.{◌≡◌, ◌∙◌, sym, ap, subst, ℕ, zero, suc, ◌+◌, ◌*◌, ◌^◌, ◌<◌, ◌≤◌, ℤ, pos, negsuc, ◌*ℤ◌, ◌≤ℤ◌, ◌<ℤ◌, List, [], ◌∷◌, take, nat_abs, arith}
use Rattle.std.specs.List.{sum, slice_index}
use Rattle.std.proofs.lemmas.Int.{ints}
use Rattle.std.proofs.lemmas.Nat.{pow-add}
use Rattle.vx_interval.specs.Ends.{Ends, IsScale, unit}
use Rattle.vx_bounds.specs.Exponential.{low_term, high_term, low_sum_to, high_sum_to, low_end, high_end, IsTerms, exp_ends, signed_ends}
use Rattle.vx_bounds.proofs.TermLemmas.{low_step, high_step}
use Rattle.vx_bounds.proofs.EndLemmas.{low_first, high_first, ends_order, high_end_below}
use Rattle.vx_bounds.proofs.Steps.{low_sum_next, high_sum_next, low_sum_first, high_sum_first}
use Rattle.vx_bounds.proofs.Signed.{signed_is_good}
use Rattle.vx_bounds.proofs.Values.{unit_facts, negative_ends}
use Rattle.vx_claims.specs.Exponential.{AreTaylorTerms, EncloseExponential, low_sum as stated_low_sum, high_sum as stated_high_sum}
use Rattle.vx_soundness.proofs.ExponentialLemmas.{sum-take}
use Rattle.vx_certify.specs.Certified.{certified_ends}

-- ---- sums of the front of a list

-- the first terms of a list add to what the same terms add to
front_is : (term sums : ℕ → ℕ) (xs : List ℕ) → IsTerms term xs → sums 0 ≡ term 0 → ((k : ℕ) → sums (k + 1) ≡ sums k + term (k + 1)) → (n : ℕ) → n < 14 → sum (take (suc n) xs) ≡ sums n
front_is term sums xs terms first next zero h =
    let one = sum-take xs 0 in
    let at = terms.each 0 h in
    omega (arith, one, at, first)
front_is term sums xs terms first next (suc n) h =
    let more = sum-take xs (suc n) in
    let at = terms.each (suc n) h in
    let before = front_is term sums xs terms first next n (omega arith) in
    let step : sums (suc n) ≡ sums n + term (suc n) = subst (λ (j : ℕ). sums j ≡ sums n + term j) (omega arith) (next n) in
    omega (arith, more, at, before, step)

-- ---- the terms

module _ (P p q : ℕ) (low high : List ℕ) (positive : 0 < q) (lows : IsTerms (low_term (2 ^ P) p q) low) (highs : IsTerms (high_term (2 ^ P) p q) high) where
  next_low : (k : ℕ) → k + 1 < 14 → slice_index low (k + 1) * (q * (k + 1)) ≤ slice_index low k * p
  next_low k h =
      let F : ℕ → Type 0 = λ j. low_term (2 ^ P) p q j * (q * j) ≤ low_term (2 ^ P) p q k * p in
      let next : suc k ≡ k + 1 = omega arith in
      let step = subst F next (low_step (2 ^ P) p q k) in
      let G : ℕ → ℕ → Type 0 = λ a b. b * (q * (k + 1)) ≤ a * p in
      subst (λ (b : ℕ). G (slice_index low k) b) (sym (lows.each (k + 1) h)) (subst (λ (a : ℕ). G a (low_term (2 ^ P) p q (k + 1))) (sym (lows.each k (omega arith))) step)

  next_high : (k : ℕ) → k + 1 < 14 → slice_index high k * p ≤ slice_index high (k + 1) * (q * (k + 1))
  next_high k h =
      let F : ℕ → Type 0 = λ j. high_term (2 ^ P) p q k * p ≤ high_term (2 ^ P) p q j * (q * j) in
      let next : suc k ≡ k + 1 = omega arith in
      let step = subst F next (high_step (2 ^ P) p q k positive) in
      let G : ℕ → ℕ → Type 0 = λ a b. a * p ≤ b * (q * (k + 1)) in
      subst (λ (b : ℕ). G (slice_index high k) b) (sym (highs.each (k + 1) h)) (subst (λ (a : ℕ). G a (high_term (2 ^ P) p q (k + 1))) (sym (highs.each k (omega arith))) step)

  -- each term is the rounded one of the series
  pub terms_are_taylor : AreTaylorTerms P p q low high
  terms_are_taylor =
      let low_at = lows.each 0 (omega arith) ∙ low_first (2 ^ P) p q in
      let high_at = highs.each 0 (omega arith) ∙ high_first (2 ^ P) p q in
      record { first_low = omega (arith, low_at); first_high = omega (arith, high_at); next_low = next_low; next_high = next_high }

  -- the stated sums are the ends
  low_sum_is : stated_low_sum low ≡ low_end (2 ^ P) p q
  unfolding low_end
  low_sum_is = front_is (low_term (2 ^ P) p q) (low_sum_to (2 ^ P) p q) low lows (low_sum_first (2 ^ P) p q ∙ sym (low_first (2 ^ P) p q)) (low_sum_next (2 ^ P) p q) 12 (omega arith)

  high_sum_is : stated_high_sum high ≡ high_end (2 ^ P) p q
  unfolding high_end
  high_sum_is =
      let front = front_is (high_term (2 ^ P) p q) (high_sum_to (2 ^ P) p q) high highs (high_sum_first (2 ^ P) p q ∙ sym (high_first (2 ^ P) p q)) (high_sum_next (2 ^ P) p q) 12 (omega arith) in
      let last = highs.each 13 (omega arith) in
      omega (arith, front, last)

-- ---- the ends

double : (P : ℕ) → 2 ^ (2 * P) ≡ 2 ^ P * 2 ^ P
double P = let e : 2 * P ≡ P + P = omega arith in ap (λ k. 2 ^ k) e ∙ pow-add 2 P P

-- at a rate that is not negative
rising : (P p q : ℕ) (rate : ℤ) (low high : List ℕ) → IsScale P → 0 < q → 8 * p ≤ q → pos 0 ≤ℤ rate
    → IsTerms (low_term (2 ^ P) p q) low → IsTerms (high_term (2 ^ P) p q) high → EncloseExponential P rate low high (certified_ends (exp_ends P p q))
unfolding unit
rising P p q rate low high scale positive small not_negative lows highs =
    let good = signed_is_good P (pos p) q scale positive small in
    let ordered = (good.interval).ordered in
    let lo = low_sum_is P p q low high positive lows highs in
    let hi = high_sum_is P p q low high positive lows highs in
    let quarter = good.quarter in
    record {
      not_negative = good.nonneg;
      in_order = ordered;
      in_range = omega (arith, ints, quarter);
      rising = λ h. (omega (arith, ints, lo), omega (arith, ints, hi));
      falling_range = λ h. absurd (omega (arith, ints));
      falling = λ h. absurd (omega (arith, ints));
    }

-- at a negative rate
falling : (P p q : ℕ) (rate : ℤ) (low high : List ℕ) → IsScale P → 0 < q → 8 * suc p ≤ q → rate <ℤ pos 0
    → IsTerms (low_term (2 ^ P) (suc p) q) low → IsTerms (high_term (2 ^ P) (suc p) q) high → EncloseExponential P rate low high (certified_ends (signed_ends P (negsuc p) q))
unfolding unit
falling P p q rate low high scale positive small negative lows highs =
    let good = signed_is_good P (negsuc p) q scale positive small in
    let ordered = (good.interval).ordered in
    let lo = low_sum_is P (suc p) q low high positive lows highs in
    let hi = high_sum_is P (suc p) q low high positive lows highs in
    let quarter = good.quarter in
    let below = high_end_below (2 ^ P) (suc p) q positive small (unit_facts P scale) in
    let order = ends_order (2 ^ P) (suc p) q positive in
    let found = negative_ends P p q positive in
    let lo_is = found.low_is in
    let hi_is = found.high_is in
    let at_most = (found.reciprocal).floor_at_most in
    let at_least = (found.reciprocal).ceil_at_least in
    let square = double P in
    let F : ℕ → ℤ → Type 0 = λ s z. (z *ℤ pos s) ≤ℤ pos (2 ^ (2 * P)) in
    let G : ℕ → ℤ → Type 0 = λ s z. pos (2 ^ (2 * P)) ≤ℤ (z *ℤ pos s) in
    let low_at : F (high_end (2 ^ P) (suc p) q) (pos found.l) = omega (arith, ints, at_most, square) in
    let high_at : G (low_end (2 ^ P) (suc p) q) (pos found.h) = omega (arith, ints, at_least, square) in
    let ends : Ends = signed_ends P (negsuc p) q in
    record {
      not_negative = good.nonneg;
      in_order = ordered;
      in_range = omega (arith, ints, quarter);
      rising = λ h. absurd (omega (arith, ints));
      falling_range = λ h. (omega (arith, lo, below, order), omega (arith, hi, below));
      falling = λ h. (
        subst (λ (s : ℕ). F s ends.lo) (sym hi) (subst (λ (z : ℤ). F (high_end (2 ^ P) (suc p) q) z) (sym lo_is) low_at),
        subst (λ (s : ℕ). G s ends.hi) (sym lo) (subst (λ (z : ℤ). G (low_end (2 ^ P) (suc p) q) z) (sym hi_is) high_at),
      );
    }

-- of either sign, where the exponent has the rate's sign
pub exponential_is_enclosed : (P : ℕ) (top : ℤ) (q : ℕ) (rate : ℤ) (low high : List ℕ) → IsScale P → 0 < q → 8 * nat_abs top ≤ q
    → (pos 0 ≤ℤ top → pos 0 ≤ℤ rate) → (top <ℤ pos 0 → rate <ℤ pos 0)
    → IsTerms (low_term (2 ^ P) (nat_abs top) q) low → IsTerms (high_term (2 ^ P) (nat_abs top) q) high → EncloseExponential P rate low high (certified_ends (signed_ends P top q))
exponential_is_enclosed P (pos p) q rate low high scale positive small up down lows highs = rising P p q rate low high scale positive small (up (omega (arith, ints))) lows highs
exponential_is_enclosed P (negsuc p) q rate low high scale positive small up down lows highs = falling P p q rate low high scale positive small (down (omega (arith, ints))) lows highs
