-- The tested ends of the exponential enclose every member of its bracket of depth 12.
use Rattle.std.proofs.Common.{◌≡◌, ℕ, zero, suc, ◌+◌, ◌-◌, ◌*◌, ◌^◌, ◌<◌, ◌≤◌, ℤ, pos, negsuc, ◌*ℤ◌, ◌≤ℤ◌, ◌<ℤ◌, nat_abs, List, [], ◌∷◌, take, refl, sym, ◌∙◌, ap, subst, lit≤, arith}
use Rattle.std.specs.List.{sum, slice_index}
use Rattle.std.proofs.lemmas.Int.{ints}
use Rattle.std.proofs.lemmas.List.Sums.{sum_by-cons}
use Rattle.std.proofs.lemmas.Nat.{pow_pos, pow-add}
use Rattle.vx_num.specs.Fraction.{Fraction}
use Rattle.vx_num.proofs.Whole.{mul_mono}
use Rattle.vx_bracket.specs.Bracket.{Bracket}
use Rattle.vx_bracket.proofs.Series.{natural, IsBetweenCleared}
use Rattle.vx_bracket.proofs.Members.{bracket_up, bracket_down, members_are_positive}
use Rattle.vx_bracket.proofs.Terms.{partial_sum, sum_below, value_above, enclosed_up, enclosed_down}
use Rattle.vx_cert.specs.declared.certificate.Ends.{Ends}
use Rattle.vx_formula.specs.declared.limits.TheConstants.{YEAR_MINUTES, RATE_UNITS}
use Rattle.vx_formula.specs.Term.{exponent}
use Rattle.vx_formula.proofs.LevelLemmas.{exponent_proper}
use Rattle.vx_claims.specs.Exponential.{AreTaylorTerms, low_sum, high_sum, EncloseExponential}
use Rattle.vx_soundness.specs.Enclosing.{Encloses}

-- ---- sums of a list's front

-- one item more adds its value
pub sum-take : (xs : List ℕ) (n : ℕ) → sum (take (suc n) xs) ≡ sum (take n xs) + slice_index xs n
sum-take [] zero = refl
sum-take [] (suc n) = refl
sum-take (x ∷ xs) zero = sum_by-cons (λ y. y) x [] ∙ omega arith
sum-take (x ∷ xs) (suc n) =
    let left = sum_by-cons (λ y. y) x (take (suc n) xs) in
    let right = sum_by-cons (λ y. y) x (take n xs) in
    let before = sum-take xs n in
    omega (arith, left, right, before)

front_sum : (xs : List ℕ) (n : ℕ) → partial_sum (slice_index xs) n ≡ sum (take (suc n) xs)
unfolding partial_sum
front_sum [] zero = refl
front_sum (x ∷ xs) zero = sym (sum_by-cons (λ y. y) x [] ∙ omega arith)
front_sum xs (suc n) = ap (λ s. s + slice_index xs (suc n)) (front_sum xs n) ∙ sym (sum-take xs (suc n))

-- ---- the tested terms

module _ (P p q : ℕ) (low high : List ℕ) (terms : AreTaylorTerms P p q low high) where
  low_step : (k : ℕ) → k < 12 → slice_index low (suc k) * (q * suc k) ≤ slice_index low k * p
  low_step k h =
      let F : ℕ → Type 0 = λ j. slice_index low j * (q * j) ≤ slice_index low k * p in
      let next : k + 1 ≡ suc k = omega arith in
      subst F next (terms.next_low k (omega arith))

  high_step : (k : ℕ) → k < 13 → slice_index high k * p ≤ slice_index high (suc k) * (q * suc k)
  high_step k h =
      let F : ℕ → Type 0 = λ j. slice_index high k * p ≤ slice_index high j * (q * j) in
      let next : k + 1 ≡ suc k = omega arith in
      subst F next (terms.next_high k (omega arith))

  -- of a fraction u/v between the cleared sums
  tested_up : (u v : ℕ) → 0 < q → IsBetweenCleared 12 p q u v → (low_sum low * v ≤ u * 2 ^ P) × (u * 2 ^ P ≤ high_sum high * v)
  tested_up u v hq h =
      let below = sum_below (2 ^ P) p q (slice_index low) 12 terms.first_low low_step in
      let above = value_above (2 ^ P) p q (slice_index high) 12 terms.first_high high_step in
      let both = enclosed_up (2 ^ P) p q 12 (partial_sum (slice_index low) 12) (partial_sum (slice_index high) 12 + 2 * slice_index high 13) u v hq below above h.above_sum h.below_upper in
      let F : ℕ → Type 0 = λ s. s * v ≤ u * 2 ^ P in
      let G : ℕ → Type 0 = λ s. u * 2 ^ P ≤ (s + 2 * slice_index high 13) * v in
      (subst F (front_sum low 12) both.0, subst G (front_sum high 12) both.1)

-- ---- the tested ends

abbrev year : ℕ
year = YEAR_MINUTES * RATE_UNITS

rising_ends : (u v Q low high : ℕ) (ends : Ends) → low * v ≤ u * Q → u * Q ≤ high * v → ends.lo ≤ℤ pos low → pos high ≤ℤ ends.hi → Encloses Q ends (natural u v)
rising_ends u v Q low high ends from to lo hi = record {
  low = omega (arith, ints, mul_mono ends.lo (pos low) (pos v) (omega (arith, ints)) lo);
  high = omega (arith, ints, mul_mono (pos high) ends.hi (pos v) (omega (arith, ints)) hi);
}

-- at a negative exponent, of a fraction whose reciprocal v/u is enclosed by the sums
falling_ends : (u v Q low high : ℕ) (ends : Ends) → 0 < Q → low * u ≤ v * Q → v * Q ≤ high * u → pos 0 ≤ℤ ends.lo → ends.lo ≤ℤ ends.hi
    → (ends.lo *ℤ pos high) ≤ℤ pos (Q * Q) → pos (Q * Q) ≤ℤ (ends.hi *ℤ pos low) → Encloses Q ends (natural u v)
falling_ends u v Q low high ends positive from to nonneg order lo hi = ends_of ends.lo ends.hi nonneg order lo hi where
  ends_of : (a b : ℤ) → pos 0 ≤ℤ a → a ≤ℤ b → (a *ℤ pos high) ≤ℤ pos (Q * Q) → pos (Q * Q) ≤ℤ (b *ℤ pos low) → Encloses Q (record { lo = a; hi = b }) (natural u v)
  ends_of (negsuc a) b nonneg order lo hi = absurd (omega (arith, ints))
  ends_of (pos a) (negsuc b) nonneg order lo hi = absurd (omega (arith, ints))
  ends_of (pos a) (pos b) nonneg order lo hi =
      let both = enclosed_down Q low high a b u v positive (omega (arith, ints)) (omega (arith, ints)) from to in
      record { low = omega (arith, ints, both.0); high = omega (arith, ints, both.1) }

double : (P : ℕ) → 2 ^ (2 * P) ≡ 2 ^ P * 2 ^ P
double P = let e : 2 * P ≡ P + P = omega arith in ap (λ k. 2 ^ k) e ∙ pow-add 2 P P

module _ (P minutes : ℕ) (low high : List ℕ) (ends : Ends) (some : 1 ≤ minutes) where
  -- a rate of r or of -(r + 1), and a member u/v
  enclosed_at : (rate t : ℤ) (v : ℕ) → AreTaylorTerms P (nat_abs rate * minutes) year low high → EncloseExponential P rate low high ends
      → pos 0 <ℤ t → Bracket 12 (exponent rate minutes) (record { top = t; bottom = v }) → Encloses (2 ^ P) ends (record { top = t; bottom = v })
  enclosed_at rate (negsuc u) v terms tests positive member = absurd (omega (arith, ints))
  enclosed_at (pos r) (pos u) v terms tests positive member =
      let sums = bracket_up 12 (r * minutes) year u v (lit≤ tt) member in
      let both = tested_up P (r * minutes) year low high terms u v (lit≤ tt) sums in
      let stated = tests.rising (omega (arith, ints)) in
      rising_ends u v (2 ^ P) (low_sum low) (high_sum high) ends both.0 both.1 stated.0 stated.1
  enclosed_at (negsuc r) (pos u) v terms tests positive member =
      let p = suc r * minutes - 1 in
      let plus : suc p ≡ suc r * minutes = one_less (suc r * minutes) (at_least_one r minutes some) in
      let down : (exponent (negsuc r) minutes).top ≡ negsuc p = turned r minutes p plus in
      let F : ℤ → Type 0 = λ z. Bracket 12 (record { top = z; bottom = year }) (record { top = pos u; bottom = v }) in
      let G : ℕ → Type 0 = λ k. AreTaylorTerms P k year low high in
      let sums = bracket_down 12 p year u v (lit≤ tt) (subst F down member) in
      let both = tested_up P (suc p) year low high (subst G (sym plus) terms) v u (lit≤ tt) sums in
      let stated = tests.falling (omega (arith, ints)) in
      let H : ℕ → Type 0 = λ k. (ends.lo *ℤ pos (high_sum high)) ≤ℤ pos k in
      let I : ℕ → Type 0 = λ k. pos k ≤ℤ (ends.hi *ℤ pos (low_sum low)) in
      falling_ends u v (2 ^ P) (low_sum low) (high_sum high) ends (pow_pos P) both.0 both.1 tests.not_negative tests.in_order (subst H (double P) stated.0) (subst I (double P) stated.1)
    where
      at_least_one : (r m : ℕ) → 1 ≤ m → 1 ≤ suc r * m
      at_least_one r m h = omega arith

      one_less : (n : ℕ) → 1 ≤ n → suc (n - 1) ≡ n
      one_less n h = omega arith

      turned : (r m p : ℕ) → suc p ≡ suc r * m → negsuc r *ℤ pos m ≡ negsuc p
      turned r m p h = omega (arith, ints)

-- ends that meet the exponential's tests enclose each fraction of the bracket of depth 12
pub exponential_enclosed : (P minutes : ℕ) (rate : ℤ) (low high : List ℕ) (ends : Ends) (e : Fraction) → 1 ≤ minutes
    → AreTaylorTerms P (nat_abs rate * minutes) year low high → EncloseExponential P rate low high ends
    → Bracket 12 (exponent rate minutes) e → Encloses (2 ^ P) ends e
exponential_enclosed P minutes rate low high ends e some terms tests member =
    enclosed_at P minutes low high ends some rate e.top e.bottom terms tests
    (members_are_positive 12 (exponent rate minutes) e (exponent_proper rate minutes) member) member
