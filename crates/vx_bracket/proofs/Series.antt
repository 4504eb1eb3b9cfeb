-- The sums of the bracket as quotients of the cleared sums.
use Rattle.std.proofs.Common.{◌≡◌, ℕ, zero, suc, ◌+◌, ◌*◌, ◌^◌, ◌<◌, ◌≤◌, ℤ, pos, negsuc, ◌*ℤ◌, ◌≤ℤ◌, ◌<ℤ◌, refl, sym, ap, ap₂, ◌∙◌, subst, arith, mul-le-mul_left, mul-pos, pow-suc}
use Rattle.std.proofs.Math.Nat.{le_of_mul-le-mul_left, pow-zero}
use Rattle.std.proofs.lemmas.Int.{ints}
use Rattle.vx_num.specs.Fraction.{Fraction, ◌≤ᶠ◌}
use Rattle.vx_bracket.specs.Bracket.{factorial, power, series_term, series_sum, series_upper, IsBetweenSums}
use Rattle.vx_bracket.specs.Cleared.{series_bottom, series_top, upper_top}
use Rattle.vx_bracket.proofs.Cleared.{bottom_positive, top_positive}

-- the fraction p/q of natural numbers
abbrev pub natural : ℕ → ℕ → Fraction
natural p q = record { top = pos p; bottom = q }

-- a power of a fraction, by its top and bottom
pub power_is : (p q k : ℕ) → power (natural p q) k ≡ natural (p ^ k) (q ^ k)
unfolding power
power_is p q zero = ap₂ natural (sym (pow-zero p)) (sym (pow-zero q))
power_is p q (suc k) = rw (power_is p q k, pow-suc p k, pow-suc q k) refl

factorial_is : (q k : ℕ) → q ^ k * factorial k ≡ series_bottom q k
unfolding factorial series_bottom
factorial_is q zero = rw (pow-zero q) refl
factorial_is q (suc k) = let e = factorial_is q k in rw (pow-suc q k, ← e) (omega arith)

-- a term of the series, by its top and bottom
pub term_is : (p q k : ℕ) → series_term k (natural p q) ≡ natural (p ^ k) (series_bottom q k)
unfolding series_term
term_is p q k = rw (power_is p q k) (ap (natural (p ^ k)) (factorial_is q k))

-- S_n is a fraction a/b of natural numbers, equal in value to the cleared quotient
pub record IsCleared (s : Fraction) (top bottom : ℕ) : Type 0 where
  pub a : ℕ
  pub b : ℕ
  pub is : s ≡ natural a b
  pub positive : 0 < b
  pub equal : a * bottom ≡ top * b

-- Taylor's sum is its cleared top over its cleared bottom
pub sum_cleared : (p q n : ℕ) → 0 < q → IsCleared (series_sum n (natural p q)) (series_top p q n) (series_bottom q n)
unfolding series_sum series_top series_bottom
sum_cleared p q zero hq = record { a = 1; b = 1; is = term_is p q zero ∙ rw (pow-zero p) refl; positive = omega arith; equal = refl }
sum_cleared p q (suc n) hq =
    let s = sum_cleared p q n hq in
    let k : ℕ = q * suc n in
    let below : ℕ = series_bottom q n in
    let next : ℕ = below * k in
    let y : ℕ = p ^ suc n in
    let e : s.a * below ≡ series_top p q n * s.b = s.equal in
    let scaled : (s.a * below) * (k * next) ≡ (series_top p q n * s.b) * (k * next) = ap (λ z. z * (k * next)) e in
    record {
      a = s.a * next + y * s.b;
      b = s.b * next;
      is = rw (s.is, term_is p q (suc n)) refl;
      positive = mul-pos s.positive (bottom_positive q (suc n) hq);
      equal = omega arith;
    }

-- so is the sum with its remainder
pub upper_cleared : (p q n : ℕ) → 0 < q → IsCleared (series_upper n (natural p q)) (upper_top p q n) (series_bottom q (suc n))
unfolding series_upper upper_top series_bottom
upper_cleared p q n hq =
    let s = sum_cleared p q n hq in
    let k : ℕ = q * suc n in
    let below : ℕ = series_bottom q n in
    let next : ℕ = below * k in
    let y : ℕ = p ^ suc n in
    let e : s.a * below ≡ series_top p q n * s.b = s.equal in
    let scaled : (s.a * below) * (k * next) ≡ (series_top p q n * s.b) * (k * next) = ap (λ z. z * (k * next)) e in
    record {
      a = s.a * (1 * next) + (2 * y) * s.b;
      b = s.b * (1 * next);
      is = rw (s.is, term_is p q (suc n)) refl;
      positive = mul-pos s.positive (omega (arith, bottom_positive q (suc n) hq));
      equal = omega arith;
    }

-- ---- comparisons with a cleared quotient

at_most_natural : (a b c d : ℕ) → (pos a *ℤ pos b) ≤ℤ (pos c *ℤ pos d) → a * b ≤ c * d
at_most_natural a b c d h = omega (arith, ints)

natural_at_most : (a b c d : ℕ) → a * b ≤ c * d → (pos a *ℤ pos b) ≤ℤ (pos c *ℤ pos d)
natural_at_most a b c d h = omega (arith, ints)

-- a/b = t/s in value, so a/b <= u/v where t/s <= u/v
same_below : (a b t s u v : ℕ) → 0 < b → 0 < s → a * s ≡ t * b → a * v ≤ u * b → t * v ≤ u * s
same_below a b t s u v hb hs e h =
    let one : s * (a * v) ≤ s * (u * b) = mul-le-mul_left s h in
    let two : (a * s) * v ≡ (t * b) * v = ap (λ z. z * v) e in
    let three : b * (t * v) ≤ b * (u * s) = omega arith in
    le_of_mul-le-mul_left three hb

-- a bound on a quotient bounds each quotient that equals it
same_quotient_above : (a b t s u v : ℕ) → 0 < b → 0 < s → a * s ≡ t * b → u * b ≤ a * v → u * s ≤ t * v
same_quotient_above a b t s u v hb hs e h =
    let one : s * (u * b) ≤ s * (a * v) = mul-le-mul_left s h in
    let two : (a * s) * v ≡ (t * b) * v = ap (λ z. z * v) e in
    let three : b * (u * s) ≤ b * (t * v) = omega arith in
    le_of_mul-le-mul_left three hb

-- ---- between the sums, with the denominators cleared

-- a fraction lies between the two cleared sums
pub record IsBetweenCleared (n p q u v : ℕ) : Type 0 where
  pub above_sum : series_top p q n * v ≤ u * series_bottom q n
  pub below_upper : u * series_bottom q (suc n) ≤ upper_top p q n * v

-- between the sums is between the cleared sums
pub between_cleared : (n p q u v : ℕ) → 0 < q → IsBetweenSums n (natural p q) (natural u v) → IsBetweenCleared n p q u v
between_cleared n p q u v hq h =
    let s = sum_cleared p q n hq in
    let w = upper_cleared p q n hq in
    let low : s.a * v ≤ u * s.b = at_most_natural s.a v u s.b (let P : Fraction → Type 0 = λ z. z ≤ᶠ natural u v in subst P s.is h.above_sum) in
    let high : u * w.b ≤ w.a * v = at_most_natural u w.b w.a v (let P : Fraction → Type 0 = λ z. natural u v ≤ᶠ z in subst P w.is h.below_upper) in
    record {
      above_sum = same_below s.a s.b (series_top p q n) (series_bottom q n) u v s.positive (bottom_positive q n hq) s.equal low;
      below_upper = same_quotient_above w.a w.b (upper_top p q n) (series_bottom q (suc n)) u v w.positive (bottom_positive q (suc n) hq) w.equal high;
    }

-- and the other way round
pub cleared_between : (n p q u v : ℕ) → 0 < q → IsBetweenCleared n p q u v → IsBetweenSums n (natural p q) (natural u v)
cleared_between n p q u v hq h =
    let s = sum_cleared p q n hq in
    let w = upper_cleared p q n hq in
    let low : s.a * v ≤ u * s.b = same_below (series_top p q n) (series_bottom q n) s.a s.b u v (bottom_positive q n hq) s.positive (sym s.equal) h.above_sum in
    let high : u * w.b ≤ w.a * v = same_quotient_above (upper_top p q n) (series_bottom q (suc n)) w.a w.b u v (bottom_positive q (suc n) hq) w.positive (sym w.equal) h.below_upper in
    record {
      above_sum = let P : Fraction → Type 0 = λ z. z ≤ᶠ natural u v in subst P (sym s.is) (natural_at_most s.a v u s.b low);
      below_upper = let P : Fraction → Type 0 = λ z. natural u v ≤ᶠ z in subst P (sym w.is) (natural_at_most u w.b w.a v high);
    }

-- what lies above a sum is positive
positive_from_zero : (t s v : ℕ) (u : ℤ) → 0 < t → 0 < v → (pos t *ℤ pos v) ≤ℤ (u *ℤ pos s) → pos 0 <ℤ u
positive_from_zero t s v (pos zero) ht hv h = let m : 0 < t * v = mul-pos ht hv in omega (arith, ints)
positive_from_zero t s v (pos (suc u)) ht hv h = omega (arith, ints)
positive_from_zero t s v (negsuc u) ht hv h = let m : 0 < t * v = mul-pos ht hv in omega (arith, ints)

sum_positive : (p q n : ℕ) (hq : 0 < q) → 0 < (sum_cleared p q n hq).a
sum_positive p q n hq =
    let s = sum_cleared p q n hq in
    let m : 0 < series_top p q n * s.b = mul-pos (top_positive p q n hq) s.positive in
    let P : ℕ → Type 0 = λ z. 0 < z in
    positive_factor s.a (series_bottom q n) (subst P (sym s.equal) m)
  where
    positive_factor : (a b : ℕ) → 0 < a * b → 0 < a
    positive_factor zero b h = omega arith
    positive_factor (suc a) b h = omega arith

-- what lies between the sums is positive
pub between_positive : (n p q : ℕ) (f : Fraction) → 0 < q → 1 ≤ f.bottom → IsBetweenSums n (natural p q) f → pos 0 <ℤ f.top
between_positive n p q f hq hf h =
    let s = sum_cleared p q n hq in
    positive_from_zero s.a s.b f.bottom f.top (sum_positive p q n hq) hf
    (let P : Fraction → Type 0 = λ z. z ≤ᶠ f in subst P s.is h.above_sum)
