-- One step of a list of terms, as the code takes it.
use Rattle.std.proofs.Common.{◌≡◌, ◌∙◌, ℕ, ◌+◌, ◌*◌, ◌/◌, ◌^◌, ◌<◌, ◌≤◌, List, length, get_or, set, sym, subst, arith, mul-le-mul_left, mul-le-mul_right, mul-le-mul, mul-pos, add-one, eq-or-lt_of_le, refl, inl, inr, ◌≢◌, le_of_lt}
use Rattle.std.proofs.lemmas.List.{get_or-set_same, get_or-set_other, length-set}
use Rattle.std.proofs.lemmas.Bool.{cases_lt}
use Rattle.std.proofs.Math.Nat.{div-le_of_le-mul}
use Rattle.std.specs.Int.{div_ceil}
use Rattle.vx_bounds.specs.Exponential.{IsTerms, low_term, high_term, low_sum_to, high_sum_to}
use Rattle.vx_bounds.proofs.TermLemmas.{ceil_below}
use Rattle.vx_bounds.proofs.EndLemmas.{low_first, high_first}
use Rattle.vx_bounds.proofs.Loops.{Collects}

-- the divisor is at least p
pub divisor_above : (p q k : ℕ) → 8 * p ≤ q → p ≤ q * (k + 1)
divisor_above p q k h = let m : q * 1 ≤ q * (k + 1) = mul-le-mul_left q (omega arith) in omega arith

-- products of the code stay below 2^105 and 2^50
pub product_bound : (t p q : ℕ) → t ≤ 2 ^ 62 → 8 * p ≤ q → q < 2 ^ 46 → t * p ≤ 2 ^ 105
product_bound t p q h s b = let l : p ≤ 2 ^ 43 = omega arith in let m : t * p ≤ 2 ^ 62 * 2 ^ 43 = mul-le-mul h l in omega arith

-- it is at most 2^50
pub divisor_bound : (q k : ℕ) → q < 2 ^ 46 → k < 13 → q * (k + 1) ≤ 2 ^ 50
divisor_bound q k b l = let a : q ≤ 2 ^ 46 = omega arith in let c : k + 1 ≤ 13 = omega arith in let m : q * (k + 1) ≤ 2 ^ 46 * 13 = mul-le-mul a c in omega arith

-- a term is at most the one before
pub low_fits : (t p q k : ℕ) → 8 * p ≤ q → t * p / (q * (k + 1)) ≤ t
low_fits t p q k h = div-le_of_le-mul (q * (k + 1)) (let m : t * p ≤ t * (q * (k + 1)) = mul-le-mul_left t (divisor_above p q k h) in omega arith)

-- a high term is at most one above the term before
pub high_fits : (t p q k : ℕ) → 0 < q → 8 * p ≤ q → div_ceil (t * p) (q * (k + 1)) ≤ t + 1
high_fits t p q k hq h =
    let d : ℕ = q * (k + 1) in
    let m : t * p ≤ t * d = mul-le-mul_left t (divisor_above p q k h) in
    let positive : 0 < q * (k + 1) = mul-pos hq (omega arith) in
    let c : div_ceil (t * p) d * d < t * p + d = ceil_below (t * p) d positive in
    below (div_ceil (t * p) d) (t + 1) d (omega arith)
  where
    below : (a b d : ℕ) → a * d < b * d → a ≤ b
    below a b d h = elim (cases_lt b a) [ inl l ↦ let m : b * d ≤ a * d = mul-le-mul_right d (le_of_lt l) in absurd (omega arith) | inr l ↦ l ]

-- ---- the loops

-- the next low term, as it is computed
pub low_next_is : (u p q k : ℕ) → low_term u p q (k + 1) ≡ low_term u p q k * p / (q * (k + 1))
unfolding low_term
low_next_is u p q k = rw (add-one k) refl

-- the next high term, as it is computed
pub high_next_is : (u p q k : ℕ) → high_term u p q (k + 1) ≡ div_ceil (high_term u p q k * p) (q * (k + 1))
unfolding high_term
high_next_is u p q k = rw (add-one k) refl

-- the next low sum
pub low_sum_next : (u p q k : ℕ) → low_sum_to u p q (k + 1) ≡ low_sum_to u p q k + low_term u p q (k + 1)
unfolding low_sum_to
low_sum_next u p q k = rw (add-one k) refl

-- the next high sum
pub high_sum_next : (u p q k : ℕ) → high_sum_to u p q (k + 1) ≡ high_sum_to u p q k + high_term u p q (k + 1)
unfolding high_sum_to
high_sum_next u p q k = rw (add-one k) refl

-- the loop gathers one term more
pub collects_more : (term sum : ℕ → ℕ) (k : ℕ) (terms : List ℕ) (last added next : ℕ) → k < 13 → Collects term sum k terms last added → next ≡ term (k + 1) → sum (k + 1) ≡ sum k + term (k + 1)
    → Collects term sum (k + 1) (set terms (k + 1) next) next (added + next)
collects_more term sum k terms last added next l c e f =
    let count = c.count in
    let room : k + 1 < length terms = omega arith in
    record {
      count = length-set terms (k + 1) next ∙ c.count;
      each = λ j h. elim (eq-or-lt_of_le h) [
        | inl m ↦ rw m (get_or-set_same terms (k + 1) next 0 room ∙ e)
        | inr m ↦ let other : j ≢ k + 1 = omega arith in get_or-set_other terms (k + 1) j next 0 other ∙ c.each j (omega arith)
      ];
      last_is = e;
      added_is = omega (arith, c.added_is);
    }

-- before the loop the first term is gathered
pub collects_none : (term sum : ℕ → ℕ) (terms : List ℕ) (last added : ℕ) → length terms ≡ 14 → get_or terms 0 0 ≡ term 0 → last ≡ term 0 → added ≡ sum 0 → Collects term sum 0 terms last added
collects_none term sum terms last added count first l a = record {
  count = count;
  each = λ j h. let e : j ≡ 0 = omega arith in let P : ℕ → Type 0 = λ i. get_or terms i 0 ≡ term i in subst P (sym e) first;
  last_is = l;
  added_is = a;
}

-- with its last term the list is complete
pub terms_done : (term sum : ℕ → ℕ) (k : ℕ) (terms : List ℕ) (last added next : ℕ) → k ≡ 12 → Collects term sum k terms last added → next ≡ term 13 → IsTerms term (set terms 13 next)
terms_done term sum k terms last added next e c n =
    let count = c.count in
    let room : 13 < length terms = omega arith in
    record {
      count = length-set terms 13 next ∙ c.count;
      each = λ j h. elim (cases_lt j 13) [
        | inl l ↦ let other : j ≢ 13 = omega arith in get_or-set_other terms 13 j next 0 other ∙ c.each j (omega arith)
        | inr l ↦ let m : j ≡ 13 = omega arith in let P : ℕ → Type 0 = λ i. get_or (set terms 13 next) i 0 ≡ term i in subst P (sym m) (get_or-set_same terms 13 next 0 room ∙ n)
      ];
    }

-- the first low sum is the unit
pub low_sum_first : (u p q : ℕ) → low_sum_to u p q 0 ≡ u
unfolding low_sum_to
low_sum_first u p q = low_first u p q

-- and so is the first high sum
pub high_sum_first : (u p q : ℕ) → high_sum_to u p q 0 ≡ u
unfolding high_sum_to
high_sum_first u p q = high_first u p q
