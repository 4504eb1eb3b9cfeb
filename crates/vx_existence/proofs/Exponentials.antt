-- The exponential's run: the lists of its terms, and its ends.
use Rattle.std.proofs.Common.{◌≡◌, refl, ℕ, zero, suc, ◌^◌, ◌<◌, nat_abs, List, [], ◌∷◌, length, arith}
use Rattle.std.specs.List.{slice_index}
use Rattle.vx_num.specs.Fraction.{Fraction}
use Rattle.vx_bounds.specs.Exponential.{IsTerms, low_term, high_term, signed_ends}
use Rattle.vx_bounds.specs.declared.exponential.ExpRun.{ExpRun}
use Rattle.vx_term.specs.Exponential.{IsExpRun}

-- the first n values of a function
abbrev pub first_values : ℕ → (ℕ → ℕ) → List ℕ
first_values zero term = []
first_values (suc n) term = term 0 ∷ first_values n (λ k. term (suc k))

count_of_values : (n : ℕ) (term : ℕ → ℕ) → length (first_values n term) ≡ n
count_of_values zero term = refl
count_of_values (suc n) term = let rest = count_of_values n (λ k. term (suc k)) in omega (arith, rest)

value_at : (n : ℕ) (term : ℕ → ℕ) (k : ℕ) → k < n → slice_index (first_values n term) k ≡ term k
value_at zero term k h = absurd (omega (arith, h))
value_at (suc n) term zero h = refl
value_at (suc n) term (suc k) h = value_at n (λ j. term (suc j)) k (omega (arith, h))

-- the first 14 values of a function are its terms
pub terms_of : (term : ℕ → ℕ) → IsTerms term (first_values 14 term)
terms_of term = record { count = count_of_values 14 term; each = value_at 14 term }

-- the run at an exponent
abbrev pub exp_run_at : (P : ℕ) → Fraction → ExpRun P
exp_run_at P x = record {
  t_lo = first_values 14 (low_term (2 ^ P) (nat_abs x.top) x.bottom);
  t_hi = first_values 14 (high_term (2 ^ P) (nat_abs x.top) x.bottom);
  value = signed_ends P x.top x.bottom;
}

-- the numbers that are computed of an exponent are a run of its exponential
pub is_exp_run : (P : ℕ) (x : Fraction) → IsExpRun P x (exp_run_at P x)
is_exp_run P x = record {
  low_terms = terms_of (low_term (2 ^ P) (nat_abs x.top) x.bottom);
  high_terms = terms_of (high_term (2 ^ P) (nat_abs x.top) x.bottom);
  value = refl;
}
