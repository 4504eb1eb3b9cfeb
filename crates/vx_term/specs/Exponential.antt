-- The exponential of a term in bounded arithmetic. This project's own.
use Rattle.std.specs.Prelude.{◌≡◌, ℕ, ◌^◌, nat_abs}
use Rattle.vx_num.specs.Fraction.{Fraction}
use Rattle.vx_bounds.specs.Exponential.{IsTerms, low_term, high_term, signed_ends}
use Rattle.vx_bounds.specs.declared.exponential.ExpRun.{ExpRun}

-- the run has the rounded terms at the exponent x, and the ends that they give, in units of 2^-P
pub record IsExpRun (P : ℕ) (x : Fraction) (run : ExpRun P) : Type 0 where
  pub low_terms : IsTerms (low_term (2 ^ P) (nat_abs x.top) x.bottom) run.t_lo
  pub high_terms : IsTerms (high_term (2 ^ P) (nat_abs x.top) x.bottom) run.t_hi
  pub value : run.value ≡ signed_ends P x.top x.bottom
