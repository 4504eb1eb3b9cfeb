-- A test is known by its number.
use Rattle.std.proofs.Common.{◌≡◌, ℕ, cond, eqb, refl, sym, ◌∙◌, ap}
use Rattle.vx_claims.specs.declared.acceptance.Test.{Test}
use Rattle.vx_claims.specs.declared.acceptance.Test.TheVariants.{Place, Terms, Minutes, Rate, TaylorTerms, Exponential, ClosestPair, Forward, Level, Excess, Strip, Contributions, Total, Variance, Square, IndexEnds}
use Rattle.vx_claims.specs.Test.{test_number}

abbrev test_at : ℕ → Test
test_at n =
    cond (eqb n 1) Place (cond (eqb n 2) Terms (cond (eqb n 3) Minutes (cond (eqb n 4) Rate (cond (eqb n 5) TaylorTerms (cond (eqb n 6) Exponential
    (cond (eqb n 7) ClosestPair (cond (eqb n 8) Forward (cond (eqb n 9) Level (cond (eqb n 10) Excess (cond (eqb n 11) Strip (cond (eqb n 12) Contributions
    (cond (eqb n 13) Total (cond (eqb n 14) Variance (cond (eqb n 15) Square IndexEnds))))))))))))))

test_at-number : (t : Test) → test_at (test_number t) ≡ t
test_at-number Place = refl
test_at-number Terms = refl
test_at-number Minutes = refl
test_at-number Rate = refl
test_at-number TaylorTerms = refl
test_at-number Exponential = refl
test_at-number ClosestPair = refl
test_at-number Forward = refl
test_at-number Level = refl
test_at-number Excess = refl
test_at-number Strip = refl
test_at-number Contributions = refl
test_at-number Total = refl
test_at-number Variance = refl
test_at-number Square = refl
test_at-number IndexEnds = refl

-- two tests of one number are one
pub same_test : (s t : Test) → test_number s ≡ test_number t → s ≡ t
same_test s t e = sym (test_at-number s) ∙ ap test_at e ∙ test_at-number t
