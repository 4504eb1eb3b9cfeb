-- The first failing test, found by trying the tests in the order of their numbers.
use Rattle.std.proofs.Common.{◌≡◌, ℕ, ◌+◌, ◌<◌, ◌≤◌, sym, subst, inl, inr, arith}
use Rattle.std.proofs.lemmas.Bool.{cases_lt}
use Rattle.vx_claims.specs.declared.acceptance.Test.{Test}
use Rattle.vx_claims.specs.declared.acceptance.Test.TheVariants.{Place, Terms, Minutes, Rate, TaylorTerms, Exponential, ClosestPair, Forward, Level}
use Rattle.vx_claims.specs.declared.acceptance.Test.TheVariants.{Excess, Strip, Contributions, Total, Variance, Square, IndexEnds}
use Rattle.vx_claims.specs.Test.{test_number}
use Rattle.vx_claims.proofs.TestNumbers.{same_test}
use Rattle.vx_check.specs.declared.verdict.Verdict.TheVariants.{Yes, No}
use Rattle.vx_check.specs.Answers.{IsVerdict, IsVerdictFrom}

pub first_number : (test : Test) → 1 ≤ test_number test
first_number Place = omega arith
first_number Terms = omega arith
first_number Minutes = omega arith
first_number Rate = omega arith
first_number TaylorTerms = omega arith
first_number Exponential = omega arith
first_number ClosestPair = omega arith
first_number Forward = omega arith
first_number Level = omega arith
first_number Excess = omega arith
first_number Strip = omega arith
first_number Contributions = omega arith
first_number Total = omega arith
first_number Variance = omega arith
first_number Square = omega arith
first_number IndexEnds = omega arith

pub last_number : (test : Test) → test_number test ≤ 16
last_number Place = omega arith
last_number Terms = omega arith
last_number Minutes = omega arith
last_number Rate = omega arith
last_number TaylorTerms = omega arith
last_number Exponential = omega arith
last_number ClosestPair = omega arith
last_number Forward = omega arith
last_number Level = omega arith
last_number Excess = omega arith
last_number Strip = omega arith
last_number Contributions = omega arith
last_number Total = omega arith
last_number Variance = omega arith
last_number Square = omega arith
last_number IndexEnds = omega arith

-- ---- of all tests

module _ (M : Test → Type 0) where
  -- the tests below a number are met, and so is the one of that number
  pub met_one_further : (n : ℕ) (test : Test) → test_number test ≡ n → ((other : Test) → test_number other < n → M other) → M test
      → (other : Test) → test_number other < n + 1 → M other
  met_one_further n test e before here other low =
      elim (cases_lt (test_number other) n) [
        | inl below ↦ before other below
        | inr from ↦ subst M (same_test test other (omega arith)) here
      ]

  pub fails_at : (n : ℕ) (test : Test) → test_number test ≡ n → ((other : Test) → test_number other < n → M other) → (M test → ⊥) → IsVerdict M (No n)
  fails_at n test e before fails =
      (test, sym e, record { fails = fails; all_before = λ other low. before other (omega arith) })

  pub all_met : (n : ℕ) → 17 ≤ n → ((other : Test) → test_number other < n → M other) → IsVerdict M Yes
  all_met n end before = λ test. before test (let last = last_number test in omega arith)

-- ---- of the tests from one number to another

module _ (M : Test → Type 0) (first : ℕ) where
  pub met_one_further_from : (n : ℕ) (test : Test) → test_number test ≡ n
      → ((other : Test) → first ≤ test_number other → test_number other < n → M other) → M test
      → (other : Test) → first ≤ test_number other → test_number other < n + 1 → M other
  met_one_further_from n test e before here other high low =
      elim (cases_lt (test_number other) n) [
        | inl below ↦ before other high below
        | inr from ↦ subst M (same_test test other (omega arith)) here
      ]

module _ (M : Test → Type 0) (first last : ℕ) where
  pub fails_from : (n : ℕ) (test : Test) → test_number test ≡ n → first ≤ n → n ≤ last
      → ((other : Test) → first ≤ test_number other → test_number other < n → M other) → (M test → ⊥) → IsVerdictFrom first last M (No n)
  fails_from n test e high low before fails =
      (test, sym e, record { from = omega arith; to = omega arith; fails = fails; all_before = λ other from below. before other from (omega arith) })

  pub met_from : (n : ℕ) → last < n → ((other : Test) → first ≤ test_number other → test_number other < n → M other) → IsVerdictFrom first last M Yes
  met_from n end before = λ test high low. before test high (omega arith)
