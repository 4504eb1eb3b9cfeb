-- How tight an answer is. This project's own.
use Rattle.std.specs.Prelude.{◌≡◌, ℕ, ◌≤◌, ◌⊎◌, pos, ◌+ℤ◌, ◌*ℤ◌, ◌≤ℤ◌}
use Rattle.vx_interval.specs.Ends.{Ends, unit, width, exact_ends}
use Rattle.vx_formula.specs.declared.limits.TheConstants.{FORWARD_WIDTH_MAX}
use Rattle.vx_formula.specs.Term.{Term, exponent}
use Rattle.vx_forward.specs.declared.limits.TheConstants.{EXPONENTIAL_WIDTH_MAX}
use Rattle.vx_term.specs.declared.answer.TermRun.{TermRun}
use Rattle.vx_term.specs.declared.answer.TermAnswer.{TermAnswer}
use Rattle.vx_term.specs.declared.answer.TermAnswer.TheVariants.{Run, Refused, UndecidedForward}
use Rattle.vx_term.specs.Ranges.{IsVarianceNarrow}

-- an exponential is at most 32 units wide and at most 1.134, as the calculator bounds it
pub record IsExponentialTight (P : ℕ) (e : Ends) : Type 0 where
  pub narrow : width e ≤ℤ pos EXPONENTIAL_WIDTH_MAX
  pub height : (pos 1000 *ℤ e.hi) ≤ℤ (pos 1134 *ℤ unit P)

-- a run's variance is narrow; the ends of an undecided forward, in units of 10^-12 point, are near from scale 60 on
abbrev pub IsTightAnswer : (P : ℕ) → TermAnswer P → Type 0
IsTightAnswer P (Run run) = IsVarianceNarrow run.w
IsTightAnswer P (Refused refusal) = Unit {0}
IsTightAnswer P (UndecidedForward strike lo hi) = 60 ≤ P → hi ≤ℤ (lo +ℤ pos FORWARD_WIDTH_MAX)

-- the answer is no undecided forward
abbrev pub IsForwardDecided : (P : ℕ) → TermAnswer P → Type 0
IsForwardDecided P (Run run) = Unit {0}
IsForwardDecided P (Refused refusal) = Unit {0}
IsForwardDecided P (UndecidedForward strike lo hi) = ⊥

-- the forward has one value: the exponent is 0, as at rate 0, or the pair's two prices are equal
abbrev pub HasOneForward : Term → Type 0
HasOneForward term = ((exponent term.rate term.minutes).top ≡ pos 0) ⊎ (term.pair.d ≡ pos 0)

-- at exponent 0 the ends of a run's exponential are exactly 1, and there and at equal prices the ends of its forward are equal
pub record IsExactRun (P : ℕ) (run : TermRun P) : Type 0 where
  pub exponential : (exponent run.rate run.minutes).top ≡ pos 0 → run.exp.value ≡ exact_ends P (pos 1)
  pub forward : ((exponent run.rate run.minutes).top ≡ pos 0) ⊎ (run.pair.d ≡ pos 0) → run.f.lo ≡ run.f.hi
