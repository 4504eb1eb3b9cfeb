-- The answer for one term, as the bounded arithmetic gives it at a scale: a function of what is known of the term. This project's own.
use Rattle.std.specs.Prelude.{◌≡◌, ℕ, ℤ, List, Some, None}
use Rattle.vx_clock.specs.declared.terms.Expiry.{Expiry}
use Rattle.vx_interval.specs.Ends.{Ends}
use Rattle.vx_symbol.specs.declared.rows.StrikeRow.{StrikeRow}
use Rattle.vx_symbol.specs.declared.rows.TermView.{TermView}
use Rattle.vx_bounds.specs.Exponential.{signed_ends}
use Rattle.vx_bounds.specs.declared.exponential.ExpRun.{ExpRun}
use Rattle.vx_formula.specs.Term.{TermFacts, exponent}
use Rattle.vx_forward.specs.declared.level.K0Answer.TheVariants as level
use Rattle.vx_term.specs.declared.answer.TermRefusal.{TermRefusal}
use Rattle.vx_term.specs.declared.answer.TermRefusal.TheVariants.{NoRate}
use Rattle.vx_term.specs.declared.answer.TermRun.{TermRun}
use Rattle.vx_term.specs.declared.answer.TermAnswer.{TermAnswer}
use Rattle.vx_term.specs.declared.answer.TermAnswer.TheVariants.{Run, Refused, UndecidedForward}
use Rattle.vx_term.specs.Exponential.{IsExpRun}
use Rattle.vx_term.specs.Runs.{SaysOfLevel, RefusesRows, IsRunOfRows}

-- what is known of a term whose rows and rate are shown, so many minutes before its settlement
abbrev pub facts_of_view : TermView → ℕ → TermFacts
facts_of_view term minutes = record { rows = term.rows.now; rate = term.rate; minutes = minutes }

-- and where a rate is given with the rows
abbrev pub facts_at : TermView → ℕ → ℤ → TermFacts
facts_at term minutes rate = record { rows = term.rows.now; rate = Some rate; minutes = minutes }

-- the ends of the exponential at a rate over so many minutes
abbrev pub exponential_ends : ℕ → ℤ → ℕ → Ends
exponential_ends P rate minutes = let x = exponent rate minutes in signed_ends P x.top x.bottom

-- a rate stands, and Q holds of the exponential's ends at it
abbrev pub AtStandingRate : ℕ → TermFacts → (Ends → Type 0) → Type 0
AtStandingRate P facts Q = (rate : ℤ) × (facts.rate ≡ Some rate) × Q (exponential_ends P rate facts.minutes)

-- the term is refused for this reason
abbrev pub RefusesTerm : ℕ → TermFacts → TermRefusal → Type 0
RefusesTerm P facts NoRate = facts.rate ≡ None
RefusesTerm P facts refusal = AtStandingRate P facts (λ e. RefusesRows P facts.rows e refusal)

-- the run has the numbers of the term
pub record IsRun (P : ℕ) (x : Expiry) (facts : TermFacts) (run : TermRun P) : Type 0 where
  pub expiry_is : run.expiry ≡ x
  pub minutes_are : run.minutes ≡ facts.minutes
  pub rate_stands : facts.rate ≡ Some run.rate
  pub exp_is : IsExpRun P (exponent run.rate run.minutes) run.exp
  pub numbers_are : IsRunOfRows P facts.rows run.exp.value run

-- the answer for the term of an expiry
abbrev pub IsTermAnswer : (P : ℕ) → Expiry → TermFacts → TermAnswer P → Type 0
IsTermAnswer P x facts (Run run) = IsRun P x facts run
IsTermAnswer P x facts (Refused refusal) = RefusesTerm P facts refusal
IsTermAnswer P x facts (UndecidedForward strike lo hi) =
    AtStandingRate P facts (λ e. SaysOfLevel P facts.rows e (level.Straddle strike lo hi))

-- the run has the numbers of these rows, and what was given with them
pub record IsRunFrom (P : ℕ) (x : Expiry) (minutes : ℕ) (rate : ℤ) (exp : ExpRun P) (rows : List StrikeRow) (run : TermRun P) : Type 0 where
  pub expiry_is : run.expiry ≡ x
  pub minutes_are : run.minutes ≡ minutes
  pub rate_is : run.rate ≡ rate
  pub exp_is : run.exp ≡ exp
  pub numbers_are : IsRunOfRows P rows exp.value run

-- the answer for the rows of an expiry, where so many minutes, a rate and an exponential are given with them
abbrev pub IsAnswerOfRows : (P : ℕ) → Expiry → ℕ → ℤ → ExpRun P → List StrikeRow → TermAnswer P → Type 0
IsAnswerOfRows P x minutes rate exp rows (Run run) = IsRunFrom P x minutes rate exp rows run
IsAnswerOfRows P x minutes rate exp rows (Refused refusal) = RefusesRows P rows exp.value refusal
IsAnswerOfRows P x minutes rate exp rows (UndecidedForward strike lo hi) = SaysOfLevel P rows exp.value (level.Straddle strike lo hi)

-- Q holds of the run, where the answer is one
abbrev pub OnRun : (P : ℕ) → (TermRun P → Type 0) → TermAnswer P → Type 0
OnRun P Q (Run run) = Q run
OnRun P Q (Refused refusal) = Unit {0}
OnRun P Q (UndecidedForward strike lo hi) = Unit {0}
