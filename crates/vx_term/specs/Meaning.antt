-- What a term's answer says of the formula: what holds of a run, of a refusal and of an undecided forward. This project's own.
use Rattle.std.specs.Prelude.{ℕ, ◌<◌, ℤ, List}
use Rattle.vx_num.specs.Fraction.{Fraction}
use Rattle.vx_symbol.specs.declared.rows.StrikeRow.{StrikeRow}
use Rattle.vx_interval.specs.Membership.{IsMember}
use Rattle.vx_formula.specs.Term.{TermFacts, Term, IsTermOf, InBracket}
use Rattle.vx_formula.specs.Level.{IsLevelAt}
use Rattle.vx_formula.specs.Variance.{variance_at}
use Rattle.vx_formula.specs.Between.{ForwardBetween}
use Rattle.vx_formula.specs.Refusal.{TermReason, no_rate, no_pair, no_strike_below, no_strike_above, no_money, no_put, no_call, strip_too_large, TermRefuses, term_place, FirstTermRefusal}
use Rattle.vx_formula.specs.StrikesByEnds.{IsLowestBetween}
use Rattle.vx_formula.specs.TermOutcomes.{undecided_place}
use Rattle.vx_forward.specs.Pairs.{formula_pair}
use Rattle.vx_term.specs.declared.answer.TermRefusal.{TermRefusal}
use Rattle.vx_term.specs.declared.answer.TermRefusal.TheVariants.{NoRate, NoPair, NoStrikeBelow, NoStrikeAbove, NoMoney, NoPut, NoCall, StripTooLarge}
use Rattle.vx_term.specs.declared.answer.TermRun.{TermRun}
use Rattle.vx_term.specs.declared.answer.TermAnswer.{TermAnswer}
use Rattle.vx_term.specs.declared.answer.TermAnswer.TheVariants.{Run, Refused, UndecidedForward}

-- the depth of the bracket that the calculator's exponential encloses
abbrev pub exponential_depth : ℕ
exponential_depth = 12

-- the reason of the formula that a refusal names
abbrev pub reason_of : TermRefusal → TermReason
reason_of NoRate = no_rate
reason_of NoPair = no_pair
reason_of NoStrikeBelow = no_strike_below
reason_of NoStrikeAbove = no_strike_above
reason_of NoMoney = no_money
reason_of NoPut = no_put
reason_of NoCall = no_call
reason_of (StripTooLarge upper) = strip_too_large

-- the term of a run over these rows
abbrev pub term_of_run : {P : ℕ} → List StrikeRow → TermRun P → Term
term_of_run rows run = record { rows = rows; rate = run.rate; minutes = run.minutes; pair = formula_pair run.pair }

-- a run: its rate and its pair are the term's, its level and its variance are those of every exponential in the bracket, and no
-- refusal holds
pub record RunMeans (P depth : ℕ) (facts : TermFacts) (run : TermRun P) : Type 0 where
  pub is_of_facts : IsTermOf facts (term_of_run facts.rows run)
  pub is_level : (e : Fraction) → InBracket (term_of_run facts.rows run) depth e → IsLevelAt (term_of_run facts.rows run) run.k0 e
  pub encloses : (e : Fraction) → InBracket (term_of_run facts.rows run) depth e → IsMember P run.w (variance_at (term_of_run facts.rows run) run.k0 e)
  pub none_refuses : (reason : TermReason) → ¬ TermRefuses P facts reason

-- an undecided forward: the ends lie around the forward, the strike is the lowest listed one between them, and no refusal at an
-- earlier place holds
pub record UndecidedMeans (P : ℕ) (facts : TermFacts) (strike : ℕ) (lo hi : ℤ) : Type 0 where
  pub term : Term
  pub is_of_facts : IsTermOf facts term
  pub between : ForwardBetween term lo hi
  pub lowest : IsLowestBetween term.rows lo hi strike
  pub none_earlier : (reason : TermReason) → term_place reason < undecided_place → ¬ TermRefuses P facts reason

-- a term's answer; a refusal is the first that holds
abbrev pub TermAnswerMeans : (P depth : ℕ) → TermFacts → TermAnswer P → Type 0
TermAnswerMeans P depth facts (Run run) = RunMeans P depth facts run
TermAnswerMeans P depth facts (Refused refusal) = FirstTermRefusal P facts (reason_of refusal)
TermAnswerMeans P depth facts (UndecidedForward strike lo hi) = UndecidedMeans P facts strike lo hi
