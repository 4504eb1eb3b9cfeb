-- What holds on the way to a term's answer. This project's own.
use Rattle.std.specs.Prelude.{◌≡◌, ℕ, ℤ, pos, neg_ℤ, ◌*ℤ◌, ◌≤ℤ◌, List, Result, Ok, Err}
use Rattle.vx_num.specs.declared.fault.NoMemory.{NoMemory}
use Rattle.vx_symbol.specs.declared.rows.StrikeRow.{StrikeRow}
use Rattle.vx_interval.specs.Ends.{Ends, IsInterval, unit}
use Rattle.vx_formula.specs.Pair.{IsClosestPair}
use Rattle.vx_forward.specs.Pairs.{formula_pair}
use Rattle.vx_forward.specs.Forward.{forward_interval}
use Rattle.vx_forward.specs.declared.level.K0Answer.TheVariants as level
use Rattle.vx_strip.specs.declared.fault.StripRefusal.{StripRefusal}
use Rattle.vx_strip.specs.declared.fault.StripRefusal.TheVariants as strip
use Rattle.vx_sum.specs.declared.fault.SumRefusal.{SumRefusal}
use Rattle.vx_sum.specs.declared.fault.SumRefusal.TheVariants as sum
use Rattle.vx_term.specs.declared.answer.TermRefusal.{TermRefusal}
use Rattle.vx_term.specs.declared.answer.TermRefusal.TheVariants.{NoMoney, NoPut, NoCall, StripTooLarge}
use Rattle.vx_term.specs.declared.answer.TermRun.{TermRun}
use Rattle.vx_term.specs.declared.answer.TermAnswer.{TermAnswer}
use Rattle.vx_term.specs.declared.answer.TermAnswer.TheVariants.{Run, Refused, UndecidedForward}
use Rattle.vx_term.specs.declared.level.ToldLevel.{ToldLevel}
use Rattle.vx_term.specs.Runs.{ForwardSays, SaysOfLevel, RefusesRows}

-- both ends are from 0 to a limit
pub record IsUpTo (limit : ℤ) (x : Ends) : Type 0 where
  pub low : pos 0 ≤ℤ x.lo
  pub high : x.hi ≤ℤ limit

-- an exponential is an interval from 0 to 5/4
pub record IsExponentialInRange (P : ℕ) (e : Ends) : Type 0 where
  pub interval : IsInterval P e
  pub low : pos 0 ≤ℤ e.lo
  pub high : (pos 4 *ℤ e.hi) ≤ℤ (pos 5 *ℤ unit P)

-- the exponential is from 0 to 5/4, the excess from 0 to 1 and the variance from -1 to 5
pub record IsRunInRange (P : ℕ) (run : TermRun P) : Type 0 where
  pub exponential : IsExponentialInRange P run.exp.value
  pub excess : IsUpTo (unit P) run.g
  pub variance : IsInterval P run.w
  pub variance_low : neg_ℤ (unit P) ≤ℤ run.w.lo
  pub variance_high : run.w.hi ≤ℤ (pos 5 *ℤ unit P)

-- the pair and the forward of the rows tell this level
pub record IsTold (P : ℕ) (rows : List StrikeRow) (e : Ends) (told : ToldLevel P) : Type 0 where
  pub pair_is : IsClosestPair rows (formula_pair told.pair)
  pub forward_is : told.f ≡ forward_interval P (formula_pair told.pair) e
  pub interval : IsInterval P told.f
  pub tells : ForwardSays P rows told.f (level.At told.place)

-- the answer for rows whose forward tells no level
abbrev pub IsAnswerWithoutLevel : (P : ℕ) → List StrikeRow → Ends → TermAnswer P → Type 0
IsAnswerWithoutLevel P rows e (Run run) = ⊥
IsAnswerWithoutLevel P rows e (Refused refusal) = RefusesRows P rows e refusal
IsAnswerWithoutLevel P rows e (UndecidedForward strike lo hi) = SaysOfLevel P rows e (level.Straddle strike lo hi)

-- a term's refusal, or want of memory, where its strip is refused
abbrev pub refusal_of_strip : StripRefusal → Result TermRefusal NoMemory
refusal_of_strip strip.NoMemory = Err (record {})
refusal_of_strip strip.NoMoney = Ok NoMoney
refusal_of_strip strip.NoPut = Ok NoPut
refusal_of_strip strip.NoCall = Ok NoCall

-- and where the strip's sum is
abbrev pub refusal_of_sum : SumRefusal → Result TermRefusal NoMemory
refusal_of_sum sum.NoMemory = Err (record {})
refusal_of_sum (sum.StripTooLarge upper) = Ok (StripTooLarge upper)
