-- What the bounded arithmetic gives for the rows of a term whose exponential lies between two ends, step by step. This project's own.
use Rattle.std.specs.Prelude.{◌≡◌, ℕ, ◌*◌, ◌^◌, ◌<◌, List, []}
use Rattle.vx_symbol.specs.declared.rows.StrikeRow.{StrikeRow}
use Rattle.vx_interval.specs.Ends.{Ends}
use Rattle.vx_formula.specs.declared.limits.TheConstants.{STRIP_TOTAL_MAX}
use Rattle.vx_formula.specs.Pair.{Pair, live_pairs, IsClosestPair}
use Rattle.vx_formula.specs.Strip.{strip, upper_total}
use Rattle.vx_forward.specs.Pairs.{formula_pair}
use Rattle.vx_forward.specs.Forward.{forward_interval, printed_forward}
use Rattle.vx_forward.specs.Level.{IsK0Answer}
use Rattle.vx_forward.specs.declared.level.K0Answer.{K0Answer}
use Rattle.vx_forward.specs.declared.level.K0Answer.TheVariants as level
use Rattle.vx_strip.specs.Entries.{entries_of, strike_at, IsStripOf}
use Rattle.vx_strip.specs.Refusals.{IsStripRefusal, HasNoStripRefusal}
use Rattle.vx_strip.specs.declared.fault.StripRefusal.{StripRefusal}
use Rattle.vx_strip.specs.declared.fault.StripRefusal.TheVariants as strip_refusal
use Rattle.vx_sum.specs.Sums.{IsSumOf}
use Rattle.vx_term.specs.declared.answer.TermRefusal.{TermRefusal}
use Rattle.vx_term.specs.declared.answer.TermRefusal.TheVariants.{NoRate, NoPair, NoStrikeBelow, NoStrikeAbove, NoMoney, NoPut, NoCall, StripTooLarge}
use Rattle.vx_term.specs.declared.answer.TermRun.{TermRun}
use Rattle.vx_term.specs.Variance.{excess_ends, variance_ends}

-- f is the forward at the closest pair
pub record HasForward (P : ℕ) (rows : List StrikeRow) (e f : Ends) : Type 0 where
  pub pair : Pair
  pub is_closest : IsClosestPair rows pair
  pub forward_is : f ≡ forward_interval P pair e

-- what a forward's printed ends say of the level
abbrev pub ForwardSays : ℕ → List StrikeRow → Ends → K0Answer → Type 0
ForwardSays P rows f answer = IsK0Answer rows (printed_forward P f).0 (printed_forward P f).1 answer

-- the forward, printed, says this of the level
abbrev pub SaysOfLevel : ℕ → List StrikeRow → Ends → K0Answer → Type 0
SaysOfLevel P rows e answer = (f : Ends) × HasForward P rows e f × ForwardSays P rows f answer

-- it tells the level
abbrev pub TellsLevel : ℕ → List StrikeRow → Ends → ℕ → Type 0
TellsLevel P rows e k = (place : ℕ) × SaysOfLevel P rows e (level.At place) × (k ≡ strike_at rows place)

-- the rows have no strip at the level for this reason
abbrev pub HasNoStrip : ℕ → List StrikeRow → Ends → StripRefusal → Type 0
HasNoStrip P rows e reason = (k : ℕ) × TellsLevel P rows e k × IsStripRefusal rows k reason

-- the strip's rounded-up contributions add to `upper`, which is too much
pub record IsStripTooLarge (P : ℕ) (rows : List StrikeRow) (e : Ends) (upper : ℕ) : Type 0 where
  pub k : ℕ
  pub tells : TellsLevel P rows e k
  pub has_strip : HasNoStripRefusal rows k
  pub upper_is : upper ≡ upper_total P (strip rows k)
  pub too_large : STRIP_TOTAL_MAX * 2 ^ P < upper

-- the rows are refused for this reason, where the exponential lies between the ends e; a rate is there
abbrev pub RefusesRows : ℕ → List StrikeRow → Ends → TermRefusal → Type 0
RefusesRows P rows e NoRate = ⊥
RefusesRows P rows e NoPair = live_pairs rows ≡ []
RefusesRows P rows e NoStrikeBelow = SaysOfLevel P rows e level.NoStrikeBelow
RefusesRows P rows e NoStrikeAbove = (place : ℕ) × SaysOfLevel P rows e (level.NoStrikeAbove place)
RefusesRows P rows e NoMoney = HasNoStrip P rows e strip_refusal.NoMoney
RefusesRows P rows e NoPut = HasNoStrip P rows e strip_refusal.NoPut
RefusesRows P rows e NoCall = HasNoStrip P rows e strip_refusal.NoCall
RefusesRows P rows e (StripTooLarge upper) = IsStripTooLarge P rows e upper

-- the run has the numbers of these rows, where the exponential lies between the ends e
pub record IsRunOfRows (P : ℕ) (rows : List StrikeRow) (e : Ends) (run : TermRun P) : Type 0 where
  pub pair_is : IsClosestPair rows (formula_pair run.pair)
  pub forward_is : run.f ≡ forward_interval P (formula_pair run.pair) e
  pub place : ℕ
  pub tells : ForwardSays P rows run.f (level.At place)
  pub level_is : run.k0 ≡ strike_at rows place
  pub has_strip : HasNoStripRefusal rows run.k0
  pub strip_is : IsStripOf rows run.k0 run.strip
  pub sum_is : IsSumOf P (entries_of run.strip) run.sum
  pub excess_is : run.g ≡ excess_ends P run.k0 run.f
  pub variance_is : run.w ≡ variance_ends P e run.sum.total run.g
