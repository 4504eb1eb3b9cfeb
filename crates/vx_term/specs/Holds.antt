-- What an answer says of a term's rows where the exponential may be any value of E. This project's own; `TermAnswerMeans` says it of
-- a bracket.
use Rattle.std.specs.Prelude.{◌≡◌, ℕ, pos, ℤ, List, []}
use Rattle.vx_num.specs.Fraction.{Fraction, whole, ◌*ᶠ◌, ◌≤ᶠ◌, ◌<ᶠ◌}
use Rattle.vx_symbol.specs.declared.rows.StrikeRow.{StrikeRow}
use Rattle.vx_interval.specs.Membership.{IsMember}
use Rattle.vx_formula.specs.declared.limits.TheConstants.{FORWARD_UNITS}
use Rattle.vx_formula.specs.Pair.{Pair, live_pairs, IsClosestPair}
use Rattle.vx_formula.specs.Forward.{forward_at}
use Rattle.vx_formula.specs.Level.{IsListed, IsGreatestBelow}
use Rattle.vx_formula.specs.Strip.{strip, upper_total}
use Rattle.vx_formula.specs.Variance.{variance_at}
use Rattle.vx_formula.specs.Refusal.{HasNoneAbove, LacksMoney, HasNoPut, HasNoCall, IsTooLarge}
use Rattle.vx_formula.specs.StrikesByEnds.{IsLowestBetween}
use Rattle.vx_forward.specs.Pairs.{formula_pair}
use Rattle.vx_strip.specs.Refusals.{HasNoStripRefusal}
use Rattle.vx_term.specs.declared.answer.TermRefusal.{TermRefusal}
use Rattle.vx_term.specs.declared.answer.TermRefusal.TheVariants.{NoRate, NoPair, NoStrikeBelow, NoStrikeAbove, NoMoney, NoPut, NoCall, StripTooLarge}
use Rattle.vx_term.specs.declared.answer.TermRun.{TermRun}
use Rattle.vx_term.specs.declared.answer.TermAnswer.{TermAnswer}
use Rattle.vx_term.specs.declared.answer.TermAnswer.TheVariants.{Run, Refused, UndecidedForward}
use Rattle.vx_term.specs.Meaning.{term_of_run}

-- a run: its level and its variance are those of every value, and no refusal holds at the level
pub record RunHolds (P : ℕ) (rows : List StrikeRow) (E : Fraction → Type 0) (run : TermRun P) : Type 0 where
  pub pair_is_closest : IsClosestPair rows (formula_pair run.pair)
  pub is_level : (e : Fraction) → E e → IsGreatestBelow rows (forward_at (formula_pair run.pair) e) run.k0
  pub encloses : (e : Fraction) → E e → IsMember P run.w (variance_at (term_of_run rows run) run.k0 e)
  pub has_one_above : ¬ HasNoneAbove rows run.k0
  pub has_strip : HasNoStripRefusal rows run.k0
  pub accepted : ¬ IsTooLarge P rows run.k0

-- the rows have one level for every value, of which Q holds
pub record AtOneLevel (rows : List StrikeRow) (E : Fraction → Type 0) (Q : ℕ → Type 0) : Type 0 where
  pub pair : Pair
  pub pair_is_closest : IsClosestPair rows pair
  pub level : ℕ
  pub is_level : (e : Fraction) → E e → IsGreatestBelow rows (forward_at pair e) level
  pub holds : Q level

-- every listed strike is above the forward, for every value
pub record IsForwardBelowAll (rows : List StrikeRow) (E : Fraction → Type 0) : Type 0 where
  pub pair : Pair
  pub pair_is_closest : IsClosestPair rows pair
  pub below_all : (e : Fraction) → E e → (strike : ℕ) → IsListed rows strike → forward_at pair e <ᶠ whole (pos strike)

-- a refusal of rows, with those of its order that do not hold; that a rate is there is given
abbrev pub RefusalHolds : ℕ → List StrikeRow → (Fraction → Type 0) → TermRefusal → Type 0
RefusalHolds P rows E NoRate = ⊥
RefusalHolds P rows E NoPair = live_pairs rows ≡ []
RefusalHolds P rows E NoStrikeBelow = IsForwardBelowAll rows E
RefusalHolds P rows E NoStrikeAbove = AtOneLevel rows E (λ k. HasNoneAbove rows k)
RefusalHolds P rows E NoMoney = AtOneLevel rows E (λ k. ¬ HasNoneAbove rows k × LacksMoney rows k)
RefusalHolds P rows E NoPut = AtOneLevel rows E (λ k. ¬ HasNoneAbove rows k × ¬ LacksMoney rows k × HasNoPut rows k)
RefusalHolds P rows E NoCall = AtOneLevel rows E (λ k. ¬ HasNoneAbove rows k × ¬ LacksMoney rows k × ¬ HasNoPut rows k × HasNoCall rows k)
RefusalHolds P rows E (StripTooLarge upper) =
    AtOneLevel rows E (λ k. ¬ HasNoneAbove rows k × HasNoStripRefusal rows k × IsTooLarge P rows k × (upper ≡ upper_total P (strip rows k)))

-- an undecided forward: for every value it lies between the ends, and the strike is the lowest listed one between them
pub record UndecidedHolds (rows : List StrikeRow) (E : Fraction → Type 0) (strike : ℕ) (lo hi : ℤ) : Type 0 where
  pub pair : Pair
  pub pair_is_closest : IsClosestPair rows pair
  pub at_least : (e : Fraction) → E e → whole lo ≤ᶠ (whole (pos FORWARD_UNITS) *ᶠ forward_at pair e)
  pub at_most : (e : Fraction) → E e → (whole (pos FORWARD_UNITS) *ᶠ forward_at pair e) ≤ᶠ whole hi
  pub lowest : IsLowestBetween rows lo hi strike

-- an answer for these rows
abbrev pub AnswerHolds : (P : ℕ) → List StrikeRow → (Fraction → Type 0) → TermAnswer P → Type 0
AnswerHolds P rows E (Run run) = RunHolds P rows E run
AnswerHolds P rows E (Refused refusal) = RefusalHolds P rows E refusal
AnswerHolds P rows E (UndecidedForward strike lo hi) = UndecidedHolds rows E strike lo hi
