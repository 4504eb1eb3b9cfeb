-- The refusals, each a condition on what is known of the terms, and their order. The conditions follow from the Cboe VIX white
-- paper where its formula needs a value; the names, the order and the two limits are this project's own: that a strike of at most
-- twice the level must be listed above it, and that the strip's sum must be at most 2.
use Rattle.std.specs.Prelude.{◌≡◌, ℕ, ◌+◌, ◌*◌, ◌^◌, ◌<◌, ◌≤◌, pos, Bool, false, ◌&&◌, List, [], Option, Some, None, All, Contains}
use Rattle.vx_num.specs.Fraction.{Fraction, whole, ◌<ᶠ◌}
use Rattle.vx_symbol.specs.declared.rows.StrikeRow.{StrikeRow}
use Rattle.vx_formula.specs.declared.limits.TheConstants.{STRIP_TOTAL_MAX}
use Rattle.vx_formula.specs.Pair.{live_pairs}
use Rattle.vx_formula.specs.Term.{TermFacts, Term, IsTermOf, InBracket}
use Rattle.vx_formula.specs.Forward.{forward_at}
use Rattle.vx_formula.specs.Level.{IsListed, IsLevel}
use Rattle.vx_formula.specs.Selection.{selected_rows}
use Rattle.vx_formula.specs.Strip.{strip, upper_total}
use Rattle.vx_formula.specs.Index.{TwoTerms, OneTerm, SquareMeets, IsNegative}

-- r holds, and none at an earlier place does
pub record IsFirst {R : Type 0} (Holds : R → Type 0) (place : R → ℕ) (r : R) : Type 0 where
  pub holds : Holds r
  pub none_earlier : (other : R) → place other < place r → ¬ Holds other

-- why a term has no variance
pub data TermReason : Type 0 where
  no_rate : TermReason
  no_pair : TermReason
  no_strike_below : TermReason
  no_strike_above : TermReason
  no_money : TermReason
  no_put : TermReason
  no_call : TermReason
  strip_too_large : TermReason

-- every listed strike is above the forward
pub record IsBelowAll (term : Term) : Type 0 where
  pub depth : ℕ
  pub holds : (e : Fraction) → InBracket term depth e → (strike : ℕ) → IsListed term.rows strike → forward_at term.pair e <ᶠ whole (pos strike)

-- no listed strike is above k and at most twice k
abbrev pub HasNoneAbove : List StrikeRow → ℕ → Type 0
HasNoneAbove rows k = (strike : ℕ) → IsListed rows strike → k < strike → 2 * k < strike

-- the row of k lacks the price of a side
pub record LacksMoney (rows : List StrikeRow) (k : ℕ) : Type 0 where
  pub row : StrikeRow
  pub listed : Contains rows row
  pub at_level : row.strike ≡ k
  pub lacks : row.put.there && row.call.there ≡ false

abbrev pub HasNoPut : List StrikeRow → ℕ → Type 0
HasNoPut rows k = All (λ row. k ≤ row.strike) (selected_rows rows k)

abbrev pub HasNoCall : List StrikeRow → ℕ → Type 0
HasNoCall rows k = All (λ row. row.strike ≤ k) (selected_rows rows k)

-- the strip's contributions times 2^P, each rounded up, add to more than the greatest accepted sum
abbrev pub IsTooLarge : ℕ → List StrikeRow → ℕ → Type 0
IsTooLarge P rows k = STRIP_TOTAL_MAX * 2 ^ P < upper_total P (strip rows k)

-- the term of the facts has a level, of which Q holds
pub record AtLevel (facts : TermFacts) (Q : List StrikeRow → ℕ → Type 0) : Type 0 where
  pub term : Term
  pub is_of_facts : IsTermOf facts term
  pub level : ℕ
  pub is_level : IsLevel term level
  pub holds : Q term.rows level

pub record HasNoneBelow (facts : TermFacts) : Type 0 where
  pub term : Term
  pub is_of_facts : IsTermOf facts term
  pub below_all : IsBelowAll term

-- where each reason holds
abbrev pub TermRefuses : ℕ → TermFacts → TermReason → Type 0
TermRefuses P facts no_rate = facts.rate ≡ None
TermRefuses P facts no_pair = live_pairs facts.rows ≡ []
TermRefuses P facts no_strike_below = HasNoneBelow facts
TermRefuses P facts no_strike_above = AtLevel facts HasNoneAbove
TermRefuses P facts no_money = AtLevel facts LacksMoney
TermRefuses P facts no_put = AtLevel facts HasNoPut
TermRefuses P facts no_call = AtLevel facts HasNoCall
TermRefuses P facts strip_too_large = AtLevel facts (IsTooLarge P)

-- the order of a term's answers; place 3 is that of an undecided forward
abbrev pub term_place : TermReason → ℕ
term_place no_rate = 1
term_place no_pair = 2
term_place no_strike_below = 4
term_place no_strike_above = 5
term_place no_money = 6
term_place no_put = 7
term_place no_call = 8
term_place strip_too_large = 9

-- the first reason that a term has no variance, at the scale 2^-P
abbrev pub FirstTermRefusal : ℕ → TermFacts → TermReason → Type 0
FirstTermRefusal P facts reason = IsFirst (TermRefuses P facts) term_place reason

-- what is known at a tick: the near and the next term where they are declared, and the time ahead in minutes
pub record TickFacts : Type 0 where
  pub near : Option TermFacts
  pub next : Option TermFacts
  pub target : ℕ

pub record IsTickBasis (facts : TickFacts) (near next : Term) : Type 0 where
  pub near_facts : TermFacts
  pub near_is : facts.near ≡ Some near_facts
  pub near_of : IsTermOf near_facts near
  pub next_facts : TermFacts
  pub next_is : facts.next ≡ Some next_facts
  pub next_of : IsTermOf next_facts next

-- why a tick has no figure
pub data TickReason : Type 0 where
  no_near_term : TickReason
  no_next_term : TickReason
  of_near : TermReason → TickReason
  of_next : TermReason → TickReason
  negative_variance : TickReason

pub record SomeTermRefuses (P : ℕ) (chosen : Option TermFacts) (reason : TermReason) : Type 0 where
  pub facts : TermFacts
  pub is_chosen : chosen ≡ Some facts
  pub refuses : TermRefuses P facts reason

pub record TickIsNegative (facts : TickFacts) : Type 0 where
  pub near : Term
  pub next : Term
  pub is_basis : IsTickBasis facts near next
  pub negative : SquareMeets (TwoTerms near next facts.target) IsNegative

abbrev pub TickRefuses : ℕ → TickFacts → TickReason → Type 0
TickRefuses P facts no_near_term = facts.near ≡ None
TickRefuses P facts no_next_term = facts.next ≡ None
TickRefuses P facts (of_near reason) = SomeTermRefuses P facts.near reason
TickRefuses P facts (of_next reason) = SomeTermRefuses P facts.next reason
TickRefuses P facts negative_variance = TickIsNegative facts

-- the order of a tick's answers, of which the last, 23, is a figure
abbrev pub tick_place : TickReason → ℕ
tick_place no_near_term = 1
tick_place no_next_term = 2
tick_place (of_near reason) = 2 + term_place reason
tick_place (of_next reason) = 11 + term_place reason
tick_place negative_variance = 22

-- the places of the undecided answers
abbrev pub near_undecided_place : ℕ
near_undecided_place = 5

abbrev pub next_undecided_place : ℕ
next_undecided_place = 14

abbrev pub cents_undecided_place : ℕ
cents_undecided_place = 21

abbrev pub FirstRefusal : ℕ → TickFacts → TickReason → Type 0
FirstRefusal P facts reason = IsFirst (TickRefuses P facts) tick_place reason

-- what is known of the opening: whether it was taken, and its term where it is declared
pub record OpeningFacts : Type 0 where
  pub is_taken : Bool
  pub term : Option TermFacts

-- why an opening has no figure
pub data OpeningReason : Type 0 where
  no_opening : OpeningReason
  no_term : OpeningReason
  of_term : TermReason → OpeningReason
  negative_opening : OpeningReason

pub record IsOpeningBasis (facts : OpeningFacts) (term : Term) : Type 0 where
  pub term_facts : TermFacts
  pub term_is : facts.term ≡ Some term_facts
  pub term_of : IsTermOf term_facts term

pub record OpeningIsNegative (facts : OpeningFacts) : Type 0 where
  pub term : Term
  pub is_basis : IsOpeningBasis facts term
  pub negative : SquareMeets (OneTerm term) IsNegative

abbrev pub OpeningRefuses : ℕ → OpeningFacts → OpeningReason → Type 0
OpeningRefuses P facts no_opening = facts.is_taken ≡ false
OpeningRefuses P facts no_term = facts.term ≡ None
OpeningRefuses P facts (of_term reason) = SomeTermRefuses P facts.term reason
OpeningRefuses P facts negative_opening = OpeningIsNegative facts

-- the order of an opening's answers, of which the last, 14, is a figure
abbrev pub opening_place : OpeningReason → ℕ
opening_place no_opening = 1
opening_place no_term = 2
opening_place (of_term reason) = 2 + term_place reason
opening_place negative_opening = 13

abbrev pub opening_undecided_place : ℕ
opening_undecided_place = 5

abbrev pub opening_cents_undecided_place : ℕ
opening_cents_undecided_place = 12

abbrev pub FirstOpeningRefusal : ℕ → OpeningFacts → OpeningReason → Type 0
FirstOpeningRefusal P facts reason = IsFirst (OpeningRefuses P facts) opening_place reason
