-- What holds of every value of the exponential means, over a bracket of such values, what the formula says.
use Rattle.std.proofs.Common.{◌≡◌, ◌∙◌, ℕ, ◌<◌, ℤ, List, [], Some, None, refl, sym, ap, subst, arith}
use Rattle.std.specs.Prelude.{Contains}
use Rattle.std.proofs.lemmas.Option.{none-some}
use Rattle.vx_num.specs.Fraction.{Fraction}
use Rattle.vx_bracket.specs.Bracket.{Bracket, IsWithinOne}
use Rattle.vx_symbol.specs.declared.rows.StrikeRow.{StrikeRow}
use Rattle.vx_formula.specs.Pair.{Pair, IsClosestPair}
use Rattle.vx_formula.specs.Term.{TermFacts, Term, IsTermOf, exponent}
use Rattle.vx_formula.specs.Forward.{forward_at}
use Rattle.vx_formula.specs.Level.{StrikesRise, IsGreatestBelow, IsLevel}
use Rattle.vx_formula.specs.Refusal.{IsBelowAll, HasNoneAbove, LacksMoney, HasNoPut, HasNoCall, IsTooLarge, AtLevel, TermReason, TermRefuses, FirstTermRefusal}
use Rattle.vx_formula.specs.Refusal.{no_rate, no_pair, no_strike_below, no_strike_above, no_money, no_put, no_call, strip_too_large, term_place}
use Rattle.vx_formula.proofs.Lists.{in_from_contains}
use Rattle.vx_formula.proofs.TermOutcomes.{term_of_facts_is_one}
use Rattle.vx_formula.proofs.LevelLemmas.{level_is_one, level_is_not_below_all}
use Rattle.vx_forward.specs.Pairs.{formula_pair}
use Rattle.vx_term.specs.declared.answer.TermRefusal.{TermRefusal}
use Rattle.vx_term.specs.declared.answer.TermRefusal.TheVariants.{NoRate, NoPair, NoStrikeBelow, NoStrikeAbove, NoMoney, NoPut, NoCall, StripTooLarge}
use Rattle.vx_term.specs.declared.answer.TermRun.{TermRun}
use Rattle.vx_term.specs.Meaning.{reason_of, RunMeans, UndecidedMeans}
use Rattle.vx_term.specs.Holds.{RunHolds, RefusalHolds, UndecidedHolds}

-- where no rate stands, that is the first refusal
pub no_rate_refuses : (P : ℕ) (facts : TermFacts) → facts.rate ≡ None → FirstTermRefusal P facts no_rate
no_rate_refuses P facts none = record { holds = none; none_earlier = nothing }
  where
    nothing : (other : TermReason) → term_place other < term_place no_rate → ¬ TermRefuses P facts other
    nothing no_rate low = omega arith
    nothing no_pair low = omega arith
    nothing no_strike_below low = omega arith
    nothing no_strike_above low = omega arith
    nothing no_money low = omega arith
    nothing no_put low = omega arith
    nothing no_call low = omega arith
    nothing strip_too_large low = omega arith

module _ (P : ℕ) (facts : TermFacts) (rate : ℤ) (depth : ℕ) (E : Fraction → Type 0) (stands : facts.rate ≡ Some rate) (rise : StrikesRise facts.rows)
    (small : IsWithinOne (exponent rate facts.minutes)) (covers : (e : Fraction) → Bracket depth (exponent rate facts.minutes) e → E e) where
  abbrev NoneBefore : ℕ → Type 0
  NoneBefore n = (other : TermReason) → term_place other < n → ¬ TermRefuses P facts other

  -- a rate stands
  rate_is_there : ¬ TermRefuses P facts no_rate
  rate_is_there none = none-some rate (sym none ∙ stands)

  none_before_pair : NoneBefore 2
  none_before_pair no_rate low = rate_is_there
  none_before_pair no_pair low = absurd (omega arith)
  none_before_pair no_strike_below low = absurd (omega arith)
  none_before_pair no_strike_above low = absurd (omega arith)
  none_before_pair no_money low = absurd (omega arith)
  none_before_pair no_put low = absurd (omega arith)
  none_before_pair no_call low = absurd (omega arith)
  none_before_pair strip_too_large low = absurd (omega arith)

  -- ---- with a closest pair the facts have a term

  module _ (pair : Pair) (closest : IsClosestPair facts.rows pair) where
    abbrev term : Term
    term = record { rows = facts.rows; rate = rate; minutes = facts.minutes; pair = pair }

    of_facts : IsTermOf facts term
    of_facts = record { rows_are = refl; rate_stands = stands; minutes_are = refl; pair_is_closest = closest }

    pair_is_there : ¬ TermRefuses P facts no_pair
    pair_is_there none =
        elim (in_from_contains [] pair (subst (λ (pairs : List Pair). Contains pairs pair) none closest.among)) [ ]

    none_before_forward : NoneBefore 4
    none_before_forward no_rate low = rate_is_there
    none_before_forward no_pair low = pair_is_there
    none_before_forward no_strike_below low = absurd (omega arith)
    none_before_forward no_strike_above low = absurd (omega arith)
    none_before_forward no_money low = absurd (omega arith)
    none_before_forward no_put low = absurd (omega arith)
    none_before_forward no_call low = absurd (omega arith)
    none_before_forward strip_too_large low = absurd (omega arith)

    -- ---- and with a level the reasons are decided at it

    module _ (k : ℕ) (at_all : (e : Fraction) → E e → IsGreatestBelow facts.rows (forward_at pair e) k) where
      is_level : IsLevel term k
      is_level = record { depth = depth; holds = λ e m. at_all e (covers e m) }

      not_below : ¬ TermRefuses P facts no_strike_below
      not_below h = level_is_not_below_all term k small is_level (subst IsBelowAll (term_of_facts_is_one facts h.term term rise h.is_of_facts of_facts) h.below_all)

      only_level : (Q : List StrikeRow → ℕ → Type 0) → AtLevel facts Q → Q facts.rows k
      only_level Q h =
          let same : h.term ≡ term = term_of_facts_is_one facts h.term term rise h.is_of_facts of_facts in
          let levels : h.level ≡ k = level_is_one term h.level k small (subst (λ (t : Term). IsLevel t h.level) same h.is_level) is_level in
          subst (Q facts.rows) levels (subst (λ (t : Term). Q t.rows h.level) same h.holds)

      at_this_level : (Q : List StrikeRow → ℕ → Type 0) → Q facts.rows k → AtLevel facts Q
      at_this_level Q holds = record { term = term; is_of_facts = of_facts; level = k; is_level = is_level; holds = holds }

      -- no reason before a place, where those of the level's that come before it do not hold
      none_at_level : (n : ℕ) → (5 < n → ¬ HasNoneAbove facts.rows k) → (6 < n → ¬ LacksMoney facts.rows k) → (7 < n → ¬ HasNoPut facts.rows k) → (8 < n → ¬ HasNoCall facts.rows k)
          → (9 < n → ¬ IsTooLarge P facts.rows k) → NoneBefore n
      none_at_level n above money put call large no_rate low = rate_is_there
      none_at_level n above money put call large no_pair low = pair_is_there
      none_at_level n above money put call large no_strike_below low = not_below
      none_at_level n above money put call large no_strike_above low = λ h. above low (only_level HasNoneAbove h)
      none_at_level n above money put call large no_money low = λ h. money low (only_level LacksMoney h)
      none_at_level n above money put call large no_put low = λ h. put low (only_level HasNoPut h)
      none_at_level n above money put call large no_call low = λ h. call low (only_level HasNoCall h)
      none_at_level n above money put call large strip_too_large low = λ h. large low (only_level (IsTooLarge P) h)

  -- ---- refusals

  pub refusal_means : (refusal : TermRefusal) → RefusalHolds P facts.rows E refusal → FirstTermRefusal P facts (reason_of refusal)
  refusal_means NoRate h = absurd h
  refusal_means NoPair h = record { holds = h; none_earlier = none_before_pair }
  refusal_means NoStrikeBelow h = record {
    holds = record {
      term = term h.pair h.pair_is_closest;
      is_of_facts = of_facts h.pair h.pair_is_closest;
      below_all = record { depth = depth; holds = λ e m. h.below_all e (covers e m) };
    };
    none_earlier = none_before_forward h.pair h.pair_is_closest;
  }
  refusal_means NoStrikeAbove h = record {
    holds = at_this_level h.pair h.pair_is_closest h.level h.is_level HasNoneAbove h.holds;
    none_earlier = none_at_level h.pair h.pair_is_closest h.level h.is_level 5
        (λ low. absurd (omega arith)) (λ low. absurd (omega arith)) (λ low. absurd (omega arith)) (λ low. absurd (omega arith)) (λ low. absurd (omega arith));
  }
  refusal_means NoMoney h =
      let q = h.holds in
      record {
        holds = at_this_level h.pair h.pair_is_closest h.level h.is_level LacksMoney q.1;
        none_earlier = none_at_level h.pair h.pair_is_closest h.level h.is_level 6
            (λ low. q.0) (λ low. absurd (omega arith)) (λ low. absurd (omega arith)) (λ low. absurd (omega arith)) (λ low. absurd (omega arith));
      }
  refusal_means NoPut h =
      let q = h.holds in
      record {
        holds = at_this_level h.pair h.pair_is_closest h.level h.is_level HasNoPut q.2;
        none_earlier = none_at_level h.pair h.pair_is_closest h.level h.is_level 7
            (λ low. q.0) (λ low. q.1) (λ low. absurd (omega arith)) (λ low. absurd (omega arith)) (λ low. absurd (omega arith));
      }
  refusal_means NoCall h =
      let q = h.holds in
      record {
        holds = at_this_level h.pair h.pair_is_closest h.level h.is_level HasNoCall q.3;
        none_earlier = none_at_level h.pair h.pair_is_closest h.level h.is_level 8
            (λ low. q.0) (λ low. q.1) (λ low. q.2) (λ low. absurd (omega arith)) (λ low. absurd (omega arith));
      }
  refusal_means (StripTooLarge upper) h =
      let q = h.holds in
      let strip = q.1 in
      record {
        holds = at_this_level h.pair h.pair_is_closest h.level h.is_level (IsTooLarge P) q.2;
        none_earlier = none_at_level h.pair h.pair_is_closest h.level h.is_level 9
            (λ low. q.0) (λ low. strip.has_money) (λ low. strip.has_put) (λ low. strip.has_call) (λ low. absurd (omega arith));
      }

  -- ---- an undecided forward

  pub undecided_means : (strike : ℕ) (lo hi : ℤ) → UndecidedHolds facts.rows E strike lo hi → UndecidedMeans P facts strike lo hi
  undecided_means strike lo hi h = record {
    term = term h.pair h.pair_is_closest;
    is_of_facts = of_facts h.pair h.pair_is_closest;
    between = record { depth = depth; at_least = λ e m. h.at_least e (covers e m); at_most = λ e m. h.at_most e (covers e m) };
    lowest = h.lowest;
    none_earlier = λ other low. none_before_forward h.pair h.pair_is_closest other (omega arith);
  }

  -- ---- a run

  pub run_means : (run : TermRun P) → run.rate ≡ rate → run.minutes ≡ facts.minutes → RunHolds P facts.rows E run → RunMeans P depth facts run
  run_means run rates times h =
      let within : (e : Fraction) → Bracket depth (exponent run.rate run.minutes) e → E e =
      λ e m. covers e (subst (λ (n : ℕ). Bracket depth (exponent rate n) e) times (subst (λ (z : ℤ). Bracket depth (exponent z run.minutes) e) rates m)) in
      let strip = h.has_strip in
      let none = none_at_level (formula_pair run.pair) h.pair_is_closest run.k0 h.is_level 10
      (λ low. h.has_one_above) (λ low. strip.has_money) (λ low. strip.has_put) (λ low. strip.has_call) (λ low. h.accepted) in
      record {
        is_of_facts = record { rows_are = refl; rate_stands = stands ∙ ap (λ (z : ℤ). Some z) (sym rates); minutes_are = times; pair_is_closest = h.pair_is_closest };
        is_level = λ e m. h.is_level e (within e m);
        encloses = λ e m. h.encloses e (within e m);
        none_refuses = λ reason. none reason (place_at_most reason);
      }
    where
      place_at_most : (reason : TermReason) → term_place reason < 10
      place_at_most no_rate = omega arith
      place_at_most no_pair = omega arith
      place_at_most no_strike_below = omega arith
      place_at_most no_strike_above = omega arith
      place_at_most no_money = omega arith
      place_at_most no_put = omega arith
      place_at_most no_call = omega arith
      place_at_most strip_too_large = omega arith
