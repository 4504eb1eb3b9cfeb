-- The first refusal of a tick, by the first of its terms.
use Rattle.std.proofs.Common.{sym, subst, ℕ, ◌<◌, ℤ, pos, ◌+ℤ◌, ◌≤ℤ◌, Some, refl, arith}
use Rattle.std.proofs.lemmas.Option.{same_Some}
use Rattle.vx_formula.specs.declared.limits.TheConstants.{FORWARD_WIDTH_MAX}
use Rattle.vx_formula.specs.Term.{TermFacts}
use Rattle.vx_formula.specs.Refusal.{TermReason, TermRefuses, FirstTermRefusal, SomeTermRefuses}
use Rattle.vx_formula.specs.Refusal.{TickFacts, TickReason, no_near_term, no_next_term, of_near, of_next, negative_variance, TickRefuses, tick_place, FirstRefusal, near_undecided_place, next_undecided_place, cents_undecided_place}
use Rattle.vx_formula.proofs.RefusalPlaces.{place_range}
use Rattle.vx_claims.specs.Answers.{LeavesForward}
use Rattle.vx_claims.specs.declared.limits.TheConstants.{SCALE}
use Rattle.vx_term.specs.Meaning.{UndecidedMeans}

-- a refusal of a chosen term is one of these facts
chosen_refuses : (P : ℕ) (f : TermFacts) (reason : TermReason) → SomeTermRefuses P (Some f) reason → TermRefuses P f reason
chosen_refuses P f reason h = subst (λ (facts : TermFacts). TermRefuses P facts reason) (sym (same_Some f h.facts h.is_chosen)) h.refuses

module _ (P : ℕ) (f g : TermFacts) (target : ℕ) where
  -- the facts of a tick with both terms chosen
  abbrev pub both : TickFacts
  both = record { near = Some f; next = Some g; target = target }

  -- near's first refusal is the tick's
  pub near_refusal_is_first : (reason : TermReason) → FirstTermRefusal P f reason → FirstRefusal P both (of_near reason)
  near_refusal_is_first reason first = record {
    holds = record { facts = f; is_chosen = refl; refuses = first.holds };
    none_earlier = earlier;
  }
    where
      earlier : (other : TickReason) → tick_place other < tick_place (of_near reason) → ¬ TickRefuses P both other
      earlier no_near_term less h = absurd cc
      earlier no_next_term less h = absurd cc
      earlier (of_near other) less h = first.none_earlier other (omega (arith, less)) (chosen_refuses P f other h)
      earlier (of_next other) less h = let a = place_range other in let b = place_range reason in omega (arith, less, a.0, b.1)
      earlier negative_variance less h = let b = place_range reason in omega (arith, less, b.1)

  module _ (sound : (reason : TermReason) → ¬ TermRefuses P f reason) where
    -- where near is not refused, next's first refusal is the tick's
    pub next_refusal_is_first : (reason : TermReason) → FirstTermRefusal P g reason → FirstRefusal P both (of_next reason)
    next_refusal_is_first reason first = record {
      holds = record { facts = g; is_chosen = refl; refuses = first.holds };
      none_earlier = earlier;
    }
      where
        earlier : (other : TickReason) → tick_place other < tick_place (of_next reason) → ¬ TickRefuses P both other
        earlier no_near_term less h = absurd cc
        earlier no_next_term less h = absurd cc
        earlier (of_near other) less h = sound other (chosen_refuses P f other h)
        earlier (of_next other) less h = first.none_earlier other (omega (arith, less)) (chosen_refuses P g other h)
        earlier negative_variance less h = let b = place_range reason in omega (arith, less, b.1)

    module _ (next_sound : (reason : TermReason) → ¬ TermRefuses P g reason) where
      -- where neither is refused, no refusal at a place before the figure's holds
      pub none_before_cents : (other : TickReason) → tick_place other < cents_undecided_place → ¬ TickRefuses P both other
      none_before_cents no_near_term less h = absurd cc
      none_before_cents no_next_term less h = absurd cc
      none_before_cents (of_near other) less h = sound other (chosen_refuses P f other h)
      none_before_cents (of_next other) less h = next_sound other (chosen_refuses P g other h)
      none_before_cents negative_variance less h = omega (arith, less)

      -- and a negative variance is the first refusal where it holds
      pub negative_is_first : TickRefuses P both negative_variance → FirstRefusal P both negative_variance
      negative_is_first holds = record { holds = holds; none_earlier = earlier }
        where
          earlier : (other : TickReason) → tick_place other < tick_place negative_variance → ¬ TickRefuses P both other
          earlier no_near_term less h = absurd cc
          earlier no_next_term less h = absurd cc
          earlier (of_near other) less h = sound other (chosen_refuses P f other h)
          earlier (of_next other) less h = next_sound other (chosen_refuses P g other h)
          earlier negative_variance less h = omega (arith, less)

-- ---- undecided forwards

module _ (f g : TermFacts) (target strike : ℕ) (lo hi : ℤ) where
  -- near's undecided forward is the tick's
  pub near_forward_is_left : UndecidedMeans SCALE f strike lo hi → hi ≤ℤ (lo +ℤ pos FORWARD_WIDTH_MAX) → LeavesForward (both SCALE f g target) (Some f) near_undecided_place strike lo hi
  near_forward_is_left means near = record {
    of = f;
    is_chosen = refl;
    term = means.term;
    is_of_facts = means.is_of_facts;
    undecided = record { between = means.between; narrow = near; listed = (means.lowest).listed; straddles = (means.lowest).straddles; lowest = (means.lowest).lowest };
    none_earlier = earlier;
  }
    where
      earlier : (other : TickReason) → tick_place other < near_undecided_place → ¬ TickRefuses SCALE (both SCALE f g target) other
      earlier no_near_term less h = absurd cc
      earlier no_next_term less h = absurd cc
      earlier (of_near other) less h = means.none_earlier other (omega (arith, less)) (chosen_refuses SCALE f other h)
      earlier (of_next other) less h = omega (arith, less)
      earlier negative_variance less h = omega (arith, less)

  -- and next's, where near is not refused
  pub next_forward_is_left : ((reason : TermReason) → ¬ TermRefuses SCALE f reason) → UndecidedMeans SCALE g strike lo hi → hi ≤ℤ (lo +ℤ pos FORWARD_WIDTH_MAX)
      → LeavesForward (both SCALE f g target) (Some g) next_undecided_place strike lo hi
  next_forward_is_left sound means near = record {
    of = g;
    is_chosen = refl;
    term = means.term;
    is_of_facts = means.is_of_facts;
    undecided = record { between = means.between; narrow = near; listed = (means.lowest).listed; straddles = (means.lowest).straddles; lowest = (means.lowest).lowest };
    none_earlier = earlier;
  }
    where
      earlier : (other : TickReason) → tick_place other < next_undecided_place → ¬ TickRefuses SCALE (both SCALE f g target) other
      earlier no_near_term less h = absurd cc
      earlier no_next_term less h = absurd cc
      earlier (of_near other) less h = sound other (chosen_refuses SCALE f other h)
      earlier (of_next other) less h = means.none_earlier other (omega (arith, less)) (chosen_refuses SCALE g other h)
      earlier negative_variance less h = omega (arith, less)
