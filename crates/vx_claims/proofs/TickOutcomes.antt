-- Each tick with two terms is answered: refused, undecided or sound.
use Rattle.std.proofs.Common.{◌≡◌, refl, sym, ◌∙◌, subst, ℕ, ◌+◌, ◌<◌, ◌≤◌, ◌⊎◌, ℤ, Option, Some, None, inl, inr, arith}
use Rattle.std.proofs.lemmas.Bool.{cases_lt}
use Rattle.vx_formula.specs.Term.{TermFacts}
use Rattle.vx_formula.specs.Refusal.{TermReason, TermRefuses, term_place, FirstTermRefusal, TickFacts, SomeTermRefuses, TickReason, no_near_term}
use Rattle.vx_formula.specs.Refusal.{no_next_term, of_near, of_next, negative_variance, TickRefuses, tick_place, near_undecided_place}
use Rattle.vx_formula.specs.Refusal.{next_undecided_place}
use Rattle.vx_claims.specs.declared.limits.TheConstants.{SCALE}
use Rattle.vx_claims.specs.Answers.{LeavesForward}
use Rattle.vx_formula.specs.TermOutcomes.{IsUndecided, IsSound}
use Rattle.vx_claims.specs.TickOutcomes.{AreEndsOf, IsTickRefused, AreBothSound, TickIsAnswered, RefusedTickIsNotSound, UndecidedNearComesFirst}
use Rattle.vx_claims.specs.TickOutcomes.{UndecidedNextComesFirst}
use Rattle.vx_formula.proofs.TermOutcomes.{place_in_range, place_is_not_3, term_is_answered}

content_is_one : {A : Type 0} (o : Option A) (x y : A) → o ≡ Some x → o ≡ Some y → x ≡ y
content_is_one o x y h l = let both : Some x ≡ Some y = sym h ∙ l in cc

not_none : {A : Type 0} (o : Option A) (x : A) → o ≡ Some x → o ≡ None → ⊥
not_none o x h l = let both : Some x ≡ None = sym h ∙ l in cc

-- a refusal of the chosen term is one of its facts
refuses_of : (chosen : Option TermFacts) (n : TermFacts) (r : TermReason) → chosen ≡ Some n → SomeTermRefuses SCALE chosen r → TermRefuses SCALE n r
refuses_of chosen n r is h = subst (λ (f : TermFacts). TermRefuses SCALE f r) (content_is_one chosen h.facts n h.is_chosen is) h.refuses

-- no refusal before a place holds
abbrev NoneBefore : TickFacts → ℕ → Type 0
NoneBefore facts place = (r : TickReason) → tick_place r < place → ¬ TickRefuses SCALE facts r

abbrev NoTermBefore : TermFacts → ℕ → Type 0
NoTermBefore n place = (r : TermReason) → term_place r < place → ¬ TermRefuses SCALE n r

before_near_term : (facts : TickFacts) → NoneBefore facts 1
before_near_term facts no_near_term low h = omega arith
before_near_term facts no_next_term low h = omega arith
before_near_term facts (of_near r) low h = omega arith
before_near_term facts (of_next r) low h = omega arith
before_near_term facts negative_variance low h = omega arith

before_next_term : (facts : TickFacts) (n : TermFacts) → facts.near ≡ Some n → NoneBefore facts 2
before_next_term facts n is no_near_term low h = not_none facts.near n is h
before_next_term facts n is no_next_term low h = omega arith
before_next_term facts n is (of_near r) low h = let range = place_in_range r in omega (arith, range.0)
before_next_term facts n is (of_next r) low h = omega arith
before_next_term facts n is negative_variance low h = omega arith

module _ (facts : TickFacts) (n m : TermFacts) (near_is : facts.near ≡ Some n) (next_is : facts.next ≡ Some m) where
  -- at the places of near
  before_near : (place : ℕ) → place ≤ 9 → NoTermBefore n place → NoneBefore facts (2 + place)
  before_near place high none no_near_term low h = not_none facts.near n near_is h
  before_near place high none no_next_term low h = not_none facts.next m next_is h
  before_near place high none (of_near r) low h = none r (omega arith) (refuses_of facts.near n r near_is h)
  before_near place high none (of_next r) low h = let range = place_in_range r in omega (arith, range.0)
  before_near place high none negative_variance low h = omega arith

  -- at the places of next, where near has no refusal
  before_next : (place : ℕ) → place ≤ 10 → ((r : TermReason) → ¬ TermRefuses SCALE n r) → NoTermBefore m place → NoneBefore facts (11 + place)
  before_next place high near none no_near_term low h = not_none facts.near n near_is h
  before_next place high near none no_next_term low h = not_none facts.next m next_is h
  before_next place high near none (of_near r) low h = near r (refuses_of facts.near n r near_is h)
  before_next place high near none (of_next r) low h = none r (omega arith) (refuses_of facts.next m r next_is h)
  before_next place high near none negative_variance low h = omega arith

  refused_near : (r : TermReason) → FirstTermRefusal SCALE n r → IsTickRefused facts
  refused_near r h =
      let range = place_in_range r in
      record {
        reason = of_near r;
        is_first = record {
          holds = record { facts = n; is_chosen = near_is; refuses = h.holds };
          none_earlier = before_near (term_place r) range.1 h.none_earlier;
        };
        of_terms = omega (arith, range.1);
      }

  refused_next : ((r : TermReason) → ¬ TermRefuses SCALE n r) → (r : TermReason) → FirstTermRefusal SCALE m r → IsTickRefused facts
  refused_next near r h =
      let range = place_in_range r in
      record {
        reason = of_next r;
        is_first = record {
          holds = record { facts = m; is_chosen = next_is; refuses = h.holds };
          none_earlier = before_next (term_place r) (omega (arith, range.1)) near h.none_earlier;
        };
        of_terms = omega (arith, range.1);
      }

  undecided_near : (lo hi : ℤ) → IsUndecided SCALE n lo hi → (strike : ℕ) × LeavesForward facts facts.near near_undecided_place strike lo hi
  undecided_near lo hi h = (
    h.strike,
    record { of = n; is_chosen = near_is; term = h.term; is_of_facts = h.is_of_facts; undecided = h.undecided; none_earlier = before_near 3 (omega arith) h.none_earlier },
  )

  undecided_next : (lo hi : ℤ) → ((r : TermReason) → ¬ TermRefuses SCALE n r) → IsUndecided SCALE m lo hi
      → (strike : ℕ) × LeavesForward facts facts.next next_undecided_place strike lo hi
  undecided_next lo hi near h = (
    h.strike,
    record { of = m; is_chosen = next_is; term = h.term; is_of_facts = h.is_of_facts; undecided = h.undecided; none_earlier = before_next 3 (omega arith) near h.none_earlier },
  )

  both_sound : IsSound SCALE n → IsSound SCALE m → AreBothSound facts
  both_sound h l = record {
    near = h.term;
    next = l.term;
    is_basis = record { near_facts = n; near_is = near_is; near_of = h.is_of_facts; next_facts = m; next_is = next_is; next_of = l.is_of_facts };
    near_level = (h.level, h.is_level);
    next_level = (l.level, l.is_level);
    none_refuses = before_next 10 (omega arith) h.none_refuses (λ r low. l.none_refuses r);
  }

abbrev Answer : TickFacts → ℤ → ℤ → ℤ → ℤ → Type 0
Answer facts near_lo near_hi next_lo next_hi =
    IsTickRefused facts
    ⊎ (((strike : ℕ) × LeavesForward facts facts.near near_undecided_place strike near_lo near_hi)
    ⊎ (((strike : ℕ) × LeavesForward facts facts.next next_undecided_place strike next_lo next_hi)
    ⊎ AreBothSound facts))

by_terms : (facts : TickFacts) (a b c d : ℤ) (near next : Option TermFacts) → facts.near ≡ near → facts.next ≡ next → AreEndsOf near a b
    → AreEndsOf next c d → Answer facts a b c d
by_terms facts a b c d None next near_is next_is h l =
    inl (record { reason = no_near_term; is_first = record { holds = near_is; none_earlier = before_near_term facts }; of_terms = omega arith })
by_terms facts a b c d (Some n) None near_is next_is h l =
    inl (record { reason = no_next_term; is_first = record { holds = next_is; none_earlier = before_next_term facts n near_is }; of_terms = omega arith })
by_terms facts a b c d (Some n) (Some m) near_is next_is h l =
    elim (term_is_answered SCALE n a b h.in_range h.around) [
      | inl refused ↦ inl (refused_near facts n m near_is next_is refused.0 refused.1)
      | inr other ↦ elim other [
        | inl undecided ↦ inr (inl (undecided_near facts n m near_is next_is a b undecided))
        | inr near ↦ elim (term_is_answered SCALE m c d l.in_range l.around) [
          | inl refused ↦ inl (refused_next facts n m near_is next_is near.none_refuses refused.0 refused.1)
          | inr rest ↦ elim rest [
            | inl undecided ↦ inr (inr (inl (undecided_next facts n m near_is next_is c d near.none_refuses undecided)))
            | inr next ↦ inr (inr (inr (both_sound facts n m near_is next_is near next)))
          ]
        ]
      ]
    ]

-- of a tick's two terms one is refused, a forward is undecided, or both levels are found
pub tick_is_answered : TickIsAnswered
tick_is_answered facts a b c d h l = by_terms facts a b c d facts.near facts.next refl refl h l

-- a tick with a refusal does not have both levels and no refusal
pub refused_tick_is_not_sound : RefusedTickIsNotSound
refused_tick_is_not_sound facts h sound = sound.none_refuses h.reason h.of_terms h.is_first.holds

-- no refusal has the place of an undecided forward
not_at_5 : (r : TickReason) → tick_place r ≡ 5 → ⊥
not_at_5 no_near_term e = omega arith
not_at_5 no_next_term e = omega arith
not_at_5 (of_near r) e = place_is_not_3 r (omega arith)
not_at_5 (of_next r) e = omega arith
not_at_5 negative_variance e = omega arith

not_at_14 : (r : TickReason) → tick_place r ≡ 14 → ⊥
not_at_14 no_near_term e = omega arith
not_at_14 no_next_term e = omega arith
not_at_14 (of_near r) e = let range = place_in_range r in omega (arith, range.1)
not_at_14 (of_next r) e = place_is_not_3 r (omega arith)
not_at_14 negative_variance e = omega arith

later : (r : TickReason) (place : ℕ) → (tick_place r ≡ place → ⊥) → (tick_place r < place → ⊥) → place < tick_place r
later r place at less = elim (cases_lt place (tick_place r)) [ inl more ↦ more | inr fine ↦ elim (cases_lt (tick_place r) place) [ inl low ↦ absurd (less low) | inr high ↦ absurd (at (omega arith)) ] ]

-- where the near forward is undecided, and a first refusal holds too, the refusal's place comes later
pub undecided_near_comes_first : UndecidedNearComesFirst
undecided_near_comes_first facts strike lo hi r h l = later r 5 (not_at_5 r) (λ low. h.none_earlier r low l.holds)

-- and so where the next forward is
pub undecided_next_comes_first : UndecidedNextComesFirst
undecided_next_comes_first facts strike lo hi r h l = later r 14 (not_at_14 r) (λ low. h.none_earlier r low l.holds)
