-- The first refusal is one, since each has a place of its own.
use Rattle.std.proofs.Common.{◌≡◌, ℕ, ◌-◌, cond, eqb, ltb, refl, sym, ◌∙◌, ap, inl, inr}
use Rattle.std.proofs.lemmas.Bool.{cases_order}
use Rattle.vx_formula.specs.Term.{TermFacts}
use Rattle.vx_formula.specs.Refusal.{IsFirst}
use Rattle.vx_formula.specs.Refusal.{TermReason, no_rate, no_pair, no_strike_below, no_strike_above, no_money, no_put, no_call, strip_too_large, TermRefuses, term_place, FirstTermRefusal}
use Rattle.vx_formula.specs.Refusal.{TickFacts, TickReason, no_near_term, no_next_term, of_near, of_next, negative_variance, TickRefuses, tick_place, FirstRefusal}
use Rattle.vx_formula.specs.Refusal.{OpeningFacts, OpeningReason, no_opening, no_term, of_term, negative_opening, OpeningRefuses, opening_place, FirstOpeningRefusal}

same_place : {R : Type 0} (Holds : R → Type 0) (place : R → ℕ) (r s : R) → IsFirst Holds place r → IsFirst Holds place s → place r ≡ place s
same_place Holds place r s h l =
    elim (cases_order (place r) (place s)) [
      | inl e ↦ e
      | inr apart ↦ elim apart [ inl less ↦ absurd (l.none_earlier r less h.holds) | inr more ↦ absurd (h.none_earlier s more l.holds) ]
    ]

-- the reason at each place
abbrev term_at : ℕ → TermReason
term_at n =
    cond (eqb n 1) no_rate (cond (eqb n 2) no_pair (cond (eqb n 4) no_strike_below (cond (eqb n 5) no_strike_above
    (cond (eqb n 6) no_money (cond (eqb n 7) no_put (cond (eqb n 8) no_call strip_too_large))))))

term_at-place : (r : TermReason) → term_at (term_place r) ≡ r
term_at-place no_rate = refl
term_at-place no_pair = refl
term_at-place no_strike_below = refl
term_at-place no_strike_above = refl
term_at-place no_money = refl
term_at-place no_put = refl
term_at-place no_call = refl
term_at-place strip_too_large = refl

abbrev tick_at : ℕ → TickReason
tick_at n =
    cond (eqb n 1) no_near_term (cond (eqb n 2) no_next_term (cond (eqb n 22) negative_variance
    (cond (ltb n 12) (of_near (term_at (n - 2))) (of_next (term_at (n - 11))))))

tick_at-place : (r : TickReason) → tick_at (tick_place r) ≡ r
tick_at-place no_near_term = refl
tick_at-place no_next_term = refl
tick_at-place negative_variance = refl
tick_at-place (of_near no_rate) = refl
tick_at-place (of_near no_pair) = refl
tick_at-place (of_near no_strike_below) = refl
tick_at-place (of_near no_strike_above) = refl
tick_at-place (of_near no_money) = refl
tick_at-place (of_near no_put) = refl
tick_at-place (of_near no_call) = refl
tick_at-place (of_near strip_too_large) = refl
tick_at-place (of_next no_rate) = refl
tick_at-place (of_next no_pair) = refl
tick_at-place (of_next no_strike_below) = refl
tick_at-place (of_next no_strike_above) = refl
tick_at-place (of_next no_money) = refl
tick_at-place (of_next no_put) = refl
tick_at-place (of_next no_call) = refl
tick_at-place (of_next strip_too_large) = refl

abbrev opening_at : ℕ → OpeningReason
opening_at n =
    cond (eqb n 1) no_opening (cond (eqb n 2) no_term (cond (eqb n 13) negative_opening (of_term (term_at (n - 2)))))

opening_at-place : (r : OpeningReason) → opening_at (opening_place r) ≡ r
opening_at-place no_opening = refl
opening_at-place no_term = refl
opening_at-place negative_opening = refl
opening_at-place (of_term no_rate) = refl
opening_at-place (of_term no_pair) = refl
opening_at-place (of_term no_strike_below) = refl
opening_at-place (of_term no_strike_above) = refl
opening_at-place (of_term no_money) = refl
opening_at-place (of_term no_put) = refl
opening_at-place (of_term no_call) = refl
opening_at-place (of_term strip_too_large) = refl

pub first_term_refusal_is_one : (P : ℕ) (facts : TermFacts) (r s : TermReason) → FirstTermRefusal P facts r → FirstTermRefusal P facts s → r ≡ s
first_term_refusal_is_one P facts r s h l =
    sym (term_at-place r) ∙ ap term_at (same_place (TermRefuses P facts) term_place r s h l) ∙ term_at-place s

pub first_refusal_is_one : (P : ℕ) (facts : TickFacts) (r s : TickReason) → FirstRefusal P facts r → FirstRefusal P facts s → r ≡ s
first_refusal_is_one P facts r s h l =
    sym (tick_at-place r) ∙ ap tick_at (same_place (TickRefuses P facts) tick_place r s h l) ∙ tick_at-place s

pub first_opening_refusal_is_one : (P : ℕ) (facts : OpeningFacts) (r s : OpeningReason) → FirstOpeningRefusal P facts r → FirstOpeningRefusal P facts s → r ≡ s
first_opening_refusal_is_one P facts r s h l =
    sym (opening_at-place r) ∙ ap opening_at (same_place (OpeningRefuses P facts) opening_place r s h l) ∙ opening_at-place s
