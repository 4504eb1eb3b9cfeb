-- The places of refusals: those of a term's, and one that holds among others that do not.
use Rattle.std.proofs.Common.{ℕ, ◌+◌, ◌<◌, ◌≤◌, inl, inr, arith}
use Rattle.std.proofs.lemmas.Bool.{cases_lt}
use Rattle.vx_formula.specs.Refusal.{TermReason, no_rate, no_pair, no_strike_below, no_strike_above, no_money, no_put, no_call, strip_too_large, term_place}

-- a term's refusals have the places from 1 to 9
pub place_range : (reason : TermReason) → (1 ≤ term_place reason) × (term_place reason ≤ 9)
place_range no_rate = (omega arith, omega arith)
place_range no_pair = (omega arith, omega arith)
place_range no_strike_below = (omega arith, omega arith)
place_range no_strike_above = (omega arith, omega arith)
place_range no_money = (omega arith, omega arith)
place_range no_put = (omega arith, omega arith)
place_range no_call = (omega arith, omega arith)
place_range strip_too_large = (omega arith, omega arith)

-- none of them has the place 3 of an undecided forward: one that is not before it comes after it, wherever the term's places start
pub past_forward : (start : ℕ) (reason : TermReason) → start + 3 ≤ start + term_place reason → start + 3 < start + term_place reason
past_forward start no_rate late = absurd (omega (arith, late))
past_forward start no_pair late = absurd (omega (arith, late))
past_forward start no_strike_below late = omega arith
past_forward start no_strike_above late = omega arith
past_forward start no_money late = omega arith
past_forward start no_put late = omega arith
past_forward start no_call late = omega arith
past_forward start strip_too_large late = omega arith

-- a refusal that holds is not before a place before which none does
pub not_before : {R : Type 0} (place_of : R → ℕ) (Holds : R → Type 0) (place : ℕ) (reason : R) → Holds reason
    → ((other : R) → place_of other < place → ¬ Holds other) → place ≤ place_of reason
not_before place_of Holds place reason holds none =
    elim (cases_lt (place_of reason) place) [ inl less ↦ absurd (none reason less holds) | inr most ↦ most ]
