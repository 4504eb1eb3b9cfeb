-- The level is one, rises with the forward, and excludes that every strike is above the forward.
use Rattle.std.proofs.Common.{◌≡◌, ℕ, ◌≤◌, ℤ, pos, List, inl, inr, lit≤}
use Rattle.std.proofs.lemmas.Bool.{cases_order, cases_lt}
use Rattle.vx_num.specs.Fraction.{Fraction, IsProper, whole, ◌≤ᶠ◌}
use Rattle.vx_bracket.proofs.Members.{brackets_meet}
use Rattle.vx_symbol.specs.declared.rows.StrikeRow.{StrikeRow}
use Rattle.vx_formula.specs.Term.{Term, InBracket, exponent, HasSmallExponent}
use Rattle.vx_formula.specs.Forward.{forward_at}
use Rattle.vx_formula.specs.Level.{IsGreatestBelow, IsLevel}
use Rattle.vx_formula.specs.Refusal.{IsBelowAll}
use Rattle.vx_num.proofs.Fractions.{≤ᶠ_trans, clash_ᶠ}

pub exponent_proper : (rate : ℤ) (minutes : ℕ) → IsProper (exponent rate minutes)
exponent_proper rate minutes = lit≤ tt

-- two depths have a common member
pub brackets_of_term_meet : (term : Term) (n m : ℕ) → HasSmallExponent term → (e : Fraction) × (InBracket term n e) × (InBracket term m e)
brackets_of_term_meet term n m small = brackets_meet n m (exponent term.rate term.minutes) (exponent_proper term.rate term.minutes) small

pub level_rises : (rows : List StrikeRow) (f g : Fraction) (k m : ℕ) → IsProper f → f ≤ᶠ g → IsGreatestBelow rows f k → IsGreatestBelow rows g m → k ≤ m
level_rises rows f g k m p below h l =
    elim (cases_lt m k) [
      | inl above ↦ absurd (clash_ᶠ g (whole (pos k)) (l.others_above k h.is_listed above) (≤ᶠ_trans (whole (pos k)) f g p h.at_most below))
      | inr fine ↦ fine
    ]

pub greatest_below_is_one : (rows : List StrikeRow) (f : Fraction) (k m : ℕ) → IsGreatestBelow rows f k → IsGreatestBelow rows f m → k ≡ m
greatest_below_is_one rows f k m h l =
    elim (cases_order k m) [
      | inl e ↦ e
      | inr d ↦ elim d [
        | inl less ↦ absurd (clash_ᶠ f (whole (pos m)) (h.others_above m l.is_listed less) l.at_most)
        | inr more ↦ absurd (clash_ᶠ f (whole (pos k)) (l.others_above k h.is_listed more) h.at_most)
      ]
    ]

pub level_is_one : (term : Term) (k m : ℕ) → HasSmallExponent term → IsLevel term k → IsLevel term m → k ≡ m
level_is_one term k m small h l =
    let common = brackets_of_term_meet term h.depth l.depth small in
    greatest_below_is_one term.rows (forward_at term.pair common.0) k m (h.holds common.0 common.1) (l.holds common.0 common.2)

pub level_is_not_below_all : (term : Term) (k : ℕ) → HasSmallExponent term → IsLevel term k → IsBelowAll term → ⊥
level_is_not_below_all term k small h none =
    let common = brackets_of_term_meet term h.depth none.depth small in
    let at : IsGreatestBelow term.rows (forward_at term.pair common.0) k = h.holds common.0 common.1 in
    clash_ᶠ (forward_at term.pair common.0) (whole (pos k)) (none.holds common.0 common.2 k at.is_listed) at.at_most
