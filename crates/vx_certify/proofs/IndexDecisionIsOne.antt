-- The two ends of the square of the index give one pair of ends of the index and one decision.
use Rattle.std.proofs.Common.{◌≡◌, ℕ, ℤ, pos, ◌≤ℤ◌, ◌<ℤ◌, subst, arith}
use Rattle.std.proofs.lemmas.Int.{ints}
use Rattle.vx_interval.specs.Ends.{Ends, unit}
use Rattle.vx_interval.proofs.EndsLemmas.{unit_positive}
use Rattle.vx_bounds.specs.Cents.{Decides}
use Rattle.vx_bounds.specs.declared.cents.Decision.{Decision}
use Rattle.vx_bounds.proofs.RootsAreOne.{roots_are_one, roots_are_ordered}
use Rattle.vx_bounds.proofs.DecisionIsOne.{decision_is_one}
use Rattle.vx_term.specs.Laws.{AreInOrder}
use Rattle.vx_certify.specs.Laws.{IsDecided}

-- a square in order has one pair of ends of the index, and one decision
pub index_decision_is_one : (P : ℕ) (square : Ends) (lo hi low high : ℤ) (a b : Decision) → AreInOrder square → IsDecided P square lo hi a → IsDecided P square low high b
    → (lo ≡ low) × (hi ≡ high) × (a ≡ b)
index_decision_is_one P square lo hi low high a b ordered h k =
    let one : pos 0 <ℤ unit P = unit_positive P in
    let lows : lo ≡ low = (roots_are_one (unit P) square.lo lo low (omega (arith, ints))).0 (h.ends).low (k.ends).low in
    let highs : hi ≡ high = (roots_are_one (unit P) square.hi hi high (omega (arith, ints))).1 (h.ends).high (k.ends).high in
    let less : low ≤ℤ high = roots_are_ordered (unit P) square.lo square.hi low high one ordered (k.ends).low (k.ends).high in
    let first : Decides low hi a = subst (λ (z : ℤ). Decides z hi a) lows h.decides in
    let both : Decides low high a = subst (λ (z : ℤ). Decides low z a) highs first in
    (lows, highs, decision_is_one low high a b less both k.decides)
