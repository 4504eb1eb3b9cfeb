-- One of the expiries is the near term, or none is in its window; and so for the next term.
use Rattle.std.proofs.Common.{◌≡◌, sym, ℕ, ◌+◌, ◌⊎◌, inl, inr, ℤ, pos, ◌+ℤ◌, ◌≤ℤ◌, ◌<ℤ◌, arith}
use Rattle.std.proofs.lemmas.Int.{ints}
use Rattle.vx_clock.specs.declared.days.DayNo.{DayNo}
use Rattle.vx_clock.specs.declared.terms.Expiry.{Expiry}
use Rattle.vx_clock.specs.Minutes.{days_until}
use Rattle.vx_clock.specs.Terms.{IsInNearWindow, IsInNextWindow, root_rank, IsTakenBeforeAsNear, IsTakenBeforeAsNext}
use Rattle.vx_clock.proofs.TermOrder.{near-reflexive, near-transitive, next-reflexive, next-transitive}
use Rattle.vx_formula.proofs.Lists.{in_from_contains, contains_from_in}
use Rattle.vx_accepted.specs.Picked.{NearIsPickedOrNone, NextIsPickedOrNone}
use Rattle.vx_formula.proofs.BestOf.{best_or_none}
use Rattle.vx_formula.proofs.Comparisons.{at_most_or_not, below_or_not, less_or_at_most, rising_total}

-- ---- windows

both_or_not : (A B : Type 0) → (A ⊎ ¬ A) → (B ⊎ ¬ B) → (A × B) ⊎ ¬ (A × B)
both_or_not A B (inl a) (inl b) = inl (a, b)
both_or_not A B (inr a) other = inr (λ h. a h.0)
both_or_not A B (inl a) (inr b) = inr (λ h. b h.1)

-- an expiry is in the near term's window, or it is not
near_window_or_not : (today : DayNo) (days window : ℕ) (x : Expiry) → IsInNearWindow today days window x ⊎ ¬ IsInNearWindow today days window x
near_window_or_not today days window x =
    let d : ℤ = days_until today x.date in
    elim (both_or_not (pos 1 ≤ℤ d) (pos days <ℤ (d +ℤ pos window)) (at_most_or_not (pos 1) d) (below_or_not (pos days) (d +ℤ pos window))) [
      | inl from ↦ elim (at_most_or_not d (pos days)) [ inl until ↦ inl (from.0, from.1, until) | inr past ↦ inr (λ h. past h.2) ]
      | inr out ↦ inr (λ h. out (h.0, h.1))
    ]

next_or_not : (today : DayNo) (days window : ℕ) (x : Expiry) → IsInNextWindow today days window x ⊎ ¬ IsInNextWindow today days window x
next_or_not today days window x =
    let d : ℤ = days_until today x.date in
    both_or_not (pos days <ℤ d) (d ≤ℤ pos (days + window)) (below_or_not (pos days) d) (at_most_or_not d (pos (days + window)))

-- ---- which is taken before which

near_total : (a b : Expiry) → IsTakenBeforeAsNear a b ⊎ IsTakenBeforeAsNear b a
near_total a b =
    elim (less_or_at_most b.date.0 a.date.0) [
      | inl later ↦ inl (inl later)
      | inr most ↦ elim (less_or_at_most a.date.0 b.date.0) [
        | inl earlier ↦ inr (inl earlier)
        | inr least ↦
            let same : a.date.0 ≡ b.date.0 = omega (arith, ints, most, least) in
            elim (rising_total (root_rank a.root) (root_rank b.root)) [ inl rank ↦ inl (inr (same, rank)) | inr rank ↦ inr (inr (sym same, rank)) ]
      ]
    ]

next_total : (a b : Expiry) → IsTakenBeforeAsNext a b ⊎ IsTakenBeforeAsNext b a
next_total a b =
    elim (less_or_at_most a.date.0 b.date.0) [
      | inl earlier ↦ inl (inl earlier)
      | inr least ↦ elim (less_or_at_most b.date.0 a.date.0) [
        | inl later ↦ inr (inl later)
        | inr most ↦
            let same : a.date.0 ≡ b.date.0 = omega (arith, ints, most, least) in
            elim (rising_total (root_rank a.root) (root_rank b.root)) [ inl rank ↦ inl (inr (same, rank)) | inr rank ↦ inr (inr (sym same, rank)) ]
      ]
    ]

-- ---- the picks

-- one expiry is the near term, or none is in its window
pub near_is_picked_or_none : NearIsPickedOrNone
near_is_picked_or_none today days window expiries =
    elim (best_or_none (IsInNearWindow today days window) IsTakenBeforeAsNear (near_window_or_not today days window) near-reflexive near_total near-transitive expiries) [
      | inl found ↦ inl (
        found.0,
        record {
          declared = contains_from_in expiries found.0 found.1.among;
          in_window = found.1.counts;
          first = λ other at counts. found.1.first other (in_from_contains expiries other at) counts;
        },
      )
      | inr none ↦ inr (λ x at. none x (in_from_contains expiries x at))
    ]

-- and so for the next term
pub next_is_picked_or_none : NextIsPickedOrNone
next_is_picked_or_none today days window expiries =
    elim (best_or_none (IsInNextWindow today days window) IsTakenBeforeAsNext (next_or_not today days window) next-reflexive next_total next-transitive expiries) [
      | inl found ↦ inl (
        found.0,
        record {
          declared = contains_from_in expiries found.0 found.1.among;
          in_window = found.1.counts;
          first = λ other at counts. found.1.first other (in_from_contains expiries other at) counts;
        },
      )
      | inr none ↦ inr (λ x at. none x (in_from_contains expiries x at))
    ]
