-- There is at most one near term, and at most one next term.
use Rattle.std.proofs.Common.{◌≡◌, ℕ, ◌≤◌, List, inl, inr, refl, arith}
use Rattle.std.proofs.lemmas.Int.{ints}
use Rattle.vx_clock.specs.declared.days.DayNo.{DayNo}
use Rattle.vx_clock.specs.declared.terms.Root.{Root}
use Rattle.vx_clock.specs.declared.terms.Root.TheVariants.{Spx, Spxw}
use Rattle.vx_clock.specs.declared.terms.Expiry.{Expiry}
use Rattle.vx_clock.specs.Terms.{root_rank, IsTakenBeforeAsNear, IsTakenBeforeAsNext, IsNearTerm, IsNextTerm}

root_is_one : (a b : Root) → root_rank a ≤ root_rank b → root_rank b ≤ root_rank a → a ≡ b
root_is_one Spx Spx h k = refl
root_is_one Spx Spxw h k = absurd (omega arith)
root_is_one Spxw Spx h k = absurd (omega arith)
root_is_one Spxw Spxw h k = refl

-- expiries on one date whose roots come neither before the other are one
pub expiry_is_one : (a b : Expiry) → a.date.0 ≡ b.date.0 → root_rank a.root ≤ root_rank b.root → root_rank b.root ≤ root_rank a.root → a ≡ b
expiry_is_one a b e h k =
    let roots : a.root ≡ b.root = root_is_one a.root b.root h k in
    λ i. record { root = roots i; date = record { 0 = e i } }

near_order : (a b : Expiry) → IsTakenBeforeAsNear a b → IsTakenBeforeAsNear b a → a ≡ b
near_order a b (inl h) (inl k) = absurd (omega (arith, ints))
near_order a b (inl h) (inr k) = let e = k.0 in absurd (omega (arith, ints))
near_order a b (inr h) (inl k) = let e = h.0 in absurd (omega (arith, ints))
near_order a b (inr h) (inr k) = expiry_is_one a b h.0 h.1 k.1

next_order : (a b : Expiry) → IsTakenBeforeAsNext a b → IsTakenBeforeAsNext b a → a ≡ b
next_order a b (inl h) (inl k) = absurd (omega (arith, ints))
next_order a b (inl h) (inr k) = let e = k.0 in absurd (omega (arith, ints))
next_order a b (inr h) (inl k) = let e = h.0 in absurd (omega (arith, ints))
next_order a b (inr h) (inr k) = expiry_is_one a b h.0 h.1 k.1

-- two near terms of the same declared expiries are one
pub near_is_one : (today : DayNo) (days window : ℕ) (expiries : List Expiry) (a b : Expiry)
    → IsNearTerm today days window expiries a → IsNearTerm today days window expiries b → a ≡ b
near_is_one today days window expiries a b h k = near_order a b (h.first b k.declared k.in_window) (k.first a h.declared h.in_window)

-- and so are two next terms
pub next_is_one : (today : DayNo) (days window : ℕ) (expiries : List Expiry) (a b : Expiry)
    → IsNextTerm today days window expiries a → IsNextTerm today days window expiries b → a ≡ b
next_is_one today days window expiries a b h k = next_order a b (h.first b k.declared k.in_window) (k.first a h.declared h.in_window)
