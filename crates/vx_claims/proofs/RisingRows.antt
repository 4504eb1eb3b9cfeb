-- The rows that a feed shows rise in strike.
use Rattle.std.proofs.Common.{◌≡◌, ℕ, ◌⊎◌, List, [], ◌∷◌, subst, inl, inr}
use Rattle.vx_clock.specs.declared.terms.Expiry.{Expiry}
use Rattle.vx_feed.specs.declared.events.Event.{Event}
use Rattle.vx_feed.specs.Listed.{insert_strike, standing_price, listed_rows}
use Rattle.vx_feed.specs.Standing.{before_opening}
use Rattle.vx_feed.specs.Opening.{opening_price, opening_rows}
use Rattle.vx_feed.proofs.NextEvent.{insert_strike-above, insert_strike-at, insert_strike-below, three_ways}
use Rattle.vx_feed.proofs.RisingStrikes.{rows_rise}
use Rattle.vx_formula.specs.Level.{StrikesRise}
use Rattle.vx_formula.proofs.Lists.{In}

-- what is in a list after a strike was put in: the strike, or what was there
pub in_insert : (k : ℕ) (js : List ℕ) (i : ℕ) → In (insert_strike k js) i → (k ≡ i) ⊎ In js i
in_insert k [] i (inl e) = inl e
in_insert k [] i (inr h) = elim h [ ]
in_insert k (j ∷ js) i h =
    let P : List ℕ → Type 0 = λ xs. In xs i in
    elim (three_ways k j) [
      | inl below ↦ elim (subst P (insert_strike-below k j js below) h) [ inl e ↦ inl e | inr later ↦ inr later ]
      | inr other ↦ elim other [
        | inl same ↦ inr (subst P (insert_strike-at k j js same) h)
        | inr above ↦ elim (subst P (insert_strike-above k j js above) h) [
          | inl e ↦ inr (inl e)
          | inr later ↦ elim (in_insert k js i later) [ inl e ↦ inl e | inr deep ↦ inr (inr deep) ]
        ]
      ]
    ]

-- the standing and the opening rows rise
pub listed_rows_rise : (x : Expiry) (events : List Event) → StrikesRise (listed_rows x events) × StrikesRise (opening_rows x events)
listed_rows_rise x events = (rows_rise (standing_price events) x events, rows_rise (opening_price events) x (before_opening events))
