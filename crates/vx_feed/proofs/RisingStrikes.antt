-- Lists of strikes in rising order. The strikes of an expiry rise, and so do its rows.
use Rattle.std.proofs.Common.{◌≡◌, refl, sym, subst, ◌<◌, ◌≤◌, ◌+◌, inl, inr, ℕ, zero, suc, Bool, true, false, List, [], ◌∷◌, map, length, get_or, Option, Some, None, arith}
use Rattle.std.specs.List.{filter}
use Rattle.std.proofs.lemmas.Bool.{cases_Bool}
use Rattle.std.proofs.lemmas.List.{length-map}
use Rattle.vx_clock.specs.declared.terms.Expiry.{Expiry}
use Rattle.vx_symbol.specs.declared.rows.Price.{Price}
use Rattle.vx_symbol.specs.declared.rows.StrikeRow.{StrikeRow}
use Rattle.vx_symbol.specs.declared.symbols.Symbol.{Symbol}
use Rattle.vx_symbol.specs.Rows.{StrikesRise}
use Rattle.vx_feed.specs.declared.events.Event.{Event}
use Rattle.vx_feed.specs.Listed.{insert_strike, is_strike_listed, listed_strike, listed_strikes, row_of, strikes_of, with_strike}
use Rattle.vx_feed.proofs.NextEvent.{insert_strike-above, insert_strike-at, insert_strike-below, three_ways}

-- in rising order, each at least this
abbrev pub RisesFrom : ℕ → List ℕ → Type 0
RisesFrom low [] = Unit {0}
RisesFrom low (k ∷ ks) = (low ≤ k) × RisesFrom (k + 1) ks

-- they are at least any lower number too
pub rises_weaker : (high low : ℕ) (ks : List ℕ) → low ≤ high → RisesFrom high ks → RisesFrom low ks
rises_weaker high low [] h r = tt
rises_weaker high low (k ∷ ks) h r = let at : high ≤ k = r.0 in (omega arith, r.1)

-- a strike at least as great is put in its place
pub insert_rises : (k low : ℕ) (js : List ℕ) → low ≤ k → RisesFrom low js → RisesFrom low (insert_strike k js)
insert_rises k low [] h r = (h, tt)
insert_rises k low (j ∷ js) h r =
    let From : List ℕ → Type 0 = RisesFrom low in
    elim (three_ways k j) [
      | inl below ↦ subst From (sym (insert_strike-below k j js below)) (h, (omega arith, r.1))
      | inr other ↦ elim other [
        | inl same ↦ subst From (sym (insert_strike-at k j js same)) r
        | inr above ↦ subst From (sym (insert_strike-above k j js above)) (r.0, insert_rises k (j + 1) js (omega arith) r.1)
      ]
    ]

with_rises : (o : Option ℕ) (js : List ℕ) → RisesFrom 0 js → RisesFrom 0 (with_strike o js)
with_rises None js r = r
with_rises (Some k) js r = insert_rises k 0 js (omega arith) r

-- the strikes listed of an expiry
pub strikes_rise : (x : Expiry) (events : List Event) → RisesFrom 0 (strikes_of x events)
strikes_rise x [] = tt
strikes_rise x (e ∷ events) = with_rises (listed_strike x e) (strikes_of x events) (strikes_rise x events)

-- ---- those that pass a test

-- a strike that passes stays
pub kept : (t : ℕ → Bool) (j : ℕ) (js : List ℕ) → t j ≡ true → filter t (j ∷ js) ≡ j ∷ filter t js
kept t j js h = rw h refl

-- one that does not is left out
pub dropped : (t : ℕ → Bool) (j : ℕ) (js : List ℕ) → t j ≡ false → filter t (j ∷ js) ≡ filter t js
dropped t j js h = rw h refl

-- the others still rise
pub filter_rises : (t : ℕ → Bool) (low : ℕ) (ks : List ℕ) → RisesFrom low ks → RisesFrom low (filter t ks)
filter_rises t low [] r = tt
filter_rises t low (j ∷ js) r =
    let From : List ℕ → Type 0 = RisesFrom low in
    let at : low ≤ j = r.0 in
    elim (cases_Bool (t j)) [
      | inl passes ↦ subst From (sym (kept t j js passes)) (at, filter_rises t (j + 1) js r.1)
      | inr fails ↦ subst From (sym (dropped t j js fails)) (rises_weaker (j + 1) low (filter t js) (omega arith) (filter_rises t (j + 1) js r.1))
    ]

-- ---- the rows of rising strikes

rises_above : (price : Symbol → Price) (x : Expiry) (low : ℕ) (ks : List ℕ) → RisesFrom low ks → (j : ℕ) (d : StrikeRow)
    → j < length ks → low ≤ (get_or (map (row_of price x) ks) j d).strike
rises_above price x low [] r j d h = absurd (omega arith)
rises_above price x low (k ∷ ks) r zero d h = r.0
rises_above price x low (k ∷ ks) r (suc j) d h =
    let a : low ≤ k = r.0 in
    let b = rises_above price x (k + 1) ks r.1 j d (omega arith) in
    omega arith

pairs_rise : (price : Symbol → Price) (x : Expiry) (low : ℕ) (ks : List ℕ) → RisesFrom low ks → StrikesRise (map (row_of price x) ks)
pairs_rise price x low [] r i j d lt within = absurd (omega arith)
pairs_rise price x low (k ∷ ks) r i zero d lt within = absurd (omega arith)
pairs_rise price x low (k ∷ ks) r zero (suc j) d lt within =
    let same : length (map (row_of price x) ks) ≡ length ks = length-map ks (row_of price x) in
    let b = rises_above price x (k + 1) ks r.1 j d (omega arith) in
    omega arith
pairs_rise price x low (k ∷ ks) r (suc i) (suc j) d lt within = pairs_rise price x (k + 1) ks r.1 i j d (omega arith) (omega arith)

-- the listed rows of an expiry rise, whatever their prices
pub rows_rise : (price : Symbol → Price) (x : Expiry) (events : List Event) → StrikesRise (map (row_of price x) (listed_strikes x events))
rows_rise price x events =
    pairs_rise price x 0 (listed_strikes x events) (filter_rises (is_strike_listed x events) 0 (strikes_of x events) (strikes_rise x events))
