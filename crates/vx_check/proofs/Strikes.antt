-- The listed rows of an expiry by their strikes.
use Rattle.std.proofs.Common.{◌≡◌, ℕ, ◌+◌, ◌≤◌, ◌⊎◌, Bool, true, false, cond, ◌&&◌, ◌||◌, ◌==◌, List, [], ◌∷◌, map, Option, Some, None, refl, sym}
use Rattle.std.proofs.Common.{◌∙◌, ap, subst, inl, inr, arith}
use Rattle.std.specs.List.{filter}
use Rattle.std.proofs.lemmas.Bool.{and_parts, cases_order, cases_eq, cases_Bool, eqb-true}
use Rattle.vx_clock.specs.declared.terms.Expiry.{Expiry}
use Rattle.vx_symbol.specs.declared.symbols.Side.{Side}
use Rattle.vx_symbol.specs.declared.symbols.Side.TheVariants.{Call, Put}
use Rattle.vx_symbol.specs.declared.symbols.Symbol.{Symbol}
use Rattle.vx_symbol.specs.declared.rows.Price.{Price}
use Rattle.vx_symbol.specs.declared.rows.StrikeRow.{StrikeRow}
use Rattle.vx_feed.specs.declared.events.Event.{Event}
use Rattle.vx_feed.specs.declared.events.Event.TheVariants as event
use Rattle.vx_feed.specs.Same.{is_same_root, is_same_day, is_same_side, is_same_expiry}
use Rattle.vx_feed.specs.Standing.{lists_series}
use Rattle.vx_feed.specs.Listed.{expiry_of, insert_strike, is_listed, is_strike_listed, listed_rows, listed_strike, row_of, series_at, standing_price}
use Rattle.vx_feed.specs.Listed.{strikes_of, with_strike}
use Rattle.vx_feed.proofs.NextEvent.{insert_strike-above, insert_strike-at, insert_strike-below}
use Rattle.vx_feed.proofs.RisingStrikes.{RisesFrom as StrikesFrom, strikes_rise}
use Rattle.vx_formula.proofs.Lists.{In}
use Rattle.vx_check.specs.Rising.{RisesFrom, Rises, item_at}
use Rattle.vx_check.specs.Tables.{row_strike}
use Rattle.vx_check.specs.NextRows.{both_sides, listed_row}
use Rattle.vx_check.proofs.Rising.{item_here, item_past, rises_weaker}

or_cases : (a b : Bool) → (a || b) ≡ true → (a ≡ true) ⊎ (b ≡ true)
or_cases true b h = inl refl
or_cases false b h = inr h

-- ---- a strike among rising ones

in_inserted : (k : ℕ) (js : List ℕ) → In (insert_strike k js) k
in_inserted k [] = inl refl
in_inserted k (j ∷ js) =
    let Has : List ℕ → Type 0 = λ l. In l k in
    elim (cases_order k j) [
      | inl e ↦ subst Has (sym (insert_strike-at k j js e)) (inl (sym e))
      | inr apart ↦ elim apart [
        | inl below ↦ subst Has (sym (insert_strike-below k j js below)) (inl refl)
        | inr above ↦ subst Has (sym (insert_strike-above k j js above)) (inr (in_inserted k js))
      ]
    ]

in_kept : (i k : ℕ) (js : List ℕ) → In js i → In (insert_strike k js) i
in_kept i k [] h = absurd h
in_kept i k (j ∷ js) h =
    let Has : List ℕ → Type 0 = λ l. In l i in
    elim (cases_order k j) [
      | inl e ↦ subst Has (sym (insert_strike-at k j js e)) h
      | inr apart ↦ elim apart [
        | inl below ↦ subst Has (sym (insert_strike-below k j js below)) (inr h)
        | inr above ↦ subst Has (sym (insert_strike-above k j js above)) (elim h [ inl e ↦ inl e | inr later ↦ inr (in_kept i k js later) ])
      ]
    ]

still_in_with : (o : Option ℕ) (i : ℕ) (js : List ℕ) → In js i → In (with_strike o js) i
still_in_with None i js h = h
still_in_with (Some k) i js h = in_kept i k js h

-- the strike of a series that an event lists
listed_there : (x : Expiry) (side : Side) (k : ℕ) (e : Event) (js : List ℕ) → lists_series (series_at x side k) e ≡ true
    → In (with_strike (listed_strike x e) js) k
listed_there x side k (event.Series s) js h =
    let parts = and_parts (is_same_root x.root s.root && is_same_day x.date s.date && is_same_side side s.side) (k == s.strike) h in
    let own = and_parts (is_same_root x.root s.root && is_same_day x.date s.date) (is_same_side side s.side) parts.0 in
    let strike : k ≡ s.strike = eqb-true k s.strike parts.1 in
    let its : listed_strike x (event.Series s) ≡ Some s.strike = chosen (is_same_expiry x (expiry_of s)) s.strike own.0 in
    subst (λ (o : Option ℕ). In (with_strike o js) k) (sym its) (subst (λ (n : ℕ). In (insert_strike n js) k) strike (in_inserted k js)) where
      chosen : (b : Bool) (n : ℕ) → b ≡ true → cond b (Some n) None ≡ Some n
      chosen true n h = refl
      chosen false n h = cc
listed_there x side k (event.Header day) js h = absurd cc
listed_there x side k (event.Expiry y) js h = absurd cc
listed_there x side k (event.Rate y rate) js h = absurd cc
listed_there x side k (event.Quote time s bid ask) js h = absurd cc
listed_there x side k (event.Trade time s price) js h = absurd cc
listed_there x side k (event.Tick time) js h = absurd cc
listed_there x side k (event.Opening time) js h = absurd cc
listed_there x side k (event.End count) js h = absurd cc

listed_in_strikes : (x : Expiry) (side : Side) (k : ℕ) (events : List Event) → is_listed (series_at x side k) events ≡ true → In (strikes_of x events) k
listed_in_strikes x side k [] h = absurd cc
listed_in_strikes x side k (e ∷ events) h =
    elim (or_cases (lists_series (series_at x side k) e) (is_listed (series_at x side k) events) h) [
      | inl here ↦ listed_there x side k e (strikes_of x events) here
      | inr later ↦ still_in_with (listed_strike x e) k (strikes_of x events) (listed_in_strikes x side k events later)
    ]

-- ---- the rows of the strikes that pass a test

module _ (price : Symbol → Price) (x : Expiry) (test : ℕ → Bool) where
  abbrev rows : List ℕ → List StrikeRow
  rows ks = map (row_of price x) (filter test ks)

  rows_pass : (j : ℕ) (js : List ℕ) → test j ≡ true → rows (j ∷ js) ≡ row_of price x j ∷ rows js
  rows_pass j js t = rw t refl

  rows_fail : (j : ℕ) (js : List ℕ) → test j ≡ false → rows (j ∷ js) ≡ rows js
  rows_fail j js f = rw f refl

  rows_from_rise : (low : ℕ) (ks : List ℕ) → StrikesFrom low ks → RisesFrom row_strike low (rows ks)
  rows_from_rise low [] r = tt
  rows_from_rise low (j ∷ js) r =
      let From : List StrikeRow → Type 0 = RisesFrom row_strike low in
      let a : low ≤ j = r.0 in
      elim (cases_Bool (test j)) [
        | inl t ↦ subst From (sym (rows_pass j js t)) (a, rows_from_rise (j + 1) js r.1)
        | inr f ↦ subst From (sym (rows_fail j js f)) (rises_weaker row_strike (j + 1) low (rows js) (omega arith) (rows_from_rise (j + 1) js r.1))
      ]

  item_fails : (k : ℕ) → test k ≡ false → (ks : List ℕ) → item_at row_strike k (rows ks) ≡ None
  item_fails k h [] = refl
  item_fails k h (j ∷ js) =
      elim (cases_Bool (test j)) [
        | inl t ↦ ap (item_at row_strike k) (rows_pass j js t) ∙ item_past row_strike k (row_of price x j) (rows js) (λ e. apart t e) ∙ item_fails k h js
        | inr f ↦ ap (item_at row_strike k) (rows_fail j js f) ∙ item_fails k h js
      ]
    where
      apart : test j ≡ true → j ≡ k → ⊥
      apart t e = let q : true ≡ false = sym t ∙ ap test e ∙ h in cc q

  item_passes : (k : ℕ) → test k ≡ true → (ks : List ℕ) → In ks k → item_at row_strike k (rows ks) ≡ Some (row_of price x k)
  item_passes k h [] at = absurd at
  item_passes k h (j ∷ js) at =
      elim (cases_eq j k) [
        | inl e ↦
            ap (item_at row_strike k) (rows_pass j js (ap test e ∙ h)) ∙ item_here row_strike k (row_of price x j) (rows js) e
            ∙ ap (λ n. Some (row_of price x n)) e
        | inr past ↦
            let later : In js k = elim at [ inl e ↦ absurd (past e) | inr more ↦ more ] in
            elim (cases_Bool (test j)) [
              | inl t ↦ ap (item_at row_strike k) (rows_pass j js t) ∙ item_past row_strike k (row_of price x j) (rows js) past ∙ item_passes k h js later
              | inr f ↦ ap (item_at row_strike k) (rows_fail j js f) ∙ item_passes k h js later
            ]
      ]

pub listed_rows_rise_by_strike : (x : Expiry) (events : List Event) → Rises row_strike (listed_rows x events)
listed_rows_rise_by_strike x events = rows_from_rise (standing_price events) x (is_strike_listed x events) 0 (strikes_of x events) (strikes_rise x events)

-- the row of a strike
pub listed_item : (x : Expiry) (events : List Event) (k : ℕ) → item_at row_strike k (listed_rows x events) ≡ listed_row x events k
listed_item x events k = by_sides (is_listed (series_at x Put k) events) (is_listed (series_at x Call k) events) refl refl where
  fails : (is_strike_listed x events k) ≡ false → item_at row_strike k (listed_rows x events) ≡ None
  fails f = item_fails (standing_price events) x (is_strike_listed x events) k f (strikes_of x events)

  by_sides : (put call : Bool) → is_listed (series_at x Put k) events ≡ put → is_listed (series_at x Call k) events ≡ call
      → item_at row_strike k (listed_rows x events) ≡ both_sides k put call (standing_price events (series_at x Put k)) (standing_price events (series_at x Call k))
  by_sides true true p c =
      item_passes (standing_price events) x (is_strike_listed x events) k (rw (p, c) refl) (strikes_of x events) (listed_in_strikes x Put k events p)
  by_sides true false p c = fails (rw (p, c) refl)
  by_sides false true p c = fails (rw p refl)
  by_sides false false p c = fails (rw p refl)
