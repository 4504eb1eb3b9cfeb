-- The listed strikes of an expiry and their rows after one more event.
use Rattle.std.proofs.Common.{◌≡◌, ◌≢◌, ◌∙◌, sym, ap, subst, refl, ◌<◌, ◌≤◌, ◌+◌, inl, inr, ℕ, Bool, true, false, cond, ◌&&◌, ◌||◌, ◌==◌, List, [], ◌∷◌, ◌++◌, map, Option, Some, None, arith}
use Rattle.std.specs.Prelude.{nat_lt}
use Rattle.std.specs.List.{filter}
use Rattle.std.proofs.lemmas.Bool.{and_parts, cases_Bool, cases_eq, ne_eqb, eq-eqb}
use Rattle.std.proofs.lemmas.Bool.Decides.{nat_tests}
use Rattle.std.proofs.Math.Bool.{and-false, and-true, or-true}
use Rattle.vx_clock.specs.declared.terms.Expiry.{Expiry}
use Rattle.vx_symbol.specs.declared.symbols.Side.{Side}
use Rattle.vx_symbol.specs.declared.symbols.Side.TheVariants.{Call, Put}
use Rattle.vx_symbol.specs.declared.symbols.Symbol.{Symbol}
use Rattle.vx_symbol.specs.declared.rows.Price.{Price}
use Rattle.vx_symbol.specs.declared.rows.StrikeRow.{StrikeRow}
use Rattle.vx_feed.specs.declared.events.Event.{Event}
use Rattle.vx_feed.specs.declared.events.Event.TheVariants as event
use Rattle.vx_feed.specs.Same.{is_same_expiry, is_same_series, is_same_side}
use Rattle.vx_feed.specs.Standing.{BidAsk, lists_series, quote_of, standing_quote}
use Rattle.vx_feed.specs.Listed.{expiry_of, insert_strike, is_listed, is_strike_listed, listed_rows, listed_strike, listed_strikes, no_price, opposite, other_side, quoted_price, row_of, series_at, standing_price, strikes_of, with_strike}
use Rattle.vx_feed.specs.Next.{quote_after}
use Rattle.vx_feed.proofs.NextEvent.{insert_strike-above, insert_strike-at, insert_strike-below, next_listed, next_quote, next_strikes, or-false, three_ways, unlisted_has_none}
use Rattle.vx_feed.proofs.RisingStrikes.{RisesFrom, dropped, filter_rises, kept, rises_weaker, strikes_rise}
use Rattle.vx_feed.proofs.SameAfter.{map_same, price_same}
use Rattle.vx_feed.proofs.SameLemmas.{expiry_from_same}
use Rattle.vx_feed.specs.NextRows.{NextRows, NextRowsListed, NextStrikesListed, completed_strike, completes_strike, insert_row, is_listing, price_after, row_after, row_when_listed, row_without}

insert_front : (k : ℕ) (ks : List ℕ) → RisesFrom (k + 1) ks → insert_strike k ks ≡ k ∷ ks
insert_front k [] r = refl
insert_front k (j ∷ js) r = let above : k + 1 ≤ j = r.0 in insert_strike-below k j js (omega arith)

-- ---- the strikes that pass a test

filter_step : (t u : ℕ → Bool) (j : ℕ) (js is : List ℕ) → u j ≡ t j → filter u js ≡ filter t is → filter u (j ∷ js) ≡ filter t (j ∷ is)
filter_step t u j js is same more = ap (λ b. cond b (j ∷ filter u js) (filter u js)) same ∙ ap (λ l. cond (t j) (j ∷ l) l) more

same_filter : (t u : ℕ → Bool) → ((j : ℕ) → u j ≡ t j) → (ks : List ℕ) → filter u ks ≡ filter t ks
same_filter t u same [] = refl
same_filter t u same (j ∷ js) = filter_step t u j js js (same j) (same_filter t u same js)

-- the tests may differ at one strike, here below all others
same_above : (t u : ℕ → Bool) (k low : ℕ) → ((j : ℕ) → j ≢ k → u j ≡ t j) → k < low → (ks : List ℕ) → RisesFrom low ks → filter u ks ≡ filter t ks
same_above t u k low same h [] r = refl
same_above t u k low same h (j ∷ js) r =
    let at : low ≤ j = r.0 in
    filter_step t u j js js (same j (λ e. omega arith)) (same_above t u k (j + 1) same (omega arith) js r.1)

-- a strike more among all, which passes now: it is one more among those that pass
insert_passes : (t u : ℕ → Bool) (k low : ℕ) → u k ≡ true → ((j : ℕ) → j ≢ k → u j ≡ t j) → (ks : List ℕ) → RisesFrom low ks
    → filter u (insert_strike k ks) ≡ insert_strike k (filter t ks)
insert_passes t u k low passes same [] r = kept u k [] passes
insert_passes t u k low passes same (j ∷ js) r =
    elim (three_ways k j) [
      | inl below ↦
          ap (filter u) (insert_strike-below k j js below) ∙ kept u k (j ∷ js) passes
          ∙ ap (λ l. k ∷ l) (same_above t u k (k + 1) same (omega arith) (j ∷ js) (omega arith, r.1))
          ∙ sym (insert_front k (filter t (j ∷ js)) (filter_rises t (k + 1) (j ∷ js) (omega arith, r.1)))
      | inr other ↦ elim other [
        | inl at ↦
            ap (filter u) (insert_strike-at k j js at) ∙ kept u j js (ap u (sym at) ∙ passes)
            ∙ ap (λ l. j ∷ l) (same_above t u k (j + 1) same (omega arith) js r.1)
            ∙ (elim (cases_Bool (t j)) [
              | inl there ↦ sym (ap (insert_strike k) (kept t j js there) ∙ insert_strike-at k j (filter t js) at)
              | inr absent ↦
                  sym (ap (insert_strike k) (dropped t j js absent)
                  ∙ insert_front k (filter t js) (filter_rises t (k + 1) js (rises_weaker (j + 1) (k + 1) js (omega arith) r.1)) ∙ ap (λ i. i ∷ filter t js) at)
            ])
        | inr above ↦
            let apart : j ≢ k = λ e. omega arith in
            let more : filter u (insert_strike k js) ≡ insert_strike k (filter t js) = insert_passes t u k (j + 1) passes same js r.1 in
            ap (filter u) (insert_strike-above k j js above)
            ∙ (elim (cases_Bool (t j)) [
              | inl there ↦
                  kept u j (insert_strike k js) (same j apart ∙ there) ∙ ap (λ l. j ∷ l) more
                  ∙ sym (ap (insert_strike k) (kept t j js there) ∙ insert_strike-above k j (filter t js) above)
              | inr absent ↦ dropped u j (insert_strike k js) (same j apart ∙ absent) ∙ more ∙ sym (ap (insert_strike k) (dropped t j js absent))
            ])
      ]
    ]

-- one that does not pass
insert_fails : (t u : ℕ → Bool) (k : ℕ) → u k ≡ false → ((j : ℕ) → u j ≡ t j) → (ks : List ℕ) → filter u (insert_strike k ks) ≡ filter t ks
insert_fails t u k fails same [] = dropped u k [] fails
insert_fails t u k fails same (j ∷ js) =
    elim (three_ways k j) [
      | inl below ↦ ap (filter u) (insert_strike-below k j js below) ∙ dropped u k (j ∷ js) fails ∙ same_filter t u same (j ∷ js)
      | inr other ↦ elim other [
        | inl at ↦ ap (filter u) (insert_strike-at k j js at) ∙ same_filter t u same (j ∷ js)
        | inr above ↦ ap (filter u) (insert_strike-above k j js above) ∙ filter_step t u j (insert_strike k js) js (same j) (insert_fails t u k fails same js)
      ]
    ]

-- ---- what is listed after one more event

strike_next : (x : Expiry) (events : List Event) (e : Event) (k : ℕ)
    → is_strike_listed x (events ++ e ∷ []) k
    ≡ ((is_listed (series_at x Put k) events || lists_series (series_at x Put k) e) && (is_listed (series_at x Call k) events || lists_series (series_at x Call k) e))
strike_next x events e k =
    ap (λ b. b && is_listed (series_at x Call k) (events ++ e ∷ [])) (next_listed (series_at x Put k) events e)
    ∙ ap (λ b. (is_listed (series_at x Put k) events || lists_series (series_at x Put k) e) && b) (next_listed (series_at x Call k) events e)

-- the event lists neither series of the strike
strike_same : (x : Expiry) (events : List Event) (e : Event) (k : ℕ) → ((side : Side) → lists_series (series_at x side k) e ≡ false)
    → is_strike_listed x (events ++ e ∷ []) k ≡ is_strike_listed x events k
strike_same x events e k none =
    strike_next x events e k
    ∙ ap (λ b. (is_listed (series_at x Put k) events || b) && (is_listed (series_at x Call k) events || lists_series (series_at x Call k) e)) (none Put)
    ∙ ap (λ b. (is_listed (series_at x Put k) events || false) && (is_listed (series_at x Call k) events || b)) (none Call)
    ∙ ap (λ b. b && (is_listed (series_at x Call k) events || false)) (or-false (is_listed (series_at x Put k) events))
    ∙ ap (λ b. is_listed (series_at x Put k) events && b) (or-false (is_listed (series_at x Call k) events))

strikes_quiet : (x : Expiry) (events : List Event) (e : Event) → listed_strike x e ≡ None → ((k : ℕ) (side : Side) → lists_series (series_at x side k) e ≡ false)
    → listed_strikes x (events ++ e ∷ []) ≡ listed_strikes x events
strikes_quiet x events e none quiet =
    ap (filter (is_strike_listed x (events ++ e ∷ []))) (next_strikes x events e ∙ ap (λ o. with_strike o (strikes_of x events)) none)
    ∙ same_filter (is_strike_listed x events) (is_strike_listed x (events ++ e ∷ [])) (λ k. strike_same x events e k (quiet k)) (strikes_of x events)

-- ---- a series is listed

-- a series of another expiry is another series
pub apart_series : (x : Expiry) (s : Symbol) (side : Side) (k : ℕ) → is_same_expiry x (expiry_of s) ≡ false → is_same_series (series_at x side k) s ≡ false
apart_series x s side k h = ap (λ b. b && is_same_side side s.side && (k == s.strike)) h

-- and so is one at another strike
pub other_strike : (x : Expiry) (s : Symbol) (side : Side) (k : ℕ) → k ≢ s.strike → is_same_series (series_at x side k) s ≡ false
other_strike x s side k ne =
    ap (λ b. is_same_expiry x (expiry_of s) && is_same_side side s.side && b) (ne_eqb k s.strike ne) ∙ and-false (is_same_expiry x (expiry_of s) && is_same_side side s.side)

-- at its own strike and expiry it is the series of its side
pub own_strike : (x : Expiry) (s : Symbol) (side : Side) → is_same_expiry x (expiry_of s) ≡ true → is_same_series (series_at x side s.strike) s ≡ is_same_side side s.side
own_strike x s side h =
    ap (λ b. b && is_same_side side s.side && (s.strike == s.strike)) h
    ∙ ap (λ b. is_same_side side s.side && b) (eq-eqb s.strike s.strike refl) ∙ and-true (is_same_side side s.side)

-- one side is listed now, by the sides listed before
sides_after : (listed : Side → Bool) (side : Side) → ((listed Put || is_same_side Put side) && (listed Call || is_same_side Call side)) ≡ listed (opposite side)
sides_after listed Put = ap (λ b. b && (listed Call || false)) (or-true (listed Put)) ∙ or-false (listed Call)
sides_after listed Call = ap (λ b. (listed Put || false) && b) (or-true (listed Call)) ∙ and_yes (listed Put) where
  and_yes : (a : Bool) → ((a || false) && true) ≡ a
  and_yes true = refl
  and_yes false = refl

-- where one side is not listed, not both are
pub sides_without : (listed : Side → Bool) (side : Side) → listed side ≡ false → (listed Put && listed Call) ≡ false
sides_without listed Put h = ap (λ b. b && listed Call) h
sides_without listed Call h = ap (λ b. listed Put && b) h ∙ and-false (listed Put)

module _ (x : Expiry) (events : List Event) (s : Symbol) (own : is_same_expiry x (expiry_of s) ≡ true) where
  abbrev listed_at : Side → Bool
  listed_at side = is_listed (series_at x side s.strike) events

  abbrev now_listed : ℕ → Bool
  now_listed k = is_strike_listed x (events ++ event.Series s ∷ []) k

  its_side : (side : Side) → is_listed (series_at (expiry_of s) side s.strike) events ≡ listed_at side
  its_side side = ap (λ y. is_listed (series_at y side s.strike) events) (sym (expiry_from_same x (expiry_of s) own))

  at_strike : now_listed s.strike ≡ is_listed (other_side s) events
  at_strike =
      strike_next x events (event.Series s) s.strike
      ∙ ap (λ b. (listed_at Put || b) && (listed_at Call || is_same_series (series_at x Call s.strike) s)) (own_strike x s Put own)
      ∙ ap (λ b. (listed_at Put || is_same_side Put s.side) && (listed_at Call || b)) (own_strike x s Call own)
      ∙ sides_after listed_at s.side ∙ sym (its_side (opposite s.side))

  elsewhere : (j : ℕ) → j ≢ s.strike → now_listed j ≡ is_strike_listed x events j
  elsewhere j ne = strike_same x events (event.Series s) j (λ side. other_strike x s side j ne)

  inserted : listed_strikes x (events ++ event.Series s ∷ []) ≡ filter now_listed (insert_strike s.strike (strikes_of x events))
  inserted = ap (filter now_listed) (next_strikes x events (event.Series s) ∙ ap (λ b. with_strike (cond b (Some s.strike) None) (strikes_of x events)) own)

  strikes_completed : is_listed (other_side s) events ≡ true → listed_strikes x (events ++ event.Series s ∷ []) ≡ insert_strike s.strike (listed_strikes x events)
  strikes_completed other = inserted ∙ insert_passes (is_strike_listed x events) now_listed s.strike 0 (at_strike ∙ other) elsewhere (strikes_of x events) (strikes_rise x events)

  strikes_alone : is_listed (other_side s) events ≡ false → listed_strikes x (events ++ event.Series s ∷ []) ≡ listed_strikes x events
  strikes_alone other =
      inserted
      ∙ insert_fails (is_strike_listed x events) now_listed s.strike (at_strike ∙ other)
      (λ j. elim (cases_eq j s.strike) [
        | inl at ↦
            let none : is_strike_listed x events s.strike ≡ false = sides_without listed_at (opposite s.side) (sym (its_side (opposite s.side)) ∙ other) in
            ap now_listed at ∙ at_strike ∙ other ∙ sym (ap (is_strike_listed x events) at ∙ none)
        | inr ne ↦ elsewhere j ne
      ])
      (strikes_of x events)

abbrev strike_if : Bool → Symbol → Option ℕ
strike_if b s = cond b (Some s.strike) None

series_strikes : (x : Expiry) (events : List Event) (s : Symbol)
    → listed_strikes x (events ++ event.Series s ∷ []) ≡ with_strike (strike_if (completes_strike x events s) s) (listed_strikes x events)
series_strikes x events s =
    let is : Bool → Type 0 = λ b. listed_strikes x (events ++ event.Series s ∷ []) ≡ with_strike (strike_if b s) (listed_strikes x events) in
    elim (cases_Bool (is_same_expiry x (expiry_of s))) [
      | inl own ↦ elim (cases_Bool (is_listed (other_side s) events)) [
        | inl other ↦ subst is (sym (ap (λ b. b && is_listed (other_side s) events) own ∙ other)) (strikes_completed x events s own other)
        | inr alone ↦ subst is (sym (ap (λ b. b && is_listed (other_side s) events) own ∙ alone)) (strikes_alone x events s own alone)
      ]
      | inr apart ↦
          subst is (sym (ap (λ b. b && is_listed (other_side s) events) apart))
          (strikes_quiet x events (event.Series s) (ap (λ b. strike_if b s) apart) (λ k side. apart_series x s side k apart))
    ]

pub next_strikes_listed : NextStrikesListed
next_strikes_listed x events (event.Series s) = series_strikes x events s
next_strikes_listed x events (event.Header day) = strikes_quiet x events (event.Header day) refl (λ k side. refl)
next_strikes_listed x events (event.Expiry y) = strikes_quiet x events (event.Expiry y) refl (λ k side. refl)
next_strikes_listed x events (event.Rate y rate) = strikes_quiet x events (event.Rate y rate) refl (λ k side. refl)
next_strikes_listed x events (event.Quote time s bid ask) = strikes_quiet x events (event.Quote time s bid ask) refl (λ k side. refl)
next_strikes_listed x events (event.Trade time s price) = strikes_quiet x events (event.Trade time s price) refl (λ k side. refl)
next_strikes_listed x events (event.Tick time) = strikes_quiet x events (event.Tick time) refl (λ k side. refl)
next_strikes_listed x events (event.Opening time) = strikes_quiet x events (event.Opening time) refl (λ k side. refl)
next_strikes_listed x events (event.End count) = strikes_quiet x events (event.End count) refl (λ k side. refl)

-- ---- rows after an event that lists no series

none_completed : (x : Expiry) (events : List Event) (e : Event) → is_listing e ≡ false → completed_strike x events e ≡ None
none_completed x events (event.Series s) h = absurd (cc h)
none_completed x events (event.Header day) h = refl
none_completed x events (event.Expiry y) h = refl
none_completed x events (event.Rate y rate) h = refl
none_completed x events (event.Quote time s bid ask) h = refl
none_completed x events (event.Trade time s price) h = refl
none_completed x events (event.Tick time) h = refl
none_completed x events (event.Opening time) h = refl
none_completed x events (event.End count) h = refl

by_quote : (q said : Option BidAsk) → quoted_price (quote_after true q said) ≡ price_after said (quoted_price q)
by_quote q None = refl
by_quote q (Some quote) = refl

price_next : (t : Symbol) (events : List Event) (e : Event) → is_listed t events ≡ true
    → standing_price (events ++ e ∷ []) t ≡ price_after (quote_of t e) (standing_price events t)
price_next t events e listed =
    ap quoted_price (next_quote t events e ∙ ap (λ b. quote_after b (standing_quote t events) (quote_of t e)) listed) ∙ by_quote (standing_quote t events) (quote_of t e)

abbrev row_at : ℕ → Price → Price → StrikeRow
row_at k put call = record { strike = k; put = put; call = call }

row_next : (x : Expiry) (events : List Event) (e : Event) (k : ℕ) → is_strike_listed x events k ≡ true
    → row_of (standing_price (events ++ e ∷ [])) x k ≡ row_after x e (row_of (standing_price events) x k)
row_next x events e k h =
    let both = and_parts (is_listed (series_at x Put k) events) (is_listed (series_at x Call k) events) h in
    ap (λ p. row_at k p (standing_price (events ++ e ∷ []) (series_at x Call k))) (price_next (series_at x Put k) events e both.0)
    ∙ ap (λ p. row_at k (price_after (quote_of (series_at x Put k) e) (standing_price events (series_at x Put k))) p) (price_next (series_at x Call k) events e both.1)

map_passing : (t : ℕ → Bool) (f : ℕ → StrikeRow) (g : ℕ → StrikeRow) (h : StrikeRow → StrikeRow) → ((k : ℕ) → t k ≡ true → f k ≡ h (g k)) → (ks : List ℕ)
    → map f (filter t ks) ≡ map h (map g (filter t ks))
map_passing t f g h same [] = refl
map_passing t f g h same (j ∷ js) =
    elim (cases_Bool (t j)) [
      | inl passes ↦
          ap (map f) (kept t j js passes) ∙ ap (λ r. r ∷ map f (filter t js)) (same j passes) ∙ ap (λ l. h (g j) ∷ l) (map_passing t f g h same js)
          ∙ sym (ap (λ l. map h (map g l)) (kept t j js passes))
      | inr fails ↦ ap (map f) (dropped t j js fails) ∙ map_passing t f g h same js ∙ sym (ap (λ l. map h (map g l)) (dropped t j js fails))
    ]

pub next_rows : NextRows
next_rows x events e none =
    ap (map (row_of (standing_price (events ++ e ∷ [])) x))
    (next_strikes_listed x events e ∙ ap (λ o. with_strike o (listed_strikes x events)) (none_completed x events e none))
    ∙ map_passing (is_strike_listed x events) (row_of (standing_price (events ++ e ∷ [])) x) (row_of (standing_price events) x) (row_after x e) (row_next x events e) (strikes_of x events)

-- ---- rows after a series is listed

row_same : (x : Expiry) (events : List Event) (s : Symbol) (k : ℕ) → row_of (standing_price (events ++ event.Series s ∷ [])) x k ≡ row_of (standing_price events) x k
row_same x events s k =
    ap (λ p. row_at k p (standing_price (events ++ event.Series s ∷ []) (series_at x Call k))) (price_same (series_at x Put k) events (event.Series s) refl)
    ∙ ap (λ p. row_at k (standing_price events (series_at x Put k)) p) (price_same (series_at x Call k) events (event.Series s) refl)

insert_row-below : (row r : StrikeRow) (rows : List StrikeRow) → row.strike < r.strike → insert_row row (r ∷ rows) ≡ row ∷ r ∷ rows
insert_row-below row r rows h = let t : nat_lt row.strike r.strike ≡ true = grind (arith, nat_tests) in rw t refl

insert_row-above : (row r : StrikeRow) (rows : List StrikeRow) → r.strike < row.strike → insert_row row (r ∷ rows) ≡ r ∷ insert_row row rows
insert_row-above row r rows h = let t : nat_lt row.strike r.strike ≡ false = grind (arith, nat_tests) in rw t refl

-- a strike more, which did not pass, gives a row more
row_inserted : (price : Symbol → Price) (x : Expiry) (t : ℕ → Bool) (k : ℕ) → t k ≡ false → (ks : List ℕ)
    → map (row_of price x) (insert_strike k (filter t ks)) ≡ insert_row (row_of price x k) (map (row_of price x) (filter t ks))
row_inserted price x t k fails [] = refl
row_inserted price x t k fails (j ∷ js) =
    let f = row_of price x in
    let goes : List ℕ → Type 0 = λ l. map (row_of price x) (insert_strike k l) ≡ insert_row (row_of price x k) (map (row_of price x) l) in
    elim (cases_Bool (t j)) [
      | inl passes ↦ subst goes (sym (kept t j js passes))
          (elim (three_ways k j) [
            | inl below ↦ ap (map f) (insert_strike-below k j (filter t js) below) ∙ sym (insert_row-below (f k) (f j) (map f (filter t js)) below)
            | inr other ↦ elim other [
              | inl at ↦ (let both : true ≡ false = sym passes ∙ ap t (sym at) ∙ fails in absurd (cc both))
              | inr above ↦
                  ap (map f) (insert_strike-above k j (filter t js) above) ∙ ap (λ l. f j ∷ l) (row_inserted price x t k fails js)
                  ∙ sym (insert_row-above (f k) (f j) (map f (filter t js)) above)
            ]
          ])
      | inr drops ↦ subst goes (sym (dropped t j js drops)) (row_inserted price x t k fails js)
    ]

-- the row of a series that has no price
new_row : (price : Symbol → Price) (x : Expiry) (side : Side) (k : ℕ) → price (series_at x side k) ≡ no_price
    → row_of price x k ≡ row_without side k (price (series_at x (opposite side) k))
new_row price x Put k none = ap (λ p. row_at k p (price (series_at x Call k))) none
new_row price x Call k none = ap (λ p. row_at k (price (series_at x Put k)) p) none

its_row : (x : Expiry) (events : List Event) (s : Symbol) → is_same_expiry x (expiry_of s) ≡ true → is_listed s events ≡ false
    → row_of (standing_price events) x s.strike ≡ row_when_listed events s
its_row x events s own unlisted =
    ap (λ y. row_of (standing_price events) y s.strike) (expiry_from_same x (expiry_of s) own)
    ∙ new_row (standing_price events) (expiry_of s) s.side s.strike (ap quoted_price (unlisted_has_none s events unlisted).0)

strike_unlisted : (x : Expiry) (events : List Event) (s : Symbol) → is_same_expiry x (expiry_of s) ≡ true → is_listed s events ≡ false → is_strike_listed x events s.strike ≡ false
strike_unlisted x events s own unlisted =
    sides_without (λ side. is_listed (series_at x side s.strike) events) s.side
    (ap (λ y. is_listed (series_at y s.side s.strike) events) (expiry_from_same x (expiry_of s) own) ∙ unlisted)

rows_by : (x : Expiry) (events : List Event) (s : Symbol) → is_listed s events ≡ false → (completes : Bool) → completes_strike x events s ≡ completes
    → map (row_of (standing_price events) x) (with_strike (strike_if completes s) (listed_strikes x events))
    ≡ cond completes (insert_row (row_when_listed events s) (listed_rows x events)) (listed_rows x events)
rows_by x events s unlisted false is = refl
rows_by x events s unlisted true is =
    let own = (and_parts (is_same_expiry x (expiry_of s)) (is_listed (other_side s) events) is).0 in
    row_inserted (standing_price events) x (is_strike_listed x events) s.strike (strike_unlisted x events s own unlisted) (strikes_of x events)
    ∙ ap (λ row. insert_row row (listed_rows x events)) (its_row x events s own unlisted)

pub next_rows_listed : NextRowsListed
next_rows_listed x events s unlisted =
    map_same (row_of (standing_price (events ++ event.Series s ∷ [])) x) (row_of (standing_price events) x) (row_same x events s) (listed_strikes x (events ++ event.Series s ∷ []))
    ∙ ap (map (row_of (standing_price events) x)) (next_strikes_listed x events (event.Series s))
    ∙ rows_by x events s unlisted (completes_strike x events s) refl
