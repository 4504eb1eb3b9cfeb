-- The strikes of an expiry: which are among them, and how many there are after one more event.
use Rattle.std.proofs.Common.{◌≡◌, ◌∙◌, sym, ap, subst, refl, ◌<◌, ◌+◌, inl, inr, ℕ, Bool, true, false, cond, ◌&&◌, ◌||◌, ◌==◌, List, [], ◌∷◌, length, Option, Some, None, add-zero, arith}
use Rattle.std.specs.List.{list_any}
use Rattle.std.specs.Option.{option_map_or}
use Rattle.std.proofs.lemmas.Bool.{eq-eqb, ne_eqb, or_left, or_from}
use Rattle.vx_clock.specs.declared.terms.Expiry.{Expiry}
use Rattle.vx_symbol.specs.declared.symbols.Side.{Side}
use Rattle.vx_symbol.specs.declared.symbols.Side.TheVariants.{Call, Put}
use Rattle.vx_symbol.specs.declared.symbols.Symbol.{Symbol}
use Rattle.vx_feed.specs.declared.events.Event.{Event}
use Rattle.vx_feed.specs.declared.events.Event.TheVariants as event
use Rattle.vx_feed.specs.Same.{is_same_expiry, is_same_side}
use Rattle.vx_feed.specs.Standing.{lists_series}
use Rattle.vx_feed.specs.Listed.{expiry_of, insert_strike, is_listed, listed_strike, opposite, other_side, series_at, strikes_of, with_strike}
use Rattle.vx_feed.proofs.NextEvent.{insert_strike-above, insert_strike-at, insert_strike-below, or-false, three_ways}
use Rattle.vx_feed.proofs.SameLemmas.{eqb-sym}

-- the strike is among these
abbrev pub has_strike : ℕ → List ℕ → Bool
has_strike k ks = list_any (λ j. j == k) ks

or_twice : (a b c : Bool) → a ≡ b → (b || c) ≡ (a || (b || c))
or_twice true true c h = refl
or_twice true false c h = cc
or_twice false b c h = refl

or_swap : (a b c : Bool) → (a || (b || c)) ≡ (b || (a || c))
or_swap true true c = refl
or_swap true false c = refl
or_swap false b c = refl

or_pairs : (a b c d : Bool) → ((a || b) || (c || d)) ≡ ((a || c) || (b || d))
or_pairs true b c d = refl
or_pairs false true true d = refl
or_pairs false true false d = refl
or_pairs false false c d = refl

has-insert : (q k : ℕ) (ks : List ℕ) → has_strike q (insert_strike k ks) ≡ ((k == q) || has_strike q ks)
has-insert q k [] = refl
has-insert q k (j ∷ js) =
    elim (three_ways k j) [
      | inl below ↦ ap (has_strike q) (insert_strike-below k j js below)
      | inr other ↦ elim other [
        | inl same ↦ ap (has_strike q) (insert_strike-at k j js same) ∙ or_twice (k == q) (j == q) (has_strike q js) (ap (λ i. i == q) same)
        | inr above ↦
            ap (has_strike q) (insert_strike-above k j js above) ∙ ap (λ b. (j == q) || b) (has-insert q k js)
            ∙ or_swap (j == q) (k == q) (has_strike q js)
      ]
    ]

has-with : (q : ℕ) (o : Option ℕ) (ks : List ℕ) → has_strike q (with_strike o ks) ≡ (option_map_or (λ j. j == q) o false || has_strike q ks)
has-with q None ks = refl
has-with q (Some k) ks = has-insert q k ks

-- the event lists a series of the expiry at the strike
abbrev lists_at : Expiry → ℕ → Event → Bool
lists_at x q e = option_map_or (λ j. j == q) (listed_strike x e) false

has-strikes : (x : Expiry) (q : ℕ) (events : List Event) → has_strike q (strikes_of x events) ≡ list_any (lists_at x q) events
has-strikes x q [] = refl
has-strikes x q (e ∷ events) = has-with q (listed_strike x e) (strikes_of x events) ∙ ap (λ b. lists_at x q e || b) (has-strikes x q events)

either_side : (here : Bool) (a b : Side) (q k : ℕ)
    → option_map_or (λ j. j == q) (cond here (Some k) None) false
    ≡ (((here && is_same_side a b) && (q == k)) || ((here && is_same_side (opposite a) b) && (q == k)))
either_side false a b q k = refl
either_side true Call Call q k = eqb-sym k q ∙ sym (or-false (q == k))
either_side true Call Put q k = eqb-sym k q
either_side true Put Call q k = eqb-sym k q
either_side true Put Put q k = eqb-sym k q ∙ sym (or-false (q == k))

lists-either : (x : Expiry) (side : Side) (q : ℕ) (e : Event) → lists_at x q e ≡ (lists_series (series_at x side q) e || lists_series (series_at x (opposite side) q) e)
lists-either x side q (event.Series t) = either_side (is_same_expiry x (expiry_of t)) side t.side q t.strike
lists-either x side q (event.Header day) = refl
lists-either x side q (event.Expiry y) = refl
lists-either x side q (event.Rate y rate) = refl
lists-either x side q (event.Quote time t bid ask) = refl
lists-either x side q (event.Trade time t price) = refl
lists-either x side q (event.Tick time) = refl
lists-either x side q (event.Opening time) = refl
lists-either x side q (event.End count) = refl

listed-either : (x : Expiry) (side : Side) (q : ℕ) (events : List Event)
    → list_any (lists_at x q) events ≡ (is_listed (series_at x side q) events || is_listed (series_at x (opposite side) q) events)
listed-either x side q [] = refl
listed-either x side q (e ∷ events) =
    let here = series_at x side q in
    let there = series_at x (opposite side) q in
    ap (λ b. b || list_any (lists_at x q) events) (lists-either x side q e)
    ∙ ap (λ b. (lists_series here e || lists_series there e) || b) (listed-either x side q events)
    ∙ or_pairs (lists_series here e) (lists_series there e) (is_listed here events) (is_listed there events)

-- the strike of a series is among those of its expiry where the series or the one on the other side is listed
pub has-strike_of : (s : Symbol) (events : List Event) → has_strike s.strike (strikes_of (expiry_of s) events) ≡ (is_listed s events || is_listed (other_side s) events)
has-strike_of s events = has-strikes (expiry_of s) s.strike events ∙ listed-either (expiry_of s) s.side s.strike events

-- ---- strikes in rising order

abbrev AllAbove : ℕ → List ℕ → Type 0
AllAbove k [] = Unit {0}
AllAbove k (j ∷ js) = (k < j) × AllAbove k js

abbrev Rising : List ℕ → Type 0
Rising [] = Unit {0}
Rising (j ∷ js) = AllAbove j js × Rising js

above-lower : (k j : ℕ) (js : List ℕ) → k < j → AllAbove j js → AllAbove k js
above-lower k j [] lt h = tt
above-lower k j (i ∷ is) lt h = let above : j < i = h.0 in (omega arith, above-lower k j is lt h.1)

above-insert : (j k : ℕ) (js : List ℕ) → j < k → AllAbove j js → AllAbove j (insert_strike k js)
above-insert j k [] lt h = (lt, tt)
above-insert j k (i ∷ is) lt h =
    elim (three_ways k i) [
      | inl below ↦ subst (AllAbove j) (sym (insert_strike-below k i is below)) (lt, h)
      | inr other ↦ elim other [
        | inl same ↦ subst (AllAbove j) (sym (insert_strike-at k i is same)) h
        | inr above ↦ subst (AllAbove j) (sym (insert_strike-above k i is above)) (h.0, above-insert j k is lt h.1)
      ]
    ]

rising-insert : (k : ℕ) (js : List ℕ) → Rising js → Rising (insert_strike k js)
rising-insert k [] h = (tt, tt)
rising-insert k (j ∷ js) h =
    elim (three_ways k j) [
      | inl below ↦ subst Rising (sym (insert_strike-below k j js below)) ((below, above-lower k j js below h.0), h)
      | inr other ↦ elim other [
        | inl same ↦ subst Rising (sym (insert_strike-at k j js same)) h
        | inr above ↦ subst Rising (sym (insert_strike-above k j js above)) (above-insert j k js above h.0, rising-insert k js h.1)
      ]
    ]

rising-with : (o : Option ℕ) (js : List ℕ) → Rising js → Rising (with_strike o js)
rising-with None js h = h
rising-with (Some k) js h = rising-insert k js h

strikes-rise : (x : Expiry) (events : List Event) → Rising (strikes_of x events)
strikes-rise x [] = tt
strikes-rise x (e ∷ events) = rising-with (listed_strike x e) (strikes_of x events) (strikes-rise x events)

has-above : (k : ℕ) (js : List ℕ) → AllAbove k js → has_strike k js ≡ false
has-above k [] h = refl
has-above k (j ∷ js) h =
    let above : k < j = h.0 in
    or_from (j == k) (has_strike k js) (ne_eqb j k (λ same. omega arith)) (has-above k js h.1)

length_step : (b : Bool) (n m : ℕ) → b ≡ false → m ≡ n + 1 → m ≡ n + cond b 0 1
length_step true n m b_is h = cc
length_step false n m b_is h = h

length_same : (b : Bool) (n : ℕ) → b ≡ true → n ≡ n + cond b 0 1
length_same true n b_is = sym (add-zero n)
length_same false n b_is = cc

length_later : (at b : Bool) (n m : ℕ) → at ≡ false → m ≡ n + cond b 0 1 → m + 1 ≡ (n + 1) + cond (at || b) 0 1
length_later true b n m at_is h = cc
length_later false b n m at_is h = omega arith

length-insert : (k : ℕ) (js : List ℕ) → Rising js → length (insert_strike k js) ≡ length js + cond (has_strike k js) 0 1
length-insert k [] h = refl
length-insert k (j ∷ js) h =
    elim (three_ways k j) [
      | inl below ↦
          ap length (insert_strike-below k j js below)
          ∙ length_step (has_strike k (j ∷ js)) (length (j ∷ js)) (length (k ∷ j ∷ js)) (has-above k (j ∷ js) (below, above-lower k j js below h.0)) (omega arith)
      | inr other ↦ elim other [
        | inl same ↦
            ap length (insert_strike-at k j js same)
            ∙ length_same (has_strike k (j ∷ js)) (length (j ∷ js)) (or_left (j == k) (has_strike k js) (eq-eqb j k (sym same)))
        | inr above ↦
            ap length (insert_strike-above k j js above)
            ∙ (let more = length_later (j == k) (has_strike k js) (length js) (length (insert_strike k js)) (ne_eqb j k (λ same. omega arith)) (length-insert k js h.1) in omega arith)
      ]
    ]

-- a strike more where it is new
pub length-strike_more : (x : Expiry) (k : ℕ) (events : List Event)
    → length (insert_strike k (strikes_of x events)) ≡ length (strikes_of x events) + cond (has_strike k (strikes_of x events)) 0 1
length-strike_more x k events = length-insert k (strikes_of x events) (strikes-rise x events)
