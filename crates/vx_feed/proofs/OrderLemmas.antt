-- The order and the list of events for which it stands, after one more event.
use Rattle.std.proofs.Common.{◌≡◌, ◌∙◌, sym, ap, subst, refl, ◌+◌, max, ℕ, Bool, true, false, cond, not, ◌&&◌, ◌||◌, nat_lt, List, [], ◌∷◌, ◌++◌, length, map, Option, Some, None, Result, Ok, Err, unwrap_or, add-zero, arith}
use Rattle.std.specs.List.{list_any}
use Rattle.std.specs.Option.{option_map_or, option_or, option_to_list}
use Rattle.std.specs.Result.{OnOk, is_ok}
use Rattle.std.specs.HashSet.{contains}
use Rattle.std.proofs.lemmas.Bool.Decides.{nat_tests}
use Rattle.std.proofs.lemmas.List.{append-nil, length_push}
use Rattle.vx_clock.specs.declared.terms.Expiry.{Expiry}
use Rattle.vx_symbol.specs.declared.symbols.Symbol.{Symbol}
use Rattle.vx_feed.specs.declared.events.Event.{Event}
use Rattle.vx_feed.specs.declared.events.Event.TheVariants as event
use Rattle.vx_feed.specs.declared.order.Declared.{Declared}
use Rattle.vx_feed.specs.declared.order.Order.{Order}
use Rattle.vx_feed.specs.Same.{is_same_expiry, is_same_series}
use Rattle.vx_feed.specs.Standing.{is_opening, lists_series}
use Rattle.vx_feed.specs.Listed.{declared_expiry, expiry_of, header_day, is_listed, other_side, strikes_of, with_strike}
use Rattle.vx_feed.specs.Order.{is_end, is_later_than, time_of}
use Rattle.vx_feed.specs.Noted.{CanList, CanTake, IsSameOrder, StandsFor, Takes, kept_expiry, kept_strikes, strikes_more, with_one_more}
use Rattle.vx_feed.proofs.NextEvent.{any-push, next_declared, next_listed, next_strikes, next_trade_date, option_or-none, or-false}
use Rattle.vx_feed.proofs.SameLemmas.{expiry_from_same, series-sym}
use Rattle.vx_feed.proofs.StrikeLemmas.{has_strike, has-strike_of, length-strike_more}
use Rattle.vx_feed.proofs.KeptLemmas.{kept-one_more, kept-one_more_other, kept-push}

-- ---- what stays the same

pub stands_same : (old new : Order) (events : List Event) → IsSameOrder old new → StandsFor old events → StandsFor new events
stands_same old new events same stands = record {
  lines = same.lines ∙ stands.lines;
  day = same.day ∙ stands.day;
  latest = λ time. stands.latest time ∙ ap (nat_lt time) (sym same.latest);
  ended = same.ended ∙ stands.ended;
  opened = same.opened ∙ stands.opened;
  expiries = ap (map kept_expiry) same.expiries ∙ stands.expiries;
  strikes = λ x. ap (kept_strikes x) same.expiries ∙ stands.strikes x;
  series = λ s. ap (λ ks. list_any (is_same_series s) ks) same.series ∙ stands.series s;
}

-- ---- taking up an event

or-true : (b : Bool) → true ≡ (b || true)
or-true true = refl
or-true false = refl

-- an event that says nothing beside its time
takes_nothing : (order : Order) (e : Event) → header_day e ≡ None → is_end e ≡ false → is_opening e ≡ false → declared_expiry e ≡ None
    → ((x : Expiry) → strikes_more order e x ≡ 0) → ((s : Symbol) → lists_series s e ≡ false) → Takes order e order
takes_nothing order e day end opening expiry strikes series = record {
  lines = refl;
  latest = refl;
  day = sym (ap (option_or order.day) day ∙ option_or-none order.day);
  ended = sym (ap (λ b. order.ended || b) end ∙ or-false order.ended);
  opened = sym (ap (λ b. order.opened || b) opening ∙ or-false order.opened);
  expiries = sym (ap (λ o. map kept_expiry order.expiries.items ++ option_to_list o) expiry ∙ append-nil (map kept_expiry order.expiries.items));
  strikes = λ x. sym (ap (λ n. kept_strikes x order.expiries.items + n) (strikes x) ∙ add-zero (kept_strikes x order.expiries.items));
  series = λ s. sym (ap (λ b. contains is_same_series order.series s || b) (series s) ∙ or-false (contains is_same_series order.series s));
}

-- neither a header nor an expiry, a series, an opening or an END line
abbrev pub SaysNothing : Event → Type 0
SaysNothing (event.Header day) = ⊥
SaysNothing (event.Expiry x) = ⊥
SaysNothing (event.Series s) = ⊥
SaysNothing (event.Opening time) = ⊥
SaysNothing (event.End count) = ⊥
SaysNothing _ = Unit {0}

pub takes_other : (order : Order) (e : Event) → SaysNothing e → Takes order e order
takes_other order (event.Rate x rate) h = takes_nothing order (event.Rate x rate) refl refl refl refl (λ y. refl) (λ s. refl)
takes_other order (event.Quote time s bid ask) h = takes_nothing order (event.Quote time s bid ask) refl refl refl refl (λ y. refl) (λ t. refl)
takes_other order (event.Trade time s price) h = takes_nothing order (event.Trade time s price) refl refl refl refl (λ y. refl) (λ t. refl)
takes_other order (event.Tick time) h = takes_nothing order (event.Tick time) refl refl refl refl (λ y. refl) (λ s. refl)
takes_other order (event.Header day) h = absurd h
takes_other order (event.Expiry x) h = absurd h
takes_other order (event.Series s) h = absurd h
takes_other order (event.Opening time) h = absurd h
takes_other order (event.End count) h = absurd h

pub takes_expiry : (order after : Order) (x : Expiry) → after.lines ≡ order.lines → after.latest ≡ order.latest → after.day ≡ order.day
    → after.ended ≡ order.ended → after.opened ≡ order.opened → after.series ≡ order.series
    → after.expiries.items ≡ order.expiries.items ++ record { expiry = x; strikes = 0 } ∷ [] → Takes order (event.Expiry x) after
takes_expiry order after x lines latest day ended opened series expiries =
    let new : Declared = record { expiry = x; strikes = 0 } in
    record {
      lines = lines;
      latest = latest;
      day = day ∙ sym (option_or-none order.day);
      ended = ended ∙ sym (or-false order.ended);
      opened = opened ∙ sym (or-false order.opened);
      expiries = ap (map kept_expiry) expiries ∙ map-push order.expiries.items new;
      strikes = λ y. ap (kept_strikes y) expiries ∙ kept-push y x order.expiries.items ∙ sym (add-zero (kept_strikes y order.expiries.items));
      series = λ s. ap (λ set. contains is_same_series set s) series ∙ sym (or-false (contains is_same_series order.series s));
    }
  where
    map-push : (ds : List Declared) (d : Declared) → map kept_expiry (ds ++ d ∷ []) ≡ map kept_expiry ds ++ d.expiry ∷ []
    map-push [] d = refl
    map-push (y ∷ ys) d = ap (λ l. y.expiry ∷ l) (map-push ys d)

insert_or : (same : Bool) (had : Bool) → cond same true had ≡ (had || same)
insert_or true true = refl
insert_or true false = refl
insert_or false true = refl
insert_or false false = refl

-- the kept strikes after a series is listed, where its strike was had before and where it was not
strikes_had : (b had : Bool) (n : ℕ) → had ≡ true → n ≡ n + cond (b && not had) 1 0
strikes_had true true n h = sym (add-zero n)
strikes_had false true n h = sym (add-zero n)
strikes_had b false n h = cc

pub strikes_of_listed : (order : Order) (s : Symbol) (x : Expiry) → contains is_same_series order.series (other_side s) ≡ true
    → kept_strikes x order.expiries.items ≡ kept_strikes x order.expiries.items + strikes_more order (event.Series s) x
strikes_of_listed order s x had =
    strikes_had (is_same_expiry x (expiry_of s)) (contains is_same_series order.series (other_side s)) (kept_strikes x order.expiries.items) had

strikes_new : (s : Symbol) (x : Expiry) (ds : List Declared) (b had : Bool) → list_any (λ d. is_same_expiry (expiry_of s) d.expiry) ds ≡ true
    → had ≡ false → is_same_expiry x (expiry_of s) ≡ b
    → kept_strikes x (with_one_more (expiry_of s) ds) ≡ kept_strikes x ds + cond (b && not had) 1 0
strikes_new s x ds true false declared h is =
    let P : Expiry → Type 0 = λ y. kept_strikes y (with_one_more (expiry_of s) ds) ≡ kept_strikes y ds + 1 in
    subst P (sym (expiry_from_same x (expiry_of s) is)) (kept-one_more (expiry_of s) ds declared)
strikes_new s x ds false false declared h is = kept-one_more_other x (expiry_of s) ds is ∙ sym (add-zero (kept_strikes x ds))
strikes_new s x ds b true declared h is = cc

pub strikes_of_new : (order : Order) (s : Symbol) (x : Expiry) → CanList order s → contains is_same_series order.series (other_side s) ≡ false
    → kept_strikes x (with_one_more (expiry_of s) order.expiries.items) ≡ kept_strikes x order.expiries.items + strikes_more order (event.Series s) x
strikes_of_new order s x can new =
    strikes_new s x order.expiries.items (is_same_expiry x (expiry_of s)) (contains is_same_series order.series (other_side s)) can.declared new refl

pub takes_series : (order after : Order) (s : Symbol) → after.lines ≡ order.lines → after.latest ≡ order.latest → after.day ≡ order.day
    → after.ended ≡ order.ended → after.opened ≡ order.opened
    → map kept_expiry after.expiries.items ≡ map kept_expiry order.expiries.items
    → ((x : Expiry) → kept_strikes x after.expiries.items ≡ kept_strikes x order.expiries.items + strikes_more order (event.Series s) x)
    → ((q : Symbol) → contains is_same_series after.series q ≡ cond (is_same_series s q) true (contains is_same_series order.series q))
    → Takes order (event.Series s) after
takes_series order after s lines latest day ended opened expiries strikes series = record {
  lines = lines;
  latest = latest;
  day = day ∙ sym (option_or-none order.day);
  ended = ended ∙ sym (or-false order.ended);
  opened = opened ∙ sym (or-false order.opened);
  expiries = expiries ∙ sym (append-nil (map kept_expiry order.expiries.items));
  strikes = strikes;
  series = λ q. series q ∙ insert_or (is_same_series s q) (contains is_same_series order.series q)
      ∙ ap (λ b. contains is_same_series order.series q || b) (series-sym s q);
}

-- ---- the list with the event

later_step : (time latest : ℕ) (said : Option ℕ) → (nat_lt time latest || option_map_or (nat_lt time) said false) ≡ nat_lt time (max latest (unwrap_or said 0))
later_step time latest None = or-false (nat_lt time latest) ∙ ap (nat_lt time) (omega arith)
later_step time latest (Some minute) = grind (arith, nat_tests)

strike_counts : (has had : Bool) → has ≡ had → cond {A = ℕ} has 0 1 ≡ cond {A = ℕ} (not had) 1 0
strike_counts true true h = refl
strike_counts false false h = refl
strike_counts true false h = cc
strike_counts false true h = cc

or_of : (a b c : Bool) → a ≡ false → b ≡ c → (a || b) ≡ c
or_of true b c none h = cc
or_of false b c none h = h

series_strikes : (order : Order) (events : List Event) (s : Symbol) (x : Expiry) (b : Bool) → is_same_expiry x (expiry_of s) ≡ b
    → StandsFor order events → CanList order s
    → length (with_strike (cond b (Some s.strike) None) (strikes_of x events))
    ≡ length (strikes_of x events) + cond (b && not (contains is_same_series order.series (other_side s))) 1 0
series_strikes order events s x false is stands can = sym (add-zero (length (strikes_of x events)))
series_strikes order events s x true is stands can =
    let had = contains is_same_series order.series (other_side s) in
    let unlisted : is_listed s events ≡ false = sym (stands.series s) ∙ can.unlisted in
    let P : Expiry → Type 0 = λ y. has_strike s.strike (strikes_of y events) ≡ had in
    let has = subst P (sym (expiry_from_same x (expiry_of s) is))
    (has-strike_of s events ∙ or_of (is_listed s events) (is_listed (other_side s) events) had unlisted (sym (stands.series (other_side s)))) in
    length-strike_more x s.strike events
    ∙ ap (λ n. length (strikes_of x events) + n) (strike_counts (has_strike s.strike (strikes_of x events)) had has)

strikes-push : (order : Order) (events : List Event) (e : Event) (x : Expiry) → StandsFor order events → CanTake order e
    → length (strikes_of x events) + strikes_more order e x ≡ length (strikes_of x (events ++ e ∷ []))
strikes-push order events (event.Series s) x stands can =
    sym (ap length (next_strikes x events (event.Series s)) ∙ series_strikes order events s x (is_same_expiry x (expiry_of s)) refl stands can)
strikes-push order events (event.Header day) x stands can = add-zero (length (strikes_of x events)) ∙ sym (ap length (next_strikes x events (event.Header day)))
strikes-push order events (event.Expiry y) x stands can = add-zero (length (strikes_of x events)) ∙ sym (ap length (next_strikes x events (event.Expiry y)))
strikes-push order events (event.Rate y rate) x stands can = add-zero (length (strikes_of x events)) ∙ sym (ap length (next_strikes x events (event.Rate y rate)))
strikes-push order events (event.Quote time s bid ask) x stands can = add-zero (length (strikes_of x events)) ∙ sym (ap length (next_strikes x events (event.Quote time s bid ask)))
strikes-push order events (event.Trade time s price) x stands can = add-zero (length (strikes_of x events)) ∙ sym (ap length (next_strikes x events (event.Trade time s price)))
strikes-push order events (event.Tick time) x stands can = add-zero (length (strikes_of x events)) ∙ sym (ap length (next_strikes x events (event.Tick time)))
strikes-push order events (event.Opening time) x stands can = add-zero (length (strikes_of x events)) ∙ sym (ap length (next_strikes x events (event.Opening time)))
strikes-push order events (event.End count) x stands can = add-zero (length (strikes_of x events)) ∙ sym (ap length (next_strikes x events (event.End count)))

-- the order that took up the event, with its line and its time
abbrev pub with_line : Order → Event → Order
with_line order e = record order { latest = max order.latest (unwrap_or (time_of e) 0); lines = order.lines + 1 }

pub stands_after : (old taken : Order) (e : Event) (events : List Event) → StandsFor old events → CanTake old e → Takes old e taken
    → StandsFor (with_line taken e) (events ++ e ∷ [])
stands_after old taken e events stands can takes = record {
  lines = ap (λ n. n + 1) (takes.lines ∙ stands.lines) ∙ sym (length_push events e);
  day = takes.day ∙ ap (λ d. option_or d (header_day e)) stands.day ∙ sym (next_trade_date events e);
  latest = λ time.
      any-push (is_later_than time) events e ∙ ap (λ b. b || is_later_than time e) (stands.latest time)
      ∙ later_step time old.latest (time_of e) ∙ ap (λ n. nat_lt time (max n (unwrap_or (time_of e) 0))) (sym takes.latest);
  ended = takes.ended ∙ ap (λ b. b || is_end e) stands.ended ∙ sym (any-push is_end events e);
  opened = takes.opened ∙ ap (λ b. b || is_opening e) stands.opened ∙ sym (any-push is_opening events e);
  expiries = takes.expiries ∙ ap (λ l. l ++ option_to_list (declared_expiry e)) stands.expiries ∙ sym (next_declared events e);
  strikes = λ x. takes.strikes x ∙ ap (λ n. n + strikes_more old e x) (stands.strikes x) ∙ strikes-push old events e x stands can;
  series = λ s. takes.series s ∙ ap (λ b. b || lists_series s e) (stands.series s) ∙ sym (next_listed s events e);
}

-- what a call says of its value, where it gives one
pub on_ok : {T E : Type 0} → (r : Result T E) (P : Type 0) → is_ok r ≡ true → OnOk r P → P
on_ok (Ok x) P h holds = holds
on_ok (Err e) P h holds = cc

-- the same with the greatest time as it was computed
abbrev with_line_at : Order → ℕ → Order
with_line_at order latest = record order { latest = latest; lines = order.lines + 1 }

pub stands_at : (old taken : Order) (e : Event) (events : List Event) (latest : ℕ) → StandsFor old events → CanTake old e → Takes old e taken
    → latest ≡ max taken.latest (unwrap_or (time_of e) 0) → StandsFor (with_line_at taken latest) (events ++ e ∷ [])
stands_at old taken e events latest stands can takes is =
    let P : ℕ → Type 0 = λ n. StandsFor (with_line_at taken n) (events ++ e ∷ []) in
    subst P (sym is) (stands_after old taken e events stands can takes)
