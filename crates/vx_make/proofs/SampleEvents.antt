-- The events of a sample feed are lawful: each may come after those before it.
use Rattle.std.proofs.Common.{◌≡◌, ◌∙◌, sym, ap, refl, ℕ, zero, suc, ◌+◌, ◌-◌, ◌*◌, ◌<◌, ◌≤◌, Bool, true, false, cond, ◌&&◌, ◌==◌, List, [], ◌∷◌, ◌++◌, length, Option, Some, None, arith, append_assoc, append-nil, subst}
use Rattle.std.specs.Prelude.{nat_le}
use Rattle.std.specs.List.{All, list_any}
use Rattle.std.proofs.lemmas.Bool.{and_left, and_right, or_from, ne_eqb, eq-eqb, le-ltb, lt-leb, not_from_true}
use Rattle.std.proofs.lemmas.List.{length-append}
use Rattle.std.proofs.lemmas.List.Elements.{All-nil, All-append, All-head, All-tail, All-weaker, All-from_recursion}
use Rattle.std.proofs.lemmas.List.Folds.{list_any-append, list_any_none}
use lib.Signed.{le_z_yes}
use Rattle.vx_clock.specs.Day.{IsDayInRange}
use Rattle.vx_clock.specs.declared.terms.Expiry.{Expiry}
use Rattle.vx_symbol.specs.Symbol.{IsSymbolInRange}
use Rattle.vx_symbol.specs.declared.symbols.Side.{Side}
use Rattle.vx_symbol.specs.declared.symbols.Side.TheVariants.{Call, Put}
use Rattle.vx_symbol.specs.declared.symbols.Symbol.{Symbol}
use Rattle.vx_feed.specs.declared.events.Event.{Event}
use Rattle.vx_feed.specs.declared.events.Event.TheVariants as event
use Rattle.vx_feed.specs.Same.{is_same_day, is_same_root, is_same_side}
use Rattle.vx_feed.specs.Standing.{lists_series}
use Rattle.vx_feed.specs.Listed.{expiry_of, is_declared, is_listed, listed_strike, strikes_of, with_strike}
use Rattle.vx_feed.specs.NextEvents.{NoneHolds, tests_of}
use Rattle.vx_feed.specs.Order.{AreLawful, AreLawfulAfter, IsLawfulNext, is_end, is_later_than, is_too_many, order_causes}
use Rattle.vx_feed.specs.Ranges.{IsEventInRange}
use Rattle.vx_feed.proofs.CauseLemmas.{in_order_has_no_cause}
use Rattle.vx_feed.proofs.NextEvent.{any-push}
use Rattle.vx_feed.proofs.StrikeLemmas.{length-strike_more}
use Rattle.vx_make.specs.Drawing.{next_state, state_after}
use Rattle.vx_make.specs.Quotes.{for_each, sample_strike_at, sample_series_at, intrinsic_value, time_value, drawn_bid, drawn_ask, drawn_quote, strike_quotes, expiry_quotes, drawn_centre}
use Rattle.vx_make.specs.Feed.{header, standard_term, weekly_term, declared_terms, strike_series, listed_series, tick_events, ticks_events, body_events}
use Rattle.vx_make.specs.Lawful.{SamplesAreLawful}
use Rattle.vx_make.proofs.FeedLemmas.{length-for_each, length-tick, length-body}

-- ---- lists part by part

lawful_parts : (a b before : List Event) → AreLawfulAfter before a → AreLawfulAfter (before ++ a) b → AreLawfulAfter before (a ++ b)
lawful_parts [] b before first second = subst (λ (l : List Event). AreLawfulAfter l b) (append-nil before) second
lawful_parts (e ∷ a) b before first second =
    (first.0, lawful_parts a b (before ++ e ∷ []) first.1 (subst (λ (l : List Event). AreLawfulAfter l b) (sym (append_assoc before (e ∷ []) a)) second))

lawful-for_each : (part : ℕ → List Event) (before : List Event) (n : ℕ) → ((i : ℕ) → i < n → AreLawfulAfter (before ++ for_each i part) (part i)) → AreLawfulAfter before (for_each n part)
unfolding for_each
lawful-for_each part before zero each = tt
lawful-for_each part before (suc n) each =
    lawful_parts (for_each n part) (part n) before (lawful-for_each part before n (λ i less. each i (omega arith))) (each n (omega arith))

-- what holds of each event of each part
all-for_each : (P : Event → Type 0) (part : ℕ → List Event) (n : ℕ) → ((i : ℕ) → i < n → All P (part i)) → All P (for_each n part)
unfolding for_each
all-for_each P part zero each = All-nil P
all-for_each P part (suc n) each = All-append P (for_each n part) (part n) (all-for_each P part n (λ i less. each i (omega arith))) (each n (omega arith))

-- a test that no event of any part passes
none-for_each : (p : Event → Bool) (part : ℕ → List Event) (n : ℕ) → ((i : ℕ) → i < n → list_any p (part i) ≡ false) → list_any p (for_each n part) ≡ false
unfolding for_each
none-for_each p part zero each = refl
none-for_each p part (suc n) each =
    list_any-append p (for_each n part) (part n)
    ∙ or_from (list_any p (for_each n part)) (list_any p (part n)) (none-for_each p part n (λ i less. each i (omega arith))) (each n (omega arith))

none-append : (p : Event → Bool) (xs ys : List Event) → list_any p xs ≡ false → list_any p ys ≡ false → list_any p (xs ++ ys) ≡ false
none-append p xs ys h k = list_any-append p xs ys ∙ or_from (list_any p xs) (list_any p ys) h k

none-push : (p : Event → Bool) (xs : List Event) (e : Event) → list_any p xs ≡ false → p e ≡ false → list_any p (xs ++ e ∷ []) ≡ false
none-push p xs e h k = any-push p xs e ∙ or_from (list_any p xs) (p e) h k

-- ---- the header, the terms and their rates

-- an event of which no fault's cause holds may come next. The causes stand in their order: misplaced, after the END, back in time, an expiry or a
-- series twice, an undeclared expiry, too many, another count, out of days, a second opening
may_come : (before : List Event) (e : Event) → IsEventInRange e → NoneHolds (tests_of (order_causes before e)) → IsLawfulNext before e
may_come before e is none = record { in_range = is; in_order = (in_order_has_no_cause before e).1 none }

-- the first five events
abbrev start : List Event
start = header ∷ declared_terms

-- there is room for one line more
has_room : (earlier : List Event) → length earlier ≤ 9000000 → nat_le 10000000 (length (start ++ earlier)) ≡ false
has_room earlier few = lt-leb 10000000 (length (start ++ earlier)) (omega arith)

standard_day : IsDayInRange standard_term.date
standard_day = (le_z_yes tt, le_z_yes tt)

weekly_day : IsDayInRange weekly_term.date
weekly_day = (le_z_yes tt, le_z_yes tt)

lawful_start : AreLawful start
lawful_start = (
  record { in_range = (le_z_yes tt, le_z_yes tt); in_order = refl },
  (
    record { in_range = standard_day; in_order = refl },
    (
      record { in_range = weekly_day; in_order = refl },
      (
        record { in_range = (standard_day, (le_z_yes tt, le_z_yes tt)); in_order = refl },
        (record { in_range = (weekly_day, (le_z_yes tt, le_z_yes tt)); in_order = refl }, tt),
      ),
    ),
  ),
)

-- ---- the series

-- one more, where a test fails
one_at_most : (b : Bool) (n m : ℕ) → m ≡ n + cond b 0 1 → m ≤ n + 1
one_at_most true n m h = omega arith
one_at_most false n m h = omega arith

-- an event adds a strike at most
strike_more : (x : Expiry) (o : Option ℕ) (events : List Event) → length (with_strike o (strikes_of x events)) ≤ length (strikes_of x events) + 1
strike_more x None events = omega arith
strike_more x (Some k) events = one_at_most _ _ _ (length-strike_more x k events)

length-strikes_of-le : (x : Expiry) (events : List Event) → length (strikes_of x events) ≤ length events
length-strikes_of-le x [] = omega arith
length-strikes_of-le x (e ∷ events) = omega (arith, strike_more x (listed_strike x e) events, length-strikes_of-le x events)

-- a series of a declared expiry may be listed that is not among those before it
series_may_come : (earlier : List Event) (s : Symbol) → IsSymbolInRange s → is_declared (expiry_of s) (start ++ earlier) ≡ true
    → list_any is_end earlier ≡ false → is_listed s earlier ≡ false → length earlier ≤ 800 → IsLawfulNext (start ++ earlier) (event.Series s)
series_may_come earlier s is declared no_end unlisted few =
    let strikes : nat_le 2000 (length (strikes_of (expiry_of s) earlier)) ≡ false = lt-leb 2000 (length (strikes_of (expiry_of s) earlier)) (omega (arith, length-strikes_of-le (expiry_of s) earlier)) in
    let few_more : is_too_many (start ++ earlier) (event.Series s) ≡ false = or_from _ _ (and_left _ _ strikes) (has_room earlier (omega arith)) in
    may_come (start ++ earlier) (event.Series s) is
    (refl, (no_end, (refl, (refl, (unlisted, (not_from_true (is_declared (expiry_of s) (start ++ earlier)) declared, (few_more, (refl, (refl, (refl, tt))))))))))

-- series at other strikes are not the same
lists_other_strike : (x : Expiry) (a b : Side) (i j : ℕ) → j < i → lists_series (sample_series_at x a i) (event.Series (sample_series_at x b j)) ≡ false
lists_other_strike x a b i j less =
    and_right (is_same_root x.root x.root && is_same_day x.date x.date && is_same_side a b) (sample_strike_at i == sample_strike_at j)
    (ne_eqb (sample_strike_at i) (sample_strike_at j) (λ same. omega arith))

-- the put is not the call
lists_other_side : (x : Expiry) (i : ℕ) → lists_series (sample_series_at x Put i) (event.Series (sample_series_at x Call i)) ≡ false
lists_other_side x i =
    and_left (is_same_root x.root x.root && is_same_day x.date x.date && is_same_side Put Call) (sample_strike_at i == sample_strike_at i)
    (and_right (is_same_root x.root x.root && is_same_day x.date x.date) (is_same_side Put Call) refl)

-- the series at earlier strikes are other ones
new_strike : (x : Expiry) (side : Side) (i : ℕ) → is_listed (sample_series_at x side i) (for_each i (strike_series x)) ≡ false
new_strike x side i =
    none-for_each (lists_series (sample_series_at x side i)) (strike_series x) i
    (λ j less. or_from _ _ (lists_other_strike x side Call i j less) (or_from _ _ (lists_other_strike x side Put i j less) refl))

no_end_listed : (x : Expiry) (n : ℕ) → list_any is_end (for_each n (strike_series x)) ≡ false
no_end_listed x n = none-for_each is_end (strike_series x) n (λ i less. refl)

series_in_range : (x : Expiry) (side : Side) (i : ℕ) → IsDayInRange x.date → i < 200 → IsSymbolInRange (sample_series_at x side i)
series_in_range x side i day less = record { date = day; strike = (omega arith, omega arith) }

-- the series of a declared term may be listed, strike by strike
lawful_series : (x : Expiry) (earlier : List Event) → IsDayInRange x.date → ((more : List Event) → is_declared x (start ++ more) ≡ true)
    → list_any is_end earlier ≡ false → ((side : Side) (i : ℕ) → is_listed (sample_series_at x side i) earlier ≡ false) → length earlier ≤ 400
    → AreLawfulAfter (start ++ earlier) (listed_series x)
lawful_series x earlier day declared no_end new few = lawful-for_each (strike_series x) (start ++ earlier) 200 (λ i less.
    let listed = for_each i (strike_series x) in
    let call = event.Series (sample_series_at x Call i) in
    let many : length (earlier ++ listed) ≤ 798 = omega (arith, length-append earlier listed, length-for_each 2 i (strike_series x) (λ j. refl)) in
    let more : length ((earlier ++ listed) ++ call ∷ []) ≤ 800 = omega (arith, length-append (earlier ++ listed) (call ∷ [])) in
    let none = none-append is_end earlier listed no_end (no_end_listed x i) in
    let new_call = none-append (lists_series (sample_series_at x Call i)) earlier listed (new Call i) (new_strike x Call i) in
    let new_put = none-append (lists_series (sample_series_at x Put i)) earlier listed (new Put i) (new_strike x Put i) in (
      series_may_come (earlier ++ listed) (sample_series_at x Call i) (series_in_range x Call i day less) (declared (earlier ++ listed)) none new_call (omega arith),
      (
        series_may_come ((earlier ++ listed) ++ call ∷ []) (sample_series_at x Put i) (series_in_range x Put i day less) (declared ((earlier ++ listed) ++ call ∷ []))
            (none-push is_end (earlier ++ listed) call none refl)
            (none-push (lists_series (sample_series_at x Put i)) (earlier ++ listed) call new_put (lists_other_side x i)) more,
        tt,
      ),
    ))

-- the series of the weekly term are not those of the standard one
weekly_new : (side : Side) (i : ℕ) → is_listed (sample_series_at weekly_term side i) (listed_series standard_term) ≡ false
weekly_new side i = none-for_each (lists_series (sample_series_at weekly_term side i)) (strike_series standard_term) 200 (λ j less. refl)

-- ---- the prices that are drawn

intrinsic_value-le : (side : Side) (x : Expiry) (centre i : ℕ) → centre ≤ 197000 → i < 200 → intrinsic_value centre (sample_series_at x side i) ≤ 300000
intrinsic_value-le Call x centre i most less = omega arith
intrinsic_value-le Put x centre i most less = omega arith

bid_in_range : (side : Side) (x : Expiry) (centre i state : ℕ) → centre ≤ 197000 → i < 200 → drawn_bid centre (sample_series_at x side i) state ≤ 310000
unfolding drawn_bid
bid_in_range side x centre i state most less =
    let paid = intrinsic_value-le side x centre i most less in
    let worth : time_value centre (sample_series_at x side i) ≤ 3000 = omega arith in
    omega arith

ask_in_range : (bid state : ℕ) → bid ≤ 310000 → drawn_ask bid state ≤ 400000
unfolding drawn_ask
ask_in_range bid state most = omega arith

-- ---- quotes and ticks

-- a quote or a tick at a minute, in its ranges
abbrev IsTimed : ℕ → Event → Type 0
IsTimed time (event.Quote t s bid ask) = (t ≡ time) × IsEventInRange (event.Quote t s bid ask)
IsTimed time (event.Tick t) = (t ≡ time) × IsEventInRange (event.Tick t)
IsTimed time _ = ⊥

timed_end : (time : ℕ) (e : Event) → IsTimed time e → is_end e ≡ false
timed_end time (event.Quote t s bid ask) is = refl
timed_end time (event.Tick t) is = refl
timed_end time (event.Header day) is = absurd is
timed_end time (event.Expiry x) is = absurd is
timed_end time (event.Rate x rate) is = absurd is
timed_end time (event.Series s) is = absurd is
timed_end time (event.Trade t s price) is = absurd is
timed_end time (event.Opening t) is = absurd is
timed_end time (event.End count) is = absurd is

-- no later than any later minute
timed_early : (time later : ℕ) → time ≤ later → (e : Event) → IsTimed time e → is_later_than later e ≡ false
timed_early time later h (event.Quote t s bid ask) is = let same = is.0 in le-ltb later t (omega arith)
timed_early time later h (event.Tick t) is = let same = is.0 in le-ltb later t (omega arith)
timed_early time later h (event.Header day) is = absurd is
timed_early time later h (event.Expiry x) is = absurd is
timed_early time later h (event.Rate x rate) is = absurd is
timed_early time later h (event.Series s) is = absurd is
timed_early time later h (event.Trade t s price) is = absurd is
timed_early time later h (event.Opening t) is = absurd is
timed_early time later h (event.End count) is = absurd is

-- a quote or a tick may come after events of which none is later
timed_may_come : (time : ℕ) (e : Event) (earlier : List Event) → IsTimed time e → list_any is_end earlier ≡ false → list_any (is_later_than time) earlier ≡ false
    → length earlier ≤ 9000000 → IsLawfulNext (start ++ earlier) e
timed_may_come time (event.Quote t s bid ask) earlier is no_end early few =
    may_come (start ++ earlier) (event.Quote t s bid ask) is.1
    (refl, (no_end, (ap (λ u. list_any (is_later_than u) earlier) is.0 ∙ early, (refl, (refl, (refl, (has_room earlier few, (refl, (refl, (refl, tt))))))))))
timed_may_come time (event.Tick t) earlier is no_end early few =
    may_come (start ++ earlier) (event.Tick t) is.1
    (refl, (no_end, (ap (λ u. list_any (is_later_than u) earlier) is.0 ∙ early, (refl, (refl, (refl, (has_room earlier few, (refl, (refl, (refl, tt))))))))))
timed_may_come time (event.Header day) earlier is no_end early few = absurd is
timed_may_come time (event.Expiry x) earlier is no_end early few = absurd is
timed_may_come time (event.Rate x rate) earlier is no_end early few = absurd is
timed_may_come time (event.Series s) earlier is no_end early few = absurd is
timed_may_come time (event.Trade t s price) earlier is no_end early few = absurd is
timed_may_come time (event.Opening t) earlier is no_end early few = absurd is
timed_may_come time (event.End count) earlier is no_end early few = absurd is

-- quotes and ticks of one minute may come after one another
lawful_minute : (time : ℕ) (events earlier : List Event) → All (IsTimed time) events → list_any is_end earlier ≡ false → list_any (is_later_than time) earlier ≡ false
    → length earlier + length events ≤ 9000000 → AreLawfulAfter (start ++ earlier) events
lawful_minute time [] earlier all no_end early few = tt
lawful_minute time (e ∷ events) earlier all no_end early few =
    let first = All-head (IsTimed time) e events all in (
      timed_may_come time e earlier first no_end early (omega arith),
      lawful_minute time events (earlier ++ e ∷ []) (All-tail (IsTimed time) e events all)
          (none-push is_end earlier e no_end (timed_end time e first))
          (none-push (is_later_than time) earlier e early (timed_early time time (omega arith) e first))
          (omega (arith, length-append earlier (e ∷ []))),
    )

quote_timed : (time centre : ℕ) (x : Expiry) (side : Side) (i state : ℕ) → time ≤ 1439 → centre ≤ 197000 → IsDayInRange x.date → i < 200
    → IsTimed time (drawn_quote time centre (sample_series_at x side i) state)
unfolding drawn_quote
quote_timed time centre x side i state minute most day less =
    let bid = bid_in_range side x centre i (next_state state) most less in
    let ask = ask_in_range (drawn_bid centre (sample_series_at x side i) (next_state state)) (next_state (next_state state)) bid in
    (refl, (minute, series_in_range x side i day less, omega arith, omega arith))

quotes_timed : (time centre : ℕ) (x : Expiry) (state : ℕ) → time ≤ 1439 → centre ≤ 197000 → IsDayInRange x.date → All (IsTimed time) (expiry_quotes time centre x state)
quotes_timed time centre x state minute most day =
    all-for_each (IsTimed time) (λ i. strike_quotes time centre x i (state_after (4 * i) state)) 200
    (λ i less. All-from_recursion (IsTimed time) (strike_quotes time centre x i (state_after (4 * i) state)) (
      quote_timed time centre x Call i (state_after (4 * i) state) minute most day less,
      (quote_timed time centre x Put i (next_state (next_state (state_after (4 * i) state))) minute most day less, tt),
    ))

tick_timed : (time state : ℕ) → time ≤ 1439 → All (IsTimed time) (tick_events time state)
unfolding tick_events
tick_timed time state minute =
    let first = next_state state in
    let centre = drawn_centre first in
    let most : centre ≤ 197000 = omega arith in
    let second = state_after 800 first in
    All-append (IsTimed time) (expiry_quotes time centre standard_term first ++ expiry_quotes time centre weekly_term second) (event.Tick time ∷ [])
    (All-append (IsTimed time) (expiry_quotes time centre standard_term first) (expiry_quotes time centre weekly_term second)
    (quotes_timed time centre standard_term first minute most standard_day)
    (quotes_timed time centre weekly_term second minute most weekly_day))
    (All-from_recursion (IsTimed time) (event.Tick time ∷ []) ((refl, minute), tt))

abbrev tick_at : ℕ → ℕ → List Event
tick_at number t = tick_events (510 + t) (state_after (1601 * t) number)

-- a test that no quote or tick of these minutes passes
none_of_ticks : (p : Event → Bool) (number n : ℕ) → n ≤ 390 → ((t : ℕ) → t < n → (e : Event) → IsTimed (510 + t) e → p e ≡ false) → list_any p (for_each n (tick_at number)) ≡ false
none_of_ticks p number n most none =
    none-for_each p (tick_at number) n (λ t less. list_any_none p (tick_at number t)
    (All-weaker (IsTimed (510 + t)) (λ e. p e ≡ false) (none t less) (tick_at number t) (tick_timed (510 + t) (state_after (1601 * t) number) (omega arith))))

-- the ticks with their quotes may come, one minute after another
lawful_ticks : (number ticks : ℕ) (earlier : List Event) → ticks ≤ 390 → list_any is_end earlier ≡ false → ((time : ℕ) → list_any (is_later_than time) earlier ≡ false)
    → length earlier ≤ 800 → AreLawfulAfter (start ++ earlier) (ticks_events number ticks)
lawful_ticks number ticks earlier most no_end untimed few =
    lawful-for_each (tick_at number) (start ++ earlier) ticks (λ i less.
    let so_far = for_each i (tick_at number) in
    let before : length so_far ≡ 801 * i = length-for_each 801 i (tick_at number) (λ t. length-tick (510 + t) (state_after (1601 * t) number)) in
    let size = length-tick (510 + i) (state_after (1601 * i) number) in
    lawful_minute (510 + i) (tick_at number i) (earlier ++ so_far) (tick_timed (510 + i) (state_after (1601 * i) number) (omega arith))
    (none-append is_end earlier so_far no_end (none_of_ticks is_end number i (omega arith) (λ t _. timed_end (510 + t))))
    (none-append (is_later_than (510 + i)) earlier so_far (untimed (510 + i))
    (none_of_ticks (is_later_than (510 + i)) number i (omega arith) (λ t below. timed_early (510 + t) (510 + i) (omega arith))))
    (omega (arith, length-append earlier so_far)))

-- ---- the whole feed

untimed_listed : (x : Expiry) (time : ℕ) → list_any (is_later_than time) (listed_series x) ≡ false
untimed_listed x time = none-for_each (is_later_than time) (strike_series x) 200 (λ i less. refl)

length-listed : (x : Expiry) → length (listed_series x) ≡ 400
length-listed x = length-for_each 2 200 (strike_series x) (λ i. refl)

-- an END that counts the events behind the header may come
end_may_come : (count : ℕ) (earlier : List Event) → count ≡ 4 + length earlier → list_any is_end earlier ≡ false → length earlier ≤ 9000000 → IsLawfulNext (start ++ earlier) (event.End count)
end_may_come count earlier same no_end few =
    may_come (start ++ earlier) (event.End count) (omega arith)
    (refl, (no_end, (refl, (refl, (refl, (refl, (has_room earlier few, (not_from_true _ (eq-eqb count (length (start ++ earlier) - 1) (omega arith)), (refl, (refl, tt))))))))))

-- the events of a sample feed are lawful
pub samples_are_lawful : SamplesAreLawful
samples_are_lawful number ticks most =
    let standard = listed_series standard_term in
    let weekly = listed_series weekly_term in
    let quoted = ticks_events number ticks in
    let count = length (body_events number ticks) in
    let standard_size = length-listed standard_term in
    let weekly_size = length-listed weekly_term in
    let no_end_standard = no_end_listed standard_term 200 in
    let no_end_series = none-append is_end standard weekly no_end_standard (no_end_listed weekly_term 200) in
    let no_end = none-append is_end (standard ++ weekly) quoted no_end_series (none_of_ticks is_end number ticks most (λ t _. timed_end (510 + t))) in
    let untimed = λ (time : ℕ). none-append (is_later_than time) standard weekly (untimed_listed standard_term time) (untimed_listed weekly_term time) in
    let series_size : length (standard ++ weekly) ≡ 800 = omega (arith, length-append standard weekly) in
    let size : count ≡ 804 + 801 * ticks = length-body number ticks in
    let parts : count ≡ 4 + length (standard ++ weekly ++ quoted) = omega arith in
    lawful_parts start ((standard ++ weekly ++ quoted) ++ event.End count ∷ []) [] lawful_start
    (lawful_parts (standard ++ weekly ++ quoted) (event.End count ∷ []) start
    (lawful_parts (standard ++ weekly) quoted start
    (lawful_parts standard weekly start
    (lawful_series standard_term [] standard_day (λ more. refl) refl (λ side i. refl) (omega arith))
    (lawful_series weekly_term standard weekly_day (λ more. refl) no_end_standard weekly_new (omega arith)))
    (lawful_ticks number ticks (standard ++ weekly) most no_end_series untimed (omega arith)))
    (end_may_come count (standard ++ weekly ++ quoted) parts no_end (omega arith), tt))
