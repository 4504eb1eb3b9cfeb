-- The faults of an event after a list of events, and what their absence says of an order that stands for the list.
use Rattle.std.proofs.Common.{◌≡◌, ◌∙◌, sym, ap, refl, ◌<◌, ℕ, zero, suc, Bool, true, false, cond, not, ◌&&◌, ◌||◌, nat_le, List, [], ◌∷◌, length, drop, get_or, Option, Some, None, arith}
use Rattle.std.specs.List.{list_any}
use Rattle.std.specs.HashSet.{contains}
use Rattle.std.proofs.lemmas.Bool.{leb-false, not-false, or_parts}
use Rattle.vx_clock.specs.declared.days.DayNo.{DayNo}
use Rattle.vx_clock.specs.declared.terms.Expiry.{Expiry}
use Rattle.vx_symbol.specs.declared.symbols.Symbol.{Symbol}
use Rattle.vx_feed.specs.declared.events.Event.{Event}
use Rattle.vx_feed.specs.declared.events.Event.TheVariants as event
use Rattle.vx_feed.specs.declared.faults.FeedFault.{FeedFault}
use Rattle.vx_feed.specs.declared.faults.FeedFault.TheVariants as fault
use Rattle.vx_feed.specs.declared.limits.TheConstants.{LINES_MAX, STRIKES_MAX}
use Rattle.vx_feed.specs.declared.order.Order.{Order}
use Rattle.vx_feed.specs.Same.{is_same_expiry, is_same_series}
use Rattle.vx_feed.specs.Listed.{expiry_of, is_declared, is_listed, other_side, strikes_of, trade_date}
use Rattle.vx_feed.specs.Order.{first_fault, has_too_many_expiries, has_too_many_strikes, is_after_end, is_duplicate_expiry, is_duplicate_series}
use Rattle.vx_feed.specs.Order.{is_misplaced, is_other_count, is_out_of_days, is_second_opening, is_time_back, is_too_many, is_undeclared, order_fault}
use Rattle.vx_feed.specs.Noted.{CanList, CanTake, MayNote, StandsFor, is_new_strike, keeps, kept_strikes}
use Rattle.vx_feed.proofs.StrikeLemmas.{has_strike, has-strike_of}
use Rattle.vx_feed.proofs.KeptLemmas.{any-kept}
use Rattle.vx_feed.proofs.NoCauses.{HasNoCause, no_causes}

-- ---- the first of the causes

pub first_at : (causes : List (Bool × FeedFault)) (i : ℕ) (d : Bool × FeedFault) → i < length causes → (get_or causes i d).0 ≡ true
    → first_fault (drop i causes) ≡ Some (get_or causes i d).1
first_at [] i d lt h = absurd (omega arith)
first_at (c ∷ cs) zero d lt h = ap (λ b. cond b (Some c.1) (first_fault cs)) h
first_at (c ∷ cs) (suc i) d lt h = first_at cs i d (omega arith) h

pub first_past : (causes : List (Bool × FeedFault)) (i : ℕ) (d : Bool × FeedFault) → i < length causes → (get_or causes i d).0 ≡ false
    → first_fault (drop (suc i) causes) ≡ first_fault (drop i causes)
first_past [] i d lt h = absurd (omega arith)
first_past (c ∷ cs) zero d lt h = sym (ap (λ b. cond b (Some c.1) (first_fault cs)) h)
first_past (c ∷ cs) (suc i) d lt h = first_past cs i d (omega arith) h

-- tests that are equal one by one find the same fault
pub same_causes : (before : List Event) (e : Event) (a b c d f g h i j k : Bool)
    → a ≡ is_misplaced before e → b ≡ is_after_end before e → c ≡ is_time_back before e → d ≡ is_duplicate_expiry before e
    → f ≡ is_duplicate_series before e → g ≡ is_undeclared before e → h ≡ is_too_many before e → i ≡ is_other_count before e
    → j ≡ is_out_of_days before e → k ≡ is_second_opening before e
    → first_fault
    ((a, fault.NotFirst) ∷ (b, fault.AfterEnd) ∷ (c, fault.TimeBack) ∷ (d, fault.DuplicateExpiry) ∷ (f, fault.DuplicateSeries) ∷ (g, fault.UndeclaredExpiry)
    ∷ (h, fault.TooMany) ∷ (i, fault.EndCount) ∷ (j, fault.TimeRange) ∷ (k, fault.SecondOpening) ∷ [])
    ≡ order_fault before e
same_causes before e a b c d f g h i j k pa pb pc pd pf pg ph pi pj pk =
    step fault.NotFirst pa (step fault.AfterEnd pb (step fault.TimeBack pc (step fault.DuplicateExpiry pd (step fault.DuplicateSeries pf
    (step fault.UndeclaredExpiry pg (step fault.TooMany ph (step fault.EndCount pi (step fault.TimeRange pj (step fault.SecondOpening pk refl)))))))))
  where
    step : {p q : Bool} {x y : Option FeedFault} → (f : FeedFault) → p ≡ q → x ≡ y → cond p (Some f) x ≡ cond q (Some f) y
    step {p} {q} {x} {y} f same more = ap (λ t. cond t (Some f) x) same ∙ ap (λ o. cond q (Some f) o) more

-- ---- no fault

-- a header that is not misplaced is the first line, so that no trade date stands
pub header_first : (before : List Event) (day : DayNo) → is_misplaced before (event.Header day) ≡ false → trade_date before ≡ None
header_first [] day h = refl
header_first (e ∷ events) day h = cc

-- there is room for the line of an event that is not too many
pub few_lines : (before : List Event) (e : Event) → is_too_many before e ≡ false → length before < LINES_MAX
few_lines before e h =
    leb-false LINES_MAX (length before)
    (or_parts (has_too_many_expiries before e || has_too_many_strikes before e) (nat_le LINES_MAX (length before)) h).1

few_strikes : (before : List Event) (e : Event) → is_too_many before e ≡ false → has_too_many_strikes before e ≡ false
few_strikes before e h =
    let more = or_parts (has_too_many_expiries before e || has_too_many_strikes before e) (nat_le LINES_MAX (length before)) h in
    (or_parts (has_too_many_expiries before e) (has_too_many_strikes before e) more.0).1

room_step : (has : Bool) (n : ℕ) → has ≡ false → (nat_le STRIKES_MAX n && not has) ≡ false → n < STRIKES_MAX
room_step true n none h = cc
room_step false n none h = leb-false STRIKES_MAX n (and_true (nat_le STRIKES_MAX n) h)
  where
    and_true : (b : Bool) → (b && true) ≡ false → b ≡ false
    and_true true h = h
    and_true false h = refl

-- and there is room for the strike of a series that is not too many, where the strike is new
pub room_for_strike : (before : List Event) (s : Symbol) → is_too_many before (event.Series s) ≡ false
    → has_strike s.strike (strikes_of (expiry_of s) before) ≡ false → length (strikes_of (expiry_of s) before) < STRIKES_MAX
room_for_strike before s few new =
    let strikes = strikes_of (expiry_of s) before in
    room_step (has_strike s.strike strikes) (length strikes) new (few_strikes before (event.Series s) few)

pub declared_by : (order : Order) (events : List Event) (x : Expiry) → StandsFor order events → list_any (keeps x) order.expiries.items ≡ is_declared x events
declared_by order events x stands = any-kept x order.expiries.items ∙ ap (list_any (is_same_expiry x)) stands.expiries

unlisted_strike : (order : Order) (events : List Event) (s : Symbol) → StandsFor order events → is_listed s events ≡ false
    → contains is_same_series order.series (other_side s) ≡ false → has_strike s.strike (strikes_of (expiry_of s) events) ≡ false
unlisted_strike order events s stands unlisted other =
    has-strike_of s events ∙ either (is_listed s events) (is_listed (other_side s) events) unlisted (sym (stands.series (other_side s)) ∙ other)
  where
    either : (a b : Bool) → a ≡ false → b ≡ false → (a || b) ≡ false
    either true b h i = cc
    either false b h i = i

can_list : (order : Order) (events : List Event) (s : Symbol) → StandsFor order events → HasNoCause events (event.Series s) → CanList order s
can_list order events s stands pass = record {
  unlisted = stands.series s ∙ pass.new_series;
  declared = declared_by order events (expiry_of s) stands ∙ not-false (is_declared (expiry_of s) events) pass.declared;
  room = λ other.
      let room : length (strikes_of (expiry_of s) events) < STRIKES_MAX =
      room_for_strike events s pass.few (unlisted_strike order events s stands pass.new_series other) in
      let same : kept_strikes (expiry_of s) order.expiries.items ≡ length (strikes_of (expiry_of s) events) = stands.strikes (expiry_of s) in
      omega arith;
}

can_take_by : (order : Order) (events : List Event) (e : Event) → StandsFor order events → HasNoCause events e → CanTake order e
can_take_by order events (event.Header day) stands pass = stands.day ∙ header_first events day pass.placed
can_take_by order events (event.Series s) stands pass = can_list order events s stands pass
can_take_by order events (event.Expiry x) stands pass = tt
can_take_by order events (event.Rate x rate) stands pass = tt
can_take_by order events (event.Quote time s bid ask) stands pass = tt
can_take_by order events (event.Trade time s price) stands pass = tt
can_take_by order events (event.Tick time) stands pass = tt
can_take_by order events (event.Opening time) stands pass = tt
can_take_by order events (event.End count) stands pass = tt

-- what may be noted can be taken up, and there is room for its line
pub can_take : (order : Order) (e : Event) → MayNote order e → CanTake order e
can_take order e may = can_take_by order may.0 e may.1 (no_causes may.0 e (may.2).in_order)

pub room_for_line : (order : Order) (e : Event) → MayNote order e → order.lines < LINES_MAX
room_for_line order e may =
    let few : length may.0 < LINES_MAX = few_lines may.0 e (no_causes may.0 e (may.2).in_order).few in
    let same : order.lines ≡ length may.0 = (may.1).lines in
    omega arith

-- ---- a strike that is new

not_or : (a b : Bool) → not (a || b) ≡ (not a && not b)
not_or true b = refl
not_or false b = refl

pub new_strike_by : (events : List Event) (s : Symbol) → (not (is_listed s events) && not (is_listed (other_side s) events)) ≡ is_new_strike events s
new_strike_by events s = sym (ap not (has-strike_of s events) ∙ not_or (is_listed s events) (is_listed (other_side s) events))
