-- Lawful events are in range, and so are the strikes that they list and the rates that they say.
use Rattle.std.proofs.Common.{◌≡◌, ◌⊎◌, inl, inr, refl, ap, subst, ℕ, zero, suc, ℤ, Bool, true, false, cond, take, List, [], ◌∷◌, ◌++◌, Option, Some, None}
use Rattle.std.specs.Option.{option_or}
use Rattle.std.proofs.lemmas.Bool.{cases_Bool, cond-true, cond-false}
use Rattle.vx_clock.specs.declared.terms.Expiry.{Expiry}
use Rattle.vx_symbol.specs.declared.symbols.Symbol.{Symbol}
use Rattle.vx_symbol.specs.Symbol.{IsStrikeInRange}
use Rattle.vx_symbol.specs.Rows.{IsRateInRange}
use Rattle.vx_feed.specs.declared.events.Event.{Event}
use Rattle.vx_feed.specs.declared.events.Event.TheVariants as event
use Rattle.vx_feed.specs.Same.{is_same_expiry}
use Rattle.vx_feed.specs.Ranges.{IsEventInRange}
use Rattle.vx_feed.specs.Said.{last_said}
use Rattle.vx_feed.specs.Standing.{is_opening, before_opening, lists_series, since_listed, rate_of, standing_rate}
use Rattle.vx_feed.specs.Listed.{expiry_of, with_strike, listed_strike, strikes_of}
use Rattle.vx_feed.specs.Order.{AreLawfulAfter, AreLawful}
use Rattle.vx_formula.proofs.Lists.{In}
use Rattle.vx_claims.proofs.RisingRows.{in_insert}

-- ---- events

-- each of the events is in range
abbrev pub AllInRange : List Event → Type 0
AllInRange events = (e : Event) → In events e → IsEventInRange e

-- events that are lawful behind others are in range
in_range_after : (before events : List Event) → AreLawfulAfter before events → AllInRange events
in_range_after before [] h e none = elim none [ ]
in_range_after before (d ∷ events) h e (inl same) = subst IsEventInRange same (h.0).in_range
in_range_after before (d ∷ events) h e (inr later) = in_range_after (before ++ d ∷ []) events h.1 e later

-- lawful events are in range
pub lawful_in_range : (events : List Event) → AreLawful events → AllInRange events
lawful_in_range events h = in_range_after [] events h

-- an event since a series was listed is one of the events
in_since : (s : Symbol) (events : List Event) (e : Event) → In (since_listed s events) e → In events e
in_since s [] e h = elim h [ ]
in_since s (d ∷ events) e h =
    let P : List Event → Type 0 = λ xs. In xs e in
    elim (cases_Bool (lists_series s d)) [
      | inl lists ↦ inr (subst P (cond-true (lists_series s d) events (since_listed s events) lists) h)
      | inr other ↦ inr (in_since s events e (subst P (cond-false (lists_series s d) events (since_listed s events) other) h))
    ]

-- the events since a series was listed are in range where all are
pub since_in_range : (s : Symbol) (events : List Event) → AllInRange events → AllInRange (since_listed s events)
since_in_range s events h = λ e at. h e (in_since s events e at)

-- and so is one before the opening
in_before : (events : List Event) (e : Event) → In (before_opening events) e → In events e
in_before [] e h = elim h [ ]
in_before (d ∷ events) e h =
    let P : List Event → Type 0 = λ xs. In xs e in
    elim (cases_Bool (is_opening d)) [
      | inl opens ↦ elim (subst P (cond-true (is_opening d) [] (d ∷ before_opening events) opens) h) [ ]
      | inr other ↦ elim (subst P (cond-false (is_opening d) [] (d ∷ before_opening events) other) h) [ inl same ↦ inl same | inr later ↦ inr (in_before events e later) ]
    ]

-- the events before the opening are in range where all are
pub before_in_range : (events : List Event) → AllInRange events → AllInRange (before_opening events)
before_in_range events h = λ e at. h e (in_before events e at)

-- and one of the first
in_take : (n : ℕ) (events : List Event) (e : Event) → In (take n events) e → In events e
in_take zero [] e h = elim h [ ]
in_take (suc n) [] e h = elim h [ ]
in_take zero (d ∷ events) e h = elim h [ ]
in_take (suc n) (d ∷ events) e (inl same) = inl same
in_take (suc n) (d ∷ events) e (inr later) = inr (in_take n events e later)

-- the first events are in range where all are
pub take_in_range : (n : ℕ) (events : List Event) → AllInRange events → AllInRange (take n events)
take_in_range n events h = λ e at. h e (in_take n events e at)

-- ---- the strikes that they list

-- what is answered where a test holds, if anything is
pub chosen : {A : Type 0} (b : Bool) (a r : A) → cond b (Some a) None ≡ Some r → a ≡ r
chosen true a r h = cc
chosen false a r h = absurd cc

-- a strike that an event in range lists is in range
listed_in_range : (x : Expiry) (e : Event) (k : ℕ) → IsEventInRange e → listed_strike x e ≡ Some k → IsStrikeInRange k
listed_in_range x (event.Series s) k range h = subst IsStrikeInRange (chosen (is_same_expiry x (expiry_of s)) s.strike k h) range.strike
listed_in_range x (event.Header day) k range h = absurd cc
listed_in_range x (event.Expiry y) k range h = absurd cc
listed_in_range x (event.Rate y rate) k range h = absurd cc
listed_in_range x (event.Quote time s bid ask) k range h = absurd cc
listed_in_range x (event.Trade time s price) k range h = absurd cc
listed_in_range x (event.Tick time) k range h = absurd cc
listed_in_range x (event.Opening time) k range h = absurd cc
listed_in_range x (event.End count) k range h = absurd cc

-- a strike in a list with one more is that one, or was there before
in_with_strike : (o : Option ℕ) (js : List ℕ) (i : ℕ) → In (with_strike o js) i → (o ≡ Some i) ⊎ In js i
in_with_strike None js i h = inr h
in_with_strike (Some k) js i h = elim (in_insert k js i h) [ inl e ↦ inl (ap Some e) | inr later ↦ inr later ]

-- each listed strike is in range
pub strike_in_range : (x : Expiry) (events : List Event) (k : ℕ) → AllInRange events → In (strikes_of x events) k → IsStrikeInRange k
strike_in_range x [] k range h = elim h [ ]
strike_in_range x (e ∷ events) k range h =
    elim (in_with_strike (listed_strike x e) (strikes_of x events) k h) [
      | inl here ↦ listed_in_range x e k (range e (inl refl)) here
      | inr later ↦ strike_in_range x events k (λ d at. range d (inr at)) later
    ]

-- ---- the rates that they say

-- of two answers the first that is there is one of them
pub or_either : {A : Type 0} (a b : Option A) (r : A) → option_or a b ≡ Some r → (a ≡ Some r) ⊎ (b ≡ Some r)
or_either (Some x) b r h = inl h
or_either None b r h = inr h

-- what is said last is said by one of the events
pub last_in : {A : Type 0} (says : Event → Option A) (events : List Event) (r : A) → last_said says events ≡ Some r → (e : Event) × In events e × (says e ≡ Some r)
last_in says [] r h = absurd cc
last_in says (e ∷ events) r h =
    elim (or_either (last_said says events) (says e) r h) [
      | inl later ↦ let found = last_in says events r later in (found.0, inr found.1, found.2)
      | inr here ↦ (e, inl refl, here)
    ]

-- a rate that an event in range says is in range
said_rate : (x : Expiry) (e : Event) (r : ℤ) → IsEventInRange e → rate_of x e ≡ Some r → IsRateInRange r
said_rate x (event.Rate y rate) r range h = subst IsRateInRange (chosen (is_same_expiry x y) rate r h) range.1
said_rate x (event.Header day) r range h = absurd cc
said_rate x (event.Expiry y) r range h = absurd cc
said_rate x (event.Series s) r range h = absurd cc
said_rate x (event.Quote time s bid ask) r range h = absurd cc
said_rate x (event.Trade time s price) r range h = absurd cc
said_rate x (event.Tick time) r range h = absurd cc
said_rate x (event.Opening time) r range h = absurd cc
said_rate x (event.End count) r range h = absurd cc

-- the standing rate of events in range is in range
pub said_rate_in_range : (x : Expiry) (events : List Event) (r : ℤ) → AllInRange events → standing_rate x events ≡ Some r → IsRateInRange r
said_rate_in_range x events r range h = let found = last_in (rate_of x) events r h in said_rate x found.0 r (range found.0 found.1) found.2
