-- What a feed shows at a line is so or not: a tick, the opening, an expiry that is declared, the two terms.
use Rattle.std.proofs.Common.{◌≡◌, refl, ap, ◌⊎◌, inl, inr, ℕ, ◌+◌, ℤ, pos, ◌+ℤ◌, IsTrue, List, Option, Some, None, Contains}
use Rattle.vx_clock.specs.declared.days.DayNo.{DayNo}
use Rattle.vx_clock.specs.declared.terms.Root.{Root}
use Rattle.vx_clock.specs.declared.terms.Root.TheVariants.{Spx, Spxw}
use Rattle.vx_clock.specs.declared.terms.Expiry.{Expiry}
use Rattle.vx_clock.specs.Minutes.{days_until}
use Rattle.vx_clock.specs.Terms.{IsInNearWindow, IsInNextWindow, IsNearTerm, IsNextTerm, IsTakenBeforeAsNear, IsTakenBeforeAsNext, root_rank}
use Rattle.vx_feed.specs.declared.events.Event.{Event}
use Rattle.vx_feed.specs.declared.events.Event.TheVariants as event
use Rattle.vx_feed.specs.Standing.{before_opening}
use Rattle.vx_feed.specs.Listed.{declared_expiries, is_declared, trade_date}
use Rattle.vx_formula.proofs.Comparisons.{at_most_or_not, below_or_not}
use Rattle.vx_formula.proofs.Lists.{all_from_in, all_in, contains_from_in, in_from_contains}
use Rattle.vx_claims.specs.Seen.{ArePickedTerms, IsOpeningAt, IsTickAt, event_at, events_before, opening_expiry}
use Rattle.vx_claims.specs.Accepts.{IsOpeningExpiry}
use Rattle.vx_whole.proofs.Decided.{IsDecided, all_of, at_most, both, either, implied, is_among, is_true, like, of_some, same_number, same_whole}

-- ---- ticks and the opening

abbrev tick_minute : Option Event → ℕ
tick_minute (Some (event.Tick time)) = time
tick_minute _ = 0

abbrev opening_minute : Option Event → ℕ
opening_minute (Some (event.Opening time)) = time
opening_minute _ = 0

is_tick : (o : Option Event) (time : ℕ) → IsDecided (o ≡ Some (event.Tick time))
is_tick None time = inr (λ h. cc)
is_tick (Some (event.Header day)) time = inr (λ h. cc)
is_tick (Some (event.Expiry x)) time = inr (λ h. cc)
is_tick (Some (event.Rate x rate)) time = inr (λ h. cc)
is_tick (Some (event.Series symbol)) time = inr (λ h. cc)
is_tick (Some (event.Quote at symbol bid ask)) time = inr (λ h. cc)
is_tick (Some (event.Trade at symbol price)) time = inr (λ h. cc)
is_tick (Some (event.Tick at)) time =
    like (λ (h : at ≡ time). ap (λ (t : ℕ). Some (event.Tick t)) h) (λ h. ap tick_minute h) (same_number at time)
is_tick (Some (event.Opening at)) time = inr (λ h. cc)
is_tick (Some (event.End count)) time = inr (λ h. cc)

is_opening : (o : Option Event) (time : ℕ) → IsDecided (o ≡ Some (event.Opening time))
is_opening None time = inr (λ h. cc)
is_opening (Some (event.Header day)) time = inr (λ h. cc)
is_opening (Some (event.Expiry x)) time = inr (λ h. cc)
is_opening (Some (event.Rate x rate)) time = inr (λ h. cc)
is_opening (Some (event.Series symbol)) time = inr (λ h. cc)
is_opening (Some (event.Quote at symbol bid ask)) time = inr (λ h. cc)
is_opening (Some (event.Trade at symbol price)) time = inr (λ h. cc)
is_opening (Some (event.Tick at)) time = inr (λ h. cc)
is_opening (Some (event.Opening at)) time =
    like (λ (h : at ≡ time). ap (λ (t : ℕ). Some (event.Opening t)) h) (λ h. ap opening_minute h) (same_number at time)
is_opening (Some (event.End count)) time = inr (λ h. cc)

pub tick_at : (events : List Event) (line time : ℕ) → IsDecided (IsTickAt events line time)
tick_at events line time = both (at_most 1 line) (is_tick (event_at events line) time)

pub opening_at : (events : List Event) (line time : ℕ) → IsDecided (IsOpeningAt events line time)
opening_at events line time = both (at_most 1 line) (is_opening (event_at events line) time)

-- an event is a tick of some minute, or of none
pub some_tick : (o : Option Event) → ((time : ℕ) × (o ≡ Some (event.Tick time))) ⊎ ((time : ℕ) → ¬ (o ≡ Some (event.Tick time)))
some_tick None = inr (λ time h. cc)
some_tick (Some (event.Header day)) = inr (λ time h. cc)
some_tick (Some (event.Expiry x)) = inr (λ time h. cc)
some_tick (Some (event.Rate x rate)) = inr (λ time h. cc)
some_tick (Some (event.Series symbol)) = inr (λ time h. cc)
some_tick (Some (event.Quote at symbol bid ask)) = inr (λ time h. cc)
some_tick (Some (event.Trade at symbol price)) = inr (λ time h. cc)
some_tick (Some (event.Tick at)) = inl (at, refl)
some_tick (Some (event.Opening at)) = inr (λ time h. cc)
some_tick (Some (event.End count)) = inr (λ time h. cc)

-- ---- expiries

same_root : (a b : Root) → IsDecided (a ≡ b)
same_root Spx Spx = inl refl
same_root Spx Spxw = inr (λ h. cc)
same_root Spxw Spx = inr (λ h. cc)
same_root Spxw Spxw = inl refl

same_day : (a b : DayNo) → a.0 ≡ b.0 → a ≡ b
same_day a b h = λ i. record { 0 = h i }

same_parts : (a b : Expiry) → a.root ≡ b.root → a.date ≡ b.date → a ≡ b
same_parts a b root date = λ i. record { root = root i; date = date i }

pub same_expiry : (a b : Expiry) → IsDecided (a ≡ b)
same_expiry a b =
    like
    (λ h. same_parts a b h.0 (same_day a.date b.date h.1))
    (λ h. (ap (λ (x : Expiry). x.root) h, ap (λ (x : Expiry). x.date.0) h))
    (both (same_root a.root b.root) (same_whole a.date.0 b.date.0))

is_one_of : (expiries : List Expiry) (x : Expiry) → IsDecided (Contains expiries x)
is_one_of expiries x =
    like (contains_from_in expiries x) (in_from_contains expiries x) (is_among x (λ y. same_expiry y x) expiries)

-- each of the expiries that is in a window comes after this one
first_among : (Within Before : Expiry → Type 0) → ((y : Expiry) → IsDecided (Within y)) → ((y : Expiry) → IsDecided (Before y))
    → (expiries : List Expiry) → IsDecided ((y : Expiry) → Contains expiries y → Within y → Before y)
first_among Within Before within before expiries =
    let Comes : Expiry → Type 0 = λ y. Within y → Before y in
    like
    (λ h y declared. all_in Comes expiries y h (in_from_contains expiries y declared))
    (λ h. all_from_in Comes expiries (λ y among. h y (contains_from_in expiries y among)))
    (all_of Comes (λ y. implied (within y) (before y)) expiries)

-- ---- the near and the next term

near_window : (today : DayNo) (days window : ℕ) (x : Expiry) → IsDecided (IsInNearWindow today days window x)
near_window today days window x =
    let ahead : ℤ = days_until today x.date in
    like (λ h. (h.0, h.1.0, h.1.1)) (λ h. (h.0, (h.1, h.2)))
    (both (at_most_or_not (pos 1) ahead) (both (below_or_not (pos days) (ahead +ℤ pos window)) (at_most_or_not ahead (pos days))))

next_window : (today : DayNo) (days window : ℕ) (x : Expiry) → IsDecided (IsInNextWindow today days window x)
next_window today days window x =
    let ahead : ℤ = days_until today x.date in
    both (below_or_not (pos days) ahead) (at_most_or_not ahead (pos (days + window)))

before_as_near : (a b : Expiry) → IsDecided (IsTakenBeforeAsNear a b)
before_as_near a b =
    either (below_or_not b.date.0 a.date.0)
    (both (same_whole a.date.0 b.date.0) (at_most (root_rank a.root) (root_rank b.root)))

before_as_next : (a b : Expiry) → IsDecided (IsTakenBeforeAsNext a b)
before_as_next a b =
    either (below_or_not a.date.0 b.date.0)
    (both (same_whole a.date.0 b.date.0) (at_most (root_rank a.root) (root_rank b.root)))

near_term : (today : DayNo) (days window : ℕ) (expiries : List Expiry) (x : Expiry) → IsDecided (IsNearTerm today days window expiries x)
near_term today days window expiries x =
    like
    (λ h. record { declared = h.0; in_window = h.1.0; first = h.1.1 })
    (λ h. (h.declared, (h.in_window, h.first)))
    (both (is_one_of expiries x) (both (near_window today days window x)
    (first_among (IsInNearWindow today days window) (IsTakenBeforeAsNear x) (near_window today days window) (before_as_near x) expiries)))

next_term : (today : DayNo) (days window : ℕ) (expiries : List Expiry) (x : Expiry) → IsDecided (IsNextTerm today days window expiries x)
next_term today days window expiries x =
    like
    (λ h. record { declared = h.0; in_window = h.1.0; first = h.1.1 })
    (λ h. (h.declared, (h.in_window, h.first)))
    (both (is_one_of expiries x) (both (next_window today days window x)
    (first_among (IsInNextWindow today days window) (IsTakenBeforeAsNext x) (next_window today days window) (before_as_next x) expiries)))

pub picked_terms : (events : List Event) (line days window : ℕ) (near next : Expiry) → IsDecided (ArePickedTerms events line days window near next)
picked_terms events line days window near next =
    let declared : List Expiry = declared_expiries (events_before events line) in
    let Picked : DayNo → Type 0 = λ day. IsNearTerm day days window declared near × IsNextTerm day days window declared next in
    like
    (λ h. record { day = h.0; day_is = h.1; is_near = h.2.0; is_next = h.2.1 })
    (λ h. (h.day, h.day_is, (h.is_near, h.is_next)))
    (of_some Picked (λ day. both (near_term day days window declared near) (next_term day days window declared next)) (trade_date events))

pub opening_term : (events : List Event) (x : Expiry) → IsDecided (IsOpeningExpiry events x)
opening_term events x =
    let Is : DayNo → Type 0 = λ day. (x ≡ opening_expiry day) × IsTrue (is_declared x (before_opening events)) in
    like
    (λ h. record { day = h.0; day_is = h.1; expiry_is = h.2.0; declared = h.2.1 })
    (λ h. (h.day, h.day_is, (h.expiry_is, h.declared)))
    (of_some Is (λ day. both (same_expiry x (opening_expiry day)) (is_true (is_declared x (before_opening events)))) (trade_date events))
