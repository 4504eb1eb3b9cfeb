-- What may come next in a feed, fault by fault. An event's causes stand in a list with their faults, and the fault of the first
-- cause that holds is answered.
use Rattle.std.specs.Prelude.{◌≡◌, Bool, true, false, ◌-◌, ◌↔◌, List, [], ◌∷◌, ◌++◌, length, map, Some, None}
use Rattle.std.specs.List.{list_any}
use Rattle.vx_feed.specs.declared.events.Event.{Event}
use Rattle.vx_feed.specs.declared.events.Event.TheVariants as event
use Rattle.vx_feed.specs.declared.faults.FeedFault.{FeedFault}
use Rattle.vx_feed.specs.declared.faults.FeedFault.TheVariants as fault
use Rattle.vx_feed.specs.Order.{is_end, is_misplaced, is_after_end, is_time_back, is_duplicate_expiry, is_duplicate_series, is_undeclared, is_too_many}
use Rattle.vx_feed.specs.Order.{is_other_count, is_out_of_days, is_second_opening, order_causes, order_fault, IsLawfulNext, AreLawful}

-- none of the tests holds
abbrev pub NoneHolds : List Bool → Type 0
NoneHolds [] = Unit {0}
NoneHolds (test ∷ tests) = (test ≡ false) × NoneHolds tests

-- the test holds, and none of the earlier ones does
pub record HoldsFirst (earlier : List Bool) (test : Bool) : Type 0 where
  pub holds : test ≡ true
  pub none_earlier : NoneHolds earlier

-- the tests of causes
abbrev pub tests_of : List (Bool × FeedFault) → List Bool
tests_of causes = map (λ c. c.0) causes

-- f is the fault of the first cause that holds: the causes fall into earlier ones, its own, and later ones
pub record IsFirstCause (causes : List (Bool × FeedFault)) (f : FeedFault) : Type 0 where
  pub earlier : List (Bool × FeedFault)
  pub test : Bool
  pub later : List (Bool × FeedFault)
  pub parts : causes ≡ earlier ++ (test, f) ∷ later
  pub first : HoldsFirst (tests_of earlier) test

-- a fault is answered just where it is that of the first cause that holds
abbrev pub FaultIsOfFirstCause : Type 0
FaultIsOfFirstCause = (before : List Event) (e : Event) (f : FeedFault) → (order_fault before e ≡ Some f) ↔ IsFirstCause (order_causes before e) f

-- and an event is in order just where no cause holds
abbrev pub InOrderHasNoCause : Type 0
InOrderHasNoCause = (before : List Event) (e : Event) → (order_fault before e ≡ None) ↔ NoneHolds (tests_of (order_causes before e))

-- when each fault is answered: its own cause holds, and none of those before it
pub record FaultsByCause : Type 0 where
  pub not_first : (before : List Event) (e : Event) → (order_fault before e ≡ Some fault.NotFirst) ↔ HoldsFirst [] (is_misplaced before e)
  pub after_end : (before : List Event) (e : Event) → (order_fault before e ≡ Some fault.AfterEnd) ↔ HoldsFirst (is_misplaced before e ∷ []) (is_after_end before e)
  pub time_back : (before : List Event) (e : Event) → (order_fault before e ≡ Some fault.TimeBack)
      ↔ HoldsFirst (is_misplaced before e ∷ is_after_end before e ∷ []) (is_time_back before e)
  pub duplicate_expiry : (before : List Event) (e : Event) → (order_fault before e ≡ Some fault.DuplicateExpiry)
      ↔ HoldsFirst (is_misplaced before e ∷ is_after_end before e ∷ is_time_back before e ∷ []) (is_duplicate_expiry before e)
  pub duplicate_series : (before : List Event) (e : Event) → (order_fault before e ≡ Some fault.DuplicateSeries)
      ↔ HoldsFirst (is_misplaced before e ∷ is_after_end before e ∷ is_time_back before e ∷ is_duplicate_expiry before e ∷ []) (is_duplicate_series before e)
  pub undeclared_expiry : (before : List Event) (e : Event) → (order_fault before e ≡ Some fault.UndeclaredExpiry)
      ↔ HoldsFirst (is_misplaced before e ∷ is_after_end before e ∷ is_time_back before e ∷ is_duplicate_expiry before e ∷ is_duplicate_series before e ∷ []) (is_undeclared before e)
  pub too_many : (before : List Event) (e : Event) → (order_fault before e ≡ Some fault.TooMany)
      ↔ HoldsFirst (is_misplaced before e ∷ is_after_end before e ∷ is_time_back before e ∷ is_duplicate_expiry before e ∷ is_duplicate_series before e ∷ is_undeclared before e ∷ []) (is_too_many before e)
  pub end_count : (before : List Event) (e : Event) → (order_fault before e ≡ Some fault.EndCount)
      ↔ HoldsFirst (is_misplaced before e ∷ is_after_end before e ∷ is_time_back before e ∷ is_duplicate_expiry before e ∷ is_duplicate_series before e ∷ is_undeclared before e ∷ is_too_many before e ∷ []) (is_other_count before e)
  pub time_range : (before : List Event) (e : Event) → (order_fault before e ≡ Some fault.TimeRange)
      ↔ HoldsFirst (is_misplaced before e ∷ is_after_end before e ∷ is_time_back before e ∷ is_duplicate_expiry before e ∷ is_duplicate_series before e ∷ is_undeclared before e
      ∷ is_too_many before e ∷ is_other_count before e ∷ []) (is_out_of_days before e)
  pub second_opening : (before : List Event) (e : Event) → (order_fault before e ≡ Some fault.SecondOpening)
      ↔ HoldsFirst (is_misplaced before e ∷ is_after_end before e ∷ is_time_back before e ∷ is_duplicate_expiry before e ∷ is_duplicate_series before e ∷ is_undeclared before e
      ∷ is_too_many before e ∷ is_other_count before e ∷ is_out_of_days before e ∷ []) (is_second_opening before e)

-- ---- lawful lists

-- a lawful list is lawful in its leading parts
abbrev pub LeadingPartsAreLawful : Type 0
LeadingPartsAreLawful = (a b : List Event) → AreLawful (a ++ b) → AreLawful a

-- a list with one event more is lawful just where it is lawful without it and the event may come next
abbrev pub OneMoreIsLawful : Type 0
OneMoreIsLawful = (events : List Event) (e : Event) → AreLawful (events ++ e ∷ []) ↔ (AreLawful events × IsLawfulNext events e)

-- the last of the events, and no other, is an END, which counts the events between the first and it
pub record EndWithCount (events : List Event) : Type 0 where
  pub front : List Event
  pub parts : events ≡ front ++ event.End (length front - 1) ∷ []
  pub none_before : list_any is_end front ≡ false

-- a lawful list with an END among its events ends with it
abbrev pub EndIsLast : Type 0
EndIsLast = (events : List Event) → AreLawful events → list_any is_end events ≡ true → EndWithCount events
