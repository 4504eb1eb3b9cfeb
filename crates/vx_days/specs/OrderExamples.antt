-- Events of which two causes of a fault hold: the order of the causes alone decides which fault is answered.
use Rattle.std.specs.Prelude.{◌≡◌, Bool, true, List, [], ◌∷◌, Some}
use Rattle.vx_feed.specs.declared.events.Event.{Event}
use Rattle.vx_feed.specs.declared.events.Event.TheVariants as event
use Rattle.vx_feed.specs.declared.faults.FeedFault.{FeedFault}
use Rattle.vx_feed.specs.declared.faults.FeedFault.TheVariants as fault
use Rattle.vx_feed.specs.Order.{is_misplaced, is_after_end, is_time_back, is_other_count, is_second_opening, order_fault, AreLawful}
use Rattle.vx_days.specs.FeedExamples.{september_17, call_at}

-- both causes hold of an event after a lawful list, and this fault is answered
pub record BothHold (before : List Event) (e : Event) (one other : List Event → Event → Bool) (f : FeedFault) : Type 0 where
  pub lawful : AreLawful before
  pub one_holds : one before e ≡ true
  pub other_holds : other before e ≡ true
  pub answered : order_fault before e ≡ Some f

-- a day with a tick at 8:30 that has ended
abbrev pub ended_day : List Event
ended_day = event.Header september_17 ∷ event.Tick 510 ∷ event.End 1 ∷ []

-- a day whose opening was taken at 8:30
abbrev pub opened : List Event
opened = event.Header september_17 ∷ event.Opening 510 ∷ []

-- a second header after the end
abbrev pub HeaderAfterEnd : Type 0
HeaderAfterEnd = BothHold ended_day (event.Header september_17) is_misplaced is_after_end fault.NotFirst

-- a quote at 8:29 after the end
abbrev pub EarlyQuoteAfterEnd : Type 0
EarlyQuoteAfterEnd = BothHold ended_day (event.Quote 509 (call_at 2000000) 5000 5000) is_after_end is_time_back fault.AfterEnd

-- a second end with another count
abbrev pub OtherCountAfterEnd : Type 0
OtherCountAfterEnd = BothHold ended_day (event.End 1) is_after_end is_other_count fault.AfterEnd

-- a second opening, at 8:29
abbrev pub EarlySecondOpening : Type 0
EarlySecondOpening = BothHold opened (event.Opening 509) is_time_back is_second_opening fault.TimeBack
