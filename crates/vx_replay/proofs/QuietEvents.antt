-- An event that is no tick, and one that declares no expiry either.
use Rattle.std.proofs.Common.{◌≡◌, ◌≢◌, refl, ℕ, List, None}
use Rattle.std.specs.Prelude.{Ok, Err}
use Rattle.vx_num.specs.declared.fault.NoMemory.{NoMemory}
use Rattle.vx_clock.specs.declared.terms.Expiry.{Expiry}
use Rattle.vx_feed.specs.declared.events.Event.{Event}
use Rattle.vx_feed.specs.declared.events.Event.TheVariants as event
use Rattle.vx_feed.specs.Listed.{declared_expiry}
use Rattle.vx_replay.specs.Stepped.{IsStepAnswer}
use Rattle.vx_replay.specs.StripsAfter.{Holding, AreKeptAfter}

abbrev pub IsNoTick : Event → Type 0
IsNoTick e = (time : ℕ) → e ≢ event.Tick time

abbrev pub IsNoExpiry : Event → Type 0
IsNoExpiry e = (x : Expiry) → e ≢ event.Expiry x

-- ---- no tick

-- it is not answered, and where memory was refused every strip is left as it was
pub record IsUnanswered (e : Event) : Type 0 where
  pub answers_none : (events : List Event) → IsStepAnswer events e None
  pub leaves_strips : (events : List Event) (strips : List Holding) (count : ℕ) (memory : NoMemory)
      → AreKeptAfter events e strips strips count count (Err memory)

-- an event that is no tick is not answered
pub no_tick_is_unanswered : (e : Event) → IsNoTick e → IsUnanswered e
no_tick_is_unanswered (event.Header day) h = record { answers_none = λ events. refl; leaves_strips = λ events strips count memory. record { same = refl; none = refl } }
no_tick_is_unanswered (event.Expiry x) h = record { answers_none = λ events. refl; leaves_strips = λ events strips count memory. record { same = refl; none = refl } }
no_tick_is_unanswered (event.Rate x rate) h = record { answers_none = λ events. refl; leaves_strips = λ events strips count memory. record { same = refl; none = refl } }
no_tick_is_unanswered (event.Series s) h = record { answers_none = λ events. refl; leaves_strips = λ events strips count memory. record { same = refl; none = refl } }
no_tick_is_unanswered (event.Quote time s bid ask) h = record { answers_none = λ events. refl; leaves_strips = λ events strips count memory. record { same = refl; none = refl } }
no_tick_is_unanswered (event.Trade time s price) h = record { answers_none = λ events. refl; leaves_strips = λ events strips count memory. record { same = refl; none = refl } }
no_tick_is_unanswered (event.Tick time) h = absurd (h time refl)
no_tick_is_unanswered (event.Opening time) h = record { answers_none = λ events. refl; leaves_strips = λ events strips count memory. record { same = refl; none = refl } }
no_tick_is_unanswered (event.End count) h = record { answers_none = λ events. refl; leaves_strips = λ events strips count memory. record { same = refl; none = refl } }

-- ---- and no expiry

-- it declares none, and leaves every strip as it is
pub record IsQuiet (e : Event) : Type 0 where
  pub declares_none : declared_expiry e ≡ None
  pub leaves_strips : (events : List Event) (strips : List Holding) (count : ℕ) → AreKeptAfter events e strips strips count count (Ok None)

pub quiet : (e : Event) → IsNoTick e → IsNoExpiry e → IsQuiet e
quiet (event.Header day) h k = record { declares_none = refl; leaves_strips = λ events strips count. record { same = refl; none = refl } }
quiet (event.Expiry x) h k = absurd (k x refl)
quiet (event.Rate x rate) h k = record { declares_none = refl; leaves_strips = λ events strips count. record { same = refl; none = refl } }
quiet (event.Series s) h k = record { declares_none = refl; leaves_strips = λ events strips count. record { same = refl; none = refl } }
quiet (event.Quote time s bid ask) h k = record { declares_none = refl; leaves_strips = λ events strips count. record { same = refl; none = refl } }
quiet (event.Trade time s price) h k = record { declares_none = refl; leaves_strips = λ events strips count. record { same = refl; none = refl } }
quiet (event.Tick time) h k = absurd (h time refl)
quiet (event.Opening time) h k = record { declares_none = refl; leaves_strips = λ events strips count. record { same = refl; none = refl } }
quiet (event.End count) h k = record { declares_none = refl; leaves_strips = λ events strips count. record { same = refl; none = refl } }
