-- Whether the opening was taken, where it stands, and what stands before it after one more event.
use Rattle.std.proofs.Common.{◌≡◌, ◌∙◌, ap, refl, ℕ, true, false, cond, ◌||◌, List, [], ◌∷◌, ◌++◌, length, Option, Some, None}
use Rattle.std.specs.Prelude.{is_some, slice_get}
use Rattle.std.specs.List.{list_any}
use Rattle.std.specs.Option.{option_or}
use Rattle.std.proofs.lemmas.Option.{same_Some}
use Rattle.vx_feed.specs.declared.events.Event.{Event}
use Rattle.vx_feed.specs.declared.events.Event.TheVariants as event
use Rattle.vx_feed.specs.Standing.{before_opening, is_opening}
use Rattle.vx_feed.specs.Opening.{opening_minute, opening_time}
use Rattle.vx_feed.proofs.NextEvent.{next_before_opening}

minute_is : (e : Event) → is_some (opening_minute e) ≡ is_opening e
minute_is (event.Opening time) = refl
minute_is (event.Header day) = refl
minute_is (event.Expiry x) = refl
minute_is (event.Rate x rate) = refl
minute_is (event.Series s) = refl
minute_is (event.Quote time s bid ask) = refl
minute_is (event.Trade time s price) = refl
minute_is (event.Tick time) = refl
minute_is (event.End count) = refl

either_some : (a b : Option ℕ) → is_some (option_or a b) ≡ (is_some a || is_some b)
either_some None b = refl
either_some (Some x) b = refl

-- the opening has a minute just where an event takes it
pub time_is : (events : List Event) → is_some (opening_time events) ≡ list_any is_opening events
time_is [] = refl
time_is (e ∷ events) =
    either_some (opening_minute e) (opening_time events) ∙ ap (λ b. b || is_some (opening_time events)) (minute_is e)
    ∙ ap (λ b. is_opening e || b) (time_is events)

-- where no event takes it, it has none
pub not_opened : (events : List Event) → list_any is_opening events ≡ false → opening_time events ≡ None
not_opened events unopened = none_from (opening_time events) (time_is events ∙ unopened)
  where
    none_from : (o : Option ℕ) → is_some o ≡ false → o ≡ None
    none_from None h = refl
    none_from (Some x) h = cc

-- an event after the opening changes nothing of what stands before it
pub before_kept : (events : List Event) (e : Event) → list_any is_opening events ≡ true → before_opening (events ++ e ∷ []) ≡ before_opening events
before_kept events e opened =
    next_before_opening events e ∙ ap (λ b. cond b (before_opening events) (cond (is_opening e) events (events ++ e ∷ []))) opened

-- before an opening that is taken now stand all the events so far
pub before_now : (events : List Event) (time : ℕ) → list_any is_opening events ≡ false → before_opening (events ++ event.Opening time ∷ []) ≡ events
before_now events time unopened = next_before_opening events (event.Opening time) ∙ ap (λ b. cond b (before_opening events) events) unopened

-- the event after those before the opening takes it
pub taken_at : (events : List Event) (time : ℕ) → opening_time events ≡ Some time → slice_get events (length (before_opening events)) ≡ Some (event.Opening time)
taken_at [] time h = absurd cc
taken_at (event.Opening t ∷ events) time h = let same : t ≡ time = same_Some t time h in ap (λ m. Some (event.Opening m)) same
taken_at (event.Header day ∷ events) time h = taken_at events time h
taken_at (event.Expiry x ∷ events) time h = taken_at events time h
taken_at (event.Rate x rate ∷ events) time h = taken_at events time h
taken_at (event.Series s ∷ events) time h = taken_at events time h
taken_at (event.Quote t s bid ask ∷ events) time h = taken_at events time h
taken_at (event.Trade t s price ∷ events) time h = taken_at events time h
taken_at (event.Tick t ∷ events) time h = taken_at events time h
taken_at (event.End count ∷ events) time h = taken_at events time h
