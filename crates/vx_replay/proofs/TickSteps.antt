-- A tick after lawful events: its line, its day, its two terms and its answer.
use Rattle.std.proofs.Common.{◌≡◌, ◌≢◌, ◌∙◌, sym, ap, subst, refl, ℕ, ◌+◌, ◌-◌, inl, inr, List, [], ◌∷◌, ◌++◌, length, take, Option, Some, None, arith}
use Rattle.std.specs.Prelude.{IsSome, IsSomeAnd, All, Any, Contains, slice_get}
use Rattle.std.specs.Option.{option_or}
use Rattle.std.proofs.Math.Seq.{take-append_seam}
use Rattle.std.proofs.lemmas.Bool.{true≢false, false≢true}
use Rattle.std.proofs.lemmas.Int.{ints}
use Rattle.std.proofs.lemmas.List.Elements.{All-contains}
use Rattle.std.proofs.lemmas.Option.{same_Some}
use Rattle.vx_clock.specs.declared.days.DayNo.{DayNo}
use Rattle.vx_clock.specs.declared.terms.Expiry.{Expiry}
use Rattle.vx_clock.specs.declared.terms.Moment.{Moment}
use Rattle.vx_clock.specs.declared.limits.TheConstants.{INDEX_DAYS, INDEX_WINDOW}
use Rattle.vx_clock.specs.Minutes.{days_until}
use Rattle.vx_clock.specs.Terms.{IsInNearWindow, IsInNextWindow, IsNearTerm, IsNextTerm}
use Rattle.vx_feed.specs.declared.events.Event.{Event}
use Rattle.vx_feed.specs.declared.events.Event.TheVariants as event
use Rattle.vx_feed.specs.Listed.{trade_date, declared_expiries}
use Rattle.vx_feed.specs.Order.{IsLawfulNext, AreLawful}
use Rattle.vx_feed.proofs.LawfulLists.{lawful_with_one_more}
use Rattle.vx_feed.proofs.NextEvent.{next_trade_date}
use Rattle.vx_feed.proofs.NoCauses.{no_causes}
use Rattle.vx_claims.specs.declared.limits.TheConstants.{SCALE}
use Rattle.vx_claims.specs.Seen.{IsTickAt, events_before, moment_of}
use Rattle.vx_book.proofs.Places.{get_pushed}
use Rattle.vx_term.specs.declared.answer.TermAnswer.{TermAnswer}
use Rattle.vx_term.specs.declared.answer.TermAnswer.TheVariants as term
use Rattle.vx_term.specs.Ranges.{AreDaysInRange}
use Rattle.vx_accepted.specs.Picked.{IsWindowInRange}
use Rattle.vx_accepted.proofs.Picks.{near_is_picked_or_none}
use Rattle.vx_replay.specs.declared.answer.TickAnswer.{TickAnswer}
use Rattle.vx_replay.specs.declared.answer.TickAnswer.TheVariants.{Published, UndecidedCents, UndecidedForward, Refused}
use Rattle.vx_replay.specs.declared.answer.Reason.TheVariants.{NoTerm, Term, NegativeVariance}
use Rattle.vx_replay.specs.declared.answer.Which.{Which}
use Rattle.vx_replay.specs.declared.answer.Which.TheVariants.{Near, Next, Both}
use Rattle.vx_replay.specs.Joined.{IsJoined}
use Rattle.vx_replay.specs.Joinable.{CanBeWritten}
use Rattle.vx_replay.specs.Ticks.{IsAnswerAfter, IsAnswerOfTerms, IsIndexAnswer}
use Rattle.vx_replay.specs.Stepped.{IsAnswerNext}
use Rattle.vx_replay.specs.TermSteps.{SettlesAhead}
use Rattle.vx_replay.proofs.LawfulTicks.{tick_answer_is_lawful}

-- ---- the index's days

-- 30 days are days that an index may look ahead
pub index_days : AreDaysInRange INDEX_DAYS
index_days = (omega arith, omega arith)

-- and 7 are a window that it may have
pub index_window : IsWindowInRange INDEX_WINDOW
index_window = omega arith

-- ---- the day, and the line

-- lawful events with a tick after them have a header
pub has_day : (events : List Event) (time : ℕ) → AreLawful events → IsLawfulNext events (event.Tick time) → IsSome (trade_date events)
has_day [] time lawful next = absurd (true≢false (no_causes [] (event.Tick time) next.in_order).placed)
has_day (event.Header day ∷ rest) time lawful next = refl
has_day (event.Expiry x ∷ rest) time lawful next = absurd (true≢false (no_causes [] (event.Expiry x) (lawful.0).in_order).placed)
has_day (event.Rate x rate ∷ rest) time lawful next = absurd (true≢false (no_causes [] (event.Rate x rate) (lawful.0).in_order).placed)
has_day (event.Series s ∷ rest) time lawful next = absurd (true≢false (no_causes [] (event.Series s) (lawful.0).in_order).placed)
has_day (event.Quote t s bid ask ∷ rest) time lawful next = absurd (true≢false (no_causes [] (event.Quote t s bid ask) (lawful.0).in_order).placed)
has_day (event.Trade t s price ∷ rest) time lawful next = absurd (true≢false (no_causes [] (event.Trade t s price) (lawful.0).in_order).placed)
has_day (event.Tick t ∷ rest) time lawful next = absurd (true≢false (no_causes [] (event.Tick t) (lawful.0).in_order).placed)
has_day (event.Opening t ∷ rest) time lawful next = absurd (true≢false (no_causes [] (event.Opening t) (lawful.0).in_order).placed)
has_day (event.End count ∷ rest) time lawful next = absurd (true≢false (no_causes [] (event.End count) (lawful.0).in_order).placed)

some_is : {A : Type 0} (o : Option A) → IsSome o → (x : A) × (o ≡ Some x)
some_is None h = absurd (false≢true h)
some_is (Some x) h = (x, refl)

-- where a tick may come next there is a trade date
pub day_of : (events : List Event) (time : ℕ) → AreLawful events → IsLawfulNext events (event.Tick time) → (day : DayNo) × (trade_date events ≡ Some day)
day_of events time lawful next = some_is (trade_date events) (has_day events time lawful next)

same_option : {A : Type 0} (o : Option A) → option_or o None ≡ o
same_option None = refl
same_option (Some x) = refl

-- ---- the tick at the end of the events

module _ (events : List Event) (time : ℕ) where
  abbrev with_tick : List Event
  with_tick = events ++ event.Tick time ∷ []

  line_is : (length events + 1) - 1 ≡ length events
  line_is = omega arith

  before_is : events_before with_tick (length events + 1) ≡ events
  before_is = ap (λ n. take n with_tick) line_is ∙ take-append_seam events (event.Tick time ∷ [])

  is_tick : IsTickAt with_tick (length events + 1) time
  is_tick = (omega arith, ap (slice_get with_tick) line_is ∙ get_pushed events (event.Tick time))

  same_day : trade_date with_tick ≡ trade_date events
  same_day = next_trade_date events (event.Tick time) ∙ same_option (trade_date events)

  -- the answer over the events is that of the tick at their end, and lawful
  pub answer_next : (day : DayNo) (answer : TickAnswer) → AreLawful events → IsLawfulNext events (event.Tick time) → trade_date events ≡ Some day
      → IsAnswerAfter events (moment_of day time) (length events + 1) INDEX_DAYS INDEX_WINDOW answer → CanBeWritten answer → IsAnswerNext events time answer
  answer_next day answer lawful next day_is answered in_range =
      let is : IsIndexAnswer with_tick (length events + 1) time answer = record {
        is_tick = is_tick;
        day = day;
        day_is = same_day ∙ day_is;
        answered = subst (λ (xs : List Event). IsAnswerAfter xs (moment_of day time) (length events + 1) INDEX_DAYS INDEX_WINDOW answer) (sym before_is) answered;
      } in
      record {
        is_index = is;
        is_lawful = tick_answer_is_lawful INDEX_DAYS INDEX_WINDOW with_tick (length events + 1) time answer index_days index_window
            (lawful_with_one_more events (event.Tick time) lawful next) is;
        in_range = in_range;
      }

-- ---- the answer of two terms is no missing term

no_term_is_not_joined : (line time days : ℕ) (which : Which) (a b : TermAnswer SCALE) → IsJoined line time days a b (Refused NoTerm which) → ⊥
no_term_is_not_joined line time days which (term.Run a) (term.Run b) joined = absurd joined
no_term_is_not_joined line time days which (term.Run a) (term.Refused refusal) joined = cc
no_term_is_not_joined line time days which (term.Run a) (term.UndecidedForward strike lo hi) joined = cc
no_term_is_not_joined line time days which (term.Refused refusal) b joined = cc
no_term_is_not_joined line time days which (term.UndecidedForward strike lo hi) b joined = cc

-- an answer that two picked terms give is an answer after the events, since it names no missing term
pub after_of_terms : (events : List Event) (now : Moment) (line days window : ℕ) (answer : TickAnswer) → IsAnswerOfTerms events now line days window answer
    → IsAnswerAfter events now line days window answer
after_of_terms events now line days window (Published cents lo hi certificate) h = h
after_of_terms events now line days window (UndecidedCents lo hi) h = h
after_of_terms events now line days window (UndecidedForward which strike lo hi) h = h
after_of_terms events now line days window (Refused NoTerm Near) h = absurd (no_term_is_not_joined line now.minute days Near h.near_answer h.next_answer h.joined)
after_of_terms events now line days window (Refused NoTerm Next) h = absurd (no_term_is_not_joined line now.minute days Next h.near_answer h.next_answer h.joined)
after_of_terms events now line days window (Refused NoTerm Both) h = h
after_of_terms events now line days window (Refused (Term refusal) which) h = h
after_of_terms events now line days window (Refused NegativeVariance which) h = h

-- ---- the places of the terms

-- what stands at a place, where it is known to pass a test
pub record StandsAt {A : Type 0} (xs : List A) (place : ℕ) (Test : A → Type 0) : Type 0 where
  pub x : A
  pub at : slice_get xs place ≡ Some x
  pub passes : Test x

some_and : {A : Type 0} (o : Option A) (Test : A → Type 0) → IsSomeAnd o Test → (x : A) × (o ≡ Some x) × Test x
some_and None Test h = absurd h
some_and (Some x) Test h = (x, refl, h)

-- where the item at a place passes a test, there is one
pub some_stands_at : {A : Type 0} (xs : List A) (place : ℕ) (Test : A → Type 0) → IsSomeAnd (slice_get xs place) Test → StandsAt xs place Test
some_stands_at xs place Test h = let s = some_and (slice_get xs place) Test h in record { x = s.0; at = s.1; passes = s.2 }

-- the near term settles after the tick
pub near_is_ahead : (now : Moment) (xs : List Expiry) (x : Expiry) → IsNearTerm now.day INDEX_DAYS INDEX_WINDOW xs x → SettlesAhead now x
near_is_ahead now xs x h = let w = h.in_window in let most = w.2 in (w.0, omega (arith, ints, most))

-- and so does the next term
pub next_is_ahead : (now : Moment) (xs : List Expiry) (x : Expiry) → IsNextTerm now.day INDEX_DAYS INDEX_WINDOW xs x → SettlesAhead now x
next_is_ahead now xs x h = let w = h.in_window in let least = w.0 in let most = w.1 in (omega (arith, ints, least), omega (arith, ints, most))

-- the two terms stand at two places
pub places_differ : (day : DayNo) (xs : List Expiry) (i j : ℕ) (x y : Expiry) → slice_get xs i ≡ Some x → slice_get xs j ≡ Some y
    → IsNearTerm day INDEX_DAYS INDEX_WINDOW xs x → IsNextTerm day INDEX_DAYS INDEX_WINDOW xs y → j ≢ i
places_differ day xs i j x y at there near next same =
    let e : y ≡ x = same_Some y x (sym there ∙ ap (slice_get xs) same ∙ at) in
    let low = (next.in_window).0 in
    let high = (near.in_window).2 in
    let days = ap (λ (z : Expiry). days_until day z.date) e in
    absurd (omega (arith, ints, low, high, days))

near_of_some : (day : DayNo) (xs : List Expiry) → Any (IsInNearWindow day INDEX_DAYS INDEX_WINDOW) xs → (x : Expiry) × IsNearTerm day INDEX_DAYS INDEX_WINDOW xs x
near_of_some day xs (k, x, within, at, in_window) =
    elim (near_is_picked_or_none day INDEX_DAYS INDEX_WINDOW xs) [ inl found ↦ found | inr none ↦ absurd (none x (k, within, at) in_window) ]

-- a near term stands, and no next one
pub next_is_missing : (events : List Event) (day shown : DayNo) (xs ys : List Expiry) → day ≡ shown → xs ≡ declared_expiries events → ys ≡ xs
    → Any (IsInNearWindow shown INDEX_DAYS INDEX_WINDOW) ys × All (λ x. ¬ (IsInNextWindow shown INDEX_DAYS INDEX_WINDOW x)) ys
    → ((x : Expiry) × IsNearTerm day INDEX_DAYS INDEX_WINDOW (declared_expiries events) x)
    × ((x : Expiry) → Contains (declared_expiries events) x → IsInNextWindow day INDEX_DAYS INDEX_WINDOW x → ⊥)
next_is_missing events day shown xs ys same expiries ys_are h =
    let Missing : DayNo → List Expiry → Type 0 = λ d l.
    Any (IsInNearWindow d INDEX_DAYS INDEX_WINDOW) l × All (λ x. ¬ (IsInNextWindow d INDEX_DAYS INDEX_WINDOW x)) l in
    let at_day : Missing day ys = subst (λ (d : DayNo). Missing d ys) (sym same) h in
    let (some, none) : Missing day (declared_expiries events) = subst (Missing day) (ys_are ∙ expiries) at_day in (
      near_of_some day (declared_expiries events) some,
      λ x declared. All-contains (λ z. ¬ (IsInNextWindow day INDEX_DAYS INDEX_WINDOW z)) (declared_expiries events) x none declared,
    )
