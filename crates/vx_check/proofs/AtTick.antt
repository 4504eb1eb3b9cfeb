-- What a book shows at the tick of a line is what the events before it show.
use Rattle.std.proofs.Common.{◌≡◌, ◌↔◌, ℕ, zero, suc, Bool, IsTrue, ◌-◌, ◌<◌, ◌≤◌, List, [], ◌∷◌, ◌++◌, take, length, Option, Some, None}
use Rattle.std.proofs.Common.{option_and_then, refl, sym, ◌∙◌, ap, subst, arith}
use Rattle.std.specs.List.{slice_get, list_any}
use Rattle.std.proofs.lemmas.Option.{slice_get_within, same_Some}
use Rattle.vx_clock.specs.declared.days.DayNo.{DayNo}
use Rattle.vx_clock.specs.declared.terms.Expiry.{Expiry}
use Rattle.vx_clock.specs.Terms.{IsNearTerm, IsNextTerm}
use Rattle.vx_feed.specs.declared.events.Event.{Event}
use Rattle.vx_feed.specs.declared.events.Event.TheVariants as event
use Rattle.vx_feed.specs.Same.{is_same_expiry}
use Rattle.vx_feed.specs.Standing.{standing_rate}
use Rattle.vx_feed.specs.Listed.{trade_date, declared_expiries, is_declared, listed_rows}
use Rattle.vx_feed.proofs.NextEvent.{next_rate, next_declared}
use Rattle.vx_formula.specs.Level.{StrikesRise}
use Rattle.vx_formula.specs.Term.{TermFacts}
use Rattle.vx_cert.specs.declared.certificate.CertTerm.{CertTerm}
use Rattle.vx_claims.specs.Seen.{IsTickAt, events_before, moment_of, term_facts, ArePickedTerms}
use Rattle.vx_claims.specs.declared.acceptance.Test.{Test}
use Rattle.vx_claims.specs.TermTests.{TermMeets}
use Rattle.vx_claims.specs.Accepts.{scale_of, TermMeetsAt}
use Rattle.vx_claims.proofs.RisingRows.{listed_rows_rise}
use Rattle.vx_check.specs.declared.book.PlainBook.{PlainBook}
use Rattle.vx_check.specs.Kept.{is_kept, kept_rate, kept_rows}
use Rattle.vx_check.specs.StandsFor.{last_event}
use Rattle.vx_feed.specs.Order.{tick_minute}
use Rattle.vx_check.specs.Reached.{IsReached, IsAtTick}
use Rattle.vx_check.proofs.Pushes.{last_event-push}
use Rattle.std.proofs.lemmas.List.{append-nil}
use Rattle.vx_check.proofs.NextSeries.{rows_as_before}

-- ---- the last event

last_event_stands : (y : Event) (ys : List Event) (e : Event) → last_event (y ∷ ys) ≡ Some e → slice_get (y ∷ ys) (length ys) ≡ Some e
last_event_stands y [] e h = h
last_event_stands y (z ∷ zs) e h = last_event_stands z zs e h

pub last_split : (n : ℕ) (events : List Event) (e : Event) → length events ≡ suc n → slice_get events n ≡ Some e → events ≡ take n events ++ e ∷ []
last_split n [] e l h = absurd (omega arith)
last_split zero (y ∷ []) e l h = let same : y ≡ e = cc h in ap (λ z. z ∷ []) same
last_split zero (y ∷ (z ∷ zs)) e l h = absurd (omega arith)
last_split (suc n) (y ∷ ys) e l h = ap (λ l. y ∷ l) (last_split n ys e (omega arith) h)

tick_of : (o : Option Event) (time : ℕ) → option_and_then tick_minute o ≡ Some time → o ≡ Some (event.Tick time)
tick_of None time h = absurd (cc h)
tick_of (Some (event.Tick t)) time h = let same : t ≡ time = cc h in ap (λ n. Some (event.Tick n)) same
tick_of (Some (event.Header day)) time h = absurd (cc h)
tick_of (Some (event.Expiry x)) time h = absurd (cc h)
tick_of (Some (event.Rate x rate)) time h = absurd (cc h)
tick_of (Some (event.Series s)) time h = absurd (cc h)
tick_of (Some (event.Quote t s bid ask)) time h = absurd (cc h)
tick_of (Some (event.Trade t s price)) time h = absurd (cc h)
tick_of (Some (event.Opening t)) time h = absurd (cc h)
tick_of (Some (event.End count)) time h = absurd (cc h)

tick_there : (events : List Event) (line time : ℕ) → length events ≡ line → last_event events ≡ Some (event.Tick time) → IsTickAt events line time
tick_there [] line time l h = absurd (cc h)
tick_there (y ∷ ys) line time l h =
    let place : length ys ≡ line - 1 = omega arith in
    (omega arith, subst (λ n. slice_get (y ∷ ys) n ≡ Some (event.Tick time)) place (last_event_stands y ys (event.Tick time) h))

-- a tick at a line that the events do not pass is the last of them
tick_is_last : (events : List Event) (line time : ℕ) → length events ≤ line → IsTickAt events line time
    → (length events ≡ line) × (events ≡ events_before events line ++ event.Tick time ∷ [])
tick_is_last events line time short h =
    let low : 1 ≤ line = h.0 in
    let within : line - 1 < length events = slice_get_within events (line - 1) (event.Tick time) h.1 in
    let l : length events ≡ line = omega arith in
    (l, last_split (line - 1) events (event.Tick time) (omega arith) h.1)

-- the book's last event is a tick where the events have one at the line
module _ (book : PlainBook) (events : List Event) (line : ℕ) (h : IsReached book events line) (time : ℕ) where
  pub tick_seen : (book.lines ≡ line) × (book.tick ≡ Some time) → IsTickAt events line time
  tick_seen s =
      let tick : last_event events ≡ Some (event.Tick time) = tick_of (last_event events) time (sym h.stands.tick ∙ s.1) in
      tick_there events line time (sym h.stands.lines ∙ s.0) tick

  pub tick_shown : IsTickAt events line time → (book.lines ≡ line) × (book.tick ≡ Some time)
  tick_shown at =
      let last = tick_is_last events line time h.within at in
      let tick : last_event events ≡ Some (event.Tick time) = ap last_event last.1 ∙ last_event-push (events_before events line) (event.Tick time) in
      (h.stands.lines ∙ last.0, h.stands.tick ∙ ap (option_and_then tick_minute) tick)

-- ---- a tick changes nothing of the rest

module _ (before : List Event) (time : ℕ) where
  abbrev after : List Event
  after = before ++ event.Tick time ∷ []

  expiries_before : declared_expiries after ≡ declared_expiries before
  expiries_before = next_declared before (event.Tick time) ∙ append-nil (declared_expiries before)

  rate_before : (x : Expiry) → standing_rate x after ≡ standing_rate x before
  rate_before x = next_rate x before (event.Tick time)

  rows_before : (x : Expiry) → listed_rows x after ≡ listed_rows x before
  rows_before x = rows_as_before x before (event.Tick time) (λ k side. (refl, refl))

module _ (book : PlainBook) (events : List Event) (line time : ℕ) (h : IsAtTick book events line time) where
  abbrev before : List Event
  before = events_before events line

  split : events ≡ before ++ event.Tick time ∷ []
  split = (tick_is_last events line time h.reached.within h.is_tick).1

  pub expiries_are : book.expiries.items ≡ declared_expiries before
  expiries_are = h.reached.stands.expiries ∙ ap declared_expiries split ∙ expiries_before before time

  pub declared_is : (x : Expiry) → is_kept x book ≡ is_declared x before
  declared_is x = ap (list_any (is_same_expiry x)) expiries_are

  pub rate_is : (x : Expiry) → kept_rate x book ≡ standing_rate x before
  rate_is x = h.reached.stands.rate x ∙ ap (standing_rate x) split ∙ rate_before before time x

  pub rows_are : (x : Expiry) → kept_rows x book ≡ listed_rows x before
  rows_are x = h.reached.stands.rows x ∙ ap (listed_rows x) split ∙ rows_before before time x

  pub kept_rows_rise : (x : Expiry) → StrikesRise (kept_rows x book)
  kept_rows_rise x = subst StrikesRise (sym (rows_are x)) (listed_rows_rise x before).0

  pub facts_rise : (facts : TermFacts) (day : DayNo) (x : Expiry) → facts ≡ term_facts before (moment_of day time) x → StrikesRise facts.rows
  facts_rise facts day x is = subst (λ (f : TermFacts). StrikesRise f.rows) (sym is) (listed_rows_rise x before).0

  -- a term meets a test at the tick where it meets it over these facts
  module _ (version : ℕ) (term : CertTerm) (test : Test) where
    abbrev MeetsOn : DayNo → Type 0
    MeetsOn day = TermMeets (scale_of version) (term_facts before (moment_of day time) term.expiry) term test

    pub meets_at : (day : DayNo) → book.day ≡ Some day → (b : Bool) → (IsTrue b ↔ MeetsOn day) → (IsTrue b ↔ TermMeetsAt events version line time term test)
    meets_at day is b both =
        let stands : trade_date events ≡ Some day = sym h.reached.stands.day ∙ is in (
          λ t. record { is_tick = h.is_tick; day = day; day_is = stands; meets = both.0 t },
          λ (m : TermMeetsAt events version line time term test). both.1 (subst MeetsOn (same_Some m.day day (sym m.day_is ∙ stands)) m.meets),
        )

    pub no_day : book.day ≡ None → TermMeetsAt events version line time term test → ⊥
    no_day is m = let e : None ≡ Some m.day = sym is ∙ h.reached.stands.day ∙ m.day_is in cc e

  -- and the two terms are the picked ones where the book's expiries say so
  module _ (days window : ℕ) (near next : Expiry) where
    abbrev ArePickedOn : DayNo → Type 0
    ArePickedOn day = IsNearTerm day days window book.expiries.items near × IsNextTerm day days window book.expiries.items next

    abbrev ArePickedBefore : DayNo → Type 0
    ArePickedBefore day = IsNearTerm day days window (declared_expiries before) near × IsNextTerm day days window (declared_expiries before) next

    pub picked_at : (day : DayNo) → book.day ≡ Some day → (b : Bool) → (IsTrue b ↔ ArePickedOn day)
        → (IsTrue b ↔ ArePickedTerms events line days window near next)
    picked_at day is b both =
        let stands : trade_date events ≡ Some day = sym h.reached.stands.day ∙ is in
        let F : List Expiry → Type 0 = λ xs. IsNearTerm day days window xs near × IsNextTerm day days window xs next in (
          λ t. let picked = subst F expiries_are (both.0 t) in record { day = day; day_is = stands; is_near = picked.0; is_next = picked.1 },
          λ (m : ArePickedTerms events line days window near next).
              both.1 (subst F (sym expiries_are) (subst ArePickedBefore (same_Some m.day day (sym m.day_is ∙ stands)) (m.is_near, m.is_next))),
        )

    pub none_picked : book.day ≡ None → ArePickedTerms events line days window near next → ⊥
    none_picked is m = let e : None ≡ Some m.day = sym is ∙ h.reached.stands.day ∙ m.day_is in cc e
