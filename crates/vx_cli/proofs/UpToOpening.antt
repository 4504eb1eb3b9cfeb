-- What a feed shows at the opening, it shows after its events up to there.
use Rattle.std.proofs.Common.{◌≡◌, ◌∙◌, sym, ap, subst, refl, ℕ, ℤ, suc, zero, ◌-◌, true, false, cond, Bool, List, [], ◌∷◌, ◌++◌, length, map, take, Option, Some, None, Result, Ok, Err, arith}
use Rattle.std.specs.Prelude.{◌==◌, IsTrue, is_some, slice_get, if◌then◌else◌}
use Rattle.std.specs.List.{list_all, list_any}
use Rattle.std.specs.Option.{option_and_then}
use Rattle.vx_lines.specs.TextLines as lines
use Rattle.vx_clock.specs.declared.days.DayNo.{DayNo}
use Rattle.vx_clock.specs.declared.limits.TheConstants.{INDEX_DAYS, INDEX_WINDOW}
use Rattle.vx_clock.specs.declared.terms.Expiry.{Expiry}
use Rattle.vx_fields.specs.Lines.{fields_of_line, is_plain}
use Rattle.vx_feed.specs.declared.events.Event.{Event}
use Rattle.vx_feed.specs.declared.events.Event.TheVariants as event
use Rattle.vx_feed.specs.declared.faults.FeedFault.{FeedFault}
use Rattle.vx_feed.specs.declared.faults.FeedFault.TheVariants as fault
use Rattle.vx_feed.specs.declared.limits.TheConstants.{LINE_LEN_MAX}
use Rattle.vx_feed.specs.Feed.{BadCause, Reading, event_in_order, event_of_line, event_unless, reading_after, reading_at_end, reading_from, reading_of, stopped_at, with_cause, missing_end}
use Rattle.vx_feed.specs.Form.{event_of_fields}
use Rattle.vx_feed.specs.Listed.{is_declared, listed_strikes, row_of, standing_price, trade_date}
use Rattle.vx_feed.specs.Opening.{opening_line, opening_time, traded_price}
use Rattle.vx_feed.specs.Order.{is_end, order_fault}
use Rattle.vx_feed.specs.Said.{first_said}
use Rattle.vx_feed.specs.Standing.{before_opening, since_listed, standing_rate, trade_of}
use Rattle.vx_cert.specs.declared.certificate.CertBody.{CertBody}
use Rattle.vx_cert.specs.declared.certificate.CertBody.TheVariants.{K0, Single, Index, Soq}
use Rattle.vx_cert.specs.declared.certificate.CertFigure.{CertFigure}
use Rattle.vx_cert.specs.declared.certificate.CertTerm.{CertTerm}
use Rattle.vx_cert.specs.declared.certificate.Certificate.{Certificate}
use Rattle.vx_formula.specs.declared.limits.TheConstants.{THIRTY_DAYS}
use Rattle.vx_formula.specs.Refusal.{OpeningFacts, OpeningRefuses, IsOpeningBasis}
use Rattle.vx_formula.specs.Term.{TermFacts}
use Rattle.vx_claims.specs.declared.acceptance.Test.{Test}
use Rattle.vx_claims.specs.declared.acceptance.Test.TheVariants as test
use Rattle.vx_claims.specs.declared.limits.TheConstants.{SCALE}
use Rattle.vx_claims.specs.Accepts.{BodyMeets, IsOpeningExpiry, OpeningTermMeets, SoqMeets, scale_of}
use Rattle.vx_claims.specs.Answers.{PublishesOpening, StatesOpening}
use Rattle.vx_claims.specs.Seen.{IsOpeningAt, opening_expiry, opening_facts, opening_term_facts}
use Rattle.vx_claims.specs.TermTests.{TermMeets}

-- ---- the header is the first event

-- a header and other events, or none at all
abbrev pub BeginsWithHeader : List Event → Type 0
BeginsWithHeader [] = Unit {0}
BeginsWithHeader (event.Header day ∷ events) = Unit {0}
BeginsWithHeader (e ∷ events) = ⊥

whether_ended : (c : Bool) (day : DayNo) (before : List Event)
    → BeginsWithHeader (cond c (record { events = event.Header day ∷ before; bad = None }) (stopped_at (event.Header day ∷ before) missing_end)).events
whether_ended true day before = tt
whether_ended false day before = tt

at_end_begins : (ending : lines.Ending) (day : DayNo) (before : List Event) → BeginsWithHeader (reading_at_end (event.Header day ∷ before) ending).events
at_end_begins lines.at_end day before = whether_ended (list_any is_end (event.Header day ∷ before)) day before
at_end_begins lines.too_long day before = tt
at_end_begins lines.no_eol day before = tt
at_end_begins lines.too_many day before = tt

after_begins : (more : List Event → Reading) (day : DayNo) (before : List Event) (r : Result Event BadCause)
    → ((e : Event) → BeginsWithHeader (more (event.Header day ∷ (before ++ e ∷ []))).events)
    → BeginsWithHeader (reading_after more (event.Header day ∷ before) r).events
after_begins more day before (Ok e) h = h e
after_begins more day before (Err cause) h = tt

-- behind a header all readings begin with it
from_begins : (rest : List (List ℕ)) (ending : lines.Ending) (day : DayNo) (before : List Event)
    → BeginsWithHeader (reading_from (event.Header day ∷ before) rest ending).events
from_begins [] ending day before = at_end_begins ending day before
from_begins (line ∷ rest) ending day before =
    after_begins (λ events. reading_from events rest ending) day before (with_cause (event_of_line (event.Header day ∷ before) line))
    (λ e. from_begins rest ending day (before ++ e ∷ []))

-- what the first line is read as: a header, or no event
abbrev IsFirst : Result Event FeedFault → Type 0
IsFirst (Ok (event.Header day)) = Unit {0}
IsFirst (Ok e) = ⊥
IsFirst (Err f) = Unit {0}

unless_header : (o : Option FeedFault) (day : DayNo) → IsFirst (event_unless o (event.Header day))
unless_header None day = tt
unless_header (Some f) day = tt

in_order_first : (r : Result Event FeedFault) → IsFirst (event_in_order [] r)
in_order_first (Err f) = tt
in_order_first (Ok (event.Header day)) = unless_header (order_fault [] (event.Header day)) day
in_order_first (Ok (event.Expiry x)) = tt
in_order_first (Ok (event.Rate x rate)) = tt
in_order_first (Ok (event.Series s)) = tt
in_order_first (Ok (event.Quote time s bid ask)) = tt
in_order_first (Ok (event.Trade time s price)) = tt
in_order_first (Ok (event.Tick time)) = tt
in_order_first (Ok (event.Opening time)) = tt
in_order_first (Ok (event.End count)) = tt

tested_first : (empty plain : Bool) (r : Result Event FeedFault) → IsFirst r → IsFirst (cond empty (Err fault.Kind) (cond plain r (Err fault.Byte)))
tested_first true plain r h = tt
tested_first false true r h = h
tested_first false false r h = tt

line_first : (line : List ℕ) → IsFirst (event_of_line [] line)
line_first line =
    tested_first (length line == 0) (list_all is_plain line) (event_in_order [] (event_of_fields (fields_of_line line)))
    (in_order_first (event_of_fields (fields_of_line line)))

first_begins : (rest : List (List ℕ)) (ending : lines.Ending) (r : Result Event FeedFault) → IsFirst r
    → BeginsWithHeader (reading_after (λ events. reading_from events rest ending) [] (with_cause r)).events
first_begins rest ending (Err f) h = tt
first_begins rest ending (Ok (event.Header day)) h = from_begins rest ending day []
first_begins rest ending (Ok (event.Expiry x)) h = absurd h
first_begins rest ending (Ok (event.Rate x rate)) h = absurd h
first_begins rest ending (Ok (event.Series s)) h = absurd h
first_begins rest ending (Ok (event.Quote time s bid ask)) h = absurd h
first_begins rest ending (Ok (event.Trade time s price)) h = absurd h
first_begins rest ending (Ok (event.Tick time)) h = absurd h
first_begins rest ending (Ok (event.Opening time)) h = absurd h
first_begins rest ending (Ok (event.End count)) h = absurd h

none_begins : (ending : lines.Ending) → BeginsWithHeader (reading_at_end [] ending).events
none_begins lines.at_end = tt
none_begins lines.too_long = tt
none_begins lines.no_eol = tt
none_begins lines.too_many = tt

lines_begin : (rest : List (List ℕ)) (ending : lines.Ending) → BeginsWithHeader (reading_from [] rest ending).events
lines_begin [] ending = none_begins ending
lines_begin (line ∷ rest) ending = first_begins rest ending (event_of_line [] line) (line_first line)

-- the events of a feed begin with its header
pub feed_begins : (feed : List ℕ) → BeginsWithHeader (reading_of feed).events
feed_begins feed = lines_begin (lines.lines_of LINE_LEN_MAX feed).lines (lines.lines_of LINE_LEN_MAX feed).ending

-- ---- the events up to the opening

-- those before the opening, and one more: the opening, where one was taken
abbrev up_to_opening : List Event → List Event
up_to_opening events = take (suc (length (before_opening events))) events

same_before_opening : (events : List Event) → before_opening (up_to_opening events) ≡ before_opening events
same_before_opening [] = refl
same_before_opening (event.Opening time ∷ events) = refl
same_before_opening (event.Header day ∷ events) = ap (λ es. event.Header day ∷ es) (same_before_opening events)
same_before_opening (event.Expiry x ∷ events) = ap (λ es. event.Expiry x ∷ es) (same_before_opening events)
same_before_opening (event.Rate x rate ∷ events) = ap (λ es. event.Rate x rate ∷ es) (same_before_opening events)
same_before_opening (event.Series s ∷ events) = ap (λ es. event.Series s ∷ es) (same_before_opening events)
same_before_opening (event.Quote t s bid ask ∷ events) = ap (λ es. event.Quote t s bid ask ∷ es) (same_before_opening events)
same_before_opening (event.Trade t s price ∷ events) = ap (λ es. event.Trade t s price ∷ es) (same_before_opening events)
same_before_opening (event.Tick t ∷ events) = ap (λ es. event.Tick t ∷ es) (same_before_opening events)
same_before_opening (event.End count ∷ events) = ap (λ es. event.End count ∷ es) (same_before_opening events)

time_kept : (events : List Event) → opening_time (up_to_opening events) ≡ opening_time events
time_kept [] = refl
time_kept (event.Opening time ∷ events) = refl
time_kept (event.Header day ∷ events) = time_kept events
time_kept (event.Expiry x ∷ events) = time_kept events
time_kept (event.Rate x rate ∷ events) = time_kept events
time_kept (event.Series s ∷ events) = time_kept events
time_kept (event.Quote t s bid ask ∷ events) = time_kept events
time_kept (event.Trade t s price ∷ events) = time_kept events
time_kept (event.Tick t ∷ events) = time_kept events
time_kept (event.End count ∷ events) = time_kept events

date_kept : (events : List Event) → BeginsWithHeader events → trade_date (up_to_opening events) ≡ trade_date events
date_kept [] h = refl
date_kept (event.Header day ∷ events) h = refl
date_kept (event.Expiry x ∷ events) h = absurd h
date_kept (event.Rate x rate ∷ events) h = absurd h
date_kept (event.Series s ∷ events) h = absurd h
date_kept (event.Quote t s bid ask ∷ events) h = absurd h
date_kept (event.Trade t s price ∷ events) h = absurd h
date_kept (event.Tick t ∷ events) h = absurd h
date_kept (event.Opening t ∷ events) h = absurd h
date_kept (event.End count ∷ events) h = absurd h

got_kept : (events : List Event) (n : ℕ) → slice_get (take (suc n) events) n ≡ slice_get events n
got_kept [] n = refl
got_kept (e ∷ events) zero = refl
got_kept (e ∷ events) (suc n) = got_kept events n

-- ---- what is shown at the opening

-- the facts of its term, by the events before it
abbrev facts_before : List Event → DayNo → TermFacts
facts_before before day = record {
  rows = map (row_of (λ s. traded_price (first_said (trade_of s) (since_listed s before)) (standing_price before s)) (opening_expiry day))
      (listed_strikes (opening_expiry day) before);
  rate = standing_rate (opening_expiry day) before;
  minutes = THIRTY_DAYS;
}

abbrev shown_by : Option ℕ → List Event → Option DayNo → OpeningFacts
shown_by time before date = record {
  is_taken = is_some time;
  term = option_and_then (λ day. if is_declared (opening_expiry day) before then Some (facts_before before day) else None) date;
}

module _ (events part : List Event) (same : before_opening part ≡ before_opening events) (times : opening_time part ≡ opening_time events)
    (dates : trade_date part ≡ trade_date events) where
  facts_same : opening_facts part ≡ opening_facts events
  facts_same =
      ap (λ t. shown_by t (before_opening part) (trade_date part)) times ∙ ap (λ b. shown_by (opening_time events) b (trade_date part)) same
      ∙ ap (λ d. shown_by (opening_time events) (before_opening events) d) dates

  term_facts_same : (day : DayNo) → opening_term_facts part day ≡ opening_term_facts events day
  term_facts_same day = ap (λ b. facts_before b day) same

  term_meets : (version : ℕ) (term : CertTerm) (t : Test) → OpeningTermMeets events version term t → OpeningTermMeets part version term t
  term_meets version term t h = record {
    day = h.day;
    day_is = dates ∙ h.day_is;
    meets = subst (λ (f : TermFacts). TermMeets (scale_of version) f term t) (sym (term_facts_same h.day)) h.meets;
  }

  expiry_is_opening : (x : Expiry) → IsOpeningExpiry events x → IsOpeningExpiry part x
  expiry_is_opening x h = record {
    day = h.day;
    day_is = dates ∙ h.day_is;
    expiry_is = h.expiry_is;
    declared = subst (λ (b : List Event). IsTrue (is_declared x b)) (sym same) h.declared;
  }

  soq_meets : (version line time : ℕ) (term : CertTerm) (figure : CertFigure) → IsOpeningAt part line time → (t : Test)
      → SoqMeets events version line time term figure t → SoqMeets part version line time term figure t
  soq_meets version line time term figure place test.Place h = place
  soq_meets version line time term figure place test.Terms h = expiry_is_opening term.expiry h
  soq_meets version line time term figure place test.Square h = h
  soq_meets version line time term figure place test.IndexEnds h = h
  soq_meets version line time term figure place test.Minutes h = term_meets version term test.Minutes h
  soq_meets version line time term figure place test.Rate h = term_meets version term test.Rate h
  soq_meets version line time term figure place test.TaylorTerms h = term_meets version term test.TaylorTerms h
  soq_meets version line time term figure place test.Exponential h = term_meets version term test.Exponential h
  soq_meets version line time term figure place test.ClosestPair h = term_meets version term test.ClosestPair h
  soq_meets version line time term figure place test.Forward h = term_meets version term test.Forward h
  soq_meets version line time term figure place test.Level h = term_meets version term test.Level h
  soq_meets version line time term figure place test.Excess h = term_meets version term test.Excess h
  soq_meets version line time term figure place test.Strip h = term_meets version term test.Strip h
  soq_meets version line time term figure place test.Contributions h = term_meets version term test.Contributions h
  soq_meets version line time term figure place test.Total h = term_meets version term test.Total h
  soq_meets version line time term figure place test.Variance h = term_meets version term test.Variance h

  body_meets : (version line time cents : ℕ) (lo hi : ℤ) (body : CertBody) → StatesOpening body cents lo hi → IsOpeningAt part line time → (t : Test)
      → BodyMeets INDEX_DAYS INDEX_WINDOW events version line time body t → BodyMeets INDEX_DAYS INDEX_WINDOW part version line time body t
  body_meets version line time cents lo hi (Soq term figure) states place t h = soq_meets version line time term figure place t h
  body_meets version line time cents lo hi (K0 x pair k0) states place t h = absurd states
  body_meets version line time cents lo hi (Single term figure) states place t h = absurd states
  body_meets version line time cents lo hi (Index days near next figure) states place t h = absurd states

  publishes_part : (line time cents : ℕ) (lo hi : ℤ) (c : Certificate) → IsOpeningAt part line time
      → PublishesOpening events line time cents lo hi c → PublishesOpening part line time cents lo hi c
  publishes_part line time cents lo hi c place h =
      let named : IsOpeningAt part c.line c.time =
      subst (λ (l : ℕ). IsOpeningAt part l c.time) (sym h.names_line.line_is) (subst (λ (t : ℕ). IsOpeningAt part line t) (sym h.names_line.time_is) place) in
      record {
        is_opening = place;
        term = h.term;
        is_basis = subst (λ (f : OpeningFacts). IsOpeningBasis f h.term) (sym facts_same) h.is_basis;
        is_figure = h.is_figure;
        none_refuses = λ reason. subst (λ (f : OpeningFacts). ¬ OpeningRefuses SCALE f reason) (sym facts_same) (h.none_refuses reason);
        names_line = h.names_line;
        states = h.states;
        accepted = record {
          version = h.accepted.version;
          meets_all = λ t. body_meets c.v c.line c.time cents lo hi c.body h.states named t (h.accepted.meets_all t);
        };
      }

-- what is published at the opening of events that begin with a header is published after those up to it
pub publishes_up_to : (events : List Event) (time cents : ℕ) (lo hi : ℤ) (c : Certificate) → BeginsWithHeader events
    → PublishesOpening events (opening_line events) time cents lo hi c
    → PublishesOpening (take (opening_line events) events) (opening_line events) time cents lo hi c
publishes_up_to events time cents lo hi c begins h =
    let n : ℕ = length (before_opening events) in
    let one_more : suc n ≡ opening_line events = omega arith in
    let less_one : opening_line events - 1 ≡ n = omega arith in
    let part = take (opening_line events) events in
    let parts : up_to_opening events ≡ part = ap (λ (k : ℕ). take k events) one_more in
    let at : slice_get part (opening_line events - 1) ≡ slice_get events (opening_line events - 1) =
    subst (λ (k : ℕ). slice_get part k ≡ slice_get events k) (sym less_one)
    (subst (λ (es : List Event). slice_get es n ≡ slice_get events n) parts (got_kept events n)) in
    publishes_part events part
    (subst (λ (es : List Event). before_opening es ≡ before_opening events) parts (same_before_opening events))
    (subst (λ (es : List Event). opening_time es ≡ opening_time events) parts (time_kept events))
    (subst (λ (es : List Event). trade_date es ≡ trade_date events) parts (date_kept events begins))
    (opening_line events) time cents lo hi c (h.is_opening.0, at ∙ h.is_opening.1) h
