-- Nothing that comes after the opening changes its answer.
use Rattle.std.proofs.Common.{◌≡◌, ◌∙◌, sym, ap, subst, refl, ℕ, ◌+◌, false, cond, List, [], ◌∷◌, ◌++◌, map, length, Option, Some, None}
use Rattle.std.specs.Prelude.{IsSome, is_some}
use Rattle.std.specs.Option.{option_and_then, option_or}
use Rattle.vx_clock.specs.declared.days.DayNo.{DayNo}
use Rattle.vx_clock.specs.declared.terms.Expiry.{Expiry}
use Rattle.vx_symbol.specs.declared.symbols.Symbol.{Symbol}
use Rattle.vx_symbol.specs.declared.rows.Price.{Price}
use Rattle.vx_symbol.specs.declared.rows.StrikeRow.{StrikeRow}
use Rattle.vx_feed.specs.declared.events.Event.{Event}
use Rattle.vx_feed.specs.declared.events.Event.TheVariants as event
use Rattle.vx_feed.specs.Said.{first_said}
use Rattle.vx_feed.specs.Standing.{before_opening, since_listed, standing_rate, trade_of}
use Rattle.vx_feed.specs.Listed.{header_day, is_declared, listed_strikes, row_of, standing_price, trade_date}
use Rattle.vx_feed.specs.Opening.{opening_line, opening_minute, opening_time, traded_price}
use Rattle.vx_feed.specs.Order.{AreLawful, IsLawfulNext}
use Rattle.vx_formula.specs.declared.limits.TheConstants.{THIRTY_DAYS}
use Rattle.vx_formula.specs.Term.{TermFacts}
use Rattle.vx_claims.specs.Seen.{opening_expiry, opening_term_of, opening_facts}
use Rattle.vx_soq.specs.declared.answer.OpeningAnswer.{OpeningAnswer}
use Rattle.vx_soq.specs.declared.answer.OpeningAnswer.TheVariants.{Published, Refused, UndecidedForward, UndecidedCents}
use Rattle.vx_soq.specs.declared.answer.SoqReason.TheVariants.{NoOpening, NoTerm, Term, NegativeVariance}
use Rattle.vx_soq.specs.Figures.{IsAnswerByTerm}
use Rattle.vx_soq.specs.Openings.{HasNoTerm, IsAnswerOfTerm}
use Rattle.vx_soq.specs.Laws.{OpeningAnswerStays}

-- the first of two answers stays where the second does
or_stays : {A : Type 0} → (a b c : Option A) → (IsSome b → c ≡ b) → IsSome (option_or a b) → option_or a c ≡ option_or a b
or_stays None b c more h = more h
or_stays (Some v) b c more h = refl

-- what is said first stays so
first_said_stays : {X A : Type 0} → (says : X → Option A) (xs ys : List X) → IsSome (first_said says xs)
    → first_said says (xs ++ ys) ≡ first_said says xs
first_said_stays says [] ys h = absurd cc
first_said_stays says (x ∷ xs) ys h = or_stays (says x) (first_said says xs) (first_said says (xs ++ ys)) (first_said_stays says xs ys) h

-- the events before the opening stay the same
before_stays : (events more : List Event) → IsSome (opening_time events) → before_opening (events ++ more) ≡ before_opening events
before_stays [] more h = absurd cc
before_stays (event.Opening t ∷ events) more h = refl
before_stays (event.Header day ∷ events) more h = ap (λ l. event.Header day ∷ l) (before_stays events more h)
before_stays (event.Expiry x ∷ events) more h = ap (λ l. event.Expiry x ∷ l) (before_stays events more h)
before_stays (event.Rate x rate ∷ events) more h = ap (λ l. event.Rate x rate ∷ l) (before_stays events more h)
before_stays (event.Series s ∷ events) more h = ap (λ l. event.Series s ∷ l) (before_stays events more h)
before_stays (event.Quote t s bid ask ∷ events) more h = ap (λ l. event.Quote t s bid ask ∷ l) (before_stays events more h)
before_stays (event.Trade t s price ∷ events) more h = ap (λ l. event.Trade t s price ∷ l) (before_stays events more h)
before_stays (event.Tick t ∷ events) more h = ap (λ l. event.Tick t ∷ l) (before_stays events more h)
before_stays (event.End count ∷ events) more h = ap (λ l. event.End count ∷ l) (before_stays events more h)

-- lawful events begin with a header
begins_with_header : (e : Event) → IsLawfulNext [] e → IsSome (header_day e)
begins_with_header (event.Header day) h = refl
begins_with_header (event.Opening t) h = let bad = h.in_order in absurd cc
begins_with_header (event.Expiry x) h = let bad = h.in_order in absurd cc
begins_with_header (event.Rate x rate) h = let bad = h.in_order in absurd cc
begins_with_header (event.Series s) h = let bad = h.in_order in absurd cc
begins_with_header (event.Quote t s bid ask) h = let bad = h.in_order in absurd cc
begins_with_header (event.Trade t s price) h = let bad = h.in_order in absurd cc
begins_with_header (event.Tick t) h = let bad = h.in_order in absurd cc
begins_with_header (event.End count) h = let bad = h.in_order in absurd cc

first_of_some : {A : Type 0} → (a b : Option A) → IsSome a → IsSome (option_or a b)
first_of_some None b h = absurd cc
first_of_some (Some v) b h = refl

date_stands : (events more : List Event) → AreLawful (events ++ more) → IsSome (opening_time events) → IsSome (trade_date events)
date_stands [] more lawful h = absurd cc
date_stands (e ∷ events) more lawful h = first_of_some (header_day e) (trade_date events) (begins_with_header e lawful.0)

-- what the opening shows of its term, by the events before it
abbrev price_by : List Event → Symbol → Price
price_by before s = traded_price (first_said (trade_of s) (since_listed s before)) (standing_price before s)

abbrev rows_by : Expiry → List Event → List StrikeRow
rows_by x before = map (row_of (price_by before) x) (listed_strikes x before)

abbrev facts_by : Expiry → List Event → TermFacts
facts_by x before = record { rows = rows_by x before; rate = standing_rate x before; minutes = THIRTY_DAYS }

abbrev term_by : DayNo → List Event → Option TermFacts
term_by day before = cond (is_declared (opening_expiry day) before) (Some (facts_by (opening_expiry day) before)) None

and_then_same : (day : Option DayNo) (f g : DayNo → Option TermFacts) → ((d : DayNo) → f d ≡ g d)
    → option_and_then f day ≡ option_and_then g day
and_then_same None f g same = refl
and_then_same (Some d) f g same = same d

module _ (events more : List Event) (lawful : AreLawful (events ++ more)) (taken : IsSome (opening_time events)) where
  before_same : before_opening (events ++ more) ≡ before_opening events
  before_same = before_stays events more taken

  time_same : opening_time (events ++ more) ≡ opening_time events
  time_same = first_said_stays opening_minute events more taken

  day_same : trade_date (events ++ more) ≡ trade_date events
  day_same = first_said_stays header_day events more (date_stands events more lawful taken)

  term_same : (day : DayNo) → opening_term_of (events ++ more) day ≡ opening_term_of events day
  term_same day = ap (term_by day) before_same

  shown_same : (opening_facts (events ++ more)).term ≡ (opening_facts events).term
  shown_same =
      ap (option_and_then (opening_term_of (events ++ more))) day_same
      ∙ and_then_same (trade_date events) (opening_term_of (events ++ more)) (opening_term_of events) term_same

  line_same : opening_line events ≡ opening_line (events ++ more)
  line_same = ap (λ (l : List Event). length l + 1) (sym before_same)

  no_term_stays : HasNoTerm events → HasNoTerm (events ++ more)
  no_term_stays h = record { is_taken = subst IsSome (sym time_same) h.is_taken; no_term = shown_same ∙ h.no_term }

  term_answer_stays : (answer : OpeningAnswer) → IsAnswerOfTerm events answer → IsAnswerOfTerm (events ++ more) answer
  term_answer_stays answer h = record {
    day = h.day;
    time = h.time;
    is_taken = record { day_is = day_same ∙ (h.is_taken).day_is; time_is = time_same ∙ (h.is_taken).time_is };
    facts = h.facts;
    facts_are = term_same h.day ∙ h.facts_are;
    term_answer = h.term_answer;
    is_term_answer = h.is_term_answer;
    joined = subst (λ (line : ℕ). IsAnswerByTerm line h.time h.term_answer answer) line_same h.joined;
  }

-- the answer stays
pub opening_answer_stays : OpeningAnswerStays
opening_answer_stays events more (Refused NoOpening) lawful taken h =
    let no : is_some (opening_time events) ≡ false = ap is_some h in absurd cc
opening_answer_stays events more (Refused NoTerm) lawful taken h = no_term_stays events more lawful taken h
opening_answer_stays events more (Refused (Term reason)) lawful taken h =
    term_answer_stays events more lawful taken (Refused (Term reason)) h
opening_answer_stays events more (Refused NegativeVariance) lawful taken h =
    term_answer_stays events more lawful taken (Refused NegativeVariance) h
opening_answer_stays events more (Published figure) lawful taken h =
    term_answer_stays events more lawful taken (Published figure) h
opening_answer_stays events more (UndecidedForward strike lo hi) lawful taken h =
    term_answer_stays events more lawful taken (UndecidedForward strike lo hi) h
opening_answer_stays events more (UndecidedCents lo hi) lawful taken h =
    term_answer_stays events more lawful taken (UndecidedCents lo hi) h
