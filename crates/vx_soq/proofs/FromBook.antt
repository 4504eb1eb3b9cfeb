-- From what the book shows to the answer to the opening.
use Rattle.std.proofs.Common.{◌≡◌, ◌∙◌, sym, ap, subst, refl, ℕ, ℤ, ◌≤◌, true, false, cond, List, [], ◌∷◌, ◌++◌, length, take, Option, Some, None, arith}
use Rattle.std.specs.Prelude.{MatchOption, slice_get, option_map}
use Rattle.std.specs.List.{list_any, position}
use Rattle.std.specs.Option.{option_and_then}
use Rattle.std.proofs.lemmas.Bool.{cond-true, cond-false}
use Rattle.std.proofs.lemmas.Grind.{common_steps}
use Rattle.std.proofs.lemmas.List.Elements.{filter_map-append}
use Rattle.std.proofs.lemmas.List.Folds.{list_any-from_Any}
use Rattle.std.proofs.lemmas.Option.{get_or_from_slice_get, same_Some, slice_get_within}
use Rattle.vx_clock.specs.declared.days.DayNo.{DayNo}
use Rattle.vx_clock.specs.declared.terms.Expiry.{Expiry}
use Rattle.vx_symbol.specs.declared.rows.StrikeRow.{StrikeRow}
use Rattle.vx_symbol.specs.declared.rows.TermView.{TermView}
use Rattle.vx_feed.specs.declared.events.Event.{Event}
use Rattle.vx_feed.specs.Same.{is_same_expiry}
use Rattle.vx_feed.specs.Standing.{before_opening, is_opening}
use Rattle.vx_feed.specs.Listed.{declared_expiries, declared_expiry, is_declared, trade_date}
use Rattle.vx_feed.specs.Opening.{opening_expiries, opening_line, opening_rate, opening_rows, opening_time}
use Rattle.vx_book.specs.declared.opening.Opened.{Opened}
use Rattle.vx_book.specs.Opening.{opened_at}
use Rattle.vx_book.specs.StandsFor.{IsTermAtOpening}
use Rattle.vx_book.proofs.Places.{get_before, position_says}
use Rattle.vx_book.proofs.Terms.{expiry_itself}
use Rattle.vx_formula.specs.declared.limits.TheConstants.{THIRTY_DAYS}
use Rattle.vx_formula.specs.Term.{TermFacts}
use Rattle.vx_claims.specs.declared.limits.TheConstants.{SCALE}
use Rattle.vx_claims.specs.Seen.{opening_expiry, opening_term_facts, opening_term_of, opening_facts}
use Rattle.vx_term.specs.declared.answer.TermAnswer.{TermAnswer}
use Rattle.vx_term.specs.declared.answer.TermAnswer.TheVariants as term
use Rattle.vx_term.specs.Answer.{IsTermAnswer, facts_of_view}
use Rattle.vx_soq.specs.declared.answer.OpeningAnswer.{OpeningAnswer}
use Rattle.vx_soq.specs.declared.answer.OpeningAnswer.TheVariants.{Published, Refused, UndecidedForward, UndecidedCents}
use Rattle.vx_soq.specs.declared.answer.SoqReason.TheVariants.{NoOpening, NoTerm, Term, NegativeVariance}
use Rattle.vx_soq.specs.Figures.{IsAnswerByTerm}
use Rattle.vx_soq.specs.Openings.{IsAnswerOfTerm, IsOpeningAnswer}
use Rattle.vx_soq.specs.TermPlace.{FindsTerm, IsTermPlace}

-- ---- where and when the opening was taken

abbrev opened_when : ℕ → ℕ → ℕ → Opened
opened_when line time expiries = record { line = line; time = time; expiries = expiries }

-- the opening is that of the events
pub record IsOpened (events : List Event) (opened : Opened) : Type 0 where
  pub time_is : opening_time events ≡ Some opened.time
  pub line_is : opened.line ≡ opening_line events
  pub expiries_are : opened.expiries ≡ length (opening_expiries events)

-- what the book tells of the opening is that of the events
pub opened_parts : (events : List Event) (opened : Opened) → opened_at events ≡ Some opened → IsOpened events opened
opened_parts events opened h = from_time (opening_time events) refl h
  where
    from_time : (o : Option ℕ) → opening_time events ≡ o
        → option_map (λ t. opened_when (opening_line events) t (length (opening_expiries events))) o ≡ Some opened
        → IsOpened events opened
    from_time None is h = absurd cc
    from_time (Some t) is h =
        let same : opened_when (opening_line events) t (length (opening_expiries events)) ≡ opened = same_Some _ opened h in
        record {
          time_is = is ∙ ap (λ (o : Opened). Some o.time) same;
          line_is = sym (ap (λ (o : Opened). o.line) same);
          expiries_are = sym (ap (λ (o : Opened). o.expiries) same);
        }

-- where the book tells of none, none was taken
pub unopened : (events : List Event) → opened_at events ≡ None → opening_time events ≡ None
unopened events h = from_time (opening_time events) h
  where
    from_time : (o : Option ℕ)
        → option_map (λ t. opened_when (opening_line events) t (length (opening_expiries events))) o ≡ None → o ≡ None
    from_time None h = refl
    from_time (Some t) h = absurd cc

-- ---- the expiries declared before it

-- some events follow those before the opening
events_split : (events : List Event) → (rest : List Event) × (events ≡ before_opening events ++ rest)
events_split [] = ([], refl)
events_split (e ∷ events) =
    elim (is_opening e) as (λ b. (rest : List Event) × (e ∷ events ≡ cond {A = List Event} b [] (e ∷ before_opening events) ++ rest)) [
      | true ↦ (e ∷ events, refl)
      | false ↦ let more = events_split events in (more.0, ap (λ l. e ∷ l) more.1)
    ]

-- the expiries declared before the opening come first
declared_split : (events : List Event) → (rest : List Expiry) × (declared_expiries events ≡ opening_expiries events ++ rest)
declared_split events =
    let parts = events_split events in
    (declared_expiries parts.0, ap declared_expiries parts.1 ∙ filter_map-append declared_expiry (before_opening events) parts.0)

-- they are so many of the first
pub declared_before : (events : List Event) (n : ℕ) (declared : List Expiry)
    → n ≡ length (opening_expiries events) → declared ≡ declared_expiries events
    → (n ≤ length declared) × (take n declared ≡ opening_expiries events)
declared_before events n declared count are =
    let parts = declared_split events in
    let split : declared ≡ opening_expiries events ++ parts.0 = are ∙ parts.1 in
    first_of_two n declared (opening_expiries events) parts.0 count split
  where
    first_of_two : (n : ℕ) (xs ys zs : List Expiry) → n ≡ length ys → xs ≡ ys ++ zs → (n ≤ length xs) × (take n xs ≡ ys)
    first_of_two n xs ys zs count split = (grind (arith, common_steps), grind (arith, common_steps))

-- ---- the term's place

-- the opening shows no term where no expiry declared before it is the term's
unlisted : (events : List Event) (day : DayNo) → trade_date events ≡ Some day
    → is_declared (opening_expiry day) (before_opening events) ≡ false → (opening_facts events).term ≡ None
unlisted events day day_is none =
    ap (option_and_then (opening_term_of events)) day_is
    ∙ cond-false (is_declared (opening_expiry day) (before_opening events)) (Some (opening_term_facts events day)) None none

-- the first of them that is the term's is its place
pub finds : (events : List Event) (day : DayNo) → trade_date events ≡ Some day → (found : Option ℕ)
    → found ≡ position (is_same_expiry (opening_expiry day)) (opening_expiries events) → FindsTerm events found
finds events day day_is found is =
    let x = opening_expiry day in
    let before = opening_expiries events in
    let Says : Option ℕ → Type 0 =
    λ o. MatchOption o (list_any (is_same_expiry x) before ≡ false) (λ i. slice_get before i ≡ Some x) in
    from_said found (subst Says (sym is) (position_says x before))
  where
    from_said : (o : Option ℕ)
        → MatchOption o (list_any (is_same_expiry (opening_expiry day)) (opening_expiries events) ≡ false)
        (λ i. slice_get (opening_expiries events) i ≡ Some (opening_expiry day))
        → FindsTerm events o
    from_said None none = unlisted events day day_is none
    from_said (Some i) at =
        let x = opening_expiry day in
        let before = opening_expiries events in
        let parts = declared_split events in
        record {
          day = day;
          day_is = day_is;
          stands = ap (λ (l : List Expiry). slice_get l i) parts.1 ∙ get_before before parts.0 i x at;
          declared =
              list_any-from_Any (is_same_expiry x) before
              (i, x, slice_get_within before i x at, get_or_from_slice_get before i x x at, expiry_itself x);
        }

-- ---- the answer

abbrev known_of : List StrikeRow → Option ℤ → TermFacts
known_of rows rate = record { rows = rows; rate = rate; minutes = THIRTY_DAYS }

-- the answer of the term's is none of the two that come without it
of_term : (events : List Event) (answer : OpeningAnswer) → IsAnswerOfTerm events answer → IsOpeningAnswer events answer
of_term events (Published figure) h = h
of_term events (UndecidedForward strike lo hi) h = h
of_term events (UndecidedCents lo hi) h = h
of_term events (Refused (Term reason)) h = h
of_term events (Refused NegativeVariance) h = h
of_term events (Refused NoOpening) h = absurd (never (opening_line events) h.time h.term_answer h.joined)
  where
    never : (line time : ℕ) (a : TermAnswer SCALE) → IsAnswerByTerm line time a (Refused NoOpening) → ⊥
    never line time (term.Run run) h = h
    never line time (term.Refused refusal) h = absurd cc
    never line time (term.UndecidedForward strike lo hi) h = absurd cc
of_term events (Refused NoTerm) h = absurd (never (opening_line events) h.time h.term_answer h.joined)
  where
    never : (line time : ℕ) (a : TermAnswer SCALE) → IsAnswerByTerm line time a (Refused NoTerm) → ⊥
    never line time (term.Run run) h = h
    never line time (term.Refused refusal) h = absurd cc
    never line time (term.UndecidedForward strike lo hi) h = absurd cc

-- the answer from the term that the book shows at the place of the opening's term
pub answered : (events : List Event) (opened : Opened) (place : ℕ) (view : TermView) (said : TermAnswer SCALE) (answer : OpeningAnswer)
    → opened_at events ≡ Some opened → IsTermPlace events place → slice_get (declared_expiries events) place ≡ Some view.expiry
    → IsTermAtOpening events view → IsTermAnswer SCALE view.expiry (facts_of_view view THIRTY_DAYS) said
    → IsAnswerByTerm opened.line opened.time said answer → IsOpeningAnswer events answer
answered events opened place view said answer is_opened at here shows says joined =
    let when = opened_parts events opened is_opened in
    let day = at.day in
    let same : view.expiry ≡ opening_expiry day = same_Some view.expiry (opening_expiry day) (sym here ∙ at.stands) in
    let rows : view.rows.now ≡ opening_rows (opening_expiry day) events = shows.rows ∙ ap (λ (x : Expiry). opening_rows x events) same in
    let rate : view.rate ≡ opening_rate (opening_expiry day) events = shows.rate ∙ ap (λ (x : Expiry). opening_rate x events) same in
    let facts : facts_of_view view THIRTY_DAYS ≡ opening_term_facts events day =
    ap (λ (r : List StrikeRow). known_of r view.rate) rows ∙ ap (known_of (opening_rows (opening_expiry day) events)) rate in
    let of_expiry : IsTermAnswer SCALE (opening_expiry day) (facts_of_view view THIRTY_DAYS) said =
    subst (λ (x : Expiry). IsTermAnswer SCALE x (facts_of_view view THIRTY_DAYS) said) same says in
    of_term events answer (record {
      day = day;
      time = opened.time;
      is_taken = record { day_is = at.day_is; time_is = when.time_is };
      facts = opening_term_facts events day;
      facts_are =
          cond-true (is_declared (opening_expiry day) (before_opening events)) (Some (opening_term_facts events day)) None at.declared;
      term_answer = said;
      is_term_answer = subst (λ (f : TermFacts). IsTermAnswer SCALE (opening_expiry day) f said) facts of_expiry;
      joined = subst (λ (line : ℕ). IsAnswerByTerm line opened.time said answer) when.line_is joined;
    })
