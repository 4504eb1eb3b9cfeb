-- The facts of a tick, and of the opening, are there and lawful.
use Rattle.std.proofs.Common.{sym, subst, ℕ, ◌-◌, ◌*◌, Bool, List, Option, Some, None, inl, inr, refl, arith}
use Rattle.std.specs.Option.{IfSome, option_and_then}
use Rattle.std.proofs.lemmas.Bool.{cases_Bool, cond-true, cond-false}
use Rattle.vx_clock.specs.declared.days.DayNo.{DayNo}
use Rattle.vx_clock.specs.declared.limits.TheConstants.{DAY_MINUTES}
use Rattle.vx_clock.specs.declared.terms.Expiry.{Expiry}
use Rattle.vx_clock.specs.declared.terms.Moment.{Moment}
use Rattle.vx_clock.specs.Minutes.{minutes_between}
use Rattle.vx_feed.specs.declared.events.Event.{Event}
use Rattle.vx_feed.specs.Standing.{before_opening}
use Rattle.vx_feed.specs.Listed.{trade_date, declared_expiries, is_declared}
use Rattle.vx_feed.specs.Order.{AreLawful}
use Rattle.vx_formula.specs.Term.{TermFacts}
use Rattle.vx_formula.specs.Refusal.{TickFacts}
use Rattle.vx_claims.specs.Seen.{events_before, moment_of, term_facts, AreNearFacts, AreNextFacts, AreTickFacts, opening_expiry, opening_term_facts, opening_term_of}
use Rattle.vx_claims.proofs.LevelLemmas.{trade_date_stands}
use Rattle.vx_facts.proofs.InRange.{take_is_lawful}
use Rattle.vx_facts.proofs.ShownProofs.{standing_is_lawful, opening_is_lawful}
use Rattle.vx_term.specs.Ranges.{AreMinutesInRange, AreDaysInRange, AreFactsLawful}
use Rattle.vx_accepted.specs.Picked.{IsWindowInRange}
use Rattle.vx_accepted.specs.Facts.{TickHasLawfulFacts, TickFactsAreLawful, OpeningFactsAreLawful}
use Rattle.vx_accepted.proofs.PickedMinutes.{near_minutes_are_in_range, next_minutes_are_in_range}
use Rattle.vx_accepted.proofs.Picks.{near_is_picked_or_none, next_is_picked_or_none}

-- what lawful events show of an expiry is lawful, where its minutes are in range
shown_lawful : (before : List Event) (now : Moment) (x : Expiry) → AreLawful before → AreMinutesInRange (minutes_between now x) → AreFactsLawful (term_facts before now x)
shown_lawful before now x lawful minutes = let shown = standing_is_lawful x before lawful in record { rows = shown.rows_are; rate = shown.rate_is; minutes = minutes }

module _ (days window : ℕ) (before : List Event) (now : Moment) (in_days : AreDaysInRange days) (lawful : AreLawful before) where
  near_lawful : (chosen : Option TermFacts) → AreNearFacts before now days window chosen → IfSome chosen AreFactsLawful
  near_lawful None h = tt
  near_lawful (Some facts) (x, is, at) = subst AreFactsLawful (sym at) (shown_lawful before now x lawful (near_minutes_are_in_range days window now x in_days is.in_window))

  next_lawful : IsWindowInRange window → (chosen : Option TermFacts) → AreNextFacts before now days window chosen → IfSome chosen AreFactsLawful
  next_lawful in_window None h = tt
  next_lawful in_window (Some facts) (x, is, at) =
      subst AreFactsLawful (sym at) (shown_lawful before now x lawful (next_minutes_are_in_range days window now x in_days in_window is.in_window))

  near_there : (chosen : Option TermFacts) × AreNearFacts before now days window chosen
  near_there = elim (near_is_picked_or_none now.day days window (declared_expiries before)) [ inl found ↦ (Some (term_facts before now found.0), (found.0, found.1, refl)) | inr none ↦ (None, none) ]

  next_there : (chosen : Option TermFacts) × AreNextFacts before now days window chosen
  next_there = elim (next_is_picked_or_none now.day days window (declared_expiries before)) [ inl found ↦ (Some (term_facts before now found.0), (found.0, found.1, refl)) | inr none ↦ (None, none) ]

-- the facts of a tick are lawful
pub tick_facts_are_lawful : TickFactsAreLawful
tick_facts_are_lawful days window events line time facts in_days in_window lawful are =
    let before = events_before events line in
    let now = moment_of are.day time in
    let before_lawful = take_is_lawful (line - 1) events lawful in
    record {
      near = near_lawful days window before now in_days before_lawful facts.near are.near_facts;
      next = next_lawful days window before now in_days before_lawful in_window facts.next are.next_facts;
    }

-- and every tick has them
pub tick_has_lawful_facts : TickHasLawfulFacts
tick_has_lawful_facts days window events line time in_days in_window lawful is_tick =
    let found = trade_date_stands events line time lawful is_tick in
    let before = events_before events line in
    let now = moment_of found.0 time in
    let before_lawful = take_is_lawful (line - 1) events lawful in
    let near = near_there days window before now in_days before_lawful in
    let next = next_there days window before now in_days before_lawful in
    let facts : TickFacts = record { near = near.0; next = next.0; target = DAY_MINUTES * days } in
    let are : AreTickFacts events line time days window facts =
    record { is_tick = is_tick; day = found.0; day_is = found.1; near_facts = near.1; next_facts = next.1; target_is = refl } in
    (facts, are, tick_facts_are_lawful days window events line time facts in_days in_window lawful are)

-- the opening's term is lawful
pub opening_facts_are_lawful : OpeningFactsAreLawful
opening_facts_are_lawful events lawful = of_date (trade_date events)
  where
    of_day : (day : DayNo) → IfSome (opening_term_of events day) AreFactsLawful
    of_day day =
        let b : Bool = is_declared (opening_expiry day) (before_opening events) in
        let shown = opening_is_lawful (opening_expiry day) events lawful in
        let Q : Option TermFacts → Type 0 = λ o. IfSome o AreFactsLawful in
        elim (cases_Bool b) [
          | inl listed ↦ subst Q (sym (cond-true b (Some (opening_term_facts events day)) None listed)) (record { rows = shown.rows_are; rate = shown.rate_is; minutes = (omega arith, omega arith) })
          | inr unlisted ↦ subst Q (sym (cond-false b (Some (opening_term_facts events day)) None unlisted)) tt
        ]

    of_date : (day : Option DayNo) → IfSome (option_and_then (opening_term_of events) day) AreFactsLawful
    of_date None = tt
    of_date (Some day) = of_day day
