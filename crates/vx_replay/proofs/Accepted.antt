-- The certificate that the tick function gives is accepted.
use Rattle.std.proofs.Common.{◌≡◌, sym, subst, refl, ℕ, ◌*◌, ℤ, pos, ◌+ℤ◌, ◌≤ℤ◌, List, Some, inr, arith}
use Rattle.std.proofs.lemmas.Int.{ints}
use Rattle.vx_clock.specs.declared.days.DayNo.{DayNo}
use Rattle.vx_clock.specs.declared.terms.Expiry.{Expiry}
use Rattle.vx_clock.specs.declared.limits.TheConstants.{DAY_MINUTES}
use Rattle.vx_clock.specs.Minutes.{minutes_between}
use Rattle.vx_clock.specs.Terms.{IsNearTerm, IsNextTerm}
use Rattle.vx_feed.specs.declared.events.Event.{Event}
use Rattle.vx_feed.specs.Listed.{trade_date, declared_expiries}
use Rattle.vx_interval.specs.Ends.{Ends, IsScale, unit}
use Rattle.vx_bounds.specs.Cents.{Decides}
use Rattle.vx_bounds.specs.declared.cents.Decision.TheVariants as decision
use Rattle.vx_formula.specs.declared.limits.TheConstants.{INDEX_WIDTH_MAX}
use Rattle.vx_formula.specs.Term.{TermFacts}
use Rattle.vx_claims.specs.declared.acceptance.Test.{Test}
use Rattle.vx_claims.specs.declared.acceptance.Test.TheVariants.{Place, Terms, Minutes, Rate, TaylorTerms, Exponential, ClosestPair, Forward, Level, Excess, Strip, Contributions, Total, Variance, Square, IndexEnds}
use Rattle.vx_claims.specs.declared.limits.TheConstants.{SCALE}
use Rattle.vx_claims.specs.Seen.{IsTickAt, events_before, moment_of, term_facts, ArePickedTerms}
use Rattle.vx_claims.specs.TermTests.{TermMeets, EnclosesVariance}
use Rattle.vx_claims.specs.FigureTests.{EnclosesSquare, EnclosesIndex}
use Rattle.vx_claims.specs.Accepts.{TermMeetsAt, IndexMeets, AcceptsFor}
use Rattle.vx_term.specs.declared.answer.TermRun.{TermRun}
use Rattle.vx_term.specs.Answer.{IsRun}
use Rattle.vx_term.specs.Ranges.{AreFactsLawful, AreDaysInRange, IsVarianceInRange, IsSquareInRange}
use Rattle.vx_term.proofs.Ordered.{variance_is_ordered, square_is_ordered}
use Rattle.vx_term.proofs.Weights.{square_range}
use Rattle.vx_certify.specs.Certified.{AreIndexEnds, certified_ends, certified_term, certified_figure}
use Rattle.vx_accepted.specs.Picked.{AreMinutesOfPicked}
use Rattle.vx_accepted.proofs.Terms.{certified_term_is_true}
use Rattle.vx_accepted.proofs.Figures.{square_is_enclosed, index_is_enclosed}
use Rattle.vx_replay.specs.Figures.{square_of_runs, index_certificate}

-- ---- two runs

module _ (days : ℕ) (x y : Expiry) (f g : TermFacts) (near next : TermRun SCALE) (in_days : AreDaysInRange days) (near_lawful : AreFactsLawful f) (next_lawful : AreFactsLawful g)
    (is_near : IsRun SCALE x f near) (is_next : IsRun SCALE y g next) (picked : AreMinutesOfPicked days f.minutes g.minutes) where
  scale : IsScale SCALE
  scale = (omega arith, omega arith)

  -- the minutes are those of the runs
  pub minutes_of_runs : AreMinutesOfPicked days near.minutes next.minutes
  minutes_of_runs =
      subst (λ (n : ℕ). AreMinutesOfPicked days near.minutes n) (sym is_next.minutes_are)
      (subst (λ (n : ℕ). AreMinutesOfPicked days n g.minutes) (sym is_near.minutes_are) picked)

  -- the ends of the near term's variance are in order
  pub near_ordered : near.w.lo ≤ℤ near.w.hi
  near_ordered = let n = is_near.numbers_are in subst (λ (w : Ends). w.lo ≤ℤ w.hi) (sym n.variance_is) (variance_is_ordered SCALE near.exp.value near.sum.total near.g)

  -- and those of the next term's
  pub next_ordered : next.w.lo ≤ℤ next.w.hi
  next_ordered = let n = is_next.numbers_are in subst (λ (w : Ends). w.lo ≤ℤ w.hi) (sym n.variance_is) (variance_is_ordered SCALE next.exp.value next.sum.total next.g)

  -- a variance that passes its test is in range
  variance_range : (w : Ends) (e s g : Ends) → EnclosesVariance SCALE (certified_ends e) (certified_ends g) (certified_ends s) (certified_ends w) → IsVarianceInRange SCALE w
  unfolding unit
  variance_range w e s g test = let low = (test.low_range).0 in let high = (test.high_range).1 in record { low = omega (arith, ints, low); high = omega (arith, ints, high) }

  -- the near term's variance is in range
  pub near_range : IsVarianceInRange SCALE near.w
  near_range = variance_range near.w near.exp.value near.sum.total near.g (certified_term_is_true SCALE x f near scale near_lawful is_near Variance)

  -- and the next term's
  pub next_range : IsVarianceInRange SCALE next.w
  next_range = variance_range next.w next.exp.value next.sum.total next.g (certified_term_is_true SCALE y g next scale next_lawful is_next Variance)

  -- the square of the index is in order and in range
  pub square_ordered : (square_of_runs days near next).lo ≤ℤ (square_of_runs days near next).hi
  square_ordered = (square_is_ordered (DAY_MINUTES * days) near.minutes next.minutes near.w next.w near_ordered next_ordered).0

  -- so the square of the two runs is in range
  pub square_in_range : IsSquareInRange SCALE (square_of_runs days near next)
  square_in_range =
      let m = minutes_of_runs in
      let few = in_days.0 in
      let most = (m.next).1 in
      square_range SCALE near.w next.w near.minutes next.minutes (DAY_MINUTES * days) m.rising (omega (arith, most)) (omega (arith, few)) m.weights near_range next_range near_ordered next_ordered

  -- it passes its test
  pub square_is_true : EnclosesSquare SCALE (DAY_MINUTES * days) near.minutes next.minutes (certified_ends near.w) (certified_ends next.w) (certified_ends (square_of_runs days near next))
  square_is_true =
      let m = minutes_of_runs in
      let few = in_days.0 in
      square_is_enclosed SCALE (DAY_MINUTES * days) near.minutes next.minutes near.w next.w (omega (arith, few)) m.rising near_ordered next_ordered square_ordered square_in_range

  -- and so do the printed ends where they are near and decided
  pub ends_are_true : (lo hi : ℤ) (cents : ℕ) → AreIndexEnds SCALE (square_of_runs days near next) lo hi → Decides lo hi (decision.Cents cents) → hi ≤ℤ (lo +ℤ pos INDEX_WIDTH_MAX)
      → EnclosesIndex SCALE (certified_figure (square_of_runs days near next) lo hi cents)
  ends_are_true lo hi cents ends decides close = index_is_enclosed SCALE (square_of_runs days near next) lo hi cents square_ordered square_in_range ends decides close

-- ---- at a tick

module _ (days window : ℕ) (events : List Event) (line time : ℕ) (day : DayNo) (near next : Expiry) (a b : TermRun SCALE) (lo hi : ℤ) (cents : ℕ)
    (is_tick : IsTickAt events line time) (day_is : trade_date events ≡ Some day)
    (is_near : IsNearTerm day days window (declared_expiries (events_before events line)) near) (is_next : IsNextTerm day days window (declared_expiries (events_before events line)) next)
    (near_run : IsRun SCALE near (term_facts (events_before events line) (moment_of day time) near) a)
    (next_run : IsRun SCALE next (term_facts (events_before events line) (moment_of day time) next) b)
    (in_days : AreDaysInRange days)
    (near_lawful : AreFactsLawful (term_facts (events_before events line) (moment_of day time) near))
    (next_lawful : AreFactsLawful (term_facts (events_before events line) (moment_of day time) next))
    (picked : AreMinutesOfPicked days (minutes_between (moment_of day time) near) (minutes_between (moment_of day time) next))
    (ends : AreIndexEnds SCALE (square_of_runs days a b) lo hi) (decides : Decides lo hi (decision.Cents cents)) (close : hi ≤ℤ (lo +ℤ pos INDEX_WIDTH_MAX)) where
  abbrev f : TermFacts
  f = term_facts (events_before events line) (moment_of day time) near

  abbrev g : TermFacts
  g = term_facts (events_before events line) (moment_of day time) next

  fine : IsScale SCALE
  fine = (omega arith, omega arith)

  near_meets : (test : Test) → TermMeetsAt events 2 line time (certified_term a) test
  near_meets test = record {
    is_tick = is_tick;
    day = day;
    day_is = day_is;
    meets = subst (λ (x : Expiry). TermMeets SCALE (term_facts (events_before events line) (moment_of day time) x) (certified_term a) test) (sym near_run.expiry_is)
        (certified_term_is_true SCALE near f a fine near_lawful near_run test);
  }

  next_meets : (test : Test) → TermMeetsAt events 2 line time (certified_term b) test
  next_meets test = record {
    is_tick = is_tick;
    day = day;
    day_is = day_is;
    meets = subst (λ (x : Expiry). TermMeets SCALE (term_facts (events_before events line) (moment_of day time) x) (certified_term b) test) (sym next_run.expiry_is)
        (certified_term_is_true SCALE next g b fine next_lawful next_run test);
  }

  are_picked : ArePickedTerms events line days window a.expiry b.expiry
  are_picked = record {
    day = day;
    day_is = day_is;
    is_near = subst (λ (x : Expiry). IsNearTerm day days window (declared_expiries (events_before events line)) x) (sym near_run.expiry_is) is_near;
    is_next = subst (λ (x : Expiry). IsNextTerm day days window (declared_expiries (events_before events line)) x) (sym next_run.expiry_is) is_next;
  }

  meets_all : (test : Test)
      → IndexMeets days window events 2 line time days (certified_term a) (certified_term b) (certified_figure (square_of_runs days a b) lo hi cents) test
  meets_all Place = (is_tick, refl)
  meets_all Terms = are_picked
  meets_all Minutes = (near_meets Minutes, next_meets Minutes)
  meets_all Rate = (near_meets Rate, next_meets Rate)
  meets_all TaylorTerms = (near_meets TaylorTerms, next_meets TaylorTerms)
  meets_all Exponential = (near_meets Exponential, next_meets Exponential)
  meets_all ClosestPair = (near_meets ClosestPair, next_meets ClosestPair)
  meets_all Forward = (near_meets Forward, next_meets Forward)
  meets_all Level = (near_meets Level, next_meets Level)
  meets_all Excess = (near_meets Excess, next_meets Excess)
  meets_all Strip = (near_meets Strip, next_meets Strip)
  meets_all Contributions = (near_meets Contributions, next_meets Contributions)
  meets_all Total = (near_meets Total, next_meets Total)
  meets_all Variance = (near_meets Variance, next_meets Variance)
  meets_all Square = square_is_true days near next f g a b in_days near_lawful next_lawful near_run next_run picked
  meets_all IndexEnds = ends_are_true days near next f g a b in_days near_lawful next_lawful near_run next_run picked lo hi cents ends decides close

  -- every test is met
  pub index_is_accepted : AcceptsFor days window events (index_certificate line time days a b lo hi cents)
  index_is_accepted = record { version = inr refl; meets_all = meets_all }
