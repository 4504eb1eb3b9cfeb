-- The tick function's answer is a lawful answer.
use Rattle.std.proofs.Common.{◌≡◌, sym, subst, refl, ℕ, ◌-◌, ◌*◌, ◌<◌, inl, inr, ℤ, pos, ◌+ℤ◌, ◌≤ℤ◌, List, Option, Some, None, arith}
use Rattle.vx_num.specs.Fraction.{Fraction}
use Rattle.vx_clock.specs.declared.days.DayNo.{DayNo}
use Rattle.vx_clock.specs.declared.terms.Expiry.{Expiry}
use Rattle.vx_clock.specs.declared.terms.Moment.{Moment}
use Rattle.vx_clock.specs.declared.limits.TheConstants.{DAY_MINUTES}
use Rattle.vx_clock.specs.Minutes.{minutes_between}
use Rattle.vx_clock.specs.Terms.{IsNearTerm, IsNextTerm}
use Rattle.vx_feed.specs.declared.events.Event.{Event}
use Rattle.vx_feed.specs.Listed.{trade_date, declared_expiries}
use Rattle.vx_feed.specs.Order.{AreLawful}
use Rattle.vx_interval.specs.Ends.{Ends, IsScale}
use Rattle.vx_interval.specs.Membership.{IsMember}
use Rattle.vx_bounds.specs.Cents.{Decides}
use Rattle.vx_bounds.specs.declared.cents.Decision.TheVariants as decision
use Rattle.vx_formula.specs.declared.limits.TheConstants.{INDEX_WIDTH_MAX}
use Rattle.vx_formula.specs.Term.{TermFacts, Term as FormulaTerm, InBracket}
use Rattle.vx_formula.specs.Level.{IsLevel}
use Rattle.vx_formula.specs.Variance.{variance_at}
use Rattle.vx_formula.specs.Index.{TwoTermsMeet, index_square, IsNegative}
use Rattle.vx_formula.specs.Between.{BetweenAt}
use Rattle.vx_formula.specs.Refusal.{TickFacts, IsTickBasis, TickReason, no_near_term, no_next_term, of_near, of_next, negative_variance, TickRefuses, tick_place}
use Rattle.vx_claims.specs.declared.limits.TheConstants.{SCALE}
use Rattle.vx_claims.specs.Seen.{IsTickAt, events_before, moment_of, term_facts, AreNextFacts, AreTickFacts}
use Rattle.vx_claims.specs.Answers.{RefusesTick, LeavesNearForward, LeavesNextForward, LeavesCents, PublishesTick}
use Rattle.vx_facts.proofs.ShownProofs.{standing_is_lawful}
use Rattle.vx_facts.proofs.InRange.{take_is_lawful}
use Rattle.vx_soundness.proofs.Meaning.{accepted_means}
use Rattle.vx_term.specs.declared.answer.TermAnswer.{TermAnswer}
use Rattle.vx_term.specs.declared.answer.TermAnswer.TheVariants as term
use Rattle.vx_term.specs.declared.answer.TermRun.{TermRun}
use Rattle.vx_term.specs.Answer.{IsRun}
use Rattle.vx_term.specs.Meaning.{reason_of, term_of_run, RunMeans}
use Rattle.vx_term.specs.Ranges.{AreFactsLawful, AreDaysInRange}
use Rattle.vx_term.proofs.TermLaws.{term_answer_means, term_answer_is_tight}
use Rattle.vx_term.proofs.Weights.{square_encloses}
use Rattle.vx_certify.specs.Certified.{AreIndexEnds}
use Rattle.vx_certify.proofs.IndexIsTight.{index_is_tight}
use Rattle.vx_accepted.specs.Picked.{IsWindowInRange, AreMinutesOfPicked}
use Rattle.vx_accepted.proofs.PickedMinutes.{picked_minutes_are_in_range}
use Rattle.vx_accepted.proofs.Picks.{next_is_picked_or_none}
use Rattle.vx_accepted.proofs.IndexEnds.{member_is_between, member_is_negative, ends_straddle}
use Rattle.vx_replay.specs.declared.answer.TickAnswer.{TickAnswer}
use Rattle.vx_replay.specs.declared.answer.TickAnswer.TheVariants.{Published, UndecidedCents, UndecidedForward, Refused}
use Rattle.vx_replay.specs.declared.answer.Reason.TheVariants.{NoTerm, Term, NegativeVariance}
use Rattle.vx_replay.specs.declared.answer.Which.TheVariants.{Near, Next, Both}
use Rattle.vx_replay.specs.Figures.{square_of_runs, index_certificate, IsFigureAnswer}
use Rattle.vx_replay.specs.Joined.{IsJoined, IsJoinedWithRun}
use Rattle.vx_replay.specs.Ticks.{IsAnswerFor, IsAnswerOfTerms, IsAnswerAfter, HasNoNearTerm, HasNoNextTerm}
use Rattle.vx_replay.specs.Lawful.{IsLawfulAnswer, TickAnswerIsLawful}
use Rattle.vx_replay.proofs.Places.{near_refusal_is_first, next_refusal_is_first, none_before_cents, negative_is_first, near_forward_is_left, next_forward_is_left}
use Rattle.vx_replay.proofs.Accepted.{square_in_range, minutes_of_runs, index_is_accepted}

-- a scale is one where the figures are near
fine : IsScale SCALE
fine = (omega arith, omega arith)

module _ (days window : ℕ) (events : List Event) (line time : ℕ) (day : DayNo) (in_days : AreDaysInRange days) (in_window : IsWindowInRange window) (lawful : AreLawful events)
    (is_tick : IsTickAt events line time) (day_is : trade_date events ≡ Some day) where
  abbrev before : List Event
  before = events_before events line

  abbrev now : Moment
  now = moment_of day time

  abbrev target : ℕ
  target = DAY_MINUTES * days

  before_lawful : AreLawful before
  before_lawful = take_is_lawful (line - 1) events lawful

  -- ---- no term

  no_near : HasNoNearTerm before now days window → RefusesTick events line time days window no_near_term
  no_near none =
      elim (next_is_picked_or_none day days window (declared_expiries before)) [
        | inl found ↦ with_next (Some (term_facts before now found.0)) (found.0, found.1, refl)
        | inr none_next ↦ with_next None none_next
      ]
    where
      with_next : (chosen : Option TermFacts) → AreNextFacts before now days window chosen → RefusesTick events line time days window no_near_term
      with_next chosen next_facts = record {
        facts = record { near = None; next = chosen; target = target };
        are_facts = record { is_tick = is_tick; day = day; day_is = day_is; near_facts = none; next_facts = next_facts; target_is = refl };
        is_first = record { holds = refl; none_earlier = first };
      }
        where
          first : (other : TickReason) → tick_place other < 1 → ¬ TickRefuses SCALE (record { near = None; next = chosen; target = target }) other
          first no_near_term less h = omega (arith, less)
          first no_next_term less h = omega (arith, less)
          first (of_near other) less h = omega (arith, less)
          first (of_next other) less h = omega (arith, less)
          first negative_variance less h = omega (arith, less)

  no_next : HasNoNextTerm before now days window → RefusesTick events line time days window no_next_term
  no_next (some, none) = record {
    facts = record { near = Some (term_facts before now some.0); next = None; target = target };
    are_facts = record { is_tick = is_tick; day = day; day_is = day_is; near_facts = (some.0, some.1, refl); next_facts = none; target_is = refl };
    is_first = record { holds = refl; none_earlier = first };
  }
    where
      first : (other : TickReason) → tick_place other < 2 → ¬ TickRefuses SCALE (record { near = Some (term_facts before now some.0); next = None; target = target }) other
      first no_near_term less h = absurd cc
      first no_next_term less h = omega (arith, less)
      first (of_near other) less h = omega (arith, less)
      first (of_next other) less h = omega (arith, less)
      first negative_variance less h = omega (arith, less)

  -- ---- both terms

  module _ (near next : Expiry) (is_near : IsNearTerm day days window (declared_expiries before) near) (is_next : IsNextTerm day days window (declared_expiries before) next) where
    abbrev f : TermFacts
    f = term_facts before now near

    abbrev g : TermFacts
    g = term_facts before now next

    abbrev facts : TickFacts
    facts = record { near = Some f; next = Some g; target = target }

    are_facts : AreTickFacts events line time days window facts
    are_facts = record { is_tick = is_tick; day = day; day_is = day_is; near_facts = (near, is_near, refl); next_facts = (next, is_next, refl); target_is = refl }

    picked : AreMinutesOfPicked days (minutes_between now near) (minutes_between now next)
    picked = picked_minutes_are_in_range days window now (declared_expiries before) near next in_days in_window is_near is_next

    near_lawful : AreFactsLawful f
    near_lawful = let shown = standing_is_lawful near before before_lawful in record { rows = shown.rows_are; rate = shown.rate_is; minutes = picked.near }

    next_lawful : AreFactsLawful g
    next_lawful = let shown = standing_is_lawful next before before_lawful in record { rows = shown.rows_are; rate = shown.rate_is; minutes = picked.next }

    -- what the answers of the terms mean
    near_forward : (strike : ℕ) (lo hi : ℤ) → IsAnswerFor before now near (term.UndecidedForward strike lo hi) → LeavesNearForward events line time days window strike lo hi
    near_forward strike lo hi h = record {
      facts = facts;
      are_facts = are_facts;
      leaves = near_forward_is_left f g target strike lo hi (term_answer_means SCALE near f near_lawful (term.UndecidedForward strike lo hi) h)
          (term_answer_is_tight SCALE near f near_lawful fine (term.UndecidedForward strike lo hi) h (omega arith));
    }

    module _ (a : TermRun SCALE) (near_run : IsRun SCALE near f a) where
      near_means : RunMeans SCALE 12 f a
      near_means = term_answer_means SCALE near f near_lawful (term.Run a) near_run

      next_forward : (strike : ℕ) (lo hi : ℤ) → IsAnswerFor before now next (term.UndecidedForward strike lo hi) → LeavesNextForward events line time days window strike lo hi
      next_forward strike lo hi h = record {
        facts = facts;
        are_facts = are_facts;
        leaves = next_forward_is_left f g target strike lo hi near_means.none_refuses (term_answer_means SCALE next g next_lawful (term.UndecidedForward strike lo hi) h)
            (term_answer_is_tight SCALE next g next_lawful fine (term.UndecidedForward strike lo hi) h (omega arith));
      }

      -- ---- two runs

      module _ (b : TermRun SCALE) (next_run : IsRun SCALE next g b) where
        next_means : RunMeans SCALE 12 g b
        next_means = term_answer_means SCALE next g next_lawful (term.Run b) next_run

        abbrev near_term : FormulaTerm
        near_term = term_of_run f.rows a

        abbrev next_term : FormulaTerm
        next_term = term_of_run g.rows b

        is_basis : IsTickBasis facts near_term next_term
        is_basis = record { near_facts = f; near_is = refl; near_of = near_means.is_of_facts; next_facts = g; next_is = refl; next_of = next_means.is_of_facts }

        minutes : AreMinutesOfPicked days a.minutes b.minutes
        minutes = minutes_of_runs days near next f g a b in_days near_lawful next_lawful near_run next_run picked

        abbrev square : Ends
        square = square_of_runs days a b

        -- the square of the index at a point of the box is a member of the square
        encloses : (e1 e2 : Fraction) → InBracket near_term 12 e1 → InBracket next_term 12 e2
            → IsMember SCALE square (index_square target (variance_at near_term a.k0 e1) a.minutes (variance_at next_term b.k0 e2) b.minutes)
        encloses e1 e2 m1 m2 =
            let few = in_days.0 in
            let most = (minutes.next).1 in
            square_encloses SCALE a.w b.w a.minutes b.minutes target minutes.rising (omega (arith, most)) (omega (arith, few)) minutes.weights
            (variance_at near_term a.k0 e1) (variance_at next_term b.k0 e2) (near_means.encloses e1 m1) (next_means.encloses e2 m2)

        -- so what holds of each member holds of the square of the index
        meet : (Test : Fraction → Type 0) → ((x : Fraction) → IsMember SCALE square x → Test x) → TwoTermsMeet near_term next_term target Test
        meet Test holds = record {
          depth = 12;
          near_level = a.k0;
          next_level = b.k0;
          holds = λ e1 e2 m1 m2. record { near_level = near_means.is_level e1 m1; next_level = next_means.is_level e2 m2; test = holds _ (encloses e1 e2 m1 m2) };
        }

        near_level : IsLevel near_term a.k0
        near_level = record { depth = 12; holds = near_means.is_level }

        next_level : IsLevel next_term b.k0
        next_level = record { depth = 12; holds = next_means.is_level }

        close : (lo hi : ℤ) → AreIndexEnds SCALE square lo hi → hi ≤ℤ (lo +ℤ pos INDEX_WIDTH_MAX)
        close lo hi ends =
            let near_narrow = term_answer_is_tight SCALE near f near_lawful fine (term.Run a) near_run in
            let next_narrow = term_answer_is_tight SCALE next g next_lawful fine (term.Run b) next_run in
            (index_is_tight SCALE days a.minutes b.minutes a.w b.w (omega arith) in_days minutes.rising minutes.weights near_narrow next_narrow).near lo hi ends

        straddling : (lo hi : ℤ) → AreIndexEnds SCALE square lo hi → Decides lo hi decision.Straddle → LeavesCents events line time days window lo hi
        straddling lo hi ends decides = record {
          facts = facts;
          are_facts = are_facts;
          near = near_term;
          next = next_term;
          is_basis = is_basis;
          near_level = (a.k0, near_level);
          next_level = (b.k0, next_level);
          undecided = record {
            between = meet (BetweenAt lo hi) (member_is_between SCALE square lo hi ends);
            narrow = close lo hi ends;
            straddles = ends_straddle SCALE square lo hi (square_in_range days near next f g a b in_days near_lawful next_lawful near_run next_run picked) ends decides;
          };
          none_earlier = none_before_cents SCALE f g target near_means.none_refuses next_means.none_refuses;
        }

        negative : (lo hi : ℤ) → AreIndexEnds SCALE square lo hi → Decides lo hi decision.Negative → RefusesTick events line time days window negative_variance
        negative lo hi ends decides = record {
          facts = facts;
          are_facts = are_facts;
          is_first = negative_is_first SCALE f g target near_means.none_refuses next_means.none_refuses (record {
            near = near_term;
            next = next_term;
            is_basis = is_basis;
            negative = meet IsNegative (λ x member. member_is_negative SCALE square lo hi ends x member decides.1);
          });
        }

        published : (cents : ℕ) (lo hi : ℤ) → AreIndexEnds SCALE square lo hi → Decides lo hi (decision.Cents cents)
            → PublishesTick events line time days window cents lo hi (index_certificate line time days a b lo hi cents)
        published cents lo hi ends decides =
            let few = in_days.1 in
            let accepted = index_is_accepted days window events line time day near next a b lo hi cents is_tick day_is is_near is_next near_run next_run in_days near_lawful next_lawful picked
            ends decides (close lo hi ends) in
            let means = accepted_means days window events (index_certificate line time days a b lo hi cents) (omega (arith, few, in_window)) lawful accepted in
            record {
              facts = means.facts;
              are_facts = means.are_facts;
              near = means.near;
              next = means.next;
              is_basis = means.is_basis;
              is_figure = means.is_figure;
              none_refuses = means.none_refuses;
              names_line = record { version = refl; line_is = refl; time_is = refl };
              states = (refl, record { cents_are = refl; lo_is = refl; hi_is = refl });
              accepted = accepted;
            }

        of_figure : (answer : TickAnswer) → IsFigureAnswer line time days a b answer → IsLawfulAnswer days window events line time answer
        of_figure (Published cents lo hi certificate) (ends, decides, is) =
            subst (PublishesTick events line time days window cents lo hi) (sym is) (published cents lo hi ends decides)
        of_figure (UndecidedCents lo hi) (ends, decides) = straddling lo hi ends decides
        of_figure (UndecidedForward which strike lo hi) h = absurd h
        of_figure (Refused NegativeVariance Both) (lo, hi, ends, decides) = (negative_variance, refl, negative lo hi ends decides)
        of_figure (Refused NegativeVariance Near) h = absurd h
        of_figure (Refused NegativeVariance Next) h = absurd h
        of_figure (Refused NoTerm which) h = absurd h
        of_figure (Refused (Term refusal) which) h = absurd h

      with_run : (next_answer : TermAnswer SCALE) → IsAnswerFor before now next next_answer → (answer : TickAnswer) → IsJoinedWithRun line time days a next_answer answer
          → IsLawfulAnswer days window events line time answer
      with_run (term.Run b) h answer joined = of_figure b h answer joined
      with_run (term.Refused refusal) h answer joined =
          subst (IsLawfulAnswer days window events line time) (sym joined) (
            of_next (reason_of refusal),
            refl,
            record {
              facts = facts;
              are_facts = are_facts;
              is_first = next_refusal_is_first SCALE f g target near_means.none_refuses (reason_of refusal) (term_answer_means SCALE next g next_lawful (term.Refused refusal) h);
            },
          )
      with_run (term.UndecidedForward strike lo hi) h answer joined = subst (IsLawfulAnswer days window events line time) (sym joined) (next_forward strike lo hi h)

    of_terms : (near_answer next_answer : TermAnswer SCALE) → IsAnswerFor before now near near_answer → IsAnswerFor before now next next_answer → (answer : TickAnswer)
        → IsJoined line time days near_answer next_answer answer → IsLawfulAnswer days window events line time answer
    of_terms (term.Run a) next_answer h k answer joined = with_run a h next_answer k answer joined
    of_terms (term.Refused refusal) next_answer h k answer joined =
        subst (IsLawfulAnswer days window events line time) (sym joined) (
          of_near (reason_of refusal),
          refl,
          record {
            facts = facts;
            are_facts = are_facts;
            is_first = near_refusal_is_first SCALE f g target (reason_of refusal) (term_answer_means SCALE near f near_lawful (term.Refused refusal) h);
          },
        )
    of_terms (term.UndecidedForward strike lo hi) next_answer h k answer joined = subst (IsLawfulAnswer days window events line time) (sym joined) (near_forward strike lo hi h)

  joined : (answer : TickAnswer) → IsAnswerOfTerms before now line days window answer → IsLawfulAnswer days window events line time answer
  joined answer h = of_terms h.near h.next h.is_near h.is_next h.near_answer h.next_answer h.is_near_answer h.is_next_answer answer h.joined

  answered : (answer : TickAnswer) → IsAnswerAfter before now line days window answer → IsLawfulAnswer days window events line time answer
  answered (Refused NoTerm Near) h = (no_near_term, refl, no_near h)
  answered (Refused NoTerm Next) h = (no_next_term, refl, no_next h)
  answered (Refused NoTerm Both) h = joined (Refused NoTerm Both) h
  answered (Refused (Term refusal) which) h = joined (Refused (Term refusal) which) h
  answered (Refused NegativeVariance which) h = joined (Refused NegativeVariance which) h
  answered (Published cents lo hi certificate) h = joined (Published cents lo hi certificate) h
  answered (UndecidedCents lo hi) h = joined (UndecidedCents lo hi) h
  answered (UndecidedForward which strike lo hi) h = joined (UndecidedForward which strike lo hi) h

-- the answer is lawful
pub tick_answer_is_lawful : TickAnswerIsLawful
tick_answer_is_lawful days window events line time answer in_days in_window lawful h =
    answered days window events line time h.day in_days in_window lawful h.is_tick h.day_is answer h.answered
