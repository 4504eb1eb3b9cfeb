-- Every tick of lawful events has an answer.
use Rattle.std.proofs.Common.{refl, ℕ, List, inl, inr}
use Rattle.vx_clock.specs.declared.terms.Expiry.{Expiry}
use Rattle.vx_clock.specs.declared.terms.Moment.{Moment}
use Rattle.vx_clock.specs.Terms.{IsNearTerm, IsNextTerm}
use Rattle.vx_feed.specs.declared.events.Event.{Event}
use Rattle.vx_feed.specs.Listed.{declared_expiries}
use Rattle.vx_claims.specs.declared.limits.TheConstants.{SCALE}
use Rattle.vx_claims.specs.Seen.{events_before, moment_of, term_facts}
use Rattle.vx_claims.proofs.LevelLemmas.{trade_date_stands}
use Rattle.vx_term.specs.declared.answer.TermAnswer.{TermAnswer}
use Rattle.vx_term.specs.declared.answer.TermAnswer.TheVariants as term
use Rattle.vx_term.specs.declared.answer.TermRun.{TermRun}
use Rattle.vx_accepted.proofs.Picks.{near_is_picked_or_none, next_is_picked_or_none}
use Rattle.vx_replay.specs.declared.answer.TickAnswer.{TickAnswer}
use Rattle.vx_replay.specs.declared.answer.TickAnswer.TheVariants.{Published, UndecidedCents, UndecidedForward, Refused}
use Rattle.vx_replay.specs.declared.answer.Reason.TheVariants.{NoTerm, Term, NegativeVariance}
use Rattle.vx_replay.specs.declared.answer.Which.TheVariants.{Near, Next, Both}
use Rattle.vx_replay.specs.Figures.{IsFigureAnswer}
use Rattle.vx_replay.specs.Joined.{IsJoined}
use Rattle.vx_replay.specs.Ticks.{IsAnswerOfTerms, IsAnswerAfter}
use Rattle.vx_replay.proofs.LawfulTicks.{tick_answer_is_lawful}
use Rattle.vx_existence.specs.Existence.{EveryTickHasAnswer, EveryTickHasLawfulAnswer}
use Rattle.vx_existence.proofs.Terms.{every_term_has_answer}
use Rattle.vx_existence.proofs.Figures.{every_figure_has_answer}

-- ---- two answers are joined

-- an answer that some two answers are joined to is none of those for a tick without two terms
abbrev IsOfTerms : TickAnswer → Type 0
IsOfTerms (Refused NoTerm Near) = ⊥
IsOfTerms (Refused NoTerm Next) = ⊥
IsOfTerms _ = Unit {0}

figure_is_of_terms : (P line time days : ℕ) (near next : TermRun P) (answer : TickAnswer) → IsFigureAnswer line time days near next answer → IsOfTerms answer
figure_is_of_terms P line time days near next (Published cents lo hi certificate) h = tt
figure_is_of_terms P line time days near next (UndecidedCents lo hi) h = tt
figure_is_of_terms P line time days near next (UndecidedForward which strike lo hi) h = tt
figure_is_of_terms P line time days near next (Refused NoTerm Near) h = h
figure_is_of_terms P line time days near next (Refused NoTerm Next) h = h
figure_is_of_terms P line time days near next (Refused NoTerm Both) h = tt
figure_is_of_terms P line time days near next (Refused (Term refusal) which) h = tt
figure_is_of_terms P line time days near next (Refused NegativeVariance which) h = tt

module _ (P line time days : ℕ) where
  abbrev Joined : TermAnswer P → TermAnswer P → Type 0
  Joined near next = (answer : TickAnswer) × IsJoined line time days near next answer × IsOfTerms answer

  with_run : (near : TermRun P) (next : TermAnswer P) → Joined (term.Run near) next
  with_run near (term.Run next) =
      let found = every_figure_has_answer P line time days near next in (found.0, found.1, figure_is_of_terms P line time days near next found.0 found.1)
  with_run near (term.Refused refusal) = (Refused (Term refusal) Next, refl, tt)
  with_run near (term.UndecidedForward strike lo hi) = (UndecidedForward Next strike lo hi, refl, tt)

  joined : (near next : TermAnswer P) → Joined near next
  joined (term.Run near) next = with_run near next
  joined (term.Refused refusal) next = (Refused (Term refusal) Near, refl, tt)
  joined (term.UndecidedForward strike lo hi) next = (UndecidedForward Near strike lo hi, refl, tt)

-- ---- the tick

module _ (events : List Event) (now : Moment) (line days window : ℕ) where
  abbrev Answered : Type 0
  Answered = (answer : TickAnswer) × IsAnswerAfter events now line days window answer

  after : (answer : TickAnswer) → IsOfTerms answer → IsAnswerOfTerms events now line days window answer → IsAnswerAfter events now line days window answer
  after (Published cents lo hi certificate) of h = h
  after (UndecidedCents lo hi) of h = h
  after (UndecidedForward which strike lo hi) of h = h
  after (Refused NoTerm Near) of h = elim of [ ]
  after (Refused NoTerm Next) of h = elim of [ ]
  after (Refused NoTerm Both) of h = h
  after (Refused (Term refusal) which) of h = h
  after (Refused NegativeVariance which) of h = h

  of_terms : (near next : Expiry) → IsNearTerm now.day days window (declared_expiries events) near
      → IsNextTerm now.day days window (declared_expiries events) next → Answered
  of_terms near next is_near is_next =
      let first = every_term_has_answer SCALE near (term_facts events now near) in
      let second = every_term_has_answer SCALE next (term_facts events now next) in
      let both = joined SCALE line now.minute days first.0 second.0 in (
        both.0,
        after both.0 both.2 (
            record {
              near = near;
              is_near = is_near;
              next = next;
              is_next = is_next;
              near_answer = first.0;
              is_near_answer = first.1;
              next_answer = second.0;
              is_next_answer = second.1;
              joined = both.1;
            }
            ),
      )

  answered : Answered
  answered =
      elim (near_is_picked_or_none now.day days window (declared_expiries events)) [
        | inl near ↦ elim (next_is_picked_or_none now.day days window (declared_expiries events)) [
          | inl next ↦ of_terms near.0 next.0 near.1 next.1
          | inr none ↦ (Refused NoTerm Next, ((near.0, near.1), none))
        ]
        | inr none ↦ (Refused NoTerm Near, none)
      ]

-- every tick has an answer
pub every_tick_has_answer : EveryTickHasAnswer
every_tick_has_answer days window events line time lawful is_tick =
    let found = trade_date_stands events line time lawful is_tick in
    let answer = answered (events_before events line) (moment_of found.0 time) line days window in
    (answer.0, record { is_tick = is_tick; day = found.0; day_is = found.1; answered = answer.1 })

-- and for days and a window in range it is lawful
pub every_tick_has_lawful_answer : EveryTickHasLawfulAnswer
every_tick_has_lawful_answer days window events line time in_days in_window lawful is_tick =
    let found = every_tick_has_answer days window events line time lawful is_tick in
    (found.0, found.1, tick_answer_is_lawful days window events line time found.0 in_days in_window lawful found.1)
