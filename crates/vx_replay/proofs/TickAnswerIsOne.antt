-- A tick has at most one answer.
use Rattle.std.proofs.Common.{◌≡◌, ℕ, ◌⊎◌, List, refl, sym, ◌∙◌, subst, inl, inr}
use Rattle.std.proofs.lemmas.Option.{same_Some}
use Rattle.vx_clock.specs.declared.days.DayNo.{DayNo}
use Rattle.vx_clock.specs.declared.terms.Expiry.{Expiry}
use Rattle.vx_clock.specs.declared.terms.Moment.{Moment}
use Rattle.vx_clock.specs.Terms.{IsNearTerm, IsNextTerm}
use Rattle.vx_feed.specs.declared.events.Event.{Event}
use Rattle.vx_feed.specs.Listed.{declared_expiries}
use Rattle.vx_formula.specs.Term.{TermFacts}
use Rattle.vx_claims.specs.declared.limits.TheConstants.{SCALE}
use Rattle.vx_claims.specs.Seen.{events_before, moment_of, term_facts}
use Rattle.vx_claims.proofs.RisingRows.{listed_rows_rise}
use Rattle.vx_term.specs.declared.answer.TermAnswer.{TermAnswer}
use Rattle.vx_term.specs.declared.answer.TermAnswer.TheVariants as term
use Rattle.vx_term.specs.declared.answer.TermRun.{TermRun}
use Rattle.vx_term.specs.Answer.{IsRun, IsTermAnswer}
use Rattle.vx_term.proofs.TermAnswerIsOne.{term_answer_is_one}
use Rattle.vx_replay.specs.declared.answer.TickAnswer.{TickAnswer}
use Rattle.vx_replay.specs.declared.answer.TickAnswer.TheVariants.{Published, UndecidedCents, UndecidedForward, Refused}
use Rattle.vx_replay.specs.declared.answer.Reason.TheVariants.{NoTerm, Term, NegativeVariance}
use Rattle.vx_replay.specs.declared.answer.Which.TheVariants.{Near, Next, Both}
use Rattle.vx_replay.specs.Joined.{IsJoinedWithRun, IsJoined}
use Rattle.vx_replay.specs.Ticks.{IsAnswerFor, IsAnswerOfTerms, HasNoNearTerm, HasNoNextTerm, IsAnswerAfter, IsTickAnswer}
use Rattle.vx_clock.proofs.TermsAreOne.{near_is_one, next_is_one}
use Rattle.vx_replay.proofs.FigureIsOne.{square_of_runs_is_ordered, figure_is_one}

-- ---- of the answers for both terms

with_run_one : (line time days : ℕ) (x y : Expiry) (near_facts next_facts : TermFacts) (near : TermRun SCALE) (next : TermAnswer SCALE) (a b : TickAnswer)
    → IsRun SCALE x near_facts near → IsTermAnswer SCALE y next_facts next
    → IsJoinedWithRun line time days near next a → IsJoinedWithRun line time days near next b → a ≡ b
with_run_one line time days x y near_facts next_facts near (term.Run next) a b h k p q =
    figure_is_one line time days near next a b (square_of_runs_is_ordered days x y near_facts next_facts near next h k) p q
with_run_one line time days x y near_facts next_facts near (term.Refused refusal) a b h k p q = p ∙ sym q
with_run_one line time days x y near_facts next_facts near (term.UndecidedForward strike lo hi) a b h k p q = p ∙ sym q

-- the answer by the answers for two terms is one
joined_tick_is_one : (line time days : ℕ) (x y : Expiry) (near_facts next_facts : TermFacts) (near next : TermAnswer SCALE) (a b : TickAnswer)
    → IsTermAnswer SCALE x near_facts near → IsTermAnswer SCALE y next_facts next
    → IsJoined line time days near next a → IsJoined line time days near next b → a ≡ b
joined_tick_is_one line time days x y near_facts next_facts (term.Run near) next a b h k p q =
    with_run_one line time days x y near_facts next_facts near next a b h k p q
joined_tick_is_one line time days x y near_facts next_facts (term.Refused refusal) next a b h k p q = p ∙ sym q
joined_tick_is_one line time days x y near_facts next_facts (term.UndecidedForward strike lo hi) next a b h k p q = p ∙ sym q

-- ---- of the events before a tick

module _ (events : List Event) (now : Moment) (line days window : ℕ) where
  answer_for_one : (x y : Expiry) (a b : TermAnswer SCALE) → x ≡ y → IsAnswerFor events now x a → IsAnswerFor events now y b → a ≡ b
  answer_for_one x y a b e h k =
      term_answer_is_one SCALE y (term_facts events now y) a b (listed_rows_rise y events).0 (subst (λ (z : Expiry). IsAnswerFor events now z a) e h) k

  of_terms_one : (a b : TickAnswer) → IsAnswerOfTerms events now line days window a → IsAnswerOfTerms events now line days window b → a ≡ b
  of_terms_one a b h k =
      let nears : h.near ≡ k.near = near_is_one now.day days window (declared_expiries events) h.near k.near h.is_near k.is_near in
      let nexts : h.next ≡ k.next = next_is_one now.day days window (declared_expiries events) h.next k.next h.is_next k.is_next in
      let firsts : h.near_answer ≡ k.near_answer = answer_for_one h.near k.near h.near_answer k.near_answer nears h.is_near_answer k.is_near_answer in
      let seconds : h.next_answer ≡ k.next_answer = answer_for_one h.next k.next h.next_answer k.next_answer nexts h.is_next_answer k.is_next_answer in
      let one : IsJoined line now.minute days k.near_answer h.next_answer a =
      subst (λ (z : TermAnswer SCALE). IsJoined line now.minute days z h.next_answer a) firsts h.joined in
      let two : IsJoined line now.minute days k.near_answer k.next_answer a =
      subst (λ (z : TermAnswer SCALE). IsJoined line now.minute days k.near_answer z a) seconds one in
      joined_tick_is_one line now.minute days k.near k.next (term_facts events now k.near) (term_facts events now k.next) k.near_answer k.next_answer a b k.is_near_answer k.is_next_answer two k.joined

  abbrev Steps : TickAnswer → Type 0
  Steps a =
      (HasNoNearTerm events now days window × (a ≡ Refused NoTerm Near))
      ⊎ ((HasNoNextTerm events now days window × (a ≡ Refused NoTerm Next)) ⊎ IsAnswerOfTerms events now line days window a)

  steps : (a : TickAnswer) → IsAnswerAfter events now line days window a → Steps a
  steps (Published cents lo hi certificate) h = inr (inr h)
  steps (UndecidedCents lo hi) h = inr (inr h)
  steps (UndecidedForward which strike lo hi) h = inr (inr h)
  steps (Refused NoTerm Near) h = inl (h, refl)
  steps (Refused NoTerm Next) h = inr (inl (h, refl))
  steps (Refused NoTerm Both) h = inr (inr h)
  steps (Refused (Term refusal) which) h = inr (inr h)
  steps (Refused NegativeVariance which) h = inr (inr h)

  near_or_none : (x : Expiry) → HasNoNearTerm events now days window → IsNearTerm now.day days window (declared_expiries events) x → ⊥
  near_or_none x none h = none x h.declared h.in_window

  next_or_none : (x : Expiry) → HasNoNextTerm events now days window → IsNextTerm now.day days window (declared_expiries events) x → ⊥
  next_or_none x none h = none.1 x h.declared h.in_window

  steps_are_one : (a b : TickAnswer) → Steps a → Steps b → a ≡ b
  steps_are_one a b (inl (none, e)) (inl (none', f)) = e ∙ sym f
  steps_are_one a b (inl (none, e)) (inr (inl (some, f))) = absurd (near_or_none some.0.0 none some.0.1)
  steps_are_one a b (inl (none, e)) (inr (inr k)) = absurd (near_or_none k.near none k.is_near)
  steps_are_one a b (inr (inl (some, e))) (inl (none, f)) = absurd (near_or_none some.0.0 none some.0.1)
  steps_are_one a b (inr (inl (none, e))) (inr (inl (none', f))) = e ∙ sym f
  steps_are_one a b (inr (inl (none, e))) (inr (inr k)) = absurd (next_or_none k.next none k.is_next)
  steps_are_one a b (inr (inr h)) (inl (none, f)) = absurd (near_or_none h.near none h.is_near)
  steps_are_one a b (inr (inr h)) (inr (inl (none, f))) = absurd (next_or_none h.next none h.is_next)
  steps_are_one a b (inr (inr h)) (inr (inr k)) = of_terms_one a b h k

-- a tick has at most one answer
pub tick_answer_is_one : (days window : ℕ) (events : List Event) (line time : ℕ) (a b : TickAnswer)
    → IsTickAnswer days window events line time a → IsTickAnswer days window events line time b → a ≡ b
tick_answer_is_one days window events line time a b h k =
    let days_same : h.day ≡ k.day = same_Some h.day k.day (sym h.day_is ∙ k.day_is) in
    let before = events_before events line in
    let answered : IsAnswerAfter before (moment_of k.day time) line days window a =
    subst (λ (d : DayNo). IsAnswerAfter before (moment_of d time) line days window a) days_same h.answered in
    let now = moment_of k.day time in
    steps_are_one before now line days window a b (steps before now line days window a answered) (steps before now line days window b k.answered)
