-- The opening has at most one answer.
use Rattle.std.proofs.Common.{◌≡◌, ℕ, ◌⊎◌, Bool, true, false, cond, List, Some, None, refl, sym, ◌∙◌, ap, subst, inl, inr}
use Rattle.std.specs.Prelude.{IsSome, is_some}
use Rattle.std.specs.Option.{option_and_then}
use Rattle.std.proofs.lemmas.Option.{same_Some, none-some}
use Rattle.vx_clock.specs.declared.days.DayNo.{DayNo}
use Rattle.vx_clock.specs.declared.terms.Expiry.{Expiry}
use Rattle.vx_feed.specs.declared.events.Event.{Event}
use Rattle.vx_feed.specs.Standing.{before_opening}
use Rattle.vx_feed.specs.Listed.{is_declared}
use Rattle.vx_feed.specs.Opening.{opening_time, opening_line}
use Rattle.vx_formula.specs.Term.{TermFacts}
use Rattle.vx_formula.specs.Level.{StrikesRise}
use Rattle.vx_claims.specs.declared.limits.TheConstants.{SCALE}
use Rattle.vx_claims.specs.Seen.{opening_expiry, opening_term_facts, opening_term_of, opening_facts}
use Rattle.vx_claims.proofs.RisingRows.{listed_rows_rise}
use Rattle.vx_term.specs.declared.answer.TermAnswer.{TermAnswer}
use Rattle.vx_term.specs.declared.answer.TermAnswer.TheVariants as term
use Rattle.vx_term.specs.Answer.{IsTermAnswer}
use Rattle.vx_term.proofs.TermAnswerIsOne.{term_answer_is_one}
use Rattle.vx_soq.specs.declared.answer.OpeningAnswer.{OpeningAnswer}
use Rattle.vx_soq.specs.declared.answer.OpeningAnswer.TheVariants.{Published, Refused, UndecidedForward, UndecidedCents}
use Rattle.vx_soq.specs.declared.answer.SoqReason.TheVariants.{NoOpening, NoTerm, Term, NegativeVariance}
use Rattle.vx_soq.specs.Figures.{IsAnswerByTerm}
use Rattle.vx_soq.specs.Openings.{IsTaken, HasNoTerm, IsAnswerOfTerm, IsOpeningAnswer}
use Rattle.vx_soq.proofs.FigureIsOne.{square_is_in_order, figure_is_one}

-- the answer by the answer for the opening's term is one
joined_opening_is_one : (line time : ℕ) (x : Expiry) (facts : TermFacts) (answer : TermAnswer SCALE) (a b : OpeningAnswer)
    → IsTermAnswer SCALE x facts answer → IsAnswerByTerm line time answer a → IsAnswerByTerm line time answer b → a ≡ b
joined_opening_is_one line time x facts (term.Run run) a b h p q = figure_is_one line time run a b (square_is_in_order x facts run h) p q
joined_opening_is_one line time x facts (term.Refused refusal) a b h p q = p ∙ sym q
joined_opening_is_one line time x facts (term.UndecidedForward strike lo hi) a b h p q = p ∙ sym q

-- the rows of the opening's term rise
chosen : (b : Bool) (facts other : TermFacts) → cond b (Some facts) None ≡ Some other → facts ≡ other
chosen true facts other e = same_Some facts other e
chosen false facts other e = absurd (none-some other e)

-- the rows of the opening's term rise in strike
opening_rows_rise : (events : List Event) (day : DayNo) (facts : TermFacts) → opening_term_of events day ≡ Some facts → StrikesRise facts.rows
opening_rows_rise events day facts e =
    let same : opening_term_facts events day ≡ facts = chosen (is_declared (opening_expiry day) (before_opening events)) (opening_term_facts events day) facts e in
    subst (λ (f : TermFacts). StrikesRise f.rows) same (listed_rows_rise (opening_expiry day) events).1

module _ (events : List Event) where
  day_is_one : (d e : DayNo) (s t : ℕ) → IsTaken events d s → IsTaken events e t → d ≡ e
  day_is_one d e s t h k = same_Some d e (sym h.day_is ∙ k.day_is)

  of_term_one : (a b : OpeningAnswer) → IsAnswerOfTerm events a → IsAnswerOfTerm events b → a ≡ b
  of_term_one a b h k =
      let days : h.day ≡ k.day = day_is_one h.day k.day h.time k.time h.is_taken k.is_taken in
      let times : h.time ≡ k.time = same_Some h.time k.time (sym (h.is_taken).time_is ∙ (k.is_taken).time_is) in
      let facts : h.facts ≡ k.facts = same_Some h.facts k.facts (sym h.facts_are ∙ ap (opening_term_of events) days ∙ k.facts_are) in
      let answer_at : IsTermAnswer SCALE (opening_expiry k.day) h.facts h.term_answer =
      subst (λ (d : DayNo). IsTermAnswer SCALE (opening_expiry d) h.facts h.term_answer) days h.is_term_answer in
      let answer_of : IsTermAnswer SCALE (opening_expiry k.day) k.facts h.term_answer =
      subst (λ (f : TermFacts). IsTermAnswer SCALE (opening_expiry k.day) f h.term_answer) facts answer_at in
      let answers : h.term_answer ≡ k.term_answer =
      term_answer_is_one SCALE (opening_expiry k.day) k.facts h.term_answer k.term_answer (opening_rows_rise events k.day k.facts k.facts_are) answer_of k.is_term_answer in
      let one : IsAnswerByTerm (opening_line events) k.time h.term_answer a = subst (λ (t : ℕ). IsAnswerByTerm (opening_line events) t h.term_answer a) times h.joined in
      let two : IsAnswerByTerm (opening_line events) k.time k.term_answer a = subst (λ (t : TermAnswer SCALE). IsAnswerByTerm (opening_line events) k.time t a) answers one in
      joined_opening_is_one (opening_line events) k.time (opening_expiry k.day) k.facts k.term_answer a b k.is_term_answer two k.joined

  abbrev Steps : OpeningAnswer → Type 0
  Steps a =
      ((opening_time events ≡ None) × (a ≡ Refused NoOpening)) ⊎ ((HasNoTerm events × (a ≡ Refused NoTerm)) ⊎ IsAnswerOfTerm events a)

  steps : (a : OpeningAnswer) → IsOpeningAnswer events a → Steps a
  steps (Published figure) h = inr (inr h)
  steps (UndecidedCents lo hi) h = inr (inr h)
  steps (UndecidedForward strike lo hi) h = inr (inr h)
  steps (Refused NoOpening) h = inl (h, refl)
  steps (Refused NoTerm) h = inr (inl (h, refl))
  steps (Refused (Term refusal)) h = inr (inr h)
  steps (Refused NegativeVariance) h = inr (inr h)

  not_taken : opening_time events ≡ None → IsSome (opening_time events) → ⊥
  not_taken none taken = let no : is_some (opening_time events) ≡ false = ap is_some none in absurd cc

  taken_by : (a : OpeningAnswer) → IsAnswerOfTerm events a → IsSome (opening_time events)
  taken_by a h = ap is_some (h.is_taken).time_is

  term_or_none : HasNoTerm events → (a : OpeningAnswer) → IsAnswerOfTerm events a → ⊥
  term_or_none none a h =
      let chosen : (opening_facts events).term ≡ Some h.facts = ap (option_and_then (opening_term_of events)) (h.is_taken).day_is ∙ h.facts_are in
      none-some h.facts (sym none.no_term ∙ chosen)

  steps_are_one : (a b : OpeningAnswer) → Steps a → Steps b → a ≡ b
  steps_are_one a b (inl (none, e)) (inl (none', f)) = e ∙ sym f
  steps_are_one a b (inl (none, e)) (inr (inl (k, f))) = absurd (not_taken none k.is_taken)
  steps_are_one a b (inl (none, e)) (inr (inr k)) = absurd (not_taken none (taken_by b k))
  steps_are_one a b (inr (inl (h, e))) (inl (none, f)) = absurd (not_taken none h.is_taken)
  steps_are_one a b (inr (inl (h, e))) (inr (inl (k, f))) = e ∙ sym f
  steps_are_one a b (inr (inl (h, e))) (inr (inr k)) = absurd (term_or_none h b k)
  steps_are_one a b (inr (inr h)) (inl (none, f)) = absurd (not_taken none (taken_by a h))
  steps_are_one a b (inr (inr h)) (inr (inl (k, f))) = absurd (term_or_none k a h)
  steps_are_one a b (inr (inr h)) (inr (inr k)) = of_term_one a b h k

-- an opening has at most one answer
pub opening_answer_is_one : (events : List Event) (a b : OpeningAnswer) → IsOpeningAnswer events a → IsOpeningAnswer events b → a ≡ b
opening_answer_is_one events a b h k = steps_are_one events a b (steps events a h) (steps events b k)
