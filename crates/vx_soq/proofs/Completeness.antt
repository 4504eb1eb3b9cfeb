-- What is clear at the opening is answered.
use Rattle.std.proofs.Common.{◌≡◌, ◌∙◌, sym, subst, refl, ℕ, ◌<◌, ◌≤◌, ℤ, List, Some, arith}
use Rattle.std.proofs.lemmas.Option.{same_Some}
use Rattle.vx_feed.specs.declared.events.Event.{Event}
use Rattle.vx_feed.specs.Order.{AreLawful}
use Rattle.vx_formula.specs.Term.{TermFacts, IsTermOf}
use Rattle.vx_formula.specs.Index.{OneTerm}
use Rattle.vx_formula.specs.Refusal.{OpeningReason, no_opening, no_term, of_term, negative_opening, OpeningRefuses, opening_place, opening_undecided_place, opening_cents_undecided_place}
use Rattle.vx_formula.proofs.FigureLemmas.{clear_index_is_decided}
use Rattle.vx_formula.proofs.RefusalLemmas.{first_opening_refusal_is_one}
use Rattle.vx_formula.proofs.RefusalPlaces.{not_before, past_forward, place_range}
use Rattle.vx_claims.specs.declared.limits.TheConstants.{SCALE}
use Rattle.vx_claims.specs.Seen.{opening_expiry, opening_term_facts, opening_facts}
use Rattle.vx_claims.specs.Answers.{LeavesOpeningForward, LeavesOpeningCents}
use Rattle.vx_term.specs.declared.answer.TermAnswer.{TermAnswer}
use Rattle.vx_term.specs.declared.answer.TermAnswer.TheVariants as term
use Rattle.vx_term.specs.Answer.{IsTermAnswer}
use Rattle.vx_term.specs.Ranges.{AreFactsLawful}
use Rattle.vx_term.specs.Tight.{IsForwardDecided}
use Rattle.vx_accepted.specs.Clear.{HasClearForward, HasClearOpeningIndex}
use Rattle.vx_accepted.proofs.ClearTerms.{clear_forward_is_decided, exponent_of_facts_is_small}
use Rattle.vx_soq.specs.declared.answer.OpeningAnswer.{OpeningAnswer}
use Rattle.vx_soq.specs.declared.answer.OpeningAnswer.TheVariants.{Published, Refused, UndecidedForward, UndecidedCents}
use Rattle.vx_soq.specs.Figures.{IsAnswerByTerm}
use Rattle.vx_soq.specs.Openings.{IsAnswerOfTerm}
use Rattle.vx_soq.specs.Complete.{ClearOpeningIsPublished, FirstOpeningRefusalIsAnswered}
use Rattle.vx_soq.proofs.LawfulOpenings.{facts_lawful, term_is, declared_from, opening_answer_is_lawful}

-- a decided term leaves no undecided forward
term_is_decided : (line time strike : ℕ) (lo hi : ℤ) (a : TermAnswer SCALE) → IsForwardDecided SCALE a → IsAnswerByTerm line time a (UndecidedForward strike lo hi) → ⊥
term_is_decided line time strike lo hi (term.Run run) decided joined = joined
term_is_decided line time strike lo hi (term.Refused refusal) decided joined = cc
term_is_decided line time strike lo hi (term.UndecidedForward s l h) decided joined = decided

module _ (events : List Event) (answer : OpeningAnswer) (lawful : AreLawful events) (h : IsAnswerOfTerm events answer) where
  abbrev facts : TermFacts
  facts = opening_term_facts events h.day

  lawful_facts : AreFactsLawful facts
  lawful_facts = facts_lawful events h.day h.time lawful (h.is_taken).day_is (h.is_taken).time_is

  facts_are : (opening_facts events).term ≡ Some facts
  facts_are = term_is events h.day h.time lawful (h.is_taken).day_is (h.is_taken).time_is (declared_from events h.day h.facts h.facts_are).0

  term_answer : IsTermAnswer SCALE (opening_expiry h.day) facts h.term_answer
  term_answer = subst (λ (f : TermFacts). IsTermAnswer SCALE (opening_expiry h.day) f h.term_answer) (sym (declared_from events h.day h.facts h.facts_are).1) h.is_term_answer

  forward_is_decided : HasClearForward (opening_facts events).term → IsForwardDecided SCALE h.term_answer
  forward_is_decided clear =
      clear_forward_is_decided (opening_facts events).term (opening_expiry h.day) facts facts_are lawful_facts clear h.term_answer term_answer

  cents_are_decided : HasClearOpeningIndex (opening_facts events) → (lo hi : ℤ) → LeavesOpeningCents events lo hi → ⊥
  cents_are_decided clear lo hi leaves =
      let basis = leaves.is_basis in
      let same = same_Some facts basis.term_facts (sym facts_are ∙ basis.term_is) in
      let of = subst (λ (f : TermFacts). IsTermOf f leaves.term) (sym same) basis.term_of in
      clear_index_is_decided (OneTerm leaves.term) lo hi (exponent_of_facts_is_small facts leaves.term lawful_facts of) (clear facts leaves.term facts_are of) leaves.undecided

-- where nothing is refused and all is clear, a figure is published
pub clear_opening_is_published : ClearOpeningIsPublished
clear_opening_is_published events (Published figure) lawful is none forward index = tt
clear_opening_is_published events (UndecidedCents lo hi) lawful is none forward index =
    cents_are_decided events (UndecidedCents lo hi) lawful is index lo hi (opening_answer_is_lawful events (UndecidedCents lo hi) lawful is)
clear_opening_is_published events (UndecidedForward strike lo hi) lawful is none forward index =
    term_is_decided _ is.time strike lo hi is.term_answer (forward_is_decided events (UndecidedForward strike lo hi) lawful is forward) is.joined
clear_opening_is_published events (Refused reason) lawful is none forward index = none _ (opening_answer_is_lawful events (Refused reason) lawful is).holds

-- the one refusal behind the undecided cents is that of a negative variance
late_opening_is_negative : (reason : OpeningReason) → opening_cents_undecided_place ≤ opening_place reason → reason ≡ negative_opening
late_opening_is_negative no_opening late = absurd (omega (arith, late))
late_opening_is_negative no_term late = absurd (omega (arith, late))
late_opening_is_negative (of_term reason) late = let r = place_range reason in absurd (omega (arith, late, r.1))
late_opening_is_negative negative_opening late = refl

not_forward_place : (reason : OpeningReason) → opening_undecided_place ≤ opening_place reason → opening_undecided_place < opening_place reason
not_forward_place no_opening late = omega (arith, late)
not_forward_place no_term late = omega (arith, late)
not_forward_place (of_term reason) late = past_forward 2 reason late
not_forward_place negative_opening late = omega arith

-- the first refusal is answered where what comes before it is clear
pub first_opening_refusal_is_answered : FirstOpeningRefusalIsAnswered
first_opening_refusal_is_answered events (Refused reason) lawful is refusal first forward index =
    first_opening_refusal_is_one SCALE (opening_facts events) _ refusal (opening_answer_is_lawful events (Refused reason) lawful is) first
first_opening_refusal_is_answered events (Published figure) lawful is refusal first forward index =
    let published = opening_answer_is_lawful events (Published figure) lawful is in
    published.1.none_refuses refusal first.holds
first_opening_refusal_is_answered events (UndecidedCents lo hi) lawful is refusal first forward index =
    let leaves : LeavesOpeningCents events lo hi = opening_answer_is_lawful events (UndecidedCents lo hi) lawful is in
    let late = not_before opening_place (OpeningRefuses SCALE (opening_facts events)) opening_cents_undecided_place refusal first.holds leaves.none_earlier in
    cents_are_decided events (UndecidedCents lo hi) lawful is (index (late_opening_is_negative refusal late)) lo hi leaves
first_opening_refusal_is_answered events (UndecidedForward strike lo hi) lawful is refusal first forward index =
    let leaves : LeavesOpeningForward events strike lo hi = opening_answer_is_lawful events (UndecidedForward strike lo hi) lawful is in
    let late = not_forward_place refusal (not_before opening_place (OpeningRefuses SCALE (opening_facts events)) opening_undecided_place refusal first.holds leaves.none_earlier) in
    term_is_decided _ is.time strike lo hi is.term_answer (forward_is_decided events (UndecidedForward strike lo hi) lawful is (forward late)) is.joined
