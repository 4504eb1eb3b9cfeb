-- A term of lawful facts: its forward is decided where it is clear, and its exponent is small.
use Rattle.std.proofs.Common.{◌≡◌, subst, ℤ, Option, Some, arith}
use Rattle.std.specs.Option.{IfSome}
use Rattle.vx_clock.specs.declared.terms.Expiry.{Expiry}
use Rattle.vx_symbol.specs.Rows.{IsRateInRange}
use Rattle.vx_formula.specs.Term.{TermFacts, Term as FormulaTerm, IsTermOf, HasSmallExponent}
use Rattle.vx_formula.proofs.RangeLemmas.{exponent_is_small}
use Rattle.vx_claims.specs.declared.limits.TheConstants.{SCALE}
use Rattle.vx_term.specs.declared.answer.TermAnswer.{TermAnswer}
use Rattle.vx_term.specs.declared.answer.TermAnswer.TheVariants as term
use Rattle.vx_term.specs.Answer.{IsTermAnswer}
use Rattle.vx_term.specs.Ranges.{AreFactsLawful}
use Rattle.vx_term.specs.Tight.{IsForwardDecided}
use Rattle.vx_term.proofs.TermLaws.{term_answer_means, clear_answer_is_decided}
use Rattle.vx_accepted.specs.Clear.{HasClearForward}

-- where the forward of the chosen facts is clear, the answer for their term leaves it not undecided
pub clear_forward_is_decided : (chosen : Option TermFacts) (x : Expiry) (facts : TermFacts) → chosen ≡ Some facts → AreFactsLawful facts → HasClearForward chosen
    → (answer : TermAnswer SCALE) → IsTermAnswer SCALE x facts answer → IsForwardDecided SCALE answer
clear_forward_is_decided chosen x facts is lawful clear (term.Run run) h = tt
clear_forward_is_decided chosen x facts is lawful clear (term.Refused refusal) h = tt
clear_forward_is_decided chosen x facts is lawful clear (term.UndecidedForward strike lo hi) h =
    let answer : TermAnswer SCALE = term.UndecidedForward strike lo hi in
    let means = term_answer_means SCALE x facts lawful (term.UndecidedForward strike lo hi) h in
    clear_answer_is_decided SCALE x facts lawful means.term means.is_of_facts (omega arith, omega arith) (omega arith)
    (clear facts means.term is means.is_of_facts) answer h

-- the exponent of a term of lawful facts is small
pub exponent_of_facts_is_small : (facts : TermFacts) (t : FormulaTerm) → AreFactsLawful facts → IsTermOf facts t → HasSmallExponent t
exponent_of_facts_is_small facts t lawful of =
    let most = (lawful.minutes).1 in
    let same = of.minutes_are in
    let rate = subst (λ (r : Option ℤ). IfSome r IsRateInRange) of.rate_stands lawful.rate in
    (exponent_is_small t rate (omega (arith, most, same))).1
