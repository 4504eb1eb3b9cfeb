-- What a tick or an opening shows is far from every boundary: the forward of a term, and the index.
use Rattle.std.specs.Prelude.{◌≡◌, Option, Some}
use Rattle.vx_formula.specs.Term.{TermFacts, Term, IsTermOf}
use Rattle.vx_formula.specs.Index.{OneTerm, TwoTerms}
use Rattle.vx_formula.specs.Clear.{IsClearForward, IsClearIndex}
use Rattle.vx_formula.specs.Refusal.{TickFacts, OpeningFacts, IsTickBasis}

-- the forward of a term is clear, if there is the term
abbrev pub HasClearForward : Option TermFacts → Type 0
HasClearForward chosen = (facts : TermFacts) (term : Term) → chosen ≡ Some facts → IsTermOf facts term → IsClearForward term

-- the index of a tick is clear, if there are both its terms
abbrev pub HasClearIndex : TickFacts → Type 0
HasClearIndex facts = (near next : Term) → IsTickBasis facts near next → IsClearIndex (TwoTerms near next facts.target)

-- and that of an opening, if there is its term
abbrev pub HasClearOpeningIndex : OpeningFacts → Type 0
HasClearOpeningIndex shown = (facts : TermFacts) (term : Term) → shown.term ≡ Some facts → IsTermOf facts term → IsClearIndex (OneTerm term)
