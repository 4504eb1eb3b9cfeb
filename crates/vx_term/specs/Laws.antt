-- The laws of the answer for one term.
use Rattle.std.specs.Prelude.{◌≡◌, ℕ, ◌≤◌, ℤ, pos, ◌≤ℤ◌}
use Rattle.vx_clock.specs.declared.terms.Expiry.{Expiry}
use Rattle.vx_interval.specs.Ends.{Ends, IsScale, exact_ends}
use Rattle.vx_formula.specs.Term.{TermFacts, Term, IsTermOf, exponent}
use Rattle.vx_formula.specs.Clear.{IsClearForward}
use Rattle.vx_formula.specs.Level.{StrikesRise}
use Rattle.vx_term.specs.declared.answer.TermAnswer.{TermAnswer}
use Rattle.vx_term.specs.Variance.{variance_ends}
use Rattle.vx_term.specs.Index.{interpolated_ends, single_ends}
use Rattle.vx_term.specs.Ranges.{AreFactsLawful}
use Rattle.vx_term.specs.Answer.{exponential_ends, IsTermAnswer}
use Rattle.vx_term.specs.Meaning.{exponential_depth, TermAnswerMeans}
use Rattle.vx_term.specs.Tight.{IsTightAnswer, IsForwardDecided}

-- a term has at most one answer
abbrev pub TermAnswerIsOne : Type 0
TermAnswerIsOne = (P : ℕ) (x : Expiry) (facts : TermFacts) (a b : TermAnswer P) → StrikesRise facts.rows → IsTermAnswer P x facts a → IsTermAnswer P x facts b → a ≡ b

-- what is answered of lawful facts means what the formula says of them
abbrev pub AnswerIsMeant : Type 0
AnswerIsMeant = (P : ℕ) (x : Expiry) (facts : TermFacts) (a : TermAnswer P) → AreFactsLawful facts → IsTermAnswer P x facts a → TermAnswerMeans P exponential_depth facts a

-- it is tight
abbrev pub AnswerIsTight : Type 0
AnswerIsTight = (P : ℕ) (x : Expiry) (facts : TermFacts) (a : TermAnswer P) → IsScale P → AreFactsLawful facts → IsTermAnswer P x facts a → IsTightAnswer P a

-- and from scale 60 on a clear forward is decided
abbrev pub ClearForwardIsDecided : Type 0
ClearForwardIsDecided = (P : ℕ) (x : Expiry) (facts : TermFacts) (a : TermAnswer P) (term : Term) → IsScale P → 60 ≤ P → AreFactsLawful facts → IsTermAnswer P x facts a
    → IsTermOf facts term → IsClearForward term → IsForwardDecided P a

-- at exponent 0 the ends of the exponential are exactly 1
abbrev pub ExponentialIsOne : Type 0
ExponentialIsOne = (P : ℕ) (rate : ℤ) (minutes : ℕ) → (exponent rate minutes).top ≡ pos 0 → exponential_ends P rate minutes ≡ exact_ends P (pos 1)

-- the low end is at most the high end
abbrev pub AreInOrder : Ends → Type 0
AreInOrder x = x.lo ≤ℤ x.hi

-- a variance has its ends in order, whatever it is computed from
abbrev pub VarianceIsOrdered : Type 0
VarianceIsOrdered = (P : ℕ) (e total excess : Ends) → AreInOrder (variance_ends P e total excess)

-- and so has the square of the index, of two variances and of one, as they have
abbrev pub SquareIsOrdered : Type 0
SquareIsOrdered = (target n1 n2 : ℕ) (w1 w2 : Ends) → AreInOrder w1 → AreInOrder w2 → AreInOrder (interpolated_ends target w1 n1 w2 n2) × AreInOrder (single_ends w1)
