-- The tests of one term are the same for each kind that has them, and the tests before one give the feed line's tick.
use Rattle.std.proofs.Common.{◌≡◌, ◌↔◌, ℕ, ◌<◌, Bool, IsTrue, List, refl, sym, subst, arith}
use Rattle.vx_clock.specs.declared.terms.Expiry.{Expiry}
use Rattle.vx_feed.specs.declared.events.Event.{Event}
use Rattle.vx_cert.specs.declared.certificate.CertTerm.{CertTerm}
use Rattle.vx_cert.specs.declared.certificate.CertFigure.{CertFigure}
use Rattle.vx_cert.specs.declared.certificate.Pair.{Pair as CertPair}
use Rattle.vx_cert.specs.declared.certificate.CertBody.{CertBody}
use Rattle.vx_cert.specs.declared.certificate.CertBody.TheVariants.{K0, Single, Soq}
use Rattle.vx_claims.specs.declared.acceptance.Test.{Test}
use Rattle.vx_claims.specs.declared.acceptance.Test.TheVariants.{Place, Terms, Minutes, Rate, TaylorTerms, Exponential, ClosestPair, Forward, Level}
use Rattle.vx_claims.specs.declared.acceptance.Test.TheVariants.{Excess, Strip, Contributions, Total, Variance, Square, IndexEnds}
use Rattle.vx_claims.specs.Test.{test_number}
use Rattle.vx_claims.specs.Seen.{IsTickAt}
use Rattle.vx_claims.specs.Accepts.{TermMeetsAt, OpeningTermMeets, SingleMeets, IndexMeets, SoqMeets}
use Rattle.vx_check.specs.declared.book.PlainBook.{PlainBook}
use Rattle.vx_check.specs.Reached.{IsReached, IsAtTick}
use Rattle.vx_check.specs.Answers.{AreMetBefore, IsSingleBasis, BodyMeetsAsIndex}
use Rattle.vx_check.specs.Numbers.{FigureNumbersMeet}

-- the line's tick is there where the tests before a later one are met
pub tick_before : (book : PlainBook) (events : List Event) (line time : ℕ) (M : Test → Type 0) → (M Place → IsTickAt events line time)
    → IsReached book events line
    → (test : Test) → 1 < test_number test → AreMetBefore M test → IsAtTick book events line time
tick_before book events line time M place reached test later before = record { reached = reached; is_tick = place (before Place later) }

-- a test that is of one term alone, by what it is not

pub single_rest : (events : List Event) (version line time : ℕ) (term : CertTerm) (figure : CertFigure) (test : Test)
    → (test ≡ Place → ⊥) → (test ≡ Terms → ⊥) → (test ≡ Square → ⊥) → (test ≡ IndexEnds → ⊥)
    → SingleMeets events version line time term figure test ↔ (IsSingleBasis term test × TermMeetsAt events version line time term test)
single_rest events version line time term figure Place n0 n1 n2 n3 = absurd (n0 refl)
single_rest events version line time term figure Terms n0 n1 n2 n3 = absurd (n1 refl)
single_rest events version line time term figure Minutes n0 n1 n2 n3 = (λ h. (h.1, h.0), λ h. (h.1, h.0))
single_rest events version line time term figure Rate n0 n1 n2 n3 = (λ h. (h.1, h.0), λ h. (h.1, h.0))
single_rest events version line time term figure TaylorTerms n0 n1 n2 n3 = (λ h. (tt, h), λ h. h.1)
single_rest events version line time term figure Exponential n0 n1 n2 n3 = (λ h. (tt, h), λ h. h.1)
single_rest events version line time term figure ClosestPair n0 n1 n2 n3 = (λ h. (tt, h), λ h. h.1)
single_rest events version line time term figure Forward n0 n1 n2 n3 = (λ h. (tt, h), λ h. h.1)
single_rest events version line time term figure Level n0 n1 n2 n3 = (λ h. (tt, h), λ h. h.1)
single_rest events version line time term figure Excess n0 n1 n2 n3 = (λ h. (tt, h), λ h. h.1)
single_rest events version line time term figure Strip n0 n1 n2 n3 = (λ h. (tt, h), λ h. h.1)
single_rest events version line time term figure Contributions n0 n1 n2 n3 = (λ h. (tt, h), λ h. h.1)
single_rest events version line time term figure Total n0 n1 n2 n3 = (λ h. (tt, h), λ h. h.1)
single_rest events version line time term figure Variance n0 n1 n2 n3 = (λ h. (tt, h), λ h. h.1)
single_rest events version line time term figure Square n0 n1 n2 n3 = absurd (n2 refl)
single_rest events version line time term figure IndexEnds n0 n1 n2 n3 = absurd (n3 refl)

pub index_rest : (days window : ℕ) (events : List Event) (version line time stated : ℕ) (near next : CertTerm) (figure : CertFigure) (test : Test)
    → (test ≡ Place → ⊥) → (test ≡ Terms → ⊥) → (test ≡ Square → ⊥) → (test ≡ IndexEnds → ⊥)
    → IndexMeets days window events version line time stated near next figure test
    ↔ (TermMeetsAt events version line time near test × TermMeetsAt events version line time next test)
index_rest days window events version line time stated near next figure Place n0 n1 n2 n3 = absurd (n0 refl)
index_rest days window events version line time stated near next figure Terms n0 n1 n2 n3 = absurd (n1 refl)
index_rest days window events version line time stated near next figure Minutes n0 n1 n2 n3 = (λ h. h, λ h. h)
index_rest days window events version line time stated near next figure Rate n0 n1 n2 n3 = (λ h. h, λ h. h)
index_rest days window events version line time stated near next figure TaylorTerms n0 n1 n2 n3 = (λ h. h, λ h. h)
index_rest days window events version line time stated near next figure Exponential n0 n1 n2 n3 = (λ h. h, λ h. h)
index_rest days window events version line time stated near next figure ClosestPair n0 n1 n2 n3 = (λ h. h, λ h. h)
index_rest days window events version line time stated near next figure Forward n0 n1 n2 n3 = (λ h. h, λ h. h)
index_rest days window events version line time stated near next figure Level n0 n1 n2 n3 = (λ h. h, λ h. h)
index_rest days window events version line time stated near next figure Excess n0 n1 n2 n3 = (λ h. h, λ h. h)
index_rest days window events version line time stated near next figure Strip n0 n1 n2 n3 = (λ h. h, λ h. h)
index_rest days window events version line time stated near next figure Contributions n0 n1 n2 n3 = (λ h. h, λ h. h)
index_rest days window events version line time stated near next figure Total n0 n1 n2 n3 = (λ h. h, λ h. h)
index_rest days window events version line time stated near next figure Variance n0 n1 n2 n3 = (λ h. h, λ h. h)
index_rest days window events version line time stated near next figure Square n0 n1 n2 n3 = absurd (n2 refl)
index_rest days window events version line time stated near next figure IndexEnds n0 n1 n2 n3 = absurd (n3 refl)

pub soq_rest : (events : List Event) (version line time : ℕ) (term : CertTerm) (figure : CertFigure) (test : Test)
    → (test ≡ Place → ⊥) → (test ≡ Terms → ⊥) → (test ≡ Square → ⊥) → (test ≡ IndexEnds → ⊥)
    → SoqMeets events version line time term figure test ↔ OpeningTermMeets events version term test
soq_rest events version line time term figure Place n0 n1 n2 n3 = absurd (n0 refl)
soq_rest events version line time term figure Terms n0 n1 n2 n3 = absurd (n1 refl)
soq_rest events version line time term figure Minutes n0 n1 n2 n3 = (λ h. h, λ h. h)
soq_rest events version line time term figure Rate n0 n1 n2 n3 = (λ h. h, λ h. h)
soq_rest events version line time term figure TaylorTerms n0 n1 n2 n3 = (λ h. h, λ h. h)
soq_rest events version line time term figure Exponential n0 n1 n2 n3 = (λ h. h, λ h. h)
soq_rest events version line time term figure ClosestPair n0 n1 n2 n3 = (λ h. h, λ h. h)
soq_rest events version line time term figure Forward n0 n1 n2 n3 = (λ h. h, λ h. h)
soq_rest events version line time term figure Level n0 n1 n2 n3 = (λ h. h, λ h. h)
soq_rest events version line time term figure Excess n0 n1 n2 n3 = (λ h. h, λ h. h)
soq_rest events version line time term figure Strip n0 n1 n2 n3 = (λ h. h, λ h. h)
soq_rest events version line time term figure Contributions n0 n1 n2 n3 = (λ h. h, λ h. h)
soq_rest events version line time term figure Total n0 n1 n2 n3 = (λ h. h, λ h. h)
soq_rest events version line time term figure Variance n0 n1 n2 n3 = (λ h. h, λ h. h)
soq_rest events version line time term figure Square n0 n1 n2 n3 = absurd (n2 refl)
soq_rest events version line time term figure IndexEnds n0 n1 n2 n3 = absurd (n3 refl)

-- a test other than the first comes later
pub later_test : (test : Test) → (test ≡ Place → ⊥) → 1 < test_number test
later_test Place other = absurd (other refl)
later_test Terms other = omega arith
later_test Minutes other = omega arith
later_test Rate other = omega arith
later_test TaylorTerms other = omega arith
later_test Exponential other = omega arith
later_test ClosestPair other = omega arith
later_test Forward other = omega arith
later_test Level other = omega arith
later_test Excess other = omega arith
later_test Strip other = omega arith
later_test Contributions other = omega arith
later_test Total other = omega arith
later_test Variance other = omega arith
later_test Square other = omega arith
later_test IndexEnds other = omega arith

-- and one other than the first two after both
pub second_test : (test : Test) → (test ≡ Place → ⊥) → (test ≡ Terms → ⊥) → 2 < test_number test
second_test Place other past = absurd (other refl)
second_test Terms other past = absurd (past refl)
second_test Minutes other past = omega arith
second_test Rate other past = omega arith
second_test TaylorTerms other past = omega arith
second_test Exponential other past = omega arith
second_test ClosestPair other past = omega arith
second_test Forward other past = omega arith
second_test Level other past = omega arith
second_test Excess other past = omega arith
second_test Strip other past = omega arith
second_test Contributions other past = omega arith
second_test Total other past = omega arith
second_test Variance other past = omega arith
second_test Square other past = omega arith
second_test IndexEnds other past = omega arith

-- of a figure only its square bounds later tests
pub no_square : (P : ℕ) (figure : CertFigure) (test : Test) → (test ≡ Square → ⊥) → FigureNumbersMeet P figure test
no_square P figure Place other = tt
no_square P figure Terms other = tt
no_square P figure Minutes other = tt
no_square P figure Rate other = tt
no_square P figure TaylorTerms other = tt
no_square P figure Exponential other = tt
no_square P figure ClosestPair other = tt
no_square P figure Forward other = tt
no_square P figure Level other = tt
no_square P figure Excess other = tt
no_square P figure Strip other = tt
no_square P figure Contributions other = tt
no_square P figure Total other = tt
no_square P figure Variance other = tt
no_square P figure Square other = absurd (other refl)
no_square P figure IndexEnds other = tt

-- a certificate of another kind fails the first test of kind index and no other
abbrev IsLater : Bool → Test → Type 0
IsLater b test = IsTrue b ↔ (1 < test_number test)

module _ (days window : ℕ) (events : List Event) (version line time : ℕ) where
  abbrev AsIndex : Bool → CertBody → Test → Type 0
  AsIndex b body test = IsTrue b ↔ BodyMeetsAsIndex days window events version line time body test

  level_as_index : (x : Expiry) (pair : CertPair) (k0 : ℕ) (b : Bool) (test : Test) → IsLater b test → AsIndex b (K0 x pair k0) test
  level_as_index x pair k0 b Place later = (λ t. let less = later.0 t in absurd (omega arith), λ m. absurd m)
  level_as_index x pair k0 b Terms later = (λ t. tt, λ m. later.1 (omega arith))
  level_as_index x pair k0 b Minutes later = (λ t. tt, λ m. later.1 (omega arith))
  level_as_index x pair k0 b Rate later = (λ t. tt, λ m. later.1 (omega arith))
  level_as_index x pair k0 b TaylorTerms later = (λ t. tt, λ m. later.1 (omega arith))
  level_as_index x pair k0 b Exponential later = (λ t. tt, λ m. later.1 (omega arith))
  level_as_index x pair k0 b ClosestPair later = (λ t. tt, λ m. later.1 (omega arith))
  level_as_index x pair k0 b Forward later = (λ t. tt, λ m. later.1 (omega arith))
  level_as_index x pair k0 b Level later = (λ t. tt, λ m. later.1 (omega arith))
  level_as_index x pair k0 b Excess later = (λ t. tt, λ m. later.1 (omega arith))
  level_as_index x pair k0 b Strip later = (λ t. tt, λ m. later.1 (omega arith))
  level_as_index x pair k0 b Contributions later = (λ t. tt, λ m. later.1 (omega arith))
  level_as_index x pair k0 b Total later = (λ t. tt, λ m. later.1 (omega arith))
  level_as_index x pair k0 b Variance later = (λ t. tt, λ m. later.1 (omega arith))
  level_as_index x pair k0 b Square later = (λ t. tt, λ m. later.1 (omega arith))
  level_as_index x pair k0 b IndexEnds later = (λ t. tt, λ m. later.1 (omega arith))

  single_as_index : (term : CertTerm) (figure : CertFigure) (b : Bool) (test : Test) → IsLater b test → AsIndex b (Single term figure) test
  single_as_index term figure b Place later = (λ t. let less = later.0 t in absurd (omega arith), λ m. absurd m)
  single_as_index term figure b Terms later = (λ t. tt, λ m. later.1 (omega arith))
  single_as_index term figure b Minutes later = (λ t. tt, λ m. later.1 (omega arith))
  single_as_index term figure b Rate later = (λ t. tt, λ m. later.1 (omega arith))
  single_as_index term figure b TaylorTerms later = (λ t. tt, λ m. later.1 (omega arith))
  single_as_index term figure b Exponential later = (λ t. tt, λ m. later.1 (omega arith))
  single_as_index term figure b ClosestPair later = (λ t. tt, λ m. later.1 (omega arith))
  single_as_index term figure b Forward later = (λ t. tt, λ m. later.1 (omega arith))
  single_as_index term figure b Level later = (λ t. tt, λ m. later.1 (omega arith))
  single_as_index term figure b Excess later = (λ t. tt, λ m. later.1 (omega arith))
  single_as_index term figure b Strip later = (λ t. tt, λ m. later.1 (omega arith))
  single_as_index term figure b Contributions later = (λ t. tt, λ m. later.1 (omega arith))
  single_as_index term figure b Total later = (λ t. tt, λ m. later.1 (omega arith))
  single_as_index term figure b Variance later = (λ t. tt, λ m. later.1 (omega arith))
  single_as_index term figure b Square later = (λ t. tt, λ m. later.1 (omega arith))
  single_as_index term figure b IndexEnds later = (λ t. tt, λ m. later.1 (omega arith))

  soq_as_index : (term : CertTerm) (figure : CertFigure) (b : Bool) (test : Test) → IsLater b test → AsIndex b (Soq term figure) test
  soq_as_index term figure b Place later = (λ t. let less = later.0 t in absurd (omega arith), λ m. absurd m)
  soq_as_index term figure b Terms later = (λ t. tt, λ m. later.1 (omega arith))
  soq_as_index term figure b Minutes later = (λ t. tt, λ m. later.1 (omega arith))
  soq_as_index term figure b Rate later = (λ t. tt, λ m. later.1 (omega arith))
  soq_as_index term figure b TaylorTerms later = (λ t. tt, λ m. later.1 (omega arith))
  soq_as_index term figure b Exponential later = (λ t. tt, λ m. later.1 (omega arith))
  soq_as_index term figure b ClosestPair later = (λ t. tt, λ m. later.1 (omega arith))
  soq_as_index term figure b Forward later = (λ t. tt, λ m. later.1 (omega arith))
  soq_as_index term figure b Level later = (λ t. tt, λ m. later.1 (omega arith))
  soq_as_index term figure b Excess later = (λ t. tt, λ m. later.1 (omega arith))
  soq_as_index term figure b Strip later = (λ t. tt, λ m. later.1 (omega arith))
  soq_as_index term figure b Contributions later = (λ t. tt, λ m. later.1 (omega arith))
  soq_as_index term figure b Total later = (λ t. tt, λ m. later.1 (omega arith))
  soq_as_index term figure b Variance later = (λ t. tt, λ m. later.1 (omega arith))
  soq_as_index term figure b Square later = (λ t. tt, λ m. later.1 (omega arith))
  soq_as_index term figure b IndexEnds later = (λ t. tt, λ m. later.1 (omega arith))

  -- the same for a body that is known to be of the kind
  pub level_kind : {x : Expiry} {pair : CertPair} {k0 : ℕ} (body : CertBody) → body ≡ K0 x pair k0 → (b : Bool) (test : Test) → IsLater b test
      → AsIndex b body test
  level_kind {x} {pair} {k0} body is b test later = subst (λ (y : CertBody). AsIndex b y test) (sym is) (level_as_index x pair k0 b test later)

  pub single_kind : {term : CertTerm} {figure : CertFigure} (body : CertBody) → body ≡ Single term figure → (b : Bool) (test : Test) → IsLater b test
      → AsIndex b body test
  single_kind {term} {figure} body is b test later = subst (λ (y : CertBody). AsIndex b y test) (sym is) (single_as_index term figure b test later)

  pub soq_kind : {term : CertTerm} {figure : CertFigure} (body : CertBody) → body ≡ Soq term figure → (b : Bool) (test : Test) → IsLater b test
      → AsIndex b body test
  soq_kind {term} {figure} body is b test later = subst (λ (y : CertBody). AsIndex b y test) (sym is) (soq_as_index term figure b test later)
