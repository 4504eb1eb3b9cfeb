-- Which answers are lawful: at a tick, for so many days within a window, and at the opening. This project's own.
use Rattle.std.specs.Prelude.{◌≡◌, ℕ, ◌<◌, ℤ, List, Option, Some}
use Rattle.vx_feed.specs.declared.events.Event.{Event}
use Rattle.vx_cert.specs.declared.limits.TheConstants.{VERSION_MAX}
use Rattle.vx_cert.specs.declared.certificate.CertFigure.{CertFigure}
use Rattle.vx_cert.specs.declared.certificate.CertBody.{CertBody}
use Rattle.vx_cert.specs.declared.certificate.CertBody.TheVariants.{Index, Soq}
use Rattle.vx_cert.specs.declared.certificate.Certificate.{Certificate}
use Rattle.vx_formula.specs.Term.{TermFacts, Term, IsTermOf}
use Rattle.vx_formula.specs.Level.{IsLevel}
use Rattle.vx_formula.specs.Index.{TwoTerms, OneTerm}
use Rattle.vx_formula.specs.Refusal.{TickFacts, IsTickBasis, TickReason, TickRefuses, tick_place, FirstRefusal, near_undecided_place, next_undecided_place, cents_undecided_place, IsOpeningBasis, OpeningReason, OpeningRefuses, opening_place, FirstOpeningRefusal, opening_undecided_place, opening_cents_undecided_place}
use Rattle.vx_formula.specs.Undecided.{UndecidedCents, UndecidedForward}
use Rattle.vx_claims.specs.declared.limits.TheConstants.{SCALE}
use Rattle.vx_claims.specs.Seen.{IsOpeningAt, AreTickFacts, opening_facts}
use Rattle.vx_claims.specs.Accepts.{AcceptsFor, Accepts}
use Rattle.vx_claims.specs.Means.{IsFigureOf}

-- the figure states these
pub record StatesFigure (figure : CertFigure) (cents : ℕ) (lo hi : ℤ) : Type 0 where
  pub cents_are : figure.cents ≡ cents
  pub lo_is : figure.lo ≡ lo
  pub hi_is : figure.hi ≡ hi

abbrev pub StatesIndex : CertBody → ℕ → ℕ → ℤ → ℤ → Type 0
StatesIndex (Index stated_days near next figure) days cents lo hi = (stated_days ≡ days) × StatesFigure figure cents lo hi
StatesIndex _ days cents lo hi = ⊥

abbrev pub StatesOpening : CertBody → ℕ → ℤ → ℤ → Type 0
StatesOpening (Soq term figure) cents lo hi = StatesFigure figure cents lo hi
StatesOpening _ cents lo hi = ⊥

-- the certificate is of the product's version and names this line and time
pub record NamesLine (c : Certificate) (line time : ℕ) : Type 0 where
  pub version : c.v ≡ VERSION_MAX
  pub line_is : c.line ≡ line
  pub time_is : c.time ≡ time

-- ---- at a tick

-- a published figure
pub record PublishesTick (events : List Event) (line time days window cents : ℕ) (lo hi : ℤ) (c : Certificate) : Type 0 where
  pub facts : TickFacts
  pub are_facts : AreTickFacts events line time days window facts
  pub near : Term
  pub next : Term
  pub is_basis : IsTickBasis facts near next
  pub is_figure : IsFigureOf (TwoTerms near next facts.target) cents lo hi
  pub none_refuses : (reason : TickReason) → ¬ TickRefuses SCALE facts reason
  pub names_line : NamesLine c line time
  pub states : StatesIndex c.body days cents lo hi
  pub accepted : AcceptsFor days window events c

-- a refusal: the first that holds
pub record RefusesTick (events : List Event) (line time days window : ℕ) (reason : TickReason) : Type 0 where
  pub facts : TickFacts
  pub are_facts : AreTickFacts events line time days window facts
  pub is_first : FirstRefusal SCALE facts reason

-- a forward that is undecided at the place of its answer: no refusal at an earlier place holds
pub record LeavesForward (facts : TickFacts) (chosen : Option TermFacts) (place strike : ℕ) (lo hi : ℤ) : Type 0 where
  pub of : TermFacts
  pub is_chosen : chosen ≡ Some of
  pub term : Term
  pub is_of_facts : IsTermOf of term
  pub undecided : UndecidedForward term strike lo hi
  pub none_earlier : (reason : TickReason) → tick_place reason < place → ¬ TickRefuses SCALE facts reason

pub record LeavesNearForward (events : List Event) (line time days window strike : ℕ) (lo hi : ℤ) : Type 0 where
  pub facts : TickFacts
  pub are_facts : AreTickFacts events line time days window facts
  pub leaves : LeavesForward facts facts.near near_undecided_place strike lo hi

pub record LeavesNextForward (events : List Event) (line time days window strike : ℕ) (lo hi : ℤ) : Type 0 where
  pub facts : TickFacts
  pub are_facts : AreTickFacts events line time days window facts
  pub leaves : LeavesForward facts facts.next next_undecided_place strike lo hi

-- undecided cents: both terms have a level, and no refusal at an earlier place holds
pub record LeavesCents (events : List Event) (line time days window : ℕ) (lo hi : ℤ) : Type 0 where
  pub facts : TickFacts
  pub are_facts : AreTickFacts events line time days window facts
  pub near : Term
  pub next : Term
  pub is_basis : IsTickBasis facts near next
  pub near_level : (k : ℕ) × IsLevel near k
  pub next_level : (k : ℕ) × IsLevel next k
  pub undecided : UndecidedCents (TwoTerms near next facts.target) lo hi
  pub none_earlier : (reason : TickReason) → tick_place reason < cents_undecided_place → ¬ TickRefuses SCALE facts reason

-- ---- at the opening

pub record PublishesOpening (events : List Event) (line time cents : ℕ) (lo hi : ℤ) (c : Certificate) : Type 0 where
  pub is_opening : IsOpeningAt events line time
  pub term : Term
  pub is_basis : IsOpeningBasis (opening_facts events) term
  pub is_figure : IsFigureOf (OneTerm term) cents lo hi
  pub none_refuses : (reason : OpeningReason) → ¬ OpeningRefuses SCALE (opening_facts events) reason
  pub names_line : NamesLine c line time
  pub states : StatesOpening c.body cents lo hi
  pub accepted : Accepts events c

abbrev pub RefusesOpening : List Event → OpeningReason → Type 0
RefusesOpening events reason = FirstOpeningRefusal SCALE (opening_facts events) reason

pub record LeavesOpeningForward (events : List Event) (strike : ℕ) (lo hi : ℤ) : Type 0 where
  pub term : Term
  pub is_basis : IsOpeningBasis (opening_facts events) term
  pub undecided : UndecidedForward term strike lo hi
  pub none_earlier : (reason : OpeningReason) → opening_place reason < opening_undecided_place → ¬ OpeningRefuses SCALE (opening_facts events) reason

pub record LeavesOpeningCents (events : List Event) (lo hi : ℤ) : Type 0 where
  pub term : Term
  pub is_basis : IsOpeningBasis (opening_facts events) term
  pub level : (k : ℕ) × IsLevel term k
  pub undecided : UndecidedCents (OneTerm term) lo hi
  pub none_earlier : (reason : OpeningReason) → opening_place reason < opening_cents_undecided_place → ¬ OpeningRefuses SCALE (opening_facts events) reason
