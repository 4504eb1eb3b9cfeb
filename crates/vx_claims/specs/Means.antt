-- What an accepted certificate asserts, in the words of the formula. Each kind asserts it of the terms that the feed shows at the
-- certificate's line.
use Rattle.std.specs.Prelude.{◌≡◌, ℕ, ℤ, pos, ◌+ℤ◌, ◌≤ℤ◌, List, Some}
use Rattle.vx_clock.specs.declared.days.DayNo.{DayNo}
use Rattle.vx_clock.specs.declared.terms.Expiry.{Expiry}
use Rattle.vx_clock.specs.declared.limits.TheConstants.{INDEX_DAYS, INDEX_WINDOW}
use Rattle.vx_feed.specs.declared.events.Event.{Event}
use Rattle.vx_feed.specs.Listed.{trade_date}
use Rattle.vx_cert.specs.declared.certificate.Pair.{Pair as CertPair}
use Rattle.vx_cert.specs.declared.certificate.CertFigure.{CertFigure}
use Rattle.vx_cert.specs.declared.certificate.CertBody.{CertBody}
use Rattle.vx_cert.specs.declared.certificate.CertBody.TheVariants.{K0, Single, Index, Soq}
use Rattle.vx_cert.specs.declared.certificate.Certificate.{Certificate}
use Rattle.vx_formula.specs.declared.limits.TheConstants.{THIRTY_DAYS, INDEX_WIDTH_MAX}
use Rattle.vx_formula.specs.Term.{Term, IsTermOf}
use Rattle.vx_formula.specs.Level.{IsLevel}
use Rattle.vx_formula.specs.Index.{Basis, TwoTerms, OneTerm}
use Rattle.vx_formula.specs.Rounds.{Rounds}
use Rattle.vx_formula.specs.Between.{Between}
use Rattle.vx_formula.specs.Refusal.{TickFacts, IsTickBasis, TickReason, TickRefuses, IsOpeningBasis, OpeningReason, OpeningRefuses}
use Rattle.vx_claims.specs.declared.limits.TheConstants.{SCALE}
use Rattle.vx_claims.specs.Seen.{IsTickAt, IsOpeningAt, events_before, moment_of, term_facts, ArePickedTerms, AreTickFacts, opening_facts}
use Rattle.vx_claims.specs.TermTests.{stated_pair}

-- the cents are the exact value rounded, and no others are; it lies between the two ends, which lie close
pub record IsFigureOf (basis : Basis) (cents : ℕ) (lo hi : ℤ) : Type 0 where
  pub rounds : Rounds basis cents
  pub no_other : (other : ℕ) → Rounds basis other → other ≡ cents
  pub between : Between basis lo hi
  pub narrow : hi ≤ℤ (lo +ℤ pos INDEX_WIDTH_MAX)

-- the term of an expiry that the feed shows at a tick
pub record IsTermSeen (events : List Event) (line time : ℕ) (x : Expiry) (term : Term) : Type 0 where
  pub is_tick : IsTickAt events line time
  pub day : DayNo
  pub day_is : trade_date events ≡ Some day
  pub of_facts : IsTermOf (term_facts (events_before events line) (moment_of day time) x) term

-- kind k0: at rate zero, the pair is the closest one and k0 is the level
pub record MeansLevel (events : List Event) (line time : ℕ) (x : Expiry) (pair : CertPair) (k0 : ℕ) : Type 0 where
  pub term : Term
  pub is_seen : IsTermSeen events line time x term
  pub rate_is_zero : term.rate ≡ pos 0
  pub pair_is : term.pair ≡ stated_pair pair
  pub is_level : IsLevel term k0

-- kind single: at rate zero and exactly 30 days before the settlement, the figure is that of the one term
pub record MeansSingle (events : List Event) (line time : ℕ) (x : Expiry) (figure : CertFigure) : Type 0 where
  pub term : Term
  pub is_seen : IsTermSeen events line time x term
  pub rate_is_zero : term.rate ≡ pos 0
  pub is_thirty_days : term.minutes ≡ THIRTY_DAYS
  pub is_figure : IsFigureOf (OneTerm term) figure.cents figure.lo figure.hi

-- kind index: the two expiries are those of the near and the next term, the figure is that of these terms, and nothing is refused
pub record MeansIndex (days window : ℕ) (events : List Event) (line time : ℕ) (near_expiry next_expiry : Expiry) (figure : CertFigure) : Type 0 where
  pub picked : ArePickedTerms events line days window near_expiry next_expiry
  pub facts : TickFacts
  pub are_facts : AreTickFacts events line time days window facts
  pub near : Term
  pub next : Term
  pub near_is_seen : IsTermSeen events line time near_expiry near
  pub next_is_seen : IsTermSeen events line time next_expiry next
  pub is_basis : IsTickBasis facts near next
  pub is_figure : IsFigureOf (TwoTerms near next facts.target) figure.cents figure.lo figure.hi
  pub none_refuses : (reason : TickReason) → ¬ TickRefuses SCALE facts reason

-- kind soq: the figure is that of the opening's term, and nothing is refused
pub record MeansOpening (events : List Event) (line time : ℕ) (figure : CertFigure) : Type 0 where
  pub is_opening : IsOpeningAt events line time
  pub term : Term
  pub is_basis : IsOpeningBasis (opening_facts events) term
  pub is_figure : IsFigureOf (OneTerm term) figure.cents figure.lo figure.hi
  pub none_refuses : (reason : OpeningReason) → ¬ OpeningRefuses SCALE (opening_facts events) reason

abbrev pub BodyMeans : ℕ → ℕ → List Event → ℕ → ℕ → CertBody → Type 0
BodyMeans days window events line time (K0 x pair k0) = MeansLevel events line time x pair k0
BodyMeans days window events line time (Single term figure) = MeansSingle events line time term.expiry figure
BodyMeans days window events line time (Index stated_days near next figure) = MeansIndex days window events line time near.expiry next.expiry figure
BodyMeans days window events line time (Soq term figure) = MeansOpening events line time figure

-- what the certificate asserts, where kind index is read for so many days within a window
abbrev pub MeansFor : ℕ → ℕ → List Event → Certificate → Type 0
MeansFor days window events c = BodyMeans days window events c.line c.time c.body

-- the index is that of 30 days
abbrev pub Means : List Event → Certificate → Type 0
Means events c = MeansFor INDEX_DAYS INDEX_WINDOW events c
