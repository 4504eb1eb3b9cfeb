-- When a certificate is accepted: every test that its kind has is met. This project's own.
use Rattle.std.specs.Prelude.{◌≡◌, ℕ, ◌*◌, ◌^◌, ◌<◌, ◌==◌, ◌⊎◌, IsTrue, pos, ◌+ℤ◌, ◌*ℤ◌, List, Some, if◌then◌else◌}
use Rattle.vx_clock.specs.declared.days.DayNo.{DayNo}
use Rattle.vx_clock.specs.declared.terms.Expiry.{Expiry}
use Rattle.vx_clock.specs.declared.limits.TheConstants.{DAY_MINUTES, INDEX_DAYS, INDEX_WINDOW}
use Rattle.vx_feed.specs.declared.events.Event.{Event}
use Rattle.vx_feed.specs.Standing.{before_opening, standing_rate}
use Rattle.vx_feed.specs.Listed.{trade_date, is_declared, listed_rows}
use Rattle.vx_cert.specs.declared.certificate.Ends.{Ends}
use Rattle.vx_cert.specs.declared.certificate.Pair.{Pair as CertPair}
use Rattle.vx_cert.specs.declared.certificate.CertTerm.{CertTerm}
use Rattle.vx_cert.specs.declared.certificate.CertFigure.{CertFigure}
use Rattle.vx_cert.specs.declared.certificate.CertBody.{CertBody}
use Rattle.vx_cert.specs.declared.certificate.CertBody.TheVariants.{K0, Single, Index, Soq}
use Rattle.vx_cert.specs.declared.certificate.Certificate.{Certificate}
use Rattle.vx_formula.specs.declared.limits.TheConstants.{THIRTY_DAYS}
use Rattle.vx_formula.specs.Pair.{IsClosestPair}
use Rattle.vx_claims.specs.declared.limits.TheConstants.{SCALE, FIRST_SCALE}
use Rattle.vx_claims.specs.Seen.{IsTickAt, IsOpeningAt, events_before, moment_of, ArePickedTerms, term_facts, opening_expiry, opening_term_facts}
use Rattle.vx_claims.specs.declared.acceptance.Test.{Test}
use Rattle.vx_claims.specs.declared.acceptance.Test.TheVariants.{Place, Terms, Minutes, Rate, ClosestPair, Level, Square, IndexEnds}
use Rattle.vx_claims.specs.Test.{test_number}
use Rattle.vx_claims.specs.TermTests.{stated_pair, IsLevelOfEnds, TermMeets}
use Rattle.vx_claims.specs.FigureTests.{EnclosesSquare, EnclosesSingleSquare, EnclosesIndex}

-- the scale of a certificate's numbers, by its version
abbrev pub scale_of : ℕ → ℕ
scale_of version = if version == 1 then FIRST_SCALE else SCALE

abbrev pub IsVersion : ℕ → Type 0
IsVersion version = (version ≡ 1) ⊎ (version ≡ 2)

-- a term meets a test over what the feed shows at the tick of a line
pub record TermMeetsAt (events : List Event) (version line time : ℕ) (term : CertTerm) (test : Test) : Type 0 where
  pub is_tick : IsTickAt events line time
  pub day : DayNo
  pub day_is : trade_date events ≡ Some day
  pub meets : TermMeets (scale_of version) (term_facts (events_before events line) (moment_of day time) term.expiry) term test

-- the figure of two terms meets a test, for so many days
abbrev pub FigureMeets : ℕ → ℕ → CertTerm → CertTerm → CertFigure → Test → Type 0
FigureMeets version days near next figure Square =
    EnclosesSquare (scale_of version) (DAY_MINUTES * days) near.minutes next.minutes near.w next.w figure.x
FigureMeets version days near next figure IndexEnds = EnclosesIndex (scale_of version) figure
FigureMeets version days near next figure _ = Unit {0}

-- the figure of one term
abbrev pub SingleFigureMeets : ℕ → CertTerm → CertFigure → Test → Type 0
SingleFigureMeets version term figure Square = EnclosesSingleSquare (scale_of version) term.w figure.x
SingleFigureMeets version term figure IndexEnds = EnclosesIndex (scale_of version) figure
SingleFigureMeets version term figure _ = Unit {0}

-- kind index, for so many days within a window
abbrev pub IndexMeets : ℕ → ℕ → List Event → ℕ → ℕ → ℕ → ℕ → CertTerm → CertTerm → CertFigure → Test → Type 0
IndexMeets days window events version line time stated_days near next figure Place = IsTickAt events line time × (stated_days ≡ days)
IndexMeets days window events version line time stated_days near next figure Terms = ArePickedTerms events line days window near.expiry next.expiry
IndexMeets days window events version line time stated_days near next figure Square = FigureMeets version days near next figure Square
IndexMeets days window events version line time stated_days near next figure IndexEnds = FigureMeets version days near next figure IndexEnds
IndexMeets days window events version line time stated_days near next figure test =
    TermMeetsAt events version line time near test × TermMeetsAt events version line time next test

-- kind single: one term that settles in exactly 30 days, at rate zero
abbrev pub SingleMeets : List Event → ℕ → ℕ → ℕ → CertTerm → CertFigure → Test → Type 0
SingleMeets events version line time term figure Place = IsTickAt events line time
SingleMeets events version line time term figure Terms = IsTrue (is_declared term.expiry (events_before events line))
SingleMeets events version line time term figure Minutes = TermMeetsAt events version line time term Minutes × (term.minutes ≡ THIRTY_DAYS)
SingleMeets events version line time term figure Rate = TermMeetsAt events version line time term Rate × (term.rate ≡ pos 0)
SingleMeets events version line time term figure Square = SingleFigureMeets version term figure Square
SingleMeets events version line time term figure IndexEnds = SingleFigureMeets version term figure IndexEnds
SingleMeets events version line time term figure test = TermMeetsAt events version line time term test

-- the opening's term meets a test over what the feed shows at the opening
pub record OpeningTermMeets (events : List Event) (version : ℕ) (term : CertTerm) (test : Test) : Type 0 where
  pub day : DayNo
  pub day_is : trade_date events ≡ Some day
  pub meets : TermMeets (scale_of version) (opening_term_facts events day) term test

-- its expiry is the SPX one 30 days after the trade date, declared before the opening
pub record IsOpeningExpiry (events : List Event) (x : Expiry) : Type 0 where
  pub day : DayNo
  pub day_is : trade_date events ≡ Some day
  pub expiry_is : x ≡ opening_expiry day
  pub declared : IsTrue (is_declared x (before_opening events))

-- kind soq
abbrev pub SoqMeets : List Event → ℕ → ℕ → ℕ → CertTerm → CertFigure → Test → Type 0
SoqMeets events version line time term figure Place = IsOpeningAt events line time
SoqMeets events version line time term figure Terms = IsOpeningExpiry events term.expiry
SoqMeets events version line time term figure Square = SingleFigureMeets version term figure Square
SoqMeets events version line time term figure IndexEnds = SingleFigureMeets version term figure IndexEnds
SoqMeets events version line time term figure test = OpeningTermMeets events version term test

-- kind k0: at rate zero both ends of the forward are (K* + 5 * D) * 2^P
abbrev pub zero_rate_forward : ℕ → CertPair → Ends
zero_rate_forward P pair =
    let f = (pos pair.strike +ℤ pos 5 *ℤ pair.d) *ℤ pos (2 ^ P) in record { lo = f; hi = f }

abbrev pub K0Meets : List Event → ℕ → ℕ → ℕ → Expiry → CertPair → ℕ → Test → Type 0
K0Meets events version line time x pair k0 Place = IsTickAt events line time
K0Meets events version line time x pair k0 Terms = IsTrue (is_declared x (events_before events line))
K0Meets events version line time x pair k0 Rate = standing_rate x (events_before events line) ≡ Some (pos 0)
K0Meets events version line time x pair k0 ClosestPair = IsClosestPair (listed_rows x (events_before events line)) (stated_pair pair)
K0Meets events version line time x pair k0 Level =
    IsLevelOfEnds (scale_of version) (listed_rows x (events_before events line)) (zero_rate_forward (scale_of version) pair) k0
K0Meets events version line time x pair k0 _ = Unit {0}

-- of a certificate's body, where kind index is tested for so many days within a window
abbrev pub BodyMeets : ℕ → ℕ → List Event → ℕ → ℕ → ℕ → CertBody → Test → Type 0
BodyMeets days window events version line time (K0 x pair k0) test = K0Meets events version line time x pair k0 test
BodyMeets days window events version line time (Single term figure) test = SingleMeets events version line time term figure test
BodyMeets days window events version line time (Index stated_days near next figure) test =
    IndexMeets days window events version line time stated_days near next figure test
BodyMeets days window events version line time (Soq term figure) test = SoqMeets events version line time term figure test

-- the certificate meets the test, or its kind does not have the test
abbrev pub MeetsFor : ℕ → ℕ → List Event → Certificate → Test → Type 0
MeetsFor days window events c test = BodyMeets days window events c.v c.line c.time c.body test

pub record AcceptsFor (days window : ℕ) (events : List Event) (c : Certificate) : Type 0 where
  pub version : IsVersion c.v
  pub meets_all : (test : Test) → MeetsFor days window events c test

-- the index is that of 30 days
abbrev pub Meets : List Event → Certificate → Test → Type 0
Meets events c test = MeetsFor INDEX_DAYS INDEX_WINDOW events c test

abbrev pub Accepts : List Event → Certificate → Type 0
Accepts events c = AcceptsFor INDEX_DAYS INDEX_WINDOW events c

-- the first test that fails
pub record FirstFailing (Holds : Test → Type 0) (test : Test) : Type 0 where
  pub fails : ¬ Holds test
  pub all_before : (other : Test) → test_number other < test_number test → Holds other
