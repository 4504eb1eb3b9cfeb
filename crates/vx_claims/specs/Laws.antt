-- The laws of acceptance.
use Rattle.std.specs.Prelude.{◌≡◌, ℕ, List}
use Rattle.vx_clock.specs.declared.terms.Expiry.{Expiry}
use Rattle.vx_feed.specs.declared.events.Event.{Event}
use Rattle.vx_feed.specs.Listed.{listed_rows}
use Rattle.vx_feed.specs.Opening.{opening_rows}
use Rattle.vx_feed.specs.Order.{AreLawful}
use Rattle.vx_cert.specs.declared.certificate.Pair.{Pair as CertPair}
use Rattle.vx_cert.specs.declared.certificate.CertFigure.{CertFigure}
use Rattle.vx_cert.specs.declared.certificate.CertBody.TheVariants.{K0}
use Rattle.vx_cert.specs.declared.certificate.Certificate.{Certificate}
use Rattle.vx_formula.specs.Level.{StrikesRise}
use Rattle.vx_formula.specs.Undecided.{Straddles}
use Rattle.vx_claims.specs.declared.acceptance.Test.{Test}
use Rattle.vx_claims.specs.FigureTests.{EnclosesIndex}
use Rattle.vx_claims.specs.Accepts.{Meets, Accepts, FirstFailing}
use Rattle.vx_claims.specs.Means.{Means}

-- whoever made it, an accepted certificate of kind k0 over a lawful feed names the closest pair and the level at rate zero
abbrev pub AcceptedLevelMeans : Type 0
AcceptedLevelMeans = (events : List Event) (c : Certificate) (x : Expiry) (pair : CertPair) (k0 : ℕ) →
    AreLawful events → c.body ≡ K0 x pair k0 → Accepts events c → Means events c

-- at most one test is the first that fails, and none of an accepted certificate
abbrev pub FailingTestIsOne : Type 0
FailingTestIsOne = (events : List Event) (c : Certificate) (s t : Test) → FirstFailing (Meets events c) s → FirstFailing (Meets events c) t → s ≡ t

abbrev pub AcceptedHasNoFailingTest : Type 0
AcceptedHasNoFailingTest = (events : List Event) (c : Certificate) (test : Test) → Accepts events c → FirstFailing (Meets events c) test → ⊥

-- no boundary lies between the printed ends of an accepted figure
abbrev pub StatedEndsAreDecided : Type 0
StatedEndsAreDecided = (P : ℕ) (figure : CertFigure) → EnclosesIndex P figure → Straddles figure.lo figure.hi → ⊥

-- the rows that a feed shows rise in strike, at any line and at the opening
abbrev pub ListedRowsRise : Type 0
ListedRowsRise = (x : Expiry) (events : List Event) → StrikesRise (listed_rows x events) × StrikesRise (opening_rows x events)
