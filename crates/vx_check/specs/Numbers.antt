-- The tests of a certificate's numbers by which later ones are bounded, for each kind. This project's own.
use Rattle.std.specs.Prelude.{ℕ}
use Rattle.vx_cert.specs.declared.certificate.CertTerm.{CertTerm}
use Rattle.vx_cert.specs.declared.certificate.CertFigure.{CertFigure}
use Rattle.vx_cert.specs.declared.certificate.CertBody.{CertBody}
use Rattle.vx_cert.specs.declared.certificate.CertBody.TheVariants.{K0, Single, Index, Soq}
use Rattle.vx_claims.specs.declared.acceptance.Test.{Test}
use Rattle.vx_claims.specs.declared.acceptance.Test.TheVariants.{Square}
use Rattle.vx_tests.specs.Ranges.{IsSquareAdmitted}
use Rattle.vx_tests.specs.Terms.{NumbersMeet}

-- of a figure: the square alone bounds what comes later
abbrev pub FigureNumbersMeet : ℕ → CertFigure → Test → Type 0
FigureNumbersMeet P figure Square = IsSquareAdmitted P figure.x
FigureNumbersMeet P figure _ = Unit {0}

-- of one term and its figure
abbrev pub OneTermNumbersMeet : ℕ → CertTerm → CertFigure → Test → Type 0
OneTermNumbersMeet P term figure test = NumbersMeet P term test × FigureNumbersMeet P figure test

-- of two terms and their figure
abbrev pub TwoTermsNumbersMeet : ℕ → CertTerm → CertTerm → CertFigure → Test → Type 0
TwoTermsNumbersMeet P near next figure test = NumbersMeet P near test × NumbersMeet P next test × FigureNumbersMeet P figure test

-- of a body, by its kind; kind `k0` has none
abbrev pub BodyNumbersMeet : ℕ → CertBody → Test → Type 0
BodyNumbersMeet P (K0 x pair k0) test = Unit {0}
BodyNumbersMeet P (Single term figure) test = OneTermNumbersMeet P term figure test
BodyNumbersMeet P (Index days near next figure) test = TwoTermsNumbersMeet P near next figure test
BodyNumbersMeet P (Soq term figure) test = OneTermNumbersMeet P term figure test

-- of a body as one of kind index
abbrev pub IndexNumbersMeet : ℕ → CertBody → Test → Type 0
IndexNumbersMeet P (Index days near next figure) test = TwoTermsNumbersMeet P near next figure test
IndexNumbersMeet P _ test = Unit {0}
