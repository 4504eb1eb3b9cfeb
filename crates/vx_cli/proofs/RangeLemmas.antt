-- That the fields of a certificate are in range has one proof at most.
use Rattle.std.proofs.Props.{props}
use Rattle.vx_cert.specs.declared.certificate.CertBody.{CertBody}
use Rattle.vx_cert.specs.declared.certificate.CertBody.TheVariants.{K0, Single, Index, Soq}
use Rattle.vx_cert.specs.declared.certificate.CertFigure.{CertFigure}
use Rattle.vx_cert.specs.declared.certificate.CertTerm.{CertTerm}
use Rattle.vx_cert.specs.declared.certificate.Certificate.{Certificate}
use Rattle.vx_cert.specs.Ranges.{IsBodyInRange, IsCertificateInRange, IsFigureInRange, IsTermInRange}

term_prop : (term : CertTerm) → IsProp (IsTermInRange term)
term_prop term = hlevel props

figure_prop : (figure : CertFigure) → IsProp (IsFigureInRange figure)
figure_prop figure = hlevel props

body_prop : (body : CertBody) → IsProp (IsBodyInRange body)
body_prop (K0 x pair k0) = hlevel props
body_prop (Single term figure) = hlevel (props, term_prop, figure_prop)
body_prop (Index days near next figure) = hlevel (props, term_prop, figure_prop)
body_prop (Soq term figure) = hlevel (props, term_prop, figure_prop)

pub in_range_prop : (c : Certificate) → IsProp (IsCertificateInRange c)
in_range_prop c = hlevel (props, body_prop)
