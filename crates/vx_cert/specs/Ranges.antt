-- The range of each field of a certificate, with the field's number in the format. A field that is
-- not named here is bounded by its type alone. This project's own.
use Rattle.std.specs.Prelude.{ℕ, ◌≤◌, ◌^◌, ℤ, pos, ◌≤ℤ◌, ◌<ℤ◌, neg_ℤ, length}
use Rattle.vx_clock.specs.declared.limits.TheConstants.{DAY_MIN, DAY_MAX, MINUTE_MAX, MINUTES_MIN, MINUTES_MAX, RATE_MIN, RATE_MAX}
use Rattle.vx_clock.specs.declared.terms.Expiry.{Expiry}
use Rattle.vx_cert.specs.declared.limits.TheConstants.{VERSION_MIN, VERSION_MAX, LINE_MAX, DAYS_MAX, CENTS_MAX, ROWS_MAX, END_BITS, INDEX_END_BITS}
use Rattle.vx_cert.specs.declared.certificate.Ends.{Ends}
use Rattle.vx_cert.specs.declared.certificate.CertTerm.{CertTerm}
use Rattle.vx_cert.specs.declared.certificate.CertFigure.{CertFigure}
use Rattle.vx_cert.specs.declared.certificate.CertBody.{CertBody}
use Rattle.vx_cert.specs.declared.certificate.CertBody.TheVariants.{K0, Single, Index, Soq}
use Rattle.vx_cert.specs.declared.certificate.Certificate.{Certificate}

-- below 2 to the power of bits in absolute value
abbrev pub IsBelowPower : ℕ → ℤ → Type 0
IsBelowPower bits z = (neg_ℤ (pos (2 ^ bits)) <ℤ z) × (z <ℤ pos (2 ^ bits))

-- both ends are below 2^126 in absolute value
pub record AreEndsInRange (ends : Ends) : Type 0 where
  pub lo : IsBelowPower END_BITS ends.lo
  pub hi : IsBelowPower END_BITS ends.hi

-- the date is a day of the years 2000 to 2099
pub record IsExpiryInRange (expiry : Expiry) : Type 0 where
  pub first : DAY_MIN ≤ℤ expiry.date.0
  pub last : expiry.date.0 ≤ℤ DAY_MAX

-- the inner fields of a term
pub record IsTermInRange (term : CertTerm) : Type 0 where
  pub date : IsExpiryInRange term.expiry  -- 2
  pub minutes_first : MINUTES_MIN ≤ term.minutes  -- 3
  pub minutes_last : term.minutes ≤ MINUTES_MAX
  pub rate_least : RATE_MIN ≤ℤ term.rate  -- 4
  pub rate_greatest : term.rate ≤ℤ RATE_MAX
  pub e : AreEndsInRange term.e  -- 6
  pub f : AreEndsInRange term.f  -- 8
  pub g : AreEndsInRange term.g  -- 10
  pub rows_some : 1 ≤ length term.rows  -- 11
  pub rows_most : length term.rows ≤ ROWS_MAX
  pub s : AreEndsInRange term.s  -- 12
  pub w : AreEndsInRange term.w  -- 13

-- fields 6 to 8 of kinds single and soq, 8 to 10 of kind index
pub record IsFigureInRange (figure : CertFigure) : Type 0 where
  pub x : AreEndsInRange figure.x
  pub lo : IsBelowPower INDEX_END_BITS figure.lo
  pub hi : IsBelowPower INDEX_END_BITS figure.hi
  pub cents : figure.cents ≤ CENTS_MAX

-- the fields from 5 on, by kind
abbrev pub IsBodyInRange : CertBody → Type 0
IsBodyInRange (K0 expiry pair k0) = IsExpiryInRange expiry
IsBodyInRange (Single term figure) = IsTermInRange term × IsFigureInRange figure
IsBodyInRange (Index days near next figure) = (days ≤ DAYS_MAX) × IsTermInRange near × IsTermInRange next × IsFigureInRange figure
IsBodyInRange (Soq term figure) = IsTermInRange term × IsFigureInRange figure

-- each field of the certificate is in its range
pub record IsCertificateInRange (c : Certificate) : Type 0 where
  pub version_first : VERSION_MIN ≤ c.v  -- 1
  pub version_last : c.v ≤ VERSION_MAX
  pub line_first : 1 ≤ c.line  -- 3
  pub line_last : c.line ≤ LINE_MAX
  pub time : c.time ≤ MINUTE_MAX  -- 4
  pub body : IsBodyInRange c.body
