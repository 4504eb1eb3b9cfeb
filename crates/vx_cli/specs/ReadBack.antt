-- That a certificate that is written can be read again. This project's own.
use Rattle.std.specs.Prelude.{Ok}
use Rattle.vx_lines.specs.Cut.{IsLine}
use Rattle.vx_cert.specs.declared.certificate.Certificate.{Certificate}
use Rattle.vx_cert.specs.declared.limits.TheConstants.{WRITTEN_LEN_MAX}
use Rattle.vx_cert.specs.Reading.{ReadsAs}
use Rattle.vx_cert.specs.Written.{certificate_line}
use Rattle.vx_replay.specs.declared.answer.TickAnswer.{TickAnswer}
use Rattle.vx_replay.specs.declared.answer.TickAnswer.TheVariants.{Published}
use Rattle.vx_soq.specs.declared.answer.OpeningAnswer.{OpeningAnswer}
use Rattle.vx_soq.specs.declared.answer.OpeningAnswer.TheVariants as opening

-- what the certificate is written as is one line, and it is read from that line
pub record IsReadFromLine (c : Certificate) : Type 0 where
  pub is_line : IsLine WRITTEN_LEN_MAX (certificate_line c)
  pub reads : ReadsAs (certificate_line c) (Ok c)

-- and so it is with the certificate of a tick's answer, where it has one
abbrev pub CertificateIsRead : TickAnswer → Type 0
CertificateIsRead (Published cents lo hi certificate) = IsReadFromLine certificate
CertificateIsRead _ = Unit {0}

-- and with that of the opening's answer
abbrev pub OpeningCertificateIsRead : OpeningAnswer → Type 0
OpeningCertificateIsRead (opening.Published figure) = IsReadFromLine figure.certificate
OpeningCertificateIsRead _ = Unit {0}
