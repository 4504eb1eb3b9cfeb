-- What is written is read back. This project's own.
use Rattle.std.specs.Prelude.{◌≡◌, ℕ, Ok}
use Rattle.vx_cert.specs.declared.certificate.CertTerm.{CertTerm}
use Rattle.vx_cert.specs.declared.certificate.Certificate.{Certificate}
use Rattle.vx_cert.specs.Reading.{term_fields, certificate_of}
use Rattle.vx_cert.specs.Written.{term_data, certificate_data}

-- the value of JSON that a term is written as is read as that term, whatever the number of its field
pub record IsTermReadBack (term : CertTerm) : Type 0 where
  pub read_back : (n : ℕ) → term_fields n (term_data term) ≡ Ok term

-- the value of JSON that a certificate is written as is read as that certificate
pub record IsReadBack (c : Certificate) : Type 0 where
  pub read_back : certificate_of (certificate_data c) ≡ Ok c
