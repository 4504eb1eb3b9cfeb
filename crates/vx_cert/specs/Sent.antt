-- What a certificate sends to serde. This project's own.
use Rattle.serde.specs.Event.{Log}
use Rattle.serde_json.specs.Events.{SendsValue}
use Rattle.vx_cert.specs.declared.certificate.Certificate.{Certificate}
use Rattle.vx_cert.specs.Ranges.{IsCertificateInRange}
use Rattle.vx_cert.specs.ReadBack.{IsReadBack}
use Rattle.vx_cert.specs.Written.{certificate_data}

-- its value of JSON, which is read as that certificate where each field is in its range
abbrev pub SendsCertificate : Certificate → Log → Log → Type 0
SendsCertificate c old new = SendsValue (certificate_data c) old new × (IsCertificateInRange c → IsReadBack c)
