-- The certificate of a published opening can be written.
use Rattle.std.specs.Prelude.{List}
use Rattle.vx_cert.specs.Ranges.{IsCertificateInRange}
use Rattle.vx_feed.specs.declared.events.Event.{Event}
use Rattle.vx_feed.specs.Order.{AreLawful}
use Rattle.vx_soq.specs.declared.answer.OpeningAnswer.{OpeningAnswer}
use Rattle.vx_soq.specs.declared.answer.OpeningAnswer.TheVariants.{Published}
use Rattle.vx_soq.specs.Openings.{IsOpeningAnswer}

-- each field of the certificate of a published figure is in its range
abbrev pub IsWritable : OpeningAnswer → Type 0
IsWritable (Published figure) = IsCertificateInRange figure.certificate
IsWritable _ = Unit {0}

-- so it is for the opening of lawful events
abbrev pub OpeningCanBeWritten : Type 0
OpeningCanBeWritten = (events : List Event) (answer : OpeningAnswer) →
    AreLawful events → IsOpeningAnswer events answer → IsWritable answer
