use Rattle.vx_cert.proofs.OneReading.{one_reading}
use Rattle.vx_cert.proofs.laws.certificates_are_read_as_one.Goals as goal

pub returns : goal.returns
returns c = one_reading
