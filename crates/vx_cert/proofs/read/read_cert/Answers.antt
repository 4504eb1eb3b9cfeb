use Rattle.serde_json.specs.View.{view}
use Rattle.vx_cert.proofs.Faults.{reads_as}
use Rattle.vx_cert.proofs.ReadRanges.{read_is_in_range}
use Rattle.vx_cert.proofs.read.read_cert.Goals as goal

pub returns-in-Ok-clause-reads : goal.returns-in-Ok-clause-reads
returns-in-Ok-clause-reads c = reads_as _ (view c.in-Ok.value) c.certificate.result c.in-Ok.ensures.ok c.certificate.ensures

pub returns-in-Ok-clause-in_range : goal.returns-in-Ok-clause-in_range
returns-in-Ok-clause-in_range c = read_is_in_range (view c.in-Ok.value) c.certificate.result c.certificate.ensures
