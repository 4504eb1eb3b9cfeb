use Rattle.vx_days.proofs.CertificateLineExampleProofs.{level_line_is_read, single_line_is_read}
use Rattle.vx_days.proofs.certificates.certificate_lines.Goals as goal

pub returns : goal.returns
returns c = record { level = level_line_is_read; single = single_line_is_read }
