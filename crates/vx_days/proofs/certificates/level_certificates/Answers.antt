use Rattle.vx_days.proofs.CertificateExampleProofs.{level_is_accepted, wrong_line_fails, wrong_pair_fails, low_level_fails}
use Rattle.vx_days.proofs.certificates.level_certificates.Goals as goal

pub returns : goal.returns
returns c = record {
  accepted = level_is_accepted;
  wrong_line = wrong_line_fails;
  wrong_pair = wrong_pair_fails;
  low_level = low_level_fails;
}
