use Rattle.vx_days.proofs.CertificateExampleProofs.{first_version_is_accepted, second_version_is_accepted, high_taylor_fails, other_version_fails, low_row_fails, wide_ends_fail}
use Rattle.vx_days.proofs.certificates.single_certificates.Goals as goal

pub returns : goal.returns
returns c = record {
  first_version = first_version_is_accepted;
  second_version = second_version_is_accepted;
  high_taylor = high_taylor_fails;
  other_version = other_version_fails;
  low_row = low_row_fails;
  wide_ends = wide_ends_fail;
}
