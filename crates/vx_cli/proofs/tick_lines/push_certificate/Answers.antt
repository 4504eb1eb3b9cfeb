use Rattle.std.proofs.Common.{subst}
use Rattle.std.proofs.Math.Logic.{∥∥₁_elim}
use Rattle.vx_replay.specs.declared.answer.TickAnswer.{TickAnswer}
use Rattle.vx_replay.specs.Joinable.{CanBeWritten}
use Rattle.vx_cli.proofs.RangeLemmas.{in_range_prop}
use Rattle.vx_cli.proofs.tick_lines.push_certificate.Goals as goal

pub write_cert-requires : goal.write_cert-requires
write_cert-requires c =
    ∥∥₁_elim (subst (λ (a : TickAnswer). ∥ CanBeWritten a ∥₁) c.in-Published.is c.requires)
    (in_range_prop c.in-Published.certificate) (λ written. written)
