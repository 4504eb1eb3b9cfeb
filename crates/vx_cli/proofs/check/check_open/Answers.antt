use Rattle.vx_drivers.proofs.RunLemmas.{never_started}
use Rattle.vx_cli.specs.CheckRuns.{check_rules}
use Rattle.vx_cli.proofs.check.check_open.Goals as goal

pub returns-in-Err-clause-ends : goal.returns-in-Err-clause-ends
returns-in-Err-clause-ends g c = never_started check_rules (g.D.Desk.told c.args.desk.now)
