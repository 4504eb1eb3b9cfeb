use Rattle.vx_drivers.proofs.PositionRunIsThere.{run_is_there}
use Rattle.vx_drivers.proofs.position_laws.position_run_is_there.Goals as goal

pub returns : goal.returns
returns g c = run_is_there g.S.SettlesPositions.rules
