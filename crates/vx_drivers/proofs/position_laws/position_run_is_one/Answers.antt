use Rattle.vx_drivers.proofs.PositionLawLemmas.{run_is_one}
use Rattle.vx_drivers.proofs.position_laws.position_run_is_one.Goals as goal

pub returns : goal.returns
returns g c = run_is_one g.S.SettlesPositions.rules g.met.S.SettlesPositions.opens_one g.met.S.SettlesPositions.comes_to_one
