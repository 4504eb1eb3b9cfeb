use Rattle.std.proofs.Common.{refl}
use Rattle.vx_reading.specs.FeedReading.{feed_told}
use Rattle.vx_drivers.specs.declared.exit.Exit.TheVariants.{NoMemory}
use Rattle.vx_drivers.specs.Held.{held_in}
use Rattle.vx_drivers.specs.PositionSteps.{positions_told}
use Rattle.vx_drivers.proofs.ExitLemmas.{memory_not_side}
use Rattle.vx_drivers.proofs.PositionRunLemmas.{nothing_sent}
use Rattle.vx_cli.specs.SettleRuns.{settle_rules}
use Rattle.vx_cli.proofs.settle.settle_open.Goals as goal

pub returns-in-Err-clause-ends : goal.returns-in-Err-clause-ends
returns-in-Err-clause-ends g c =
    let told = g.D.Desk.told c.args.desk.now in
    nothing_sent settle_rules (held_in told) (feed_told told) (positions_told told) told told NoMemory refl refl refl memory_not_side
