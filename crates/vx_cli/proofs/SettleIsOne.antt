-- A feed and a file of positions have at most one run of `settle`.
use Rattle.vx_feed.specs.Feed.{reading_of}
use Rattle.vx_drivers.specs.PositionRun.{positions_of}
use Rattle.vx_drivers.proofs.PositionLawLemmas.{run_is_one}
use Rattle.vx_cli.specs.Laws.{SettleIsOne}
use Rattle.vx_cli.specs.SettleLaws.{comes_to_one, opening_is_one}
use Rattle.vx_cli.specs.SettleRuns.{settle_rules}

pub settle_is_one : SettleIsOne
settle_is_one feed positions exit other out certs other_out other_certs h k =
    run_is_one settle_rules opening_is_one comes_to_one (reading_of feed) (positions_of positions) exit other out certs other_out other_certs h k
