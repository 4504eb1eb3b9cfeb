use Rattle.vx_reading.specs.FeedReading.{feed_told}
use Rattle.vx_drivers.proofs.TickRunLemmas.{never_started}
use Rattle.vx_cli.specs.ReplayRuns.{replay_rules}
use Rattle.vx_cli.proofs.replay.replay_open.Goals as goal

pub returns-in-Err-clause-ends : goal.returns-in-Err-clause-ends
returns-in-Err-clause-ends g c =
    let told = g.D.Desk.told c.args.desk.now in
    never_started replay_rules (feed_told told) told
