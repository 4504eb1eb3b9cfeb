use Rattle.std.proofs.Common.{rules}
use Rattle.vx_make.specs.Feed.{make_events}
use Rattle.vx_cli.proofs.DrillLemmas.{counted_few}
use Rattle.vx_cli.proofs.SampleLemmas.{line_drills}
use Rattle.vx_cli.proofs.drill.write_drill.Goals as goal

pub push_counts-requires : goal.push_counts-requires
push_counts-requires c = counted_few (make_events c.args.number c.args.ticks) c.in_ok-counts.counts c.in_ok-counts.ensures

pub returns : goal.returns
returns c =
    line_drills c.args.number c.args.ticks c.in_ok-counts.counts c.new-line.result.items c.push_counts.new.line.items
    c.in_ok-counts.ensures (search rules) c.in_ok-push_counts.ensures
