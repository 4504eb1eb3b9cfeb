use Rattle.std.proofs.Common.{rules}
use Rattle.vx_strip.specs.Entries.{entries_of}
use Rattle.vx_term.proofs.ToldLevels.{told_is_level, level_place_within, total_up_to, total_interval}
use Rattle.vx_term.proofs.run.run_of.Goals as goal

pub strike_at-k0-requires : goal.strike_at-k0-requires
strike_at-k0-requires g c = level_place_within g.row.P c.args.term.now.rows.now c.args.level.f c.args.level.place c.requires.told.tells

pub excess_of-g-requires : goal.excess_of-g-requires
excess_of-g-requires g c =
    let level = told_is_level g.row.P c.args.term.now.rows.now c.args.given.exp.value c.args.level c.strike_at-k0.result c.requires.lawful.rows c.requires.told c.strike_at-k0.ensures in
    (search rules, (c.requires.told.interval, (level.strike, (level.at_least, level.at_most_twice))))

pub variance_of-w-requires : goal.variance_of-w-requires
variance_of-w-requires g c =
    let total = total_up_to g.row.P (entries_of c.args.strip) c.args.sum c.requires.sum in
    let interval = total_interval g.row.P c.args.strip c.args.sum c.requires.exponential.interval.scale c.requires.in_range c.requires.sum in
    (search rules, (c.requires.exponential, (total, (interval, (c.excess_of-g.ensures.in_range, c.excess_of-g.ensures.interval)))))
