use Rattle.std.proofs.Common.{rules}
use Rattle.vx_forward.specs.Pairs.{formula_pair}
use Rattle.vx_term.proofs.ToldLevels.{pair_in_range, at_most_two}
use Rattle.vx_term.proofs.level.tell_level.Goals as goal

pub forward-f-requires : goal.forward-f-requires
forward-f-requires g c =
    let pair = pair_in_range c.args.term.now.rows.now (formula_pair c.in-Some.pair) c.requires.lawful.rows c.in-Some.ensures in
    (search rules, (pair.strike, (pair.difference, (c.requires.exponential.low, at_most_two g.row.P c.args.e.now c.requires.exponential))))
