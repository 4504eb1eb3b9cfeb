use Rattle.std.proofs.Common.{sym}
use Rattle.vx_strip.proofs.Sides.{strike_at_read}
use Rattle.vx_term.proofs.run.strike_at.Goals as goal

pub returns : goal.returns
returns c = sym (strike_at_read c.args.rows.now c.args.place c.requires)
