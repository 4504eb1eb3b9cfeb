use Rattle.std.proofs.Common.{◌∙◌, ℤ, pos, ◌*ℤ◌, ap, to_z-of_z}
use Rattle.vx_term.proofs.Weights.{given}
use Rattle.vx_term.proofs.ToldLevels.{exp_run_given}
use Rattle.vx_term.proofs.variance.given_at.Goals as goal

pub returns-clause-run : goal.returns-clause-run
returns-clause-run g c =
    let rate = ap (λ (z : ℤ). z *ℤ pos c.args.minutes) (to_z-of_z c.ranges.rate) in
    let top = given c.exponent_top.result (c.args.rate *ℤ pos c.args.minutes) c.exponent_top.type_inv (c.exponent_top.ensures ∙ rate) in
    let e = c.exp_signed-exp.ensures in
    exp_run_given g.row.P _ _ _ _ c.exp_signed-exp.result top c.exponent_bottom.ensures e.low_terms e.high_terms e.value
