-- A figure that is decided is published with what is stated of it.
use Rattle.std.proofs.Common.{◌≡◌, ℤ, to_z, of_z, w64, arith, to_z-of_z}
use Rattle.vx_replay.proofs.Joining.{figure_is_published}
use Rattle.vx_replay.proofs.join.join_runs.Goals as goal

pub returns-in_ok-certificate-in-Cents : goal.returns-in_ok-certificate-in-Cents
returns-in_ok-certificate-in-Cents g c =
    let index = c.decide_index-index.result in
    let asked = c.args.asked in
    let lo_is : to_z w64 (of_z w64 index.lo) ≡ index.lo = grind (arith, to_z-of_z) in
    let hi_is : to_z w64 (of_z w64 index.hi) ≡ index.hi = grind (arith, to_z-of_z) in
    figure_is_published g.row.P asked.line asked.time asked.days c.args.near.now c.args.next.now c.interpolate-square.result index _ _ c.in-Cents.cents _ _
    c.interpolate-square.ensures.ends lo_is hi_is c.decide_index-index.ensures c.in-Cents.is c.certify_figure-figure.ensures c.in_ok-certificate-in-Cents.ensures
