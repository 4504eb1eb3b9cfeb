use Rattle.std.proofs.Common.{◌≡◌, pos, neg_ℤ, ◌-ℤ◌, arith, to_z, of_z}
use Rattle.std.proofs.lemmas.Int.{ints}
use mir.Syntax.{w64, w128}
use Rattle.vx_interval.proofs.Widths.{from_within}
use Rattle.vx_bounds.proofs.Roots.{above_answer}
use Rattle.vx_bounds.proofs.root.signed_root_above.Goals as goal

pub returns : goal.returns
returns c =
    let r = from_within c.args.n 10240000000000000000 c.requires in
    let s = from_within c.signed_root_below.result 3200000000 c.signed_root_below.ensures.bound in
    let e : to_z w128 (of_z w128 (pos 0 -ℤ to_z w128 (of_z w128 c.args.n))) ≡ neg_ℤ c.args.n = omega (arith, ints, r.0, r.1) in
    let f : to_z w64 (of_z w64 (pos 0 -ℤ to_z w64 (of_z w64 c.signed_root_below.result))) ≡ neg_ℤ c.signed_root_below.result = omega (arith, ints, s.0, s.1) in
    let a = above_answer c.args.n _ c.signed_root_below.result _ e f c.signed_root_below.ensures.at_most c.signed_root_below.ensures.next_above c.signed_root_below.ensures.bound in
    record { at_least = a.at_least; last_below = a.last_below; bound = a.bound }
