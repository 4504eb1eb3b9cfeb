use Rattle.std.proofs.Common.{◌≡◌, pos, neg_ℤ, ◌-ℤ◌, ◌<ℤ◌, ◌≤ℤ◌, arith, to_z, of_z, to_z-of_z}
use Rattle.std.proofs.lemmas.Int.{ints}
use mir.Syntax.{w64, w128}
use Rattle.vx_bounds.proofs.Roots.{down_answer, up_answer}
use Rattle.vx_bounds.proofs.root.signed_root_below.Goals as goal

pub returns-then-n-lt0 : goal.returns-then-n-lt0
returns-then-n-lt0 c =
    let e = to_z-of_z c.ranges.n in
    let sign : c.args.n <ℤ pos 0 = grind (arith, ints) in
    let r = c.root_up.ensures.bound in
    let z : to_z w64 (of_z w64 (pos 0 -ℤ to_z w64 c.root_up.result)) ≡ neg_ℤ (pos c.root_up.result) = omega (arith, ints) in
    let a = up_answer c.args.n (to_z w128 (of_z w128 c.args.n)) (to_z w64 (of_z w64 (pos 0 -ℤ to_z w64 c.root_up.result))) c.root_up.result c.unsigned_abs.result
    e sign c.unsigned_abs.ensures.value z r.0 c.root_up.ensures.at_least c.root_up.ensures.last_below r.1 in
    record { at_most = a.at_most; next_above = a.next_above; bound = a.bound }

pub returns-else-n-lt0 : goal.returns-else-n-lt0
returns-else-n-lt0 c =
    let e = to_z-of_z c.ranges.n in
    let sign : pos 0 ≤ℤ c.args.n = grind (arith, ints) in
    let r = c.root_down.ensures.bound in
    let z : to_z w64 c.root_down.result ≡ pos c.root_down.result = omega (arith, ints) in
    let a = down_answer c.args.n (to_z w128 (of_z w128 c.args.n)) (to_z w64 c.root_down.result) c.root_down.result
    e sign z c.root_down.ensures.at_most c.root_down.ensures.next_above r in
    record { at_most = a.at_most; next_above = a.next_above; bound = a.bound }
