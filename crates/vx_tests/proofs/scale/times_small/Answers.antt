use Rattle.std.proofs.Common.{◌^◌, to_z-of_z, lit<, lit≤}
use Rattle.vx_tests.proofs.Products.{product_fits, product_within}
use Rattle.vx_tests.proofs.scale.times_small.Goals as goal

pub returns-clause-value : goal.returns-clause-value
returns-clause-value c =
    let a = to_z-of_z c.ranges.end in
    let b = to_z-of_z c.ranges.factor in
    rw (a, b) (product_fits c.args.end c.args.factor (2 ^ 65) (2 ^ 34) c.requires.end c.requires.factor (lit< tt))

pub returns-clause-bound : goal.returns-clause-bound
returns-clause-bound c =
    let a = to_z-of_z c.ranges.end in
    let b = to_z-of_z c.ranges.factor in
    let fits = product_fits c.args.end c.args.factor (2 ^ 65) (2 ^ 34) c.requires.end c.requires.factor (lit< tt) in
    simp (a, b, fits) (product_within c.args.end c.args.factor (2 ^ 65) (2 ^ 34) (2 ^ 99) c.requires.end c.requires.factor (lit≤ tt))
