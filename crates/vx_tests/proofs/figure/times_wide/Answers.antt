use Rattle.std.proofs.Common.{◌^◌, to_z-of_z, lit<}
use Rattle.vx_tests.proofs.Products.{product_fits}
use Rattle.vx_tests.proofs.figure.times_wide.Goals as goal

pub returns : goal.returns
returns c =
    let a = to_z-of_z c.ranges.end in
    let b = to_z-of_z c.ranges.factor in
    rw (a, b) (product_fits c.args.end c.args.factor (2 ^ 72) (2 ^ 54) c.requires.end c.requires.factor (lit< tt))
