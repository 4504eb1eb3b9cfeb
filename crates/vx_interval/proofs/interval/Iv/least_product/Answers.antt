use Rattle.std.proofs.Common.{arith}
use Rattle.std.proofs.lemmas.Int.{ints}
use Rattle.vx_interval.specs.Ends.{magnitude}
use Rattle.vx_interval.proofs.Ranges.{cast, low_of, high_of, product_small, least_product_is}
use Rattle.vx_interval.proofs.interval.Iv.least_product.Goals as goal

pub product-requires : goal.product-requires
product-requires g c =
    product_small (cast c.lo-low.result) (cast c.lo-other_low.result) (magnitude c.args.self.now) (magnitude c.args.o.now)
    (low_of c.args.self.now (cast c.lo-low.result) (omega (arith, ints))) (low_of c.args.o.now (cast c.lo-other_low.result) (omega (arith, ints))) c.requires

pub product-requires-2 : goal.product-requires-2
product-requires-2 g c =
    product_small (cast c.lo-low.result) (cast c.hi-other_high.result) (magnitude c.args.self.now) (magnitude c.args.o.now)
    (low_of c.args.self.now (cast c.lo-low.result) (omega (arith, ints))) (high_of c.args.o.now (cast c.hi-other_high.result) (omega (arith, ints))) c.requires

pub product-requires-3 : goal.product-requires-3
product-requires-3 g c =
    product_small (cast c.hi-high.result) (cast c.lo-other_low.result) (magnitude c.args.self.now) (magnitude c.args.o.now)
    (high_of c.args.self.now (cast c.hi-high.result) (omega (arith, ints))) (low_of c.args.o.now (cast c.lo-other_low.result) (omega (arith, ints))) c.requires

pub product-requires-4 : goal.product-requires-4
product-requires-4 g c =
    product_small (cast c.hi-high.result) (cast c.hi-other_high.result) (magnitude c.args.self.now) (magnitude c.args.o.now)
    (high_of c.args.self.now (cast c.hi-high.result) (omega (arith, ints))) (high_of c.args.o.now (cast c.hi-other_high.result) (omega (arith, ints))) c.requires

pub returns-clause-value : goal.returns-clause-value
returns-clause-value g c =
    let e = least_product_is c.args.self.now c.args.o.now (cast c.lo-low.result) (cast c.hi-high.result) (cast c.lo-other_low.result) (cast c.hi-other_high.result)
    (cast c.product.result) (cast c.product-2.result) (cast c.product-3.result) (cast c.product-4.result)
    (omega (arith, ints)) (omega (arith, ints)) (omega (arith, ints)) (omega (arith, ints))
    (omega (arith, ints)) (omega (arith, ints)) (omega (arith, ints)) (omega (arith, ints)) in
    omega (arith, ints, e)

pub returns-clause-interval : goal.returns-clause-interval
returns-clause-interval g c = c.lo-low.ensures.interval

pub returns-clause-other_interval : goal.returns-clause-other_interval
returns-clause-other_interval g c = c.lo-other_low.ensures.interval
