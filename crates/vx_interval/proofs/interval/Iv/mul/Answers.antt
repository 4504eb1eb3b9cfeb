use Rattle.std.proofs.Common.{◌≡◌, ◌∙◌, arith, rules}
use Rattle.std.proofs.lemmas.Int.{ints}
use Rattle.vx_interval.specs.Ends.{unit, rounded_ends, least_product, greatest_product}
use Rattle.vx_interval.proofs.Enclosures.{mul_encloses}
use Rattle.vx_interval.proofs.Widths.{mul_width}
use Rattle.vx_interval.proofs.Ranges.{cast, rounded_same, rounded_over_unit, unit_at_least, least_product_range, greatest_product_range, least_at_most_greatest}
use Rattle.vx_interval.proofs.interval.Iv.mul.Goals as goal

pub power_of_two-requires : goal.power_of_two-requires
power_of_two-requires g c = c.least_product-low.ensures.interval.scale.1

pub rounded-requires : goal.rounded-requires
rounded-requires g c =
    let least = least_product_range c.args.self.now c.args.o.now c.requires.small in
    let greatest = greatest_product_range c.args.self.now c.args.o.now c.requires.small in
    let order = least_at_most_greatest c.args.self.now c.args.o.now in
    let one = unit_at_least g.row.P c.least_product-low.ensures.interval.scale in (
      search rules,
      (
        c.least_product-low.ensures.interval.scale,
        (
          omega (arith, ints),
          (
            omega (arith, ints),
            rounded_over_unit (cast c.least_product-low.result) (cast c.greatest_product-high.result) (cast c.power_of_two.result)
                (omega (arith, ints)) (omega (arith, ints)) (omega (arith, ints)) (omega (arith, ints)),
          ),
        ),
      ),
    )

pub returns-clause-ends : goal.returns-clause-ends
returns-clause-ends g c =
    let s : rounded_ends (cast c.least_product-low.result) (cast c.greatest_product-high.result) (cast c.power_of_two.result) ≡ rounded_ends (least_product c.args.self.now c.args.o.now) (greatest_product c.args.self.now c.args.o.now) (unit g.row.P) =
    rounded_same _ _ _ _ _ _ (omega (arith, ints)) (omega (arith, ints)) (omega (arith, ints)) in
    c.rounded.ensures.ends ∙ s

pub returns-clause-encloses : goal.returns-clause-encloses
returns-clause-encloses g c = rw (returns-clause-ends g c) (λ f h mf mh. mul_encloses g.row.P c.args.self.now c.args.o.now f h mf mh)

pub returns-clause-width : goal.returns-clause-width
returns-clause-width g c =
    rw (returns-clause-ends g c)
    (mul_width g.row.P c.args.self.now c.args.o.now c.least_product-low.ensures.interval.ordered c.least_product-low.ensures.other_interval.ordered)
