use Rattle.std.proofs.Common.{◌≡◌, ◌∙◌, ◌-◌, ◌≤◌, sym, arith, rules}
use Rattle.std.proofs.lemmas.Int.{ints}
use Rattle.vx_interval.specs.Ends.{unit, rounded_ends}
use Rattle.vx_interval.proofs.EndsLemmas.{same_ends, unit_positive}
use Rattle.vx_interval.proofs.Enclosures.{rescale_encloses}
use Rattle.vx_interval.proofs.Widths.{rescale_width}
use Rattle.vx_interval.proofs.Ranges.{cast, rounded_same, rounded_in_range, rescale_up, rescale_down, rescale_up_range, range_small, product_small_same, same_product}
use Rattle.vx_interval.proofs.interval.Iv.rescale.Goals as goal

pub power_of_two-factor-requires : goal.power_of_two-factor-requires
power_of_two-factor-requires g c = let s = c.requires.scale in omega arith

pub power_of_two-requires : goal.power_of_two-requires
power_of_two-requires g c = let s = c.lo-low.ensures.interval.scale in omega arith

pub product-requires : goal.product-requires
product-requires g c =
    let more : g.row.P ≤ g.row.R = omega arith in
    let r = rescale_up_range g.row.P g.row.R c.args.self.now more c.lo-low.ensures.interval.ordered c.requires.in_range in
    product_small_same c.args.self.now.lo (unit (g.row.R - g.row.P)) (cast c.lo-low.result) (cast c.power_of_two-factor.result) (omega (arith, ints)) (omega (arith, ints))
    (range_small c.args.self.now.lo (unit (g.row.R - g.row.P)) (omega (arith, ints, r)) (omega (arith, ints, r)))

pub product-requires-then-this : goal.product-requires-then-this
product-requires-then-this g c =
    let more : g.row.P ≤ g.row.R = omega arith in
    let r = rescale_up_range g.row.P g.row.R c.args.self.now more c.lo-low.ensures.interval.ordered c.requires.in_range in
    product_small_same c.args.self.now.hi (unit (g.row.R - g.row.P)) (cast c.hi-high.result) (cast c.power_of_two-factor.result) (omega (arith, ints)) (omega (arith, ints))
    (range_small c.args.self.now.hi (unit (g.row.R - g.row.P)) (omega (arith, ints, r)) (omega (arith, ints, r)))

pub new-requires : goal.new-requires
new-requires g c =
    let more : g.row.P ≤ g.row.R = omega arith in
    let r = rescale_up_range g.row.P g.row.R c.args.self.now more c.lo-low.ensures.interval.ordered c.requires.in_range in
    let low = same_product (cast c.lo-low.result) (cast c.power_of_two-factor.result) c.args.self.now.lo (unit (g.row.R - g.row.P)) c.product.result (omega (arith, ints)) (omega (arith, ints)) c.product.ensures in
    let high = same_product (cast c.hi-high.result) (cast c.power_of_two-factor.result) c.args.self.now.hi (unit (g.row.R - g.row.P)) c.product-then-this.result (omega (arith, ints)) (omega (arith, ints)) c.product-then-this.ensures in
    (search rules, (c.requires.scale, (omega (arith, ints, r, low, high), record { low = omega (arith, ints, r, low, high); high = omega (arith, ints, r, low, high) })))

pub returns-then-this-clause-ends : goal.returns-then-this-clause-ends
returns-then-this-clause-ends g c =
    let more : g.row.P ≤ g.row.R = omega arith in
    let r = rescale_up_range g.row.P g.row.R c.args.self.now more c.lo-low.ensures.interval.ordered c.requires.in_range in
    let low = same_product (cast c.lo-low.result) (cast c.power_of_two-factor.result) c.args.self.now.lo (unit (g.row.R - g.row.P)) c.product.result (omega (arith, ints)) (omega (arith, ints)) c.product.ensures in
    let high = same_product (cast c.hi-high.result) (cast c.power_of_two-factor.result) c.args.self.now.hi (unit (g.row.R - g.row.P)) c.product-then-this.result (omega (arith, ints)) (omega (arith, ints)) c.product-then-this.ensures in
    c.new.ensures.ends ∙ same_ends _ _ (omega (arith, ints, low)) (omega (arith, ints, high)) ∙ sym (rescale_up g.row.P g.row.R c.args.self.now more)

pub rounded-requires : goal.rounded-requires
rounded-requires g c =
    let i = c.lo-low.ensures.interval in
    let ordered = i.ordered in
    let low = i.in_range.low in
    let high = i.in_range.high in
    let one = unit_positive (g.row.P - g.row.R) in (
      search rules,
      (
        c.requires.scale,
        (
          omega (arith, ints),
          (
            omega (arith, ints),
            rounded_in_range (cast c.lo-low.result) (cast c.hi-high.result) (cast c.power_of_two.result)
                (omega (arith, ints)) (omega (arith, ints)) (omega (arith, ints)) (omega (arith, ints)),
          ),
        ),
      ),
    )

pub returns-else-this-clause-ends : goal.returns-else-this-clause-ends
returns-else-this-clause-ends g c =
    let less : g.row.R ≤ g.row.P = omega arith in
    let s : rounded_ends (cast c.lo-low.result) (cast c.hi-high.result) (cast c.power_of_two.result) ≡ rounded_ends c.args.self.now.lo c.args.self.now.hi (unit (g.row.P - g.row.R)) =
    rounded_same _ _ _ _ _ _ (omega (arith, ints)) (omega (arith, ints)) (omega (arith, ints)) in
    c.rounded.ensures.ends ∙ s ∙ sym (rescale_down g.row.P g.row.R c.args.self.now less)

pub returns-then-this-clause-encloses : goal.returns-then-this-clause-encloses
returns-then-this-clause-encloses g c = rw (returns-then-this-clause-ends g c) (λ f m. rescale_encloses g.row.P g.row.R c.args.self.now f m)

pub returns-then-this-clause-width : goal.returns-then-this-clause-width
returns-then-this-clause-width g c = rw (returns-then-this-clause-ends g c) (rescale_width g.row.P g.row.R c.args.self.now)

pub returns-else-this-clause-encloses : goal.returns-else-this-clause-encloses
returns-else-this-clause-encloses g c = rw (returns-else-this-clause-ends g c) (λ f m. rescale_encloses g.row.P g.row.R c.args.self.now f m)

pub returns-else-this-clause-width : goal.returns-else-this-clause-width
returns-else-this-clause-width g c = rw (returns-else-this-clause-ends g c) (rescale_width g.row.P g.row.R c.args.self.now)
