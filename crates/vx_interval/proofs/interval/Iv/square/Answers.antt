use Rattle.std.proofs.Common.{◌≡◌, ◌∙◌, arith, rules}
use Rattle.std.proofs.lemmas.Int.{ints}
use Rattle.vx_interval.specs.Ends.{unit, rounded_ends, least_square, greatest_square}
use Rattle.vx_interval.proofs.Squares.{square_encloses, least_nonneg}
use Rattle.vx_interval.proofs.Widths.{square_width}
use Rattle.vx_interval.proofs.Ranges.{cast, low_of, high_of, rounded_same, rounded_over_unit, unit_at_least, square_range, least_square_same, greatest_square_same, square_ordered, greatest_square_range}
use Rattle.vx_interval.proofs.interval.Iv.square.Goals as goal

pub least_square-least-requires : goal.least_square-least-requires
least_square-least-requires g c =
    record {
      low = square_range c.args.self.now (cast c.lo-low.result) (low_of c.args.self.now (cast c.lo-low.result) (omega (arith, ints))) c.requires.small;
      high = square_range c.args.self.now (cast c.hi-high.result) (high_of c.args.self.now (cast c.hi-high.result) (omega (arith, ints))) c.requires.small;
    }

pub greatest_square-greatest-requires : goal.greatest_square-greatest-requires
greatest_square-greatest-requires g c =
    record {
      low = square_range c.args.self.now (cast c.lo-low.result) (low_of c.args.self.now (cast c.lo-low.result) (omega (arith, ints))) c.requires.small;
      high = square_range c.args.self.now (cast c.hi-high.result) (high_of c.args.self.now (cast c.hi-high.result) (omega (arith, ints))) c.requires.small;
    }

pub power_of_two-requires : goal.power_of_two-requires
power_of_two-requires g c = c.lo-low.ensures.interval.scale.1

pub rounded-requires : goal.rounded-requires
rounded-requires g c =
    let i = c.lo-low.ensures.interval in
    let least = c.least_square-least.ensures ∙ least_square_same c.args.self.now (cast c.lo-low.result) (cast c.hi-high.result) (omega (arith, ints)) (omega (arith, ints)) in
    let greatest = c.greatest_square-greatest.ensures ∙ greatest_square_same c.args.self.now (cast c.lo-low.result) (cast c.hi-high.result) (omega (arith, ints)) (omega (arith, ints)) in
    let order = square_ordered c.args.self.now in
    let low = least_nonneg c.args.self.now in
    let high = greatest_square_range c.args.self.now c.requires.small in
    let one = unit_at_least g.row.P i.scale in (
      search rules,
      (
        i.scale,
        (
          omega (arith, ints),
          (
            omega (arith, ints),
            rounded_over_unit (cast c.least_square-least.result) (cast c.greatest_square-greatest.result) (cast c.power_of_two.result)
                (omega (arith, ints)) (omega (arith, ints)) (omega (arith, ints)) (omega (arith, ints)),
          ),
        ),
      ),
    )

pub returns-clause-ends : goal.returns-clause-ends
returns-clause-ends g c =
    let least = c.least_square-least.ensures ∙ least_square_same c.args.self.now (cast c.lo-low.result) (cast c.hi-high.result) (omega (arith, ints)) (omega (arith, ints)) in
    let greatest = c.greatest_square-greatest.ensures ∙ greatest_square_same c.args.self.now (cast c.lo-low.result) (cast c.hi-high.result) (omega (arith, ints)) (omega (arith, ints)) in
    let s : rounded_ends (cast c.least_square-least.result) (cast c.greatest_square-greatest.result) (cast c.power_of_two.result) ≡ rounded_ends (least_square c.args.self.now) (greatest_square c.args.self.now) (unit g.row.P) =
    rounded_same _ _ _ _ _ _ (omega (arith, ints)) (omega (arith, ints)) (omega (arith, ints)) in
    c.rounded.ensures.ends ∙ s

pub returns-clause-encloses : goal.returns-clause-encloses
returns-clause-encloses g c = rw (returns-clause-ends g c) (λ f m. square_encloses g.row.P c.args.self.now f m)

pub returns-clause-width : goal.returns-clause-width
returns-clause-width g c = rw (returns-clause-ends g c) (square_width g.row.P c.args.self.now c.lo-low.ensures.interval.ordered)
