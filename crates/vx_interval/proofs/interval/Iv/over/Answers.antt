use Rattle.std.proofs.Common.{◌≡◌, ◌∙◌, arith, rules}
use Rattle.std.proofs.lemmas.Int.{ints}
use Rattle.vx_interval.specs.Ends.{rounded_ends}
use Rattle.vx_interval.proofs.Enclosures.{over_encloses}
use Rattle.vx_interval.proofs.Widths.{over_width}
use Rattle.vx_interval.proofs.Ranges.{cast, rounded_same, rounded_in_range}
use Rattle.vx_interval.proofs.interval.Iv.over.Goals as goal

pub rounded-requires : goal.rounded-requires
rounded-requires g c =
    let i = c.lo-low.ensures.interval in
    let ordered = i.ordered in
    let low = i.in_range.low in
    let high = i.in_range.high in (
      search rules,
      (
        i.scale,
        (
          omega (arith, ints),
          (
            omega (arith, ints),
            rounded_in_range (cast c.lo-low.result) (cast c.hi-high.result) (cast c.args.den)
                (omega (arith, ints)) (omega (arith, ints)) (omega (arith, ints)) (omega (arith, ints)),
          ),
        ),
      ),
    )

pub returns-clause-ends : goal.returns-clause-ends
returns-clause-ends g c =
    let s : rounded_ends (cast c.lo-low.result) (cast c.hi-high.result) (cast c.args.den) ≡ rounded_ends c.args.self.now.lo c.args.self.now.hi c.args.den =
    rounded_same _ _ _ _ _ _ (omega (arith, ints)) (omega (arith, ints)) (omega (arith, ints)) in
    c.rounded.ensures.ends ∙ s

pub returns-clause-encloses : goal.returns-clause-encloses
returns-clause-encloses g c = rw (returns-clause-ends g c) (λ f m. over_encloses g.row.P c.args.self.now c.args.den f c.requires.divisor m)

pub returns-clause-width : goal.returns-clause-width
returns-clause-width g c = rw (returns-clause-ends g c) (over_width c.args.self.now c.args.den c.requires.divisor)
