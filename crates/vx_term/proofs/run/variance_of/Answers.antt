use Rattle.std.proofs.Common.{◌∙◌, pos, ◌≤ℤ◌, sym, subst, rules}
use Rattle.vx_interval.specs.Ends.{Ends, IsIntervalInRange, scale_ends}
use Rattle.vx_term.proofs.Variances.{product_small, square_small, twice_range, variance_low, variance_high, variance_range, variance_encloses, variance_given}
use Rattle.vx_term.proofs.run.variance_of.Goals as goal

pub mul-product-requires : goal.mul-product-requires
mul-product-requires g c = (search rules, product_small g.row.P c.requires.exponential.interval.scale c.args.e.now c.args.total.now c.args.excess.now c.requires.exponential c.requires.exponential.interval.ordered c.requires.total c.requires.total_interval.ordered c.requires.excess c.requires.excess_interval.ordered)

pub scale-twice-requires : goal.scale-twice-requires
scale-twice-requires g c =
    let is = c.mul-product.ensures.ends in
    let ordered = subst (λ (x : Ends). x.lo ≤ℤ x.hi) is c.mul-product.ensures.interval.ordered in
    (search rules, subst (λ (x : Ends). IsIntervalInRange (scale_ends x (pos 2))) (sym is) (twice_range g.row.P c.requires.exponential.interval.scale c.args.e.now c.args.total.now c.args.excess.now c.requires.exponential c.requires.exponential.interval.ordered c.requires.total c.requires.total_interval.ordered c.requires.excess c.requires.excess_interval.ordered ordered))

pub square-square-requires : goal.square-square-requires
square-square-requires g c = (search rules, square_small g.row.P c.requires.exponential.interval.scale c.args.e.now c.args.total.now c.args.excess.now c.requires.exponential c.requires.exponential.interval.ordered c.requires.total c.requires.total_interval.ordered c.requires.excess c.requires.excess_interval.ordered)

pub sub-requires : goal.sub-requires
sub-requires g c =
    let first = subst (λ (x : Ends). x.lo ≤ℤ x.hi) c.mul-product.ensures.ends c.mul-product.ensures.interval.ordered in
    let second = subst (λ (x : Ends). x.lo ≤ℤ x.hi) c.square-square.ensures.ends c.square-square.ensures.interval.ordered in
    let is = variance_given g.row.P c.args.e.now c.args.total.now c.args.excess.now c.mul-product.result c.scale-twice.result c.square-square.result c.mul-product.ensures.ends c.scale-twice.ensures.ends c.square-square.ensures.ends in
    (search rules, subst IsIntervalInRange (sym is) (variance_range g.row.P c.requires.exponential.interval.scale c.args.e.now c.args.total.now c.args.excess.now c.requires.exponential c.requires.exponential.interval.ordered c.requires.total c.requires.total_interval.ordered c.requires.excess c.requires.excess_interval.ordered first second))

pub returns-clause-ends : goal.returns-clause-ends
returns-clause-ends g c =
    c.sub.ensures.ends ∙ variance_given g.row.P c.args.e.now c.args.total.now c.args.excess.now c.mul-product.result c.scale-twice.result c.square-square.result c.mul-product.ensures.ends c.scale-twice.ensures.ends c.square-square.ensures.ends

pub returns-clause-encloses : goal.returns-clause-encloses
returns-clause-encloses g c =
    rw (returns-clause-ends g c) (λ x s y m n o. variance_encloses g.row.P c.args.e.now c.args.total.now c.args.excess.now x s y m n o)

pub returns-clause-low : goal.returns-clause-low
returns-clause-low g c = rw (returns-clause-ends g c) (variance_low g.row.P c.requires.exponential.interval.scale c.args.e.now c.args.total.now c.args.excess.now c.requires.exponential c.requires.exponential.interval.ordered c.requires.total c.requires.total_interval.ordered c.requires.excess c.requires.excess_interval.ordered)

pub returns-clause-high : goal.returns-clause-high
returns-clause-high g c = rw (returns-clause-ends g c) (variance_high g.row.P c.requires.exponential.interval.scale c.args.e.now c.args.total.now c.args.excess.now c.requires.exponential c.requires.exponential.interval.ordered c.requires.total c.requires.total_interval.ordered c.requires.excess c.requires.excess_interval.ordered)
