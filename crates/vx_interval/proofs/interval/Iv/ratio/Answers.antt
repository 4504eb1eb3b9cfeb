use Rattle.std.proofs.Common.{◌≡◌, ◌∙◌, ◌*ℤ◌, sym, subst, arith, rules}
use Rattle.std.proofs.lemmas.Int.{ints}
use Rattle.vx_interval.specs.Ends.{IsIntervalInRange, unit, rounded_ends}
use Rattle.vx_interval.proofs.Enclosures.{ratio_encloses}
use Rattle.vx_interval.proofs.Widths.{ratio_width}
use Rattle.vx_interval.proofs.Ranges.{cast, rounded_same, products_same, product_small_same, ratio_small}
use Rattle.vx_interval.proofs.interval.Iv.ratio.Goals as goal

pub product-scaled-requires : goal.product-scaled-requires
product-scaled-requires g c =
    product_small_same c.args.num (unit g.row.P) (cast c.args.num) (cast c.power_of_two.result) (omega (arith, ints)) (omega (arith, ints))
    (ratio_small g.row.P c.args.num c.requires.scale c.requires.small)

pub rounded-requires : goal.rounded-requires
rounded-requires g c =
    let e : c.product-scaled.result ≡ c.args.num *ℤ unit g.row.P =
    c.product-scaled.ensures ∙ products_same (cast c.args.num) (cast c.power_of_two.result) c.args.num (unit g.row.P) (omega (arith, ints)) (omega (arith, ints)) in
    let s : rounded_ends (cast c.product-scaled.result) (cast c.product-scaled.result) (cast c.args.den) ≡ rounded_ends (c.args.num *ℤ unit g.row.P) (c.args.num *ℤ unit g.row.P) c.args.den =
    rounded_same _ _ _ _ _ _ (omega (arith, ints)) (omega (arith, ints)) (omega (arith, ints)) in
    (search rules, (search rules, (omega (arith, ints), (omega (arith, ints), subst IsIntervalInRange (sym s) c.requires.in_range))))

pub returns-clause-ends : goal.returns-clause-ends
returns-clause-ends g c =
    let e : c.product-scaled.result ≡ c.args.num *ℤ unit g.row.P =
    c.product-scaled.ensures ∙ products_same (cast c.args.num) (cast c.power_of_two.result) c.args.num (unit g.row.P) (omega (arith, ints)) (omega (arith, ints)) in
    let s : rounded_ends (cast c.product-scaled.result) (cast c.product-scaled.result) (cast c.args.den) ≡ rounded_ends (c.args.num *ℤ unit g.row.P) (c.args.num *ℤ unit g.row.P) c.args.den =
    rounded_same _ _ _ _ _ _ (omega (arith, ints)) (omega (arith, ints)) (omega (arith, ints)) in
    c.rounded.ensures.ends ∙ s

pub returns-clause-encloses : goal.returns-clause-encloses
returns-clause-encloses g c = rw (returns-clause-ends g c) (ratio_encloses g.row.P c.args.num c.args.den c.requires.divisor)

pub returns-clause-width : goal.returns-clause-width
returns-clause-width g c = rw (returns-clause-ends g c) (ratio_width g.row.P c.args.num c.args.den c.requires.divisor)
