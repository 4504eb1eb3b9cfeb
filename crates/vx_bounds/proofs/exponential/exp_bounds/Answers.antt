use Rattle.std.proofs.Common.{◌∙◌, ℕ, ◌^◌, ◌≤◌, subst, arith, rules}
use Rattle.std.proofs.lemmas.Int.{ints}
use Rattle.vx_interval.proofs.EndsLemmas.{same_ends}
use Rattle.vx_bounds.specs.Exponential.{IsTerms, low_term, high_term}
use Rattle.vx_bounds.proofs.Values.{found, exp_is_good, exp_encloses, exp_at_least_one, units_small}
use Rattle.vx_bounds.proofs.exponential.exp_bounds.Goals as goal

pub low_terms-low-requires : goal.low_terms-low-requires
low_terms-low-requires g c =
    let bounded : c.units-one.result ≤ 2 ^ 62 = units_small g.row.P c.units-one.result c.requires.scale c.units-one.ensures in
    record { bounded = bounded; divisor = c.requires.divisor; small = c.requires.small }

pub high_terms-high-requires : goal.high_terms-high-requires
high_terms-high-requires g c =
    let bounded : c.units-one.result ≤ 2 ^ 62 = units_small g.row.P c.units-one.result c.requires.scale c.units-one.ensures in
    record { bounded = bounded; divisor = c.requires.divisor; small = c.requires.small }

pub overflow_mul-end : goal.overflow_mul-end
overflow_mul-end g c =
    let f = found g.row.P c.args.p c.args.q c.units-one.result c.low_terms-low.result.sum c.high_terms-high.result.sum c.high_terms-high.result.terms
    c.requires.scale c.requires.divisor.0 c.requires.small c.units-one.ensures c.low_terms-low.ensures.sum c.high_terms-high.ensures.sum c.high_terms-high.ensures.terms in
    let last = f.last_small in
    let fits = f.fits in
    let order = f.ordered in
    let low = f.low_is in
    let high = f.high_is in
    omega arith

pub overflow_add-end : goal.overflow_add-end
overflow_add-end g c =
    let f = found g.row.P c.args.p c.args.q c.units-one.result c.low_terms-low.result.sum c.high_terms-high.result.sum c.high_terms-high.result.terms
    c.requires.scale c.requires.divisor.0 c.requires.small c.units-one.ensures c.low_terms-low.ensures.sum c.high_terms-high.ensures.sum c.high_terms-high.ensures.terms in
    let last = f.last_small in
    let fits = f.fits in
    let order = f.ordered in
    let low = f.low_is in
    let high = f.high_is in
    omega arith

pub new-value-requires : goal.new-value-requires
new-value-requires g c =
    let f = found g.row.P c.args.p c.args.q c.units-one.result c.low_terms-low.result.sum c.high_terms-high.result.sum c.high_terms-high.result.terms
    c.requires.scale c.requires.divisor.0 c.requires.small c.units-one.ensures c.low_terms-low.ensures.sum c.high_terms-high.ensures.sum c.high_terms-high.ensures.terms in
    let last = f.last_small in
    let fits = f.fits in
    let order = f.ordered in
    let low = f.low_is in
    let high = f.high_is in
    (search rules, (c.requires.scale, (omega (arith, ints), record { low = omega (arith, ints); high = omega (arith, ints) })))

pub returns-clause-low_terms : goal.returns-clause-low_terms
returns-clause-low_terms g c =
    let Q : ℕ → Type 0 = λ u. IsTerms (low_term u c.args.p c.args.q) c.low_terms-low.result.terms in subst Q c.units-one.ensures c.low_terms-low.ensures.terms

pub returns-clause-high_terms : goal.returns-clause-high_terms
returns-clause-high_terms g c =
    let Q : ℕ → Type 0 = λ u. IsTerms (high_term u c.args.p c.args.q) c.high_terms-high.result.terms in subst Q c.units-one.ensures c.high_terms-high.ensures.terms

pub returns-clause-value : goal.returns-clause-value
returns-clause-value g c =
    let f = found g.row.P c.args.p c.args.q c.units-one.result c.low_terms-low.result.sum c.high_terms-high.result.sum c.high_terms-high.result.terms
    c.requires.scale c.requires.divisor.0 c.requires.small c.units-one.ensures c.low_terms-low.ensures.sum c.high_terms-high.ensures.sum c.high_terms-high.ensures.terms in
    let last = f.last_small in
    let fits = f.fits in
    let order = f.ordered in
    let low = f.low_is in
    let high = f.high_is in
    c.new-value.ensures.ends ∙ same_ends _ _ (omega (arith, ints)) (omega (arith, ints))

pub returns-clause-encloses : goal.returns-clause-encloses
returns-clause-encloses g c = rw (returns-clause-value g c) (λ h m. exp_encloses g.row.P c.args.p c.args.q h c.requires.divisor.0 m)

pub returns-clause-bounds : goal.returns-clause-bounds
returns-clause-bounds g c = rw (returns-clause-value g c) (exp_is_good g.row.P c.args.p c.args.q c.requires.scale c.requires.divisor.0 c.requires.small)

pub returns-clause-at_least_one : goal.returns-clause-at_least_one
returns-clause-at_least_one g c = rw (returns-clause-value g c) (exp_at_least_one g.row.P c.args.p c.args.q)
