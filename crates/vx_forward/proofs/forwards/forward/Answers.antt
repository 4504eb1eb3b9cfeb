use Rattle.std.proofs.Common.{◌∙◌, pos, ◌*ℤ◌, ℤ, sym, subst, rules}
use Rattle.vx_interval.specs.Ends.{exact_ends, scale_ends, IsIntervalInRange}
use Rattle.vx_forward.specs.Pairs.{formula_pair}
use Rattle.vx_forward.proofs.ForwardLemmas.{five_given, strike_given, sum_given, five_is_small, spread_in_range, exact_strike_in_range, sum_in_range, forward_in_range, forward_encloses, forward_width}
use Rattle.vx_forward.proofs.forwards.forward.Goals as goal

pub scale-spread-requires : goal.scale-spread-requires
scale-spread-requires g c =
    let i = c.lo-low.ensures.interval in
    let P : ℤ → Type 0 = λ z. IsIntervalInRange (scale_ends c.args.e.now z) in (
      search rules,
      subst P (sym (five_given c.five_times.result c.args.pair.now.d c.five_times.type_inv c.requires.difference c.five_times.ensures))
          (spread_in_range g.row.P c.args.e.now (pos 5 *ℤ c.args.pair.now.d) i.scale (five_is_small c.args.pair.now.d c.requires.difference) c.requires.not_negative i.ordered c.requires.bounded),
    )

pub exact-strike-requires : goal.exact-strike-requires
exact-strike-requires g c =
    let i = c.lo-low.ensures.interval in
    let P : ℤ → Type 0 = λ z. IsIntervalInRange (exact_ends g.row.P z) in (
      search rules,
      (
        i.scale,
        subst P (sym (strike_given c.from.result c.args.pair.now.strike c.from.type_inv c.from.ensures))
            (exact_strike_in_range g.row.P c.args.pair.now.strike i.scale c.requires.strike.1),
      ),
    )

pub add-requires : goal.add-requires
add-requires g c =
    let i = c.lo-low.ensures.interval in
    let same = sum_given g.row.P (formula_pair c.args.pair.now) c.args.e.now c.exact-strike.result c.scale-spread.result _ _
    c.exact-strike.ensures.ends (strike_given c.from.result c.args.pair.now.strike c.from.type_inv c.from.ensures)
    c.scale-spread.ensures.ends (five_given c.five_times.result c.args.pair.now.d c.five_times.type_inv c.requires.difference c.five_times.ensures) in
    (search rules, subst IsIntervalInRange (sym same) (sum_in_range g.row.P (formula_pair c.args.pair.now) c.args.e.now i.scale c.requires.strike.1 c.requires.difference c.requires.not_negative i.ordered c.requires.bounded))

pub returns-clause-ends : goal.returns-clause-ends
returns-clause-ends g c =
    c.add.ensures.ends ∙ sum_given g.row.P (formula_pair c.args.pair.now) c.args.e.now c.exact-strike.result c.scale-spread.result _ _
    c.exact-strike.ensures.ends (strike_given c.from.result c.args.pair.now.strike c.from.type_inv c.from.ensures)
    c.scale-spread.ensures.ends (five_given c.five_times.result c.args.pair.now.d c.five_times.type_inv c.requires.difference c.five_times.ensures)

pub returns-clause-encloses : goal.returns-clause-encloses
returns-clause-encloses g c = rw (returns-clause-ends g c) (λ x m. forward_encloses g.row.P (formula_pair c.args.pair.now) c.args.e.now x m)

pub returns-clause-width : goal.returns-clause-width
returns-clause-width g c = rw (returns-clause-ends g c) (forward_width g.row.P (formula_pair c.args.pair.now) c.args.e.now)

pub returns-clause-in_range : goal.returns-clause-in_range
returns-clause-in_range g c =
    let i = c.lo-low.ensures.interval in
    rw (returns-clause-ends g c) (λ most. forward_in_range g.row.P (formula_pair c.args.pair.now) c.args.e.now c.requires.strike.1 c.requires.difference c.requires.not_negative i.ordered most)
