use Rattle.std.proofs.Common.{◌∙◌, pos, ◌≤ℤ◌, nat_abs, sym, ap, arith, to_z-of_z}
use Rattle.std.proofs.lemmas.Int.{ints}
use Rattle.vx_bounds.specs.Cents.{cents_of}
use Rattle.vx_bounds.proofs.Straddles.{straddled}
use Rattle.vx_bounds.proofs.cents.decide.Goals as goal

pub returns-else-figure-round_cents : goal.returns-else-figure-round_cents
returns-else-figure-round_cents c =
    let low : pos 0 ≤ℤ c.args.lo = grind (arith, ints) in
    let first = c.round_cents-figure.ensures ∙ ap (λ z. cents_of (nat_abs z)) (to_z-of_z c.ranges.lo) in
    let second = c.round_cents.ensures ∙ ap (λ z. cents_of (nat_abs z)) (to_z-of_z c.ranges.hi) in
    straddled c.args.lo c.args.hi low c.requires (λ e. c.if-figure-round_cents.false (first ∙ e ∙ sym second))
