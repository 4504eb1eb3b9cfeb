use Rattle.std.proofs.Common.{◌≡◌, ◌∙◌, pos, ◌≤ℤ◌, sym, ap₂, arith}
use Rattle.std.specs.Int.{int_min}
use Rattle.std.proofs.lemmas.Int.{ints}
use Rattle.vx_interval.proofs.Ranges.{cast, same_product}
use Rattle.vx_interval.proofs.Squares.{least_not_across}
use Rattle.vx_interval.proofs.product.least_square.Goals as goal
use Rattle.vx_interval.proofs.product.least_square.Goals.{else-lo-le0-via-then-lo-le0+else-hi-ge0, else-lo-le0-via-else-lo-le0}

pub returns : goal.returns
returns c =
    let outside : (c.args.lo ≤ℤ pos 0) → (pos 0 ≤ℤ c.args.hi) → ⊥ =
    elim c.else-lo-le0.branch [ else-lo-le0-via-then-lo-le0+else-hi-ge0 w ↦ λ p q. omega (arith, ints) | else-lo-le0-via-else-lo-le0 w ↦ λ p q. omega (arith, ints) ] in
    let low = same_product (cast c.args.lo) (cast c.args.lo) c.args.lo c.args.lo (cast c.product.result) (omega (arith, ints)) (omega (arith, ints)) (omega (arith, ints)) in
    let high = same_product (cast c.args.hi) (cast c.args.hi) c.args.hi c.args.hi (cast c.product-2.result) (omega (arith, ints)) (omega (arith, ints)) (omega (arith, ints)) in
    let value = c.min.ensures.value ∙ ap₂ int_min low high in
    let plain : cast c.min.result ≡ c.min.result = omega (arith, ints) in
    plain ∙ value ∙ sym (least_not_across (record { lo = c.args.lo; hi = c.args.hi }) outside)
