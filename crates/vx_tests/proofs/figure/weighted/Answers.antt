use Rattle.std.proofs.Common.{◌≡◌, ◌^◌, pos, ◌+ℤ◌, ◌-ℤ◌, ◌*ℤ◌, FitsSigned, to_z, of_z, to_z-of_z, ◌∙◌, ap, lit<, arith}
use Rattle.std.specs.Int.{w128}
use Rattle.std.proofs.lemmas.Int.{ints, fits_signed_mul}
use Rattle.vx_formula.specs.declared.limits.TheConstants.{YEAR_MINUTES}
use Rattle.vx_tests.proofs.Products.{within_abs, sum_within}
use Rattle.vx_tests.proofs.figure.weighted.Goals as goal

pub overflow_mul-result : goal.overflow_mul-result
overflow_mul-result c =
    let a = c.times_minutes-near.ensures.bound in
    let b = c.times_minutes-next.ensures.bound in
    let near = c.times_minutes-near.result in
    let next = c.times_minutes-next.result in
    let year : to_z w128 (of_z w128 c.from.result) ≡ pos YEAR_MINUTES = omega (arith, ints) in
    let sum : to_z w128 (of_z w128 (to_z w128 (of_z w128 near) +ℤ to_z w128 (of_z w128 next))) ≡ near +ℤ next = omega (arith, ints, a.0, a.1, b.0, b.1) in
    rw (year, sum) (fits_signed_mul w128 (pos YEAR_MINUTES) (near +ℤ next) (2 ^ 20) (2 ^ 100) (omega arith) (within_abs (2 ^ 100) (near +ℤ next) (sum_within (2 ^ 99) near next a b)) (lit< tt))

pub returns : goal.returns
returns c =
    let a = c.times_minutes-near.ensures.bound in
    let b = c.times_minutes-next.ensures.bound in
    let near = c.times_minutes-near.result in
    let next = c.times_minutes-next.result in
    let m = c.args.m in
    let year : to_z w128 (of_z w128 c.from.result) ≡ pos YEAR_MINUTES = omega (arith, ints) in
    let sum : to_z w128 (of_z w128 (to_z w128 (of_z w128 near) +ℤ to_z w128 (of_z w128 next))) ≡ near +ℤ next = omega (arith, ints, a.0, a.1, b.0, b.1) in
    let fits : FitsSigned w128 (pos YEAR_MINUTES *ℤ (near +ℤ next)) =
    fits_signed_mul w128 (pos YEAR_MINUTES) (near +ℤ next) (2 ^ 20) (2 ^ 100) (omega arith) (within_abs (2 ^ 100) (near +ℤ next) (sum_within (2 ^ 99) near next a b)) (lit< tt) in
    let first : near ≡ (pos m.next -ℤ pos m.target) *ℤ c.args.near = simp (to_z-of_z c.ranges.near) at c.times_minutes-near.ensures.value in
    let last : next ≡ (pos m.target -ℤ pos m.near) *ℤ c.args.next = simp (to_z-of_z c.ranges.next) at c.times_minutes-next.ensures.value in
    rw (year, sum)
    (to_z-of_z fits
    ∙ ap (λ z. pos YEAR_MINUTES *ℤ (z +ℤ next)) first
    ∙ ap (λ z. pos YEAR_MINUTES *ℤ ((pos m.next -ℤ pos m.target) *ℤ c.args.near +ℤ z)) last)
