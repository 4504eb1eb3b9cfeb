use Rattle.std.proofs.Common.{◌≡◌, ◌^◌, pos, ◌*ℤ◌, ◌≤ℤ◌, FitsSigned, to_z, of_z, to_z-of_z, ◌∙◌, rules}
use Rattle.std.specs.Int.{w128}
use Rattle.vx_tests.proofs.Comparisons.{last_le}
use Rattle.vx_tests.proofs.figure.is_square_below.Goals as goal

pub returns : goal.returns
returns c =
    let end = c.args.end in
    let square_fits : FitsSigned w128 c.square_of.result = search rules in
    let units_fits : FitsSigned w128 c.in_square_units.result = search rules in
    let square : to_z w128 (of_z w128 c.square_of.result) ≡ end *ℤ end *ℤ pos (2 ^ c.args.scale) = to_z-of_z square_fits ∙ (simp (to_z-of_z c.ranges.end) at c.square_of.ensures) in
    let units : to_z w128 (of_z w128 c.in_square_units.result) ≡ pos (10 ^ 16) *ℤ c.args.x = to_z-of_z units_fits ∙ (simp (to_z-of_z c.ranges.x) at c.in_square_units.ensures) in
    last_le (end *ℤ end *ℤ pos (2 ^ c.args.scale)) (pos (10 ^ 16) *ℤ c.args.x) ((end *ℤ end *ℤ pos (2 ^ c.args.scale)) ≤ℤ (pos (10 ^ 16) *ℤ c.args.x)) square units (λ h. h) (λ h. h)
