use Rattle.std.proofs.Common.{◌≡◌, FitsSigned, IsTrue, true, false, w64, to_z-of_z, sym, ◌∙◌, rules}
use Rattle.std.specs.Int.{w128}
use Rattle.vx_tests.proofs.figure.are_squares_around.Goals as goal

pub returns-then-is_square_below : goal.returns-then-is_square_below
returns-then-is_square_below c =
    let figure = c.args.figure.now in
    let lo : FitsSigned w64 figure.lo = search rules in
    let hi : FitsSigned w64 figure.hi = search rules in
    let x_lo : FitsSigned w128 figure.x.lo = search rules in
    let x_hi : FitsSigned w128 figure.x.hi = search rules in
    let below = simp (to_z-of_z lo, to_z-of_z x_lo) at c.is_square_below.ensures in
    let above = simp (to_z-of_z hi, to_z-of_z x_hi) at c.is_square_above.ensures in
    (λ t. record { low = below.0 c.if-is_square_below.true; high = above.0 t }, λ h. above.1 h.high)

pub returns-else-is_square_below : goal.returns-else-is_square_below
returns-else-is_square_below c =
    let figure = c.args.figure.now in
    let lo : FitsSigned w64 figure.lo = search rules in
    let x_lo : FitsSigned w128 figure.x.lo = search rules in
    let below = simp (to_z-of_z lo, to_z-of_z x_lo) at c.is_square_below.ensures in
    let never : IsTrue c.is_square_below.result → ⊥ = λ t. let q : true ≡ false = sym t ∙ c.if-is_square_below.false in cc q in
    (λ t. absurd (never t), λ h. below.1 h.low)
