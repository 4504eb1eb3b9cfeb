-- Two ends in order have at most one decision.
use Rattle.std.proofs.Common.{◌≡◌, ◌∙◌, ℤ, ◌≤ℤ◌, refl, sym, ap, arith}
use Rattle.std.proofs.lemmas.Int.{ints}
use Rattle.vx_bounds.specs.Cents.{Decides, cents_of}
use Rattle.vx_bounds.specs.declared.cents.Decision.{Decision}
use Rattle.vx_bounds.specs.declared.cents.Decision.TheVariants.{Cents, Straddle, Negative}

-- ordered ends have one decision
pub decision_is_one : (lo hi : ℤ) (a b : Decision) → lo ≤ℤ hi → Decides lo hi a → Decides lo hi b → a ≡ b
decision_is_one lo hi (Cents c) (Cents d) less (none, low, v, e, f) (none', low', w, g, h) =
    let same : v ≡ w = omega (arith, ints) in
    ap Cents (f ∙ ap cents_of same ∙ sym h)
decision_is_one lo hi (Cents c) Straddle less (none, low, v, e, f) straddled = absurd (none straddled)
decision_is_one lo hi (Cents c) Negative less (none, low, v, e, f) (none', below) = absurd (omega (arith, ints))
decision_is_one lo hi Straddle (Cents d) less straddled (none, low, v, e, f) = absurd (none straddled)
decision_is_one lo hi Straddle Straddle less h k = refl
decision_is_one lo hi Straddle Negative less straddled (none, below) = absurd (none straddled)
decision_is_one lo hi Negative (Cents d) less (none, below) (none', low, v, e, f) = absurd (omega (arith, ints))
decision_is_one lo hi Negative Straddle less (none, below) straddled = absurd (none straddled)
decision_is_one lo hi Negative Negative less h k = refl
