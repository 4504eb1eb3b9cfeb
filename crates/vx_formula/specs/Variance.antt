-- A term's variance times its time, T*sigma^2. After the Cboe VIX white paper.
use Rattle.std.specs.Prelude.{ℕ, pos}
use Rattle.vx_num.specs.Fraction.{Fraction, whole, ◌-ᶠ◌, ◌*ᶠ◌, ◌/ᶠ◌}
use Rattle.vx_formula.specs.Pair.{Pair}
use Rattle.vx_formula.specs.Term.{Term}
use Rattle.vx_formula.specs.Forward.{forward_at}
use Rattle.vx_formula.specs.Strip.{strip_total}

-- how far the forward lies above the level, as a part of the level: F/K0 - 1
abbrev pub excess_at : Pair → ℕ → Fraction → Fraction
excess_at pair level e = (forward_at pair e -ᶠ whole (pos level)) /ᶠ level

-- 2 * e * S(K0) - (F(e)/K0 - 1)^2
abbrev pub variance_at : Term → ℕ → Fraction → Fraction
variance_at term level e =
    whole (pos 2) *ᶠ (e *ᶠ strip_total term.rows level) -ᶠ excess_at term.pair level e *ᶠ excess_at term.pair level e
