-- Which fractions an interval stands for.
use Rattle.std.specs.Prelude.{ℕ, ◌^◌, ℤ}
use Rattle.vx_num.specs.Fraction.{Fraction, IsProper, ◌≤ᶠ◌}
use Rattle.vx_interval.specs.Ends.{Ends}

-- z units of 2^-P
abbrev pub units : ℕ → ℤ → Fraction
units P z = record { top = z; bottom = 2 ^ P }

-- f lies from lo/2^P to hi/2^P
pub record IsMember (P : ℕ) (x : Ends) (f : Fraction) : Type 0 where
  pub proper : IsProper f
  pub above : units P x.lo ≤ᶠ f
  pub below : f ≤ᶠ units P x.hi
