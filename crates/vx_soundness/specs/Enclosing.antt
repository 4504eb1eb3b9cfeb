-- What the ends of a certificate say of a fraction.
use Rattle.std.specs.Prelude.{ℕ, ℤ}
use Rattle.vx_num.specs.Fraction.{Fraction, ◌≤ᶠ◌}
use Rattle.vx_cert.specs.declared.certificate.Ends.{Ends}

-- z units of which u make one
abbrev pub over : ℤ → ℕ → Fraction
over z u = record { top = z; bottom = u }

-- the fraction lies from the low end to the high end
pub record Encloses (u : ℕ) (ends : Ends) (f : Fraction) : Type 0 where
  pub low : over ends.lo u ≤ᶠ f
  pub high : f ≤ᶠ over ends.hi u
