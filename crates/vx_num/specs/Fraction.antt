-- Fractions of whole numbers, with sum, difference, product and order by cross multiplication. Textbook; no real number occurs anywhere in the product.
use Rattle.std.specs.Prelude.{◌≡◌, ℕ, ◌*◌, ◌≤◌, ℤ, pos, ◌+ℤ◌, ◌-ℤ◌, ◌*ℤ◌, ◌≤ℤ◌, ◌<ℤ◌}

-- top / bottom
pub record Fraction : Type 0 where
  pub top : ℤ
  pub bottom : ℕ

-- the bottom is not 0, so that the fraction is a number
abbrev pub IsProper : Fraction → Type 0
IsProper f = 1 ≤ f.bottom

-- the whole number z, as a fraction
abbrev pub whole : ℤ → Fraction
whole z = record { top = z; bottom = 1 }

infixl 6 ◌+ᶠ◌ ◌-ᶠ◌
infixl 7 ◌*ᶠ◌ ◌/ᶠ◌
infix 50 ◌≤ᶠ◌ ◌<ᶠ◌ ◌≃ᶠ◌
abbrev pub ◌+ᶠ◌ : Fraction → Fraction → Fraction
f +ᶠ g = record { top = f.top *ℤ pos g.bottom +ℤ g.top *ℤ pos f.bottom; bottom = f.bottom * g.bottom }

abbrev pub ◌-ᶠ◌ : Fraction → Fraction → Fraction
f -ᶠ g = record { top = f.top *ℤ pos g.bottom -ℤ g.top *ℤ pos f.bottom; bottom = f.bottom * g.bottom }

abbrev pub ◌*ᶠ◌ : Fraction → Fraction → Fraction
f *ᶠ g = record { top = f.top *ℤ g.top; bottom = f.bottom * g.bottom }

-- a quotient by a natural number, which is at least 1 wherever it is used
abbrev pub ◌/ᶠ◌ : Fraction → ℕ → Fraction
f /ᶠ n = record { top = f.top; bottom = f.bottom * n }

-- at most, below, and equal in value
abbrev pub ◌≤ᶠ◌ : Fraction → Fraction → Type 0
f ≤ᶠ g = (f.top *ℤ pos g.bottom) ≤ℤ (g.top *ℤ pos f.bottom)

abbrev pub ◌<ᶠ◌ : Fraction → Fraction → Type 0
f <ᶠ g = (f.top *ℤ pos g.bottom) <ℤ (g.top *ℤ pos f.bottom)

abbrev pub ◌≃ᶠ◌ : Fraction → Fraction → Type 0
f ≃ᶠ g = f.top *ℤ pos g.bottom ≡ g.top *ℤ pos f.bottom
