-- The laws of intervals of which one lies inside the other.
use Rattle.std.specs.Prelude.{ℕ, ℤ, pos, ◌≤ℤ◌, ◌<ℤ◌}
use Rattle.vx_num.specs.Fraction.{Fraction, IsProper, ◌≃ᶠ◌}
use Rattle.vx_interval.specs.Ends.{Ends, add_ends, sub_ends, scale_ends, over_ends, rescale_ends, mul_ends, square_ends}
use Rattle.vx_interval.specs.Membership.{IsMember}

-- inner reaches no farther than outer on either side
pub record IsInside (inner outer : Ends) : Type 0 where
  pub low : outer.lo ≤ℤ inner.lo
  pub high : inner.hi ≤ℤ outer.hi

-- the low end is at most the high end
abbrev pub IsOrdered : Ends → Type 0
IsOrdered x = x.lo ≤ℤ x.hi

-- a member of the inner is a member of the outer
abbrev pub MembersStayInWider : Type 0
MembersStayInWider = (P : ℕ) (x y : Ends) (f : Fraction) → IsInside x y → IsMember P x f → IsMember P y f

-- what equals a member in value is a member
abbrev pub EqualValuesAreMembers : Type 0
EqualValuesAreMembers = (P : ℕ) (x : Ends) (f g : Fraction) → IsProper g → f ≃ᶠ g → IsMember P x f → IsMember P x g

-- ---- an operation on the smaller lies inside the same operation on the larger

abbrev pub SumsLieInside : Type 0
SumsLieInside = (x x' y y' : Ends) → IsInside x x' → IsInside y y' → IsInside (add_ends x y) (add_ends x' y')

abbrev pub DifferencesLieInside : Type 0
DifferencesLieInside = (x x' y y' : Ends) → IsInside x x' → IsInside y y' → IsInside (sub_ends x y) (sub_ends x' y')

abbrev pub MultiplesLieInside : Type 0
MultiplesLieInside = (x x' : Ends) (k : ℤ) → IsInside x x' → IsInside (scale_ends x k) (scale_ends x' k)

abbrev pub QuotientsLieInside : Type 0
QuotientsLieInside = (x x' : Ends) (den : ℤ) → pos 0 <ℤ den → IsInside x x' → IsInside (over_ends x den) (over_ends x' den)

abbrev pub RescaledLieInside : Type 0
RescaledLieInside = (P R : ℕ) (x x' : Ends) → IsInside x x' → IsInside (rescale_ends P R x) (rescale_ends P R x')

abbrev pub ProductsLieInside : Type 0
ProductsLieInside = (P : ℕ) (x x' y y' : Ends) → IsOrdered x → IsOrdered y → IsInside x x' → IsInside y y' → IsInside (mul_ends P x y) (mul_ends P x' y')

abbrev pub SquaresLieInside : Type 0
SquaresLieInside = (P : ℕ) (x x' : Ends) → IsOrdered x → IsInside x x' → IsInside (square_ends P x) (square_ends P x')
