-- The laws of the exponential's bracket.
use Rattle.std.specs.Prelude.{◌≡◌, ℕ, ◌≤◌, ◌↔◌, pos, ◌<ℤ◌}
use Rattle.vx_num.specs.Fraction.{Fraction, IsProper, whole, ◌≃ᶠ◌}
use Rattle.vx_bracket.specs.Bracket.{Bracket, IsBetweenSums, IsWithinOne, negated, reciprocal}

-- every bracket has a member
abbrev pub BracketHasMember : Type 0
BracketHasMember = (n : ℕ) (x : Fraction) → IsProper x → (f : Fraction) × Bracket n x f

-- each bracket lies inside the ones before it
abbrev pub BracketsNest : Type 0
BracketsNest = (n m : ℕ) (x f : Fraction) → IsProper x → IsWithinOne x → n ≤ m → Bracket m x f → Bracket n x f

-- any two brackets of one exponent have a common member
abbrev pub BracketsMeet : Type 0
BracketsMeet = (n m : ℕ) (x : Fraction) → IsProper x → IsWithinOne x → (f : Fraction) × (Bracket n x f) × (Bracket m x f)

-- every member is positive
abbrev pub MembersArePositive : Type 0
MembersArePositive = (n : ℕ) (x f : Fraction) → IsProper x → Bracket n x f → pos 0 <ℤ f.top

-- at exponent 0 the only value in the bracket is 1
abbrev pub ZeroGivesOne : Type 0
ZeroGivesOne = (n : ℕ) (x f : Fraction) → IsProper x → x.top ≡ pos 0 → Bracket n x f → f ≃ᶠ whole (pos 1)

-- at exponent 0 the form for negative exponents says the same as the form for the others
abbrev pub FormsAgreeAtZero : Type 0
FormsAgreeAtZero = (n : ℕ) (x f : Fraction) → IsProper x → IsProper f → x.top ≡ pos 0 →
    IsBetweenSums n x f ↔ ((pos 0 <ℤ f.top) × IsBetweenSums n (negated x) (reciprocal f))
