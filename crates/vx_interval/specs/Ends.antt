-- The two ends of an interval, in units of 2^-P, and what each operation makes of them. This project's own.
use Rattle.std.specs.Prelude.{ℕ, ◌≤◌, ◌^◌, max, if◌then◌else◌, ◌&&◌, ℤ, pos, negsuc, neg_ℤ, nat_abs, ◌+ℤ◌, ◌-ℤ◌, ◌*ℤ◌, ◌≤ℤ◌, int_le}
use Rattle.std.specs.Int.{int_min, int_max}
use Rattle.vx_interval.specs.Rounding.{floor_of, ceiling_of}

-- all numbers from lo/2^P to hi/2^P
pub record Ends : Type 0 where
  pub lo : ℤ
  pub hi : ℤ

-- the scales that the calculator may use
abbrev pub IsScale : ℕ → Type 0
IsScale P = (40 ≤ P) × (P ≤ 62)

-- both ends are within 2^110 in absolute value
pub record IsIntervalInRange (x : Ends) : Type 0 where
  pub low : neg_ℤ (pos (2 ^ 110)) ≤ℤ x.lo
  pub high : x.hi ≤ℤ pos (2 ^ 110)

-- what every interval keeps
pub record IsInterval (P : ℕ) (x : Ends) : Type 0 where
  pub scale : IsScale P
  pub ordered : x.lo ≤ℤ x.hi
  pub in_range : IsIntervalInRange x

-- hi - lo
abbrev pub width : Ends → ℤ
width x = x.hi -ℤ x.lo

-- the greater absolute value of the two ends
unfoldable pub magnitude : Ends → ℕ
magnitude x = max (nat_abs x.lo) (nat_abs x.hi)

-- 2^P units are 1
unfoldable pub unit : ℕ → ℤ
unit P = pos (2 ^ P)

-- ---- the ends of each operation's result

-- from the quotient low/den rounded down to the quotient high/den rounded up
abbrev pub rounded_ends : ℤ → ℤ → ℤ → Ends
rounded_ends low high den = record { lo = floor_of low den; hi = ceiling_of high den }

abbrev pub exact_ends : ℕ → ℤ → Ends
exact_ends P n = record { lo = n *ℤ unit P; hi = n *ℤ unit P }

abbrev pub ratio_ends : ℕ → ℤ → ℤ → Ends
ratio_ends P num den = rounded_ends (num *ℤ unit P) (num *ℤ unit P) den

abbrev pub add_ends : Ends → Ends → Ends
add_ends x y = record { lo = x.lo +ℤ y.lo; hi = x.hi +ℤ y.hi }

abbrev pub sub_ends : Ends → Ends → Ends
sub_ends x y = record { lo = x.lo -ℤ y.hi; hi = x.hi -ℤ y.lo }

-- swapped for a negative factor
abbrev pub scale_ends : Ends → ℤ → Ends
scale_ends x (pos k) = record { lo = pos k *ℤ x.lo; hi = pos k *ℤ x.hi }
scale_ends x (negsuc k) = record { lo = negsuc k *ℤ x.hi; hi = negsuc k *ℤ x.lo }

unfoldable pub least_of_four : ℤ → ℤ → ℤ → ℤ → ℤ
least_of_four a b c d = int_min (int_min a b) (int_min c d)

unfoldable pub greatest_of_four : ℤ → ℤ → ℤ → ℤ → ℤ
greatest_of_four a b c d = int_max (int_max a b) (int_max c d)

abbrev pub least_product : Ends → Ends → ℤ
least_product x y = least_of_four (x.lo *ℤ y.lo) (x.lo *ℤ y.hi) (x.hi *ℤ y.lo) (x.hi *ℤ y.hi)

abbrev pub greatest_product : Ends → Ends → ℤ
greatest_product x y = greatest_of_four (x.lo *ℤ y.lo) (x.lo *ℤ y.hi) (x.hi *ℤ y.lo) (x.hi *ℤ y.hi)

abbrev pub mul_ends : ℕ → Ends → Ends → Ends
mul_ends P x y = rounded_ends (least_product x y) (greatest_product x y) (unit P)

-- 0 where the interval reaches over zero
unfoldable pub least_square : Ends → ℤ
least_square x = if int_le x.lo (pos 0) && int_le (pos 0) x.hi then pos 0 else int_min (x.lo *ℤ x.lo) (x.hi *ℤ x.hi)

unfoldable pub greatest_square : Ends → ℤ
greatest_square x = int_max (x.lo *ℤ x.lo) (x.hi *ℤ x.hi)

abbrev pub square_ends : ℕ → Ends → Ends
square_ends P x = rounded_ends (least_square x) (greatest_square x) (unit P)

abbrev pub over_ends : Ends → ℤ → Ends
over_ends x den = rounded_ends x.lo x.hi den

-- from scale P to scale R
abbrev pub rescale_ends : ℕ → ℕ → Ends → Ends
rescale_ends P R x = rounded_ends (x.lo *ℤ unit R) (x.hi *ℤ unit R) (unit P)
