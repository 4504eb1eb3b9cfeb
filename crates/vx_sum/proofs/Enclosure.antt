-- The exact sum lies within the total, which is at most a unit a row wide.
use Rattle.std.proofs.Common.{◌≡◌, ℕ, ◌+◌, ◌-◌, ◌*◌, ◌/◌, ◌^◌, ◌<◌, ◌≤◌, pos, ◌≤ℤ◌, List, [], ◌∷◌, length, map, sym, ap, subst, arith}
use Rattle.std.specs.List.{All}
use Rattle.std.proofs.lemmas.Int.{ints}
use Rattle.std.proofs.Math.Nat.{mul-le-mul, div-lt_iff_lt-mul, pow-le-pow_right}
use Rattle.std.proofs.lemmas.List.Elements.{All-head, All-tail}
use Rattle.std.proofs.lemmas.List.Sums.{sum_by-cons}
use Rattle.vx_num.specs.Fraction.{whole}
use Rattle.vx_interval.specs.Ends.{Ends, unit, width, add_ends}
use Rattle.vx_interval.specs.Membership.{IsMember}
use Rattle.vx_interval.proofs.EndsLemmas.{same_ends}
use Rattle.vx_interval.proofs.Enclosures.{member, add_encloses}
use Rattle.vx_formula.specs.Strip.{StripEntry, contribution, total_of, upper_end, upper_total}
use Rattle.vx_strip.specs.declared.strip.StripRow.{StripRow}
use Rattle.vx_strip.specs.Entries.{entry_of, IsRowInRange}
use Rattle.vx_sum.specs.Sums.{lower_end, lower_total, total_ends, IsAccepted}

-- a quotient rounded down and up, times its divisor
below_dividend : (n m : ℕ) → 0 < m → n / m * m ≤ n
below_dividend n m positive = omega arith

above_dividend : (n m : ℕ) → 0 < m → n ≤ (n + (m - 1)) / m * m
above_dividend n m positive = omega arith

-- they are at most one apart
one_apart : (n m : ℕ) → 0 < m → (n + (m - 1)) / m ≤ n / m + 1
one_apart n m positive =
    let next : n < n / m * m + m = omega arith in
    let less : (n + (m - 1)) / m < n / m + 2 = (div-lt_iff_lt-mul {k = m} {x = n + (m - 1)} {y = n / m + 2} positive).1 (omega (arith, next)) in
    omega (arith, less)

-- the divisor of a contribution is positive
contribution_divisor_positive : (row : StripRow) → IsRowInRange row → 0 < 4 * (row.strike * row.strike)
contribution_divisor_positive row h =
    let least = h.strike.0 in
    let one : 1 ≤ row.strike = omega (arith, least) in
    let square : 1 * 1 ≤ row.strike * row.strike = mul-le-mul one one in
    omega (arith, square)

abbrev row_total : ℕ → StripRow → Ends
row_total P row = record { lo = pos (lower_end P (entry_of row)); hi = pos (upper_end P (entry_of row)) }

row_encloses : (P : ℕ) (row : StripRow) → IsRowInRange row → IsMember P (row_total P row) (contribution (entry_of row))
unfolding unit
row_encloses P row h =
    let n = 5 * (row.d * row.q4) * 2 ^ P in
    let m = 4 * (row.strike * row.strike) in
    let positive = contribution_divisor_positive row h in
    let low = below_dividend n m positive in
    let high = above_dividend n m positive in
    member P (row_total P row) (contribution (entry_of row)) (omega (arith, positive)) (omega (arith, ints, low)) (omega (arith, ints, high))

none_encloses : (P : ℕ) → IsMember P (record { lo = pos 0; hi = pos 0 }) (whole (pos 0))
unfolding unit
none_encloses P = member P (record { lo = pos 0; hi = pos 0 }) (whole (pos 0)) (omega arith) (omega (arith, ints)) (omega (arith, ints))

added : (P : ℕ) (row : StripRow) (rows : List StripRow) → add_ends (row_total P row) (total_ends P (map entry_of rows)) ≡ total_ends P (map entry_of (row ∷ rows))
added P row rows =
    let lower : lower_total P (map entry_of (row ∷ rows)) ≡ lower_end P (entry_of row) + lower_total P (map entry_of rows) = sum_by-cons (lower_end P) (entry_of row) (map entry_of rows) in
    let upper : upper_total P (map entry_of (row ∷ rows)) ≡ upper_end P (entry_of row) + upper_total P (map entry_of rows) = sum_by-cons (upper_end P) (entry_of row) (map entry_of rows) in
    same_ends (add_ends (row_total P row) (total_ends P (map entry_of rows))) (total_ends P (map entry_of (row ∷ rows)))
    (sym (ap pos lower)) (sym (ap pos upper))

pub total_encloses : (P : ℕ) (rows : List StripRow) → All IsRowInRange rows → IsMember P (total_ends P (map entry_of rows)) (total_of (map entry_of rows))
total_encloses P [] all = none_encloses P
total_encloses P (r ∷ rows) all =
    let Holds : Ends → Type 0 = λ x. IsMember P x (total_of (map entry_of (r ∷ rows))) in
    subst Holds (added P r rows)
    (add_encloses P (row_total P r) (total_ends P (map entry_of rows)) (contribution (entry_of r)) (total_of (map entry_of rows))
    (row_encloses P r (All-head IsRowInRange r rows all)) (total_encloses P rows (All-tail IsRowInRange r rows all)))

totals_apart : (P : ℕ) (rows : List StripRow) → All IsRowInRange rows → upper_total P (map entry_of rows) ≤ lower_total P (map entry_of rows) + length rows
totals_apart P [] all = omega arith
totals_apart P (r ∷ rows) all =
    let first : upper_end P (entry_of r) ≤ lower_end P (entry_of r) + 1 = one_apart (5 * (r.d * r.q4) * 2 ^ P) (4 * (r.strike * r.strike)) (contribution_divisor_positive r (All-head IsRowInRange r rows all)) in
    let rest : upper_total P (map entry_of rows) ≤ lower_total P (map entry_of rows) + length rows = totals_apart P rows (All-tail IsRowInRange r rows all) in
    let lower : lower_total P (map entry_of (r ∷ rows)) ≡ lower_end P (entry_of r) + lower_total P (map entry_of rows) = sum_by-cons (lower_end P) (entry_of r) (map entry_of rows) in
    let upper : upper_total P (map entry_of (r ∷ rows)) ≡ upper_end P (entry_of r) + upper_total P (map entry_of rows) = sum_by-cons (upper_end P) (entry_of r) (map entry_of rows) in
    omega (arith, first, rest, lower, upper)

pub total_narrow : (P : ℕ) (rows : List StripRow) → All IsRowInRange rows → width (total_ends P (map entry_of rows)) ≤ℤ pos (length rows)
total_narrow P rows all = omega (arith, ints, totals_apart P rows all)

-- an accepted sum fits 64 bits
pub accepted_fits : (P : ℕ) (entries : List StripEntry) → P ≤ 62 → IsAccepted P entries → upper_total P entries < 2 ^ 64
accepted_fits P entries scale accepted =
    let units : 2 ^ P ≤ 2 ^ 62 = pow-le-pow_right {n = 2} (omega arith) scale in
    omega (arith, units, accepted)
