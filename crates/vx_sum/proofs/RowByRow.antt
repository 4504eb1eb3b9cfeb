-- Sums of rounded contributions: their bounds, and one row on.
use Rattle.std.proofs.Common.{◌≡◌, ℕ, ◌+◌, ◌-◌, ◌*◌, ◌/◌, ◌^◌, ◌<◌, ◌≤◌, Bool, true, false, not, cond, List, [], ◌∷◌, ◌++◌, take, length, get_or, slice_get, Some, map, sym, ◌∙◌, ap, arith, inl, inr}
use Rattle.std.proofs.Math.Nat.{mul-le-mul, div-le_self, le-div_iff_mul-le, pow-le-pow_right}
use Rattle.std.proofs.lemmas.Bool.{cases_lt}
use Rattle.std.proofs.lemmas.Option.{slice_get-get_or}
use Rattle.std.proofs.lemmas.List.{map_more, map_push, take_all, take-map}
use Rattle.std.proofs.lemmas.List.Elements.{All-head, All-tail}
use Rattle.std.proofs.lemmas.List.Sums.{sum_by-cons, sum_by_push, sum_by-take-le}
use Rattle.std.specs.List.{All, sum_by}
use Rattle.vx_formula.specs.Strip.{StripEntry, upper_end, upper_total}
use Rattle.vx_formula.specs.Touched.{is_touched, touched_count}
use Rattle.vx_strip.specs.declared.strip.StripRow.{StripRow}
use Rattle.vx_strip.specs.Entries.{entry_of, IsRowInRange}
use Rattle.vx_sum.specs.declared.sum.SumRow.{SumRow}
use Rattle.vx_sum.specs.Sums.{lower_end, lower_total, row_ends}
use Rattle.vx_sum.specs.Matching.{is_kept_at, IsFirstFrom}
use Rattle.vx_sum.proofs.Matches.{Rises, IsPassed, rises, touched_here}

-- a row to stand past the end of a list
abbrev pub no_row : StripRow
no_row = record { strike = 0; d = 0; q4 = 0 }

-- a rounded-down quotient is at most the rounded-up one, which is small where its numbers are
quotients_ordered : (n m : ℕ) → 0 < m → n / m ≤ (n + (m - 1)) / m
quotients_ordered n m positive =
    let at_most : n / m * m ≤ n = omega arith in
    (le-div_iff_mul-le {k = m} {x = n / m} {y = n + (m - 1)} positive).1 (omega (arith, at_most))

pub row_ordered : (P : ℕ) (row : StripRow) → IsRowInRange row → lower_end P (entry_of row) ≤ upper_end P (entry_of row)
row_ordered P row h =
    let strike = h.strike.0 in
    let one : 1 ≤ row.strike = omega (arith, strike) in
    let square : 1 * 1 ≤ row.strike * row.strike = mul-le-mul one one in
    quotients_ordered (5 * (row.d * row.q4) * 2 ^ P) (4 * (row.strike * row.strike)) (omega arith)

pub row_small : (P : ℕ) (row : StripRow) → P ≤ 62 → IsRowInRange row → upper_end P (entry_of row) ≤ 2 ^ 116
row_small P row scale h =
    let strike = h.strike.1 in
    let width = h.d_max in
    let price = h.q4_max in
    let units : 2 ^ P ≤ 2 ^ 62 = pow-le-pow_right {n = 2} (omega arith) scale in
    let amount : row.d * row.q4 ≤ 100000000 * 20000000 = mul-le-mul width price in
    let five : 5 * (row.d * row.q4) ≤ 10000000000000000 = omega (arith, amount) in
    let dividend : 5 * (row.d * row.q4) * 2 ^ P ≤ 10000000000000000 * 2 ^ 62 = mul-le-mul five units in
    let square : row.strike * row.strike ≤ 50000000 * 50000000 = mul-le-mul strike strike in
    let whole : upper_end P (entry_of row) ≤ 5 * (row.d * row.q4) * 2 ^ P + (4 * (row.strike * row.strike) - 1) =
    div-le_self (5 * (row.d * row.q4) * 2 ^ P + (4 * (row.strike * row.strike) - 1)) (4 * (row.strike * row.strike)) in
    omega (arith, whole, dividend, square)

-- ---- one row on

-- a sum over the first rows, one row on
pub sum_by_more : (f : StripEntry → ℕ) (rows : List StripRow) (i old new x : ℕ) → i < length rows → old ≡ sum_by f (map entry_of (take i rows))
    → new ≡ old + x → x ≡ f (entry_of (get_or rows i no_row)) → new ≡ sum_by f (map entry_of (take (i + 1) rows))
sum_by_more f rows i old new x low so_far sum is =
    let more : sum_by f (map entry_of (take (i + 1) rows)) ≡ sum_by f (map entry_of (take i rows)) + f (entry_of (get_or rows i no_row)) =
    ap (sum_by f) (map_more entry_of rows i no_row low) ∙ sum_by_push f (map entry_of (take i rows)) (entry_of (get_or rows i no_row)) in
    omega (arith, more, so_far, sum, is)

pub ends_more : (P limit : ℕ) (rows : List StripRow) (i lo hi upper upper' : ℕ) (ends ends' : List SumRow) → i < length rows
    → (upper ≤ limit → ends ≡ map (row_ends P) (map entry_of (take i rows)))
    → (upper' ≤ limit → ends' ≡ ends ++ record { lo = lo; hi = hi } ∷ [])
    → upper' ≡ upper + hi
    → lo ≡ lower_end P (entry_of (get_or rows i no_row)) → hi ≡ upper_end P (entry_of (get_or rows i no_row))
    → upper' ≤ limit → ends' ≡ map (row_ends P) (map entry_of (take (i + 1) rows))
ends_more P limit rows i lo hi upper upper' ends ends' low so_far pushed sum lo_is hi_is fits =
    let entry = entry_of (get_or rows i no_row) in
    let item : SumRow = record { lo = lo; hi = hi } in
    let same : item ≡ row_ends P entry =
    ap (λ (k : ℕ). let e : SumRow = record { lo = k; hi = hi } in e) lo_is
    ∙ ap (λ (k : ℕ). let e : SumRow = record { lo = lower_end P entry; hi = k } in e) hi_is in
    pushed fits
    ∙ ap (λ (xs : List SumRow). xs ++ item ∷ []) (so_far (omega (arith, sum, fits)))
    ∙ ap (λ (e : SumRow). map (row_ends P) (map entry_of (take i rows)) ++ e ∷ []) same
    ∙ sym (map_push (row_ends P) (map entry_of (take i rows)) entry)
    ∙ sym (ap (map (row_ends P)) (map_more entry_of rows i no_row low))

-- ---- the whole of it

pub total_all : (f : StripEntry → ℕ) (rows : List StripRow) (i : ℕ) → i ≡ length rows → sum_by f (map entry_of (take i rows)) ≡ sum_by f (map entry_of rows)
total_all f rows i is = ap (λ (xs : List StripRow). sum_by f (map entry_of xs)) (take_all i rows (omega (arith, is)))

pub ends_all : (P : ℕ) (rows : List StripRow) (i : ℕ) → i ≡ length rows → map (row_ends P) (map entry_of (take i rows)) ≡ map (row_ends P) (map entry_of rows)
ends_all P rows i is = ap (λ (xs : List StripRow). map (row_ends P) (map entry_of xs)) (take_all i rows (omega (arith, is)))

pub totals_ordered : (P : ℕ) (rows : List StripRow) → All IsRowInRange rows → lower_total P (map entry_of rows) ≤ upper_total P (map entry_of rows)
totals_ordered P [] all = omega arith
totals_ordered P (r ∷ rows) all =
    let first : lower_end P (entry_of r) ≤ upper_end P (entry_of r) = row_ordered P r (All-head IsRowInRange r rows all) in
    let rest : lower_total P (map entry_of rows) ≤ upper_total P (map entry_of rows) = totals_ordered P rows (All-tail IsRowInRange r rows all) in
    let lower : lower_total P (map entry_of (r ∷ rows)) ≡ lower_end P (entry_of r) + lower_total P (map entry_of rows) = sum_by-cons (lower_end P) (entry_of r) (map entry_of rows) in
    let upper : upper_total P (map entry_of (r ∷ rows)) ≡ upper_end P (entry_of r) + upper_total P (map entry_of rows) = sum_by-cons (upper_end P) (entry_of r) (map entry_of rows) in
    omega (arith, first, rest, lower, upper)

-- ---- the count of steps, one row on

pub passed_more : (kept rows : List StripRow) (place place' i : ℕ) → i < length rows → Rises rows → IsPassed kept place rows i → IsFirstFrom kept place (get_or rows i no_row).strike place' → IsPassed kept place' rows (i + 1)
passed_more kept rows place place' i low rise passed first = λ k j other row under over other_is row_is.
    let here : slice_get rows i ≡ Some (get_or rows i no_row) = slice_get-get_or rows i no_row low in
    let next : (get_or rows i no_row).strike < row.strike = rises rows i j (get_or rows i no_row) row rise here row_is (omega arith) in
    elim (cases_lt k place) [
      | inl before ↦ passed k j other row before (omega arith) other_is row_is
      | inr from_on ↦ let less = first.below k other from_on under other_is in omega arith
    ]

touched_at : (kept rows : List StripRow) (place place' i : ℕ) → i < length rows → Rises kept → IsPassed kept place rows i
    → IsFirstFrom kept place (get_or rows i no_row).strike place'
    → is_touched (map entry_of kept) (entry_of (get_or rows i no_row)) ≡ not (is_kept_at kept place' (get_or rows i no_row))
touched_at kept rows place place' i low rise passed first =
    let here : slice_get rows i ≡ Some (get_or rows i no_row) = slice_get-get_or rows i no_row low in
    touched_here kept place' (get_or rows i no_row) rise
    (λ k other under other_is. elim (cases_lt k place) [
      | inl before ↦ passed k i other (get_or rows i no_row) before (omega arith) other_is here
      | inr from_on ↦ first.below k other from_on under other_is
    ])
    first.stops

abbrev as_step : Bool → ℕ
as_step b = cond b 1 0

step_of : (b t : Bool) → t ≡ not b → cond b 0 1 ≡ as_step t
step_of true t is = sym (ap as_step is)
step_of false t is = sym (ap as_step is)

-- so many of the first rows are touched, one row on
pub touched_more : (kept rows : List StripRow) (place place' i start steps steps' : ℕ) → i < length rows → Rises kept → IsPassed kept place rows i → IsFirstFrom kept place (get_or rows i no_row).strike place'
    → steps ≡ start + touched_count (map entry_of kept) (map entry_of (take i rows))
    → steps' ≡ steps + cond (is_kept_at kept place' (get_or rows i no_row)) 0 1
    → steps' ≡ start + touched_count (map entry_of kept) (map entry_of (take (i + 1) rows))
touched_more kept rows place place' i start steps steps' low rise passed first so_far step =
    let f : StripEntry → ℕ = λ e. cond (is_touched (map entry_of kept) e) 1 0 in
    let mine : cond (is_kept_at kept place' (get_or rows i no_row)) 0 1 ≡ f (entry_of (get_or rows i no_row)) =
    step_of (is_kept_at kept place' (get_or rows i no_row)) (is_touched (map entry_of kept) (entry_of (get_or rows i no_row))) (touched_at kept rows place place' i low rise passed first) in
    let more : sum_by f (map entry_of (take (i + 1) rows)) ≡ sum_by f (map entry_of (take i rows)) + f (entry_of (get_or rows i no_row)) =
    ap (sum_by f) (map_more entry_of rows i no_row low) ∙ sum_by_push f (map entry_of (take i rows)) (entry_of (get_or rows i no_row)) in
    omega (arith, more, mine, so_far, step)

pub count_of_part : (kept rows : List StripRow) (i : ℕ) → touched_count (map entry_of kept) (map entry_of (take i rows)) ≤ touched_count (map entry_of kept) (map entry_of rows)
count_of_part kept rows i =
    let f : StripEntry → ℕ = λ e. cond (is_touched (map entry_of kept) e) 1 0 in
    let part : sum_by f (take i (map entry_of rows)) ≤ sum_by f (map entry_of rows) = sum_by-take-le f (map entry_of rows) i in
    let same : sum_by f (take i (map entry_of rows)) ≡ sum_by f (map entry_of (take i rows)) = ap (sum_by f) (take-map entry_of i rows) in
    omega (arith, part, same)
