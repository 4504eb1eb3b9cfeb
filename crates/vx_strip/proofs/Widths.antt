-- The widths of selected rows, and what their entries are within.
use Rattle.std.proofs.Common.{◌≡◌, ℕ, ◌+◌, ◌-◌, ◌<◌, ◌≤◌, List, [], ◌∷◌, ◌++◌, drop, length, get_or, Option, Some, None, map, refl, sym, ◌∙◌, ap, subst, inl, inr, arith}
use Rattle.std.specs.Option.{IfSome}
use Rattle.std.specs.List.{All, AllPairs}
use Rattle.std.proofs.lemmas.List.{drop_more, map_push, append_assoc, length-map, length-drop, get_or-drop, get_or-map, get_or_default}
use Rattle.std.proofs.lemmas.Bool.{cases_order, lt-ltb, le-ltb}
use Rattle.std.proofs.lemmas.List.Elements.{All-head, All-cons, All-tail, All-nil}
use Rattle.vx_symbol.specs.declared.limits.TheConstants.{STRIKE_MIN, STRIKE_MAX}
use Rattle.vx_symbol.specs.declared.rows.StrikeRow.{StrikeRow}
use Rattle.vx_symbol.specs.Rows.{IsLawfulRow}
use Rattle.vx_formula.specs.Level.{strikes, StrikesRise}
use Rattle.vx_formula.specs.Strip.{StripEntry, doubled_width, strip_price, first_strike, entries_after}
use Rattle.vx_formula.proofs.Lists.{pairs_head, pairs_tail}
use Rattle.vx_strip.specs.declared.strip.StripRow.{StripRow}
use Rattle.vx_strip.specs.declared.limits.TheConstants.{WIDTH_MAX, Q4_MAX}
use Rattle.vx_strip.specs.Entries.{entry_of, IsRowInRange}
use Rattle.vx_formula.proofs.Walks.{no_row}

-- the row at a place of rising rows is below all behind it
pub rows_behind_are_above : (rows : List StrikeRow) (i : ℕ) → StrikesRise rows → i < length rows → All (λ row. (get_or rows i no_row).strike < row.strike) (drop (i + 1) rows)
rows_behind_are_above rows i rise there = λ k d low.
    let len : length (drop (i + 1) rows) ≡ length rows - (i + 1) = length-drop (i + 1) rows in
    let P : StrikeRow → Type 0 = λ (r : StrikeRow). (get_or rows i no_row).strike < r.strike in
    let first : P (get_or rows (i + 1 + k) d) = subst (λ (r : StrikeRow). r.strike < (get_or rows (i + 1 + k) d).strike) (get_or_default rows i d no_row there) (rise i (i + 1 + k) d (omega arith) (omega arith)) in
    subst P (sym (get_or-drop (i + 1) rows k d)) first

-- the row at a place is above what all from there on are above
pub head_above : (rows : List StrikeRow) (i : ℕ) (below : Option ℕ) → i < length rows → IfSome below (λ other. All (λ row. other < row.strike) (drop i rows)) → IfSome below (λ other. other < (get_or rows i no_row).strike)
head_above rows i None there before = before
head_above rows i (Some other) there before =
    let P : List StrikeRow → Type 0 = λ xs. All (λ row. other < row.strike) xs in
    All-head (λ row. other < row.strike) (get_or rows i no_row) (drop (i + 1) rows) (subst P (drop_more rows i no_row there) before)

-- the first strike of rows is within what all are within
pub first_of_all : (P : ℕ → Type 0) (rows : List StrikeRow) → All (λ row. P row.strike) rows → IfSome (first_strike rows) P
first_of_all P [] all = tt
first_of_all P (r ∷ rows) all = All-head (λ row. P row.strike) r rows all

pub strikes_at_most : (rows : List StrikeRow) → All IsLawfulRow rows → All (λ row. row.strike ≤ STRIKE_MAX) rows
strikes_at_most rows all = λ k d low. (all k d low).strike_max

-- the entry of a row in the middle
abbrev pub entry_after : ℕ → Option ℕ → StrikeRow → List StrikeRow → StripEntry
entry_after level below row rest = record { strike = row.strike; d = doubled_width below row.strike (first_strike rest); q4 = strip_price level row }

-- one entry on
entries_one_more : (level : ℕ) (below : Option ℕ) (selected : List StrikeRow) (i : ℕ) (made : List StripEntry) (whole : List StripEntry) → i < length selected
    → made ++ entries_after level below (drop i selected) ≡ whole
    → (made ++ entry_after level below (get_or selected i no_row) (drop (i + 1) selected) ∷ []) ++ entries_after level (Some (get_or selected i no_row).strike) (drop (i + 1) selected) ≡ whole
entries_one_more level below selected i made whole there so_far =
    append_assoc made (entry_after level below (get_or selected i no_row) (drop (i + 1) selected) ∷ []) (entries_after level (Some (get_or selected i no_row).strike) (drop (i + 1) selected))
    ∙ ap (λ xs. made ++ entries_after level below xs) (sym (drop_more selected i no_row there))
    ∙ so_far

pub one_pushed : (level : ℕ) (below : Option ℕ) (selected : List StrikeRow) (i : ℕ) (rows rows' : List StripRow) (d q4 : ℕ) (whole : List StripEntry) → i < length selected
    → map entry_of rows ++ entries_after level below (drop i selected) ≡ whole
    → rows' ≡ rows ++ record { strike = (get_or selected i no_row).strike; d = d; q4 = q4 } ∷ []
    → d ≡ doubled_width below (get_or selected i no_row).strike (first_strike (drop (i + 1) selected))
    → q4 ≡ strip_price level (get_or selected i no_row)
    → map entry_of rows' ++ entries_after level (Some (get_or selected i no_row).strike) (drop (i + 1) selected) ≡ whole
one_pushed level below selected i rows rows' d q4 whole there so_far pushed d_is q4_is =
    let row = get_or selected i no_row in
    let item : StripRow = record { strike = row.strike; d = d; q4 = q4 } in
    let same : map entry_of rows' ≡ map entry_of rows ++ entry_of item ∷ [] = ap (map entry_of) pushed ∙ map_push entry_of rows item in
    let entry : entry_of item ≡ entry_after level below row (drop (i + 1) selected) = cc (d_is, q4_is) in
    ap (λ (xs : List StripEntry). xs ++ entries_after level (Some row.strike) (drop (i + 1) selected)) (same ∙ ap (λ (e : StripEntry). map entry_of rows ++ e ∷ []) entry)
    ∙ entries_one_more level below selected i (map entry_of rows) whole there so_far

-- ---- the entries of rising, lawful rows are in range

-- an entry's numbers are in the ranges of a strip's row
record IsEntryInRange (e : StripEntry) : Type 0 where
  strike_min : STRIKE_MIN ≤ e.strike
  strike_max : e.strike ≤ STRIKE_MAX
  d_min : 1 ≤ e.d
  d_max : e.d ≤ WIDTH_MAX
  q4_max : e.q4 ≤ Q4_MAX

price_in_range : (level : ℕ) (row : StrikeRow) → IsLawfulRow row → strip_price level row ≤ Q4_MAX
price_in_range level row lawful =
    let put = lawful.put.in_range in
    let call = lawful.call.in_range in
    elim (cases_order row.strike level) [
      | inl same ↦ rw (le-ltb row.strike level (omega arith), le-ltb level row.strike (omega arith)) (omega arith)
      | inr other ↦ elim other [
        | inl below ↦ rw (lt-ltb row.strike level below) (omega arith)
        | inr above ↦ rw (le-ltb row.strike level (omega arith), lt-ltb level row.strike above) (omega arith)
      ]
    ]

entry_in_range : (level : ℕ) (below : Option ℕ) (row : StrikeRow) (rest : List StrikeRow) → IsLawfulRow row
    → 1 ≤ doubled_width below row.strike (first_strike rest) → doubled_width below row.strike (first_strike rest) ≤ WIDTH_MAX
    → IsEntryInRange (entry_after level below row rest)
entry_in_range level below row rest lawful least greatest = record {
  strike_min = lawful.strike_min;
  strike_max = lawful.strike_max;
  d_min = least;
  d_max = greatest;
  q4_max = price_in_range level row lawful;
}

-- the entries of rows above a strike are in range
entries_after_in_range : (level b : ℕ) (rows : List StrikeRow) → StrikesRise rows → All IsLawfulRow rows → All (λ row. b < row.strike) rows → All IsEntryInRange (entries_after level (Some b) rows)
entries_after_in_range level b [] rise lawful above = All-nil IsEntryInRange
entries_after_in_range level b (r ∷ []) rise lawful above =
    let mine : IsLawfulRow r = All-head IsLawfulRow r [] lawful in
    let over : b < r.strike = All-head (λ row. b < row.strike) r [] above in
    let most = mine.strike_max in
    All-cons IsEntryInRange (entry_after level (Some b) r []) [] (entry_in_range level (Some b) r [] mine (omega arith) (omega arith)) (All-nil IsEntryInRange)
entries_after_in_range level b (r ∷ (s ∷ rest)) rise lawful above =
    let mine : IsLawfulRow r = All-head IsLawfulRow r (s ∷ rest) lawful in
    let over : b < r.strike = All-head (λ row. b < row.strike) r (s ∷ rest) above in
    let later : All IsLawfulRow (s ∷ rest) = All-tail IsLawfulRow r (s ∷ rest) lawful in
    let next : IsLawfulRow s = All-head IsLawfulRow s rest later in
    let behind : All (λ row. r.strike < row.strike) (s ∷ rest) = pairs_head (λ x y. x.strike < y.strike) r (s ∷ rest) rise in
    let under : r.strike < s.strike = All-head (λ row. r.strike < row.strike) s rest behind in
    let most = next.strike_max in
    All-cons IsEntryInRange (entry_after level (Some b) r (s ∷ rest)) (entries_after level (Some r.strike) (s ∷ rest)) (entry_in_range level (Some b) r (s ∷ rest) mine (omega arith) (omega arith))
    (entries_after_in_range level r.strike (s ∷ rest) (pairs_tail (λ x y. x.strike < y.strike) r (s ∷ rest) rise) later behind)

in_range_from_two : (level : ℕ) (rows : List StrikeRow) → 2 ≤ length rows → StrikesRise rows → All IsLawfulRow rows → All IsEntryInRange (entries_after level None rows)
in_range_from_two level [] two rise lawful = absurd (omega arith)
in_range_from_two level (r ∷ []) two rise lawful = absurd (omega arith)
in_range_from_two level (r ∷ (s ∷ rest)) two rise lawful =
    let mine : IsLawfulRow r = All-head IsLawfulRow r (s ∷ rest) lawful in
    let later : All IsLawfulRow (s ∷ rest) = All-tail IsLawfulRow r (s ∷ rest) lawful in
    let next : IsLawfulRow s = All-head IsLawfulRow s rest later in
    let behind : All (λ row. r.strike < row.strike) (s ∷ rest) = pairs_head (λ x y. x.strike < y.strike) r (s ∷ rest) rise in
    let under : r.strike < s.strike = All-head (λ row. r.strike < row.strike) s rest behind in
    let most = next.strike_max in
    let least = mine.strike_min in
    All-cons IsEntryInRange (entry_after level None r (s ∷ rest)) (entries_after level (Some r.strike) (s ∷ rest)) (entry_in_range level None r (s ∷ rest) mine (omega arith) (omega arith))
    (entries_after_in_range level r.strike (s ∷ rest) (pairs_tail (λ x y. x.strike < y.strike) r (s ∷ rest) rise) later behind)

-- ---- from the entries to the rows that write them

pub rows_in_range : (level : ℕ) (rows : List StripRow) (selected : List StrikeRow) → map entry_of rows ≡ entries_after level None selected → 2 ≤ length selected → StrikesRise selected → All IsLawfulRow selected → All IsRowInRange rows
rows_in_range level rows selected made two rise lawful = λ k d low.
    let P : List StripEntry → Type 0 = λ es. All IsEntryInRange es in
    let all : All IsEntryInRange (map entry_of rows) = subst P (sym made) (in_range_from_two level selected two rise lawful) in
    let len : length (map entry_of rows) ≡ length rows = length-map rows entry_of in
    let entry : IsEntryInRange (entry_of (get_or rows k d)) = subst IsEntryInRange (get_or-map entry_of rows k d (entry_of d) low) (all k (entry_of d) (omega arith)) in
    record {
      strike = (entry.strike_min, entry.strike_max);
      d_min = entry.d_min;
      d_max = entry.d_max;
      q4_max = entry.q4_max;
    }

strikes_made : (level : ℕ) (below : Option ℕ) (selected : List StrikeRow) → map (λ e. e.strike) (entries_after level below selected) ≡ strikes selected
strikes_made level below [] = refl
strikes_made level below (r ∷ rest) = ap (λ xs. r.strike ∷ xs) (strikes_made level (Some r.strike) rest)

-- the strikes of rows' entries are those of the rows
entry_strikes_are : (rows : List StripRow) → map (λ e. e.strike) (map entry_of rows) ≡ map (λ row. row.strike) rows
entry_strikes_are [] = refl
entry_strikes_are (r ∷ rest) = ap (λ xs. r.strike ∷ xs) (entry_strikes_are rest)

-- the strikes of a strip's rows are those of the selected rows
pub strip_strikes_are : (level : ℕ) (rows : List StripRow) (selected : List StrikeRow) → map entry_of rows ≡ entries_after level None selected → map (λ row. row.strike) rows ≡ strikes selected
strip_strikes_are level rows selected made = sym (entry_strikes_are rows) ∙ ap (map (λ e. e.strike)) made ∙ strikes_made level None selected

pub same_length : (level : ℕ) (rows : List StripRow) (selected : List StrikeRow) → map entry_of rows ≡ entries_after level None selected → length rows ≡ length selected
same_length level rows selected made =
    sym (length-map rows (λ row. row.strike)) ∙ ap length (strip_strikes_are level rows selected made) ∙ length-map selected (λ row. row.strike)

-- so a strip's rows rise in strike
pub strip_rows_rise : (level : ℕ) (rows : List StripRow) (selected : List StrikeRow) → map entry_of rows ≡ entries_after level None selected → StrikesRise selected → AllPairs (λ a b. a.strike < b.strike) rows
strip_rows_rise level rows selected made rise = λ i j d below there.
    let len : length rows ≡ length selected = same_length level rows selected made in
    let at : (k : ℕ) → k < length rows → (get_or rows k d).strike ≡ (get_or selected k no_row).strike =
    λ k low.
    sym (get_or-map (λ row. row.strike) rows k d 0 low)
    ∙ ap (λ (xs : List ℕ). get_or xs k 0) (strip_strikes_are level rows selected made)
    ∙ get_or-map (λ row. row.strike) selected k no_row 0 (omega arith) in
    let less : (get_or selected i no_row).strike < (get_or selected j no_row).strike = rise i j no_row below (omega arith) in
    omega (arith, at i (omega arith), at j there)
