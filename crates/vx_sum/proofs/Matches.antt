-- One walk over two rising lists finds the rows that are kept.
use Rattle.std.proofs.Common.{◌≡◌, ℕ, ◌<◌, ◌≤◌, true, false, not, ◌&&◌, eqb, List, length, get_or, slice_get, Option, Some, None, map, refl, sym, ◌∙◌, ap, subst, inl, inr, arith}
use Rattle.std.specs.List.{AllPairs, list_any}
use Rattle.std.proofs.lemmas.Bool.{and_parts, eqb-true, cases_order, false≢true}
use Rattle.std.proofs.lemmas.Option.{slice_get_within, get_or_from_slice_get, slice_get-get_or}
use Rattle.std.proofs.lemmas.List.{get_or-map, length-map}
use Rattle.std.proofs.lemmas.List.Folds.{Any-from_list_any, list_any_at}
use Rattle.vx_formula.specs.Strip.{StripEntry}
use Rattle.vx_formula.specs.Touched.{is_same_entry, is_touched}
use Rattle.vx_formula.proofs.Walks.{same_tests}
use Rattle.vx_strip.specs.declared.strip.StripRow.{StripRow}
use Rattle.vx_strip.specs.Entries.{entry_of}
use Rattle.vx_sum.specs.declared.sum.SumRow.{SumRow}
use Rattle.vx_sum.specs.Sums.{row_ends}
use Rattle.vx_sum.specs.Matching.{is_found, is_kept_at}

-- ends to stand past the end of a list
abbrev pub no_ends : SumRow
no_ends = record { lo = 0; hi = 0 }

same_fields : (a b : StripEntry) → a.strike ≡ b.strike → a.d ≡ b.d → a.q4 ≡ b.q4 → a ≡ b
same_fields a b strike d q4 =
    ap (λ (k : ℕ). let e : StripEntry = record { strike = k; d = a.d; q4 = a.q4 } in e) strike
    ∙ ap (λ (k : ℕ). let e : StripEntry = record { strike = b.strike; d = k; q4 = a.q4 } in e) d
    ∙ ap (λ (k : ℕ). let e : StripEntry = record { strike = b.strike; d = b.d; q4 = k } in e) q4

-- entries that the test calls the same are the same
entry_from_same : (a b : StripEntry) → is_same_entry a b ≡ true → a ≡ b
entry_from_same a b h =
    let outer = and_parts (eqb a.strike b.strike && eqb a.d b.d) (eqb a.q4 b.q4) h in
    let inner = and_parts (eqb a.strike b.strike) (eqb a.d b.d) outer.0 in
    same_fields a b (eqb-true a.strike b.strike inner.0) (eqb-true a.d b.d inner.1) (eqb-true a.q4 b.q4 outer.1)

-- a row that is found is there
found_row : (found : Option StripRow) (row : StripRow) → is_found found row ≡ true → (kept : StripRow) × (found ≡ Some kept) × (is_same_entry (entry_of row) (entry_of kept) ≡ true)
found_row None row h = absurd (false≢true h)
found_row (Some kept) row h = (kept, refl, h)

-- its kept ends are its own
pub kept_row_ends : (P : ℕ) (kept : List StripRow) (ends : List SumRow) (place : ℕ) (d : SumRow) (row : StripRow)
    → ends ≡ map (row_ends P) (map entry_of kept) → is_kept_at kept place row ≡ true → get_or ends place d ≡ row_ends P (entry_of row)
kept_row_ends P kept ends place d row belong h =
    let found = found_row (slice_get kept place) row h in
    let low : place < length kept = slice_get_within kept place found.0 found.1 in
    let low' : place < length (map entry_of kept) = omega (arith, length-map kept entry_of) in
    let same : entry_of row ≡ entry_of found.0 = entry_from_same (entry_of row) (entry_of found.0) found.2 in
    ap (λ (xs : List SumRow). get_or xs place d) belong
    ∙ get_or-map (row_ends P) (map entry_of kept) place (entry_of found.0) d low'
    ∙ ap (row_ends P) (get_or-map entry_of kept place found.0 (entry_of found.0) low ∙ ap entry_of (get_or_from_slice_get kept place found.0 found.0 found.1) ∙ sym same)

abbrev pub Rises : List StripRow → Type 0
Rises rows = AllPairs (λ a b. a.strike < b.strike) rows

-- strikes are in the order of their places
pub rises : (rows : List StripRow) (i j : ℕ) (a b : StripRow) → Rises rows → slice_get rows i ≡ Some a → slice_get rows j ≡ Some b → i < j → a.strike < b.strike
rises rows i j a b rise p q below =
    let P : StripRow → StripRow → Type 0 = λ x y. x.strike < y.strike in
    let first : P a (get_or rows j a) = subst (λ x. P x (get_or rows j a)) (get_or_from_slice_get rows i a a p) (rise i j a below (slice_get_within rows j b q)) in
    subst (λ y. P a y) (get_or_from_slice_get rows j b a q) first

-- the kept rows before a place lie below a row
abbrev AreBelow : List StripRow → ℕ → StripRow → Type 0
AreBelow kept place row = (k : ℕ) (other : StripRow) → k < place → slice_get kept k ≡ Some other → other.strike < row.strike

-- and the one at the place is not below it
abbrev IsNotBelow : List StripRow → ℕ → StripRow → Type 0
IsNotBelow kept place row = (other : StripRow) → slice_get kept place ≡ Some other → row.strike ≤ other.strike

module _ (kept : List StripRow) (place : ℕ) (row : StripRow) (rise : Rises kept) (before : AreBelow kept place row) (stops : IsNotBelow kept place row) where
  -- a kept row of the same strike stands at the place
  only_here : (k : ℕ) (other : StripRow) → k < length kept → slice_get kept k ≡ Some other → other.strike ≡ row.strike → k ≡ place
  only_here k other low is same = elim (cases_order k place) [
    | inl here ↦ here
    | inr away ↦ elim away [
      | inl under ↦ let less = before k other under is in absurd (omega arith)
      | inr over ↦
          let there : slice_get kept place ≡ Some (get_or kept place other) = slice_get-get_or kept place other (omega arith) in
          let more : (get_or kept place other).strike < other.strike = rises kept place k (get_or kept place other) other rise there is over in
          let least = stops (get_or kept place other) there in
          absurd (omega arith)
    ]
  ]

  to_kept : list_any (is_same_entry (entry_of row)) (map entry_of kept) ≡ true → is_kept_at kept place row ≡ true
  to_kept h =
      let any = Any-from_list_any (is_same_entry (entry_of row)) (map entry_of kept) h in
      let low : any.0 < length kept = omega (arith, any.2, length-map kept entry_of) in
      let other = get_or kept any.0 row in
      let is : slice_get kept any.0 ≡ Some other = slice_get-get_or kept any.0 row low in
      let entry : any.1 ≡ entry_of other = sym any.3 ∙ get_or-map entry_of kept any.0 row any.1 low in
      let same : is_same_entry (entry_of row) (entry_of other) ≡ true = subst (λ (e : StripEntry). is_same_entry (entry_of row) e ≡ true) entry any.4 in
      let equal : entry_of row ≡ entry_of other = entry_from_same (entry_of row) (entry_of other) same in
      let here : any.0 ≡ place = only_here any.0 other low is (sym (ap (λ (e : StripEntry). e.strike) equal)) in
      let there : slice_get kept place ≡ Some other = ap (slice_get kept) (sym here) ∙ is in
      ap (λ (o : Option StripRow). is_found o row) there ∙ same

  from_kept : is_kept_at kept place row ≡ true → list_any (is_same_entry (entry_of row)) (map entry_of kept) ≡ true
  from_kept h =
      let found = found_row (slice_get kept place) row h in
      let low : place < length kept = slice_get_within kept place found.0 found.1 in
      let at : get_or (map entry_of kept) place (entry_of row) ≡ entry_of found.0 = get_or-map entry_of kept place found.0 (entry_of row) low ∙ ap entry_of (get_or_from_slice_get kept place found.0 found.0 found.1) in
      list_any_at (is_same_entry (entry_of row)) (map entry_of kept) place (entry_of row) (omega (arith, length-map kept entry_of))
      (ap (is_same_entry (entry_of row)) at ∙ found.2)

  -- a row is touched unless it is the one at the place
  pub touched_here : is_touched (map entry_of kept) (entry_of row) ≡ not (is_kept_at kept place row)
  touched_here =
      ap not (same_tests (list_any (is_same_entry (entry_of row)) (map entry_of kept)) (is_kept_at kept place row) to_kept from_kept)

-- the kept rows before a place are below all rows from an index on
abbrev pub IsPassed : List StripRow → ℕ → List StripRow → ℕ → Type 0
IsPassed kept place rows i =
    (k j : ℕ) (other row : StripRow) → k < place → i ≤ j → slice_get kept k ≡ Some other → slice_get rows j ≡ Some row → other.strike < row.strike
