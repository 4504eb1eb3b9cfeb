-- The walks find what the selection says row by row.
use Rattle.std.proofs.Common.{◌≡◌, ℕ, suc, ◌+◌, ◌<◌, ◌≤◌, Bool, true, false, ◌&&◌, ◌||◌, eqb, leb, List, [], ◌∷◌, ◌++◌, take, length, get_or, slice_get, Some, refl, sym, ◌∙◌, ap, subst, inl, inr, arith}
use Rattle.std.specs.List.{filter}
use Rattle.std.proofs.lemmas.Bool.{cond-true, cond-false, and_parts, and_from, and_left, le-leb, lt-leb, leb-true, eq-eqb, cases_order, cases_lt, both_ways}
use Rattle.std.proofs.lemmas.Option.{slice_get_within, get_or_from_slice_get, slice_get-get_or, same_Some}
use Rattle.std.proofs.lemmas.List.{get_or-map, append-nil}
use Rattle.std.proofs.lemmas.List.Elements.{filter_more}
use Rattle.vx_symbol.specs.declared.rows.StrikeRow.{StrikeRow}
use Rattle.vx_formula.specs.Level.{StrikesRise, strike_at}
use Rattle.vx_formula.specs.Selection.{is_selected}
use Rattle.vx_formula.specs.Laws.{IsSelectedPut, IsSelectedCall}
use Rattle.vx_formula.proofs.SelectionLemmas.{selection_goes_by_rows}
use Rattle.vx_formula.specs.Walk.{is_live_put, is_live_call, IsLowestReached, IsHighestReached}

-- a row to stand past the end of a list
abbrev pub no_row : StrikeRow
no_row = record { strike = 0; put = record { there = false; live = false; half = 0 }; call = record { there = false; live = false; half = 0 } }

-- two tests that hold together are equal
pub same_tests : (a b : Bool) → (a ≡ true → b ≡ true) → (b ≡ true → a ≡ true) → a ≡ b
same_tests true true f g = refl
same_tests true false f g = sym (f refl)
same_tests false true f g = g refl
same_tests false false f g = refl

-- the strike at the place of a row
pub strike_at_is : (rows : List StrikeRow) (place : ℕ) (row : StrikeRow) → slice_get rows place ≡ Some row → strike_at rows place ≡ row.strike
strike_at_is rows place row is =
    get_or-map (λ r. r.strike) rows place row 0 (slice_get_within rows place row is) ∙ ap (λ r. r.strike) (get_or_from_slice_get rows place row row is)

-- strikes are in the order of their places
pub rises : (rows : List StrikeRow) (i j : ℕ) (a b : StrikeRow) → StrikesRise rows → slice_get rows i ≡ Some a → slice_get rows j ≡ Some b → i < j → a.strike < b.strike
rises rows i j a b rise p q below =
    let P : StrikeRow → StrikeRow → Type 0 = λ x y. x.strike < y.strike in
    let first : P a (get_or rows j a) = subst (λ x. P x (get_or rows j a)) (get_or_from_slice_get rows i a a p) (rise i j a below (slice_get_within rows j b q)) in
    subst (λ y. P a y) (get_or_from_slice_get rows j b a q) first

pub in_order : (rows : List StrikeRow) (i j : ℕ) (a b : StrikeRow) → StrikesRise rows → slice_get rows i ≡ Some a → slice_get rows j ≡ Some b → a.strike < b.strike → i < j
in_order rows i j a b rise p q below = elim (cases_order i j) [
  | inl same ↦ let eq : a.strike ≡ b.strike = ap (λ r. r.strike) (same_Some a b (sym p ∙ ap (slice_get rows) same ∙ q)) in absurd (omega arith)
  | inr other ↦ elim other [
    | inl less ↦ less
    | inr more ↦ let over : b.strike < a.strike = rises rows j i b a rise q p more in absurd (omega arith)
  ]
]

-- a row that stands in the list at a place is the row of that place
pub at_place : (rows : List StrikeRow) (place : ℕ) (row : StrikeRow) → place < length rows → get_or rows place row ≡ row → slice_get rows place ≡ Some row
at_place rows place row within is = slice_get-get_or rows place row within ∙ ap (λ r. Some r) is

-- no row at another place has the strike of a row
pub one_at_strike : (rows : List StrikeRow) (i j : ℕ) (a b : StrikeRow) → StrikesRise rows → slice_get rows i ≡ Some a → slice_get rows j ≡ Some b → a.strike ≡ b.strike → i ≡ j
one_at_strike rows i j a b rise p q same =
    elim (cases_order i j) [
      | inl here ↦ here
      | inr apart ↦ elim apart [
        | inl below ↦ (let less = rises rows i j a b rise p q below in absurd (omega (arith, less, same)))
        | inr above ↦ (let more = rises rows j i b a rise q p above in absurd (omega (arith, more, same)))
      ]
    ]

module _ (rows : List StrikeRow) (k0 : ℕ) (level row : StrikeRow) (place : ℕ) (rise : StrikesRise rows) (level_is : slice_get rows k0 ≡ Some level) (row_is : slice_get rows place ≡ Some row) where
  -- a row at a lower place is selected where the walk reaches it and its put is live
  reaches_low : (low : ℕ) → IsLowestReached rows k0 low → place < k0 → IsSelectedPut rows level.strike row → low ≤ place
  reaches_low low reached below chosen = elim (cases_lt place low) [
    | inl beyond ↦
        let stop = reached.ends (omega arith) in
        let pair = stop.1 in
        let live : (is_live_put pair.first || is_live_put pair.second) ≡ true =
        chosen.unbroken low pair.first pair.second pair.first_is pair.second_is
        (rises rows place low row pair.first rise row_is pair.first_is beyond)
        (rises rows (suc low) k0 pair.second level rise pair.second_is level_is stop.0) in
        absurd (both_ways (is_live_put pair.first || is_live_put pair.second) pair.zero_bids live)
    | inr within ↦ within
  ]

  put_chosen : (low : ℕ) → IsLowestReached rows k0 low → place < k0 → low ≤ place → row.put.live ≡ true → IsSelectedPut rows level.strike row
  put_chosen low reached below within live = record {
    below = rises rows place k0 row level rise row_is level_is below;
    live = live;
    unbroken = λ k a b p q above under.
        let after : place < k = in_order rows place k row a rise row_is p above in
        let before : suc k < k0 = in_order rows (suc k) k0 b level rise q level_is under in
        reached.goes_on k (omega arith) before a b p q;
  }

  pub taken_below : (low : ℕ) → IsLowestReached rows k0 low → place < k0 → (leb low place && row.put.live) ≡ is_selected rows level.strike row
  taken_below low reached below =
      let under : row.strike < level.strike = rises rows place k0 row level rise row_is level_is below in
      same_tests (leb low place && row.put.live) (is_selected rows level.strike row)
      (λ h. let parts = and_parts (leb low place) row.put.live h in
      (selection_goes_by_rows rows level.strike row rise).1 (inr (inl (put_chosen low reached below (leb-true low place parts.0) parts.1))))
      (λ h. elim ((selection_goes_by_rows rows level.strike row rise).0 h) [
        | inl same ↦ absurd (omega arith)
        | inr side ↦ elim side [
          | inl put ↦ and_from (leb low place) row.put.live (le-leb low place (reaches_low low reached below put)) put.live
          | inr call ↦ let above = call.above in absurd (omega arith)
        ]
      ])

  -- a row at a higher place, likewise by its call
  reaches_high : (high : ℕ) → IsHighestReached rows k0 high → k0 < place → IsSelectedCall rows level.strike row → place ≤ high
  reaches_high high reached above chosen = elim (cases_lt high place) [
    | inl beyond ↦
        let there : place < length rows = slice_get_within rows place row row_is in
        let stop = reached.ends (omega arith) in
        let pair = stop.3 in
        let last : suc stop.0 < place = omega (arith, stop.1) in
        let live : (is_live_call pair.first || is_live_call pair.second) ≡ true =
        chosen.unbroken stop.0 pair.first pair.second pair.first_is pair.second_is
        (rises rows k0 stop.0 level pair.first rise level_is pair.first_is stop.2)
        (rises rows (suc stop.0) place pair.second row rise pair.second_is row_is last) in
        absurd (both_ways (is_live_call pair.first || is_live_call pair.second) pair.zero_bids live)
    | inr within ↦ within
  ]

  call_chosen : (high : ℕ) → IsHighestReached rows k0 high → k0 < place → place ≤ high → row.call.live ≡ true → IsSelectedCall rows level.strike row
  call_chosen high reached above within live = record {
    above = rises rows k0 place level row rise level_is row_is above;
    live = live;
    unbroken = λ k a b p q over under.
        let after : k0 < k = in_order rows k0 k level a rise level_is p over in
        let before : suc k < place = in_order rows (suc k) place b row rise q row_is under in
        reached.goes_on k after (omega arith) a b p q;
  }

  pub taken_above : (high : ℕ) → IsHighestReached rows k0 high → k0 < place → (leb place high && row.call.live) ≡ is_selected rows level.strike row
  taken_above high reached above =
      let over : level.strike < row.strike = rises rows k0 place level row rise level_is row_is above in
      same_tests (leb place high && row.call.live) (is_selected rows level.strike row)
      (λ h. let parts = and_parts (leb place high) row.call.live h in
      (selection_goes_by_rows rows level.strike row rise).1 (inr (inr (call_chosen high reached above (leb-true place high parts.0) parts.1))))
      (λ h. elim ((selection_goes_by_rows rows level.strike row rise).0 h) [
        | inl same ↦ absurd (omega arith)
        | inr side ↦ elim side [
          | inl put ↦ let below = put.below in absurd (omega arith)
          | inr call ↦ and_from (leb place high) row.call.live (le-leb place high (reaches_high high reached above call)) call.live
        ]
      ])

  -- and the level's own row is
  pub taken_here : place ≡ k0 → true ≡ is_selected rows level.strike row
  taken_here here =
      let same : row.strike ≡ level.strike = ap (λ r. r.strike) (same_Some row level (sym row_is ∙ ap (slice_get rows) here ∙ level_is)) in
      sym ((selection_goes_by_rows rows level.strike row rise).1 (inl same))

module _ (rows : List StrikeRow) (k0 place : ℕ) (d row : StrikeRow) (rise : StrikesRise rows) (listed : k0 < length rows) (row_is : slice_get rows place ≡ Some row) where
  level : StrikeRow
  level = get_or rows k0 d

  level_is : slice_get rows k0 ≡ Some level
  unfolding level
  level_is = slice_get-get_or rows k0 d listed

  -- what is selected at the level, said of the strike at its place
  at_level : (b : Bool) → b ≡ is_selected rows level.strike row → b ≡ is_selected rows (strike_at rows k0) row
  at_level b is = subst (λ (k : ℕ). b ≡ is_selected rows k row) (sym (strike_at_is rows k0 level level_is)) is

  pub put_within : (low : ℕ) → IsLowestReached rows k0 low → place < k0 → low ≤ place → (get_or rows place d).put.live ≡ is_selected rows (strike_at rows k0) row
  put_within low reached below within =
      ap (λ r. r.put.live) (get_or_from_slice_get rows place row d row_is)
      ∙ sym (ap (λ b. b && row.put.live) (le-leb low place within))
      ∙ at_level (leb low place && row.put.live) (taken_below rows k0 level row place rise level_is row_is low reached below)

  pub put_beyond : (low : ℕ) → IsLowestReached rows k0 low → place < k0 → place < low → leb low place ≡ is_selected rows (strike_at rows k0) row
  put_beyond low reached below beyond =
      lt-leb low place beyond ∙ sym (and_left (leb low place) row.put.live (lt-leb low place beyond))
      ∙ at_level (leb low place && row.put.live) (taken_below rows k0 level row place rise level_is row_is low reached below)

  pub call_within : (high : ℕ) → IsHighestReached rows k0 high → k0 < place → place ≤ high → (get_or rows place d).call.live ≡ is_selected rows (strike_at rows k0) row
  call_within high reached above within =
      ap (λ r. r.call.live) (get_or_from_slice_get rows place row d row_is)
      ∙ sym (ap (λ b. b && row.call.live) (le-leb place high within))
      ∙ at_level (leb place high && row.call.live) (taken_above rows k0 level row place rise level_is row_is high reached above)

  pub call_beyond : (high : ℕ) → IsHighestReached rows k0 high → k0 < place → high < place → leb place high ≡ is_selected rows (strike_at rows k0) row
  call_beyond high reached above beyond =
      lt-leb place high beyond ∙ sym (and_left (leb place high) row.call.live (lt-leb place high beyond))
      ∙ at_level (leb place high && row.call.live) (taken_above rows k0 level row place rise level_is row_is high reached above)

  pub level_taken : place ≡ k0 → eqb place k0 ≡ is_selected rows (strike_at rows k0) row
  level_taken here =
      eq-eqb place k0 here ∙ at_level true (taken_here rows k0 level row place rise level_is row_is here)

-- ---- the rows that pass, one row on

pub kept_row : (p : StrikeRow → Bool) (xs ys zs : List StrikeRow) (i : ℕ) → i < length xs → ys ≡ filter p (take i xs) → p (get_or xs i no_row) ≡ true → zs ≡ ys ++ get_or xs i no_row ∷ [] → zs ≡ filter p (take (i + 1) xs)
kept_row p xs ys zs i there so_far passes pushed =
    pushed
    ∙ ap (λ (l : List StrikeRow). l ++ get_or xs i no_row ∷ []) so_far
    ∙ ap (λ (l : List StrikeRow). filter p (take i xs) ++ l) (sym (cond-true (p (get_or xs i no_row)) (get_or xs i no_row ∷ []) [] passes))
    ∙ sym (filter_more p xs i no_row there)

pub left_row : (p : StrikeRow → Bool) (xs ys : List StrikeRow) (i : ℕ) → i < length xs → ys ≡ filter p (take i xs) → p (get_or xs i no_row) ≡ false → ys ≡ filter p (take (i + 1) xs)
left_row p xs ys i there so_far fails =
    so_far
    ∙ sym (append-nil (filter p (take i xs)))
    ∙ ap (λ (l : List StrikeRow). filter p (take i xs) ++ l) (sym (cond-false (p (get_or xs i no_row)) (get_or xs i no_row ∷ []) [] fails))
    ∙ sym (filter_more p xs i no_row there)
