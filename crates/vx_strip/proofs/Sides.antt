-- What the selected rows say of the refusals, and that a strip that is not refused has both sides.
use Rattle.std.proofs.Common.{◌≡◌, ℕ, ◌+◌, ◌<◌, ◌≤◌, true, not, ◌&&◌, List, length, get_or, slice_get, Some, refl, sym, ◌∙◌, ap, subst, arith}
use Rattle.std.specs.List.{All, Any, Contains, filter}
use Rattle.std.proofs.lemmas.Bool.{both_ways}
use Rattle.std.proofs.lemmas.Option.{slice_get-get_or}
use Rattle.std.proofs.lemmas.List.{get_or-map, get_or_default}
use Rattle.std.proofs.lemmas.List.Elements.{All-filter, Contains-get_or}
use Rattle.std.proofs.lemmas.List.Filters.{length-filter_both}
use Rattle.vx_symbol.specs.declared.rows.StrikeRow.{StrikeRow}
use Rattle.vx_symbol.specs.Rows.{AreLawfulRows, IsLawfulRow}
use Rattle.vx_formula.specs.Level.{StrikesRise}
use Rattle.vx_formula.specs.Selection.{is_selected, selected_rows}
use Rattle.vx_formula.specs.Refusal.{LacksMoney, HasNoPut, HasNoCall}
use Rattle.vx_formula.proofs.SelectionLemmas.{selected_rows_rise, level_is_selected}
use Rattle.vx_strip.specs.Entries.{strike_at}
use Rattle.vx_formula.proofs.Walks.{no_row, at_place, in_order, one_at_strike}

pub strike_at_read : (rows : List StrikeRow) (k0 : ℕ) → k0 < length rows → strike_at rows k0 ≡ (get_or rows k0 no_row).strike
strike_at_read rows k0 listed = get_or-map (λ r. r.strike) rows k0 no_row 0 listed

-- a level whose row has both prices lacks no money
pub has_money : (rows : List StrikeRow) (k0 : ℕ) → StrikesRise rows → k0 < length rows → ((get_or rows k0 no_row).put.there && (get_or rows k0 no_row).call.there) ≡ true → ¬ LacksMoney rows (strike_at rows k0)
has_money rows k0 rise listed there lacks =
    let c = lacks.listed in
    let here : slice_get rows c.0 ≡ Some lacks.row = at_place rows c.0 lacks.row c.1 c.2 in
    let place : c.0 ≡ k0 = one_at_strike rows c.0 k0 lacks.row (get_or rows k0 no_row) rise here (slice_get-get_or rows k0 no_row listed) (lacks.at_level ∙ strike_at_read rows k0 listed) in
    let same : get_or rows k0 no_row ≡ lacks.row = ap (λ n. get_or rows n no_row) (sym place) ∙ get_or_default rows c.0 no_row lacks.row c.1 ∙ c.2 in
    both_ways (lacks.row.put.there && lacks.row.call.there) lacks.lacks (ap (λ (r : StrikeRow). r.put.there && r.call.there) (sym same) ∙ there)

module _ (rows : List StrikeRow) (k0 : ℕ) (xs : List StrikeRow) (lawful : AreLawfulRows rows) (listed : k0 < length rows) (is : xs ≡ selected_rows rows (strike_at rows k0)) where
  pub selected_rise : StrikesRise xs
  selected_rise =
      let P : List StrikeRow → Type 0 = λ l. StrikesRise l in
      subst P (sym is) (selected_rows_rise rows (strike_at rows k0) lawful.rising)

  pub selected_lawful : All IsLawfulRow xs
  selected_lawful =
      let P : List StrikeRow → Type 0 = λ l. All IsLawfulRow l in
      subst P (sym is) (All-filter (is_selected rows (strike_at rows k0)) IsLawfulRow rows lawful.each)

  pub no_put : All (λ row. (get_or rows k0 no_row).strike ≤ row.strike) xs → HasNoPut rows (strike_at rows k0)
  no_put all =
      let P : List StrikeRow → Type 0 = λ l. All (λ row. strike_at rows k0 ≤ row.strike) l in
      subst P is (λ k d low. let a = all k d low in omega (arith, strike_at_read rows k0 listed))

  pub no_call : All (λ row. row.strike ≤ (get_or rows k0 no_row).strike) xs → HasNoCall rows (strike_at rows k0)
  no_call all =
      let P : List StrikeRow → Type 0 = λ l. All (λ row. row.strike ≤ strike_at rows k0) l in
      subst P is (λ k d low. let a = all k d low in omega (arith, strike_at_read rows k0 listed))

  pub has_put : Any (λ row. row.strike < (get_or rows k0 no_row).strike) xs → ¬ HasNoPut rows (strike_at rows k0)
  has_put (k, row, low, at, below) none =
      let P : List StrikeRow → Type 0 = λ l. All (λ r. strike_at rows k0 ≤ r.strike) l in
      let all : All (λ r. strike_at rows k0 ≤ r.strike) xs = subst P (sym is) none in
      let over = all k row low in
      omega (arith, strike_at_read rows k0 listed, ap (λ (r : StrikeRow). r.strike) at)

  pub has_call : Any (λ row. (get_or rows k0 no_row).strike < row.strike) xs → ¬ HasNoCall rows (strike_at rows k0)
  has_call (k, row, low, at, above) none =
      let P : List StrikeRow → Type 0 = λ l. All (λ r. r.strike ≤ strike_at rows k0) l in
      let all : All (λ r. r.strike ≤ strike_at rows k0) xs = subst P (sym is) none in
      let under = all k row low in
      omega (arith, strike_at_read rows k0 listed, ap (λ (r : StrikeRow). r.strike) at)

  -- the level's own row is among the selected
  level_among : Contains xs (get_or rows k0 no_row)
  level_among =
      let P : List StrikeRow → Type 0 = λ l. Contains l (get_or rows k0 no_row) in
      subst P (sym is) (level_is_selected rows (strike_at rows k0) (get_or rows k0 no_row) (Contains-get_or rows k0 no_row listed) (sym (strike_at_read rows k0 listed)))

  -- a row below the level, the level's own and one above
  pub three_rows : Any (λ row. row.strike < (get_or rows k0 no_row).strike) xs → Any (λ row. (get_or rows k0 no_row).strike < row.strike) xs → 3 ≤ length xs
  three_rows (i, low, i_in, low_at, below) (k, high, k_in, high_at, above) =
      let level = get_or rows k0 no_row in
      let mid = level_among in
      let first : i < mid.0 = in_order xs i mid.0 low level selected_rise (at_place xs i low i_in low_at) (at_place xs mid.0 level mid.1 mid.2) below in
      let second : mid.0 < k = in_order xs mid.0 k level high selected_rise (at_place xs mid.0 level mid.1 mid.2) (at_place xs k high k_in high_at) above in
      omega arith

  pub as_many_at_most : length xs ≤ length rows
  as_many_at_most =
      let p = is_selected rows (strike_at rows k0) in
      let both : length (filter p rows) + length (filter (λ x. not (p x)) rows) ≡ length rows = length-filter_both p (λ x. not (p x)) (λ x. refl) rows in
      omega (arith, ap length is, both)
