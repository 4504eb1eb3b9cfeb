-- The selected rows are listed rows in order, with the level among them; and what the selection says row by row.
use Rattle.std.proofs.Common.{◌≡◌, ℕ, zero, suc, ◌<◌, ◌≤◌, ◌⊎◌, ◌↔◌, Bool, true, false, ◌&&◌, ◌||◌, eqb, ltb, List, [], ◌∷◌, map, refl, sym, ◌∙◌, ap, subst, inl, inr, arith}
use Rattle.std.specs.List.{All, Contains, filter}
use Rattle.std.proofs.lemmas.Bool.{cases_Bool, cond-true, cond-false, and_parts, and_from, and_right, or_cases, or_left, or_right, lt-ltb, le-ltb, ltb-true, eq-eqb, eqb-true, cases_lt}
use Rattle.std.proofs.lemmas.List.Kept.{AllPairs-filter}
use Rattle.vx_symbol.specs.declared.rows.StrikeRow.{StrikeRow}
use Rattle.vx_formula.specs.Level.{StrikesRise}
use Rattle.vx_formula.specs.Selection.{is_unbroken, is_selected_put, is_selected_call, is_selected, selected_rows}
use Rattle.vx_formula.specs.Laws.{IsUnbrokenBetween, IsSelectedPut, IsSelectedCall}
use Rattle.vx_formula.proofs.Lists.{in_from_contains, contains_from_in, in_filter, filter_in, all_in, all_from_in, pairs_head, pairs_tail}

pub selected_rows_are_listed : (rows : List StrikeRow) (level : ℕ) → All (Contains rows) (selected_rows rows level)
selected_rows_are_listed rows level =
    all_from_in (Contains rows) (selected_rows rows level) (λ x h. contains_from_in rows x (in_filter (is_selected rows level) rows x h).0)

pub selected_rows_rise : (rows : List StrikeRow) (level : ℕ) → StrikesRise rows → StrikesRise (selected_rows rows level)
selected_rows_rise rows level rise = AllPairs-filter (λ a b. a.strike < b.strike) (is_selected rows level) rows rise

pub level_is_selected : (rows : List StrikeRow) (level : ℕ) (row : StrikeRow) → Contains rows row → row.strike ≡ level → Contains (selected_rows rows level) row
level_is_selected rows level row h e =
    let passes : is_selected rows level row ≡ true =
    or_left (eqb row.strike level || is_selected_put rows level row) (is_selected_call rows level row)
    (or_left (eqb row.strike level) (is_selected_put rows level row) (eq-eqb row.strike level e)) in
    contains_from_in (selected_rows rows level) row (filter_in (is_selected rows level) rows row (in_from_contains rows row h) passes)

-- ---- a filtered list, by whether its first row passes

kept : (p : StrikeRow → Bool) (r : StrikeRow) (rows : List StrikeRow) → p r ≡ true → filter p (r ∷ rows) ≡ r ∷ filter p rows
kept p r rows e = cond-true (p r) (r ∷ filter p rows) (filter p rows) e

-- a filter drops a row that fails its test
filter_drops : (p : StrikeRow → Bool) (r : StrikeRow) (rows : List StrikeRow) → p r ≡ false → filter p (r ∷ rows) ≡ filter p rows
filter_drops p r rows e = cond-false (p r) (r ∷ filter p rows) (filter p rows) e

module _ (live : StrikeRow → Bool) (low high : ℕ) where
  -- the rows between, and whether of each two neighbours of them one is live
  abbrev inside : StrikeRow → Bool
  inside r = ltb low r.strike && ltb r.strike high

  abbrev unbroken : List StrikeRow → Bool
  unbroken rows = is_unbroken (map live (filter inside rows))

  passes_inside : (r : StrikeRow) → low < r.strike → r.strike < high → inside r ≡ true
  passes_inside r a b = and_from (ltb low r.strike) (ltb r.strike high) (lt-ltb low r.strike a) (lt-ltb r.strike high b)

  fails_above : (r : StrikeRow) → high ≤ r.strike → inside r ≡ false
  fails_above r a = and_right (ltb low r.strike) (ltb r.strike high) (le-ltb r.strike high a)

  -- without its first row a list stays unbroken
  rest_unbroken : (b : Bool) (bs : List Bool) → is_unbroken (b ∷ bs) ≡ true → is_unbroken bs ≡ true
  rest_unbroken b [] h = refl
  rest_unbroken b (c ∷ cs) h = (and_parts (b || c) (is_unbroken (c ∷ cs)) h).1

  tail_unbroken : (r : StrikeRow) (rows : List StrikeRow) → unbroken (r ∷ rows) ≡ true → unbroken rows ≡ true
  tail_unbroken r rows h =
      let P : List StrikeRow → Type 0 = λ xs. is_unbroken (map live xs) ≡ true in
      elim (cases_Bool (inside r)) [
        | inl passes ↦ rest_unbroken (live r) (map live (filter inside rows)) (subst P (kept inside r rows passes) h)
        | inr fails ↦ subst P (filter_drops inside r rows fails) h
      ]

  -- no row from `high` on is between
  none_inside : (rows : List StrikeRow) → All (λ r. high ≤ r.strike) rows → filter inside rows ≡ []
  none_inside [] h = refl
  none_inside (r ∷ rows) h =
      filter_drops inside r rows (fails_above r (all_in (λ s. high ≤ s.strike) (r ∷ rows) r h (inl refl)))
      ∙ none_inside rows (λ k d a. h (suc k) d (omega arith))

  -- of two neighbours between, one is live
  said_of_neighbours : (rows : List StrikeRow) → StrikesRise rows → unbroken rows ≡ true → IsUnbrokenBetween live rows low high
  said_of_neighbours [] rise h place a b p q la hb = absurd cc
  said_of_neighbours (r ∷ []) rise h zero a b p q la hb = absurd cc
  said_of_neighbours (r ∷ (s ∷ rows)) rise h zero a b p q la hb =
      let ra : r ≡ a = cc in
      let sb : s ≡ b = cc in
      let less : r.strike < s.strike = all_in (λ t. r.strike < t.strike) (s ∷ rows) s (pairs_head (λ x y. x.strike < y.strike) r (s ∷ rows) rise) (inl refl) in
      let Low : StrikeRow → Type 0 = λ t. low < t.strike in
      let High : StrikeRow → Type 0 = λ t. t.strike < high in
      let rl : low < r.strike = subst Low (sym ra) la in
      let sh : s.strike < high = subst High (sym sb) hb in
      let P : List StrikeRow → Type 0 = λ xs. is_unbroken (map live xs) ≡ true in
      let both : is_unbroken (map live (r ∷ (s ∷ filter inside rows))) ≡ true =
      subst P (kept inside r (s ∷ rows) (passes_inside r rl (omega arith)) ∙ ap (λ xs. r ∷ xs) (kept inside s rows (passes_inside s (omega arith) sh))) h in
      let Q : StrikeRow → StrikeRow → Type 0 = λ x y. (live x || live y) ≡ true in
      let first : Q r s = (and_parts (live r || live s) (is_unbroken (live s ∷ map live (filter inside rows))) both).0 in
      subst (λ y. Q a y) sb (subst (λ x. Q x s) ra first)
  said_of_neighbours (r ∷ rows) rise h (suc k) a b p q la hb =
      said_of_neighbours rows (pairs_tail (λ x y. x.strike < y.strike) r rows rise) (tail_unbroken r rows h) k a b p q la hb

  -- and the other way round
  all_above : (s : StrikeRow) (rows : List StrikeRow) → StrikesRise (s ∷ rows) → high ≤ s.strike → All (λ r. high ≤ r.strike) (s ∷ rows)
  all_above s rows rise a =
      all_from_in (λ r. high ≤ r.strike) (s ∷ rows) (λ r h. elim h [
        | inl e ↦ subst (λ (t : StrikeRow). high ≤ t.strike) e a
        | inr later ↦ let less : s.strike < r.strike = all_in (λ t. s.strike < t.strike) rows r (pairs_head (λ x y. x.strike < y.strike) s rows rise) later in omega arith
      ])

  -- before an unbroken list that begins with s, r keeps it unbroken where r or s is live
  joined : (r s : StrikeRow) (rows : List StrikeRow) → (live r || live s) ≡ true → is_unbroken (map live (s ∷ rows)) ≡ true → is_unbroken (map live (r ∷ (s ∷ rows))) ≡ true
  joined r s rows one rest = and_from (live r || live s) (is_unbroken (map live (s ∷ rows))) one rest

  kept_unbroken : (r : StrikeRow) (rows : List StrikeRow) → StrikesRise (r ∷ rows) → IsUnbrokenBetween live (r ∷ rows) low high → low < r.strike → unbroken rows ≡ true → is_unbroken (map live (r ∷ filter inside rows)) ≡ true
  kept_unbroken r [] rise said above rest = refl
  kept_unbroken r (s ∷ rows) rise said above rest =
      let less : r.strike < s.strike = all_in (λ t. r.strike < t.strike) (s ∷ rows) s (pairs_head (λ x y. x.strike < y.strike) r (s ∷ rows) rise) (inl refl) in
      let P : List StrikeRow → Type 0 = λ xs. is_unbroken (map live (r ∷ xs)) ≡ true in
      let R : List StrikeRow → Type 0 = λ xs. is_unbroken (map live xs) ≡ true in
      elim (cases_lt s.strike high) [
        | inl below ↦
            let same : filter inside (s ∷ rows) ≡ s ∷ filter inside rows = kept inside s rows (passes_inside s (omega arith) below) in
            subst P (sym same) (joined r s (filter inside rows) (said 0 r s refl refl above below) (subst R same rest))
        | inr beyond ↦ subst P (sym (none_inside (s ∷ rows) (all_above s rows (pairs_tail (λ x y. x.strike < y.strike) r (s ∷ rows) rise) beyond))) refl
      ]

  neighbours_said : (rows : List StrikeRow) → StrikesRise rows → IsUnbrokenBetween live rows low high → unbroken rows ≡ true
  neighbours_said [] rise said = refl
  neighbours_said (r ∷ rows) rise said =
      let rest : unbroken rows ≡ true = neighbours_said rows (pairs_tail (λ x y. x.strike < y.strike) r rows rise) (λ place a b p q. said (suc place) a b p q) in
      let P : List StrikeRow → Type 0 = λ xs. is_unbroken (map live xs) ≡ true in
      elim (cases_Bool (inside r)) [
        | inl passes ↦ subst P (sym (kept inside r rows passes)) (kept_unbroken r rows rise said (ltb-true low r.strike (and_parts (ltb low r.strike) (ltb r.strike high) passes).0) rest)
        | inr fails ↦ subst P (sym (filter_drops inside r rows fails)) rest
      ]

-- ---- the selection row by row

on_put : (rows : List StrikeRow) (level : ℕ) (row : StrikeRow) → StrikesRise rows → is_selected_put rows level row ≡ true → IsSelectedPut rows level row
on_put rows level row rise h =
    let a = and_parts (ltb row.strike level && row.put.live) (unbroken (λ r. r.put.live) row.strike level rows) h in
    let b = and_parts (ltb row.strike level) row.put.live a.0 in
    record {
      below = ltb-true row.strike level b.0;
      live = b.1;
      unbroken = said_of_neighbours (λ r. r.put.live) row.strike level rows rise a.1;
    }

put_on : (rows : List StrikeRow) (level : ℕ) (row : StrikeRow) → StrikesRise rows → IsSelectedPut rows level row → is_selected_put rows level row ≡ true
put_on rows level row rise h =
    and_from (ltb row.strike level && row.put.live) (unbroken (λ r. r.put.live) row.strike level rows)
    (and_from (ltb row.strike level) row.put.live (lt-ltb row.strike level h.below) h.live)
    (neighbours_said (λ r. r.put.live) row.strike level rows rise h.unbroken)

on_call : (rows : List StrikeRow) (level : ℕ) (row : StrikeRow) → StrikesRise rows → is_selected_call rows level row ≡ true → IsSelectedCall rows level row
on_call rows level row rise h =
    let a = and_parts (ltb level row.strike && row.call.live) (unbroken (λ r. r.call.live) level row.strike rows) h in
    let b = and_parts (ltb level row.strike) row.call.live a.0 in
    record {
      above = ltb-true level row.strike b.0;
      live = b.1;
      unbroken = said_of_neighbours (λ r. r.call.live) level row.strike rows rise a.1;
    }

call_on : (rows : List StrikeRow) (level : ℕ) (row : StrikeRow) → StrikesRise rows → IsSelectedCall rows level row → is_selected_call rows level row ≡ true
call_on rows level row rise h =
    and_from (ltb level row.strike && row.call.live) (unbroken (λ r. r.call.live) level row.strike rows)
    (and_from (ltb level row.strike) row.call.live (lt-ltb level row.strike h.above) h.live)
    (neighbours_said (λ r. r.call.live) level row.strike rows rise h.unbroken)

pub selection_goes_by_rows : (rows : List StrikeRow) (level : ℕ) (row : StrikeRow) → StrikesRise rows
    → (is_selected rows level row ≡ true) ↔ ((row.strike ≡ level) ⊎ (IsSelectedPut rows level row ⊎ IsSelectedCall rows level row))
selection_goes_by_rows rows level row rise = (
  (λ h. elim (or_cases (eqb row.strike level || is_selected_put rows level row) (is_selected_call rows level row) h) [
    | inl front ↦ elim (or_cases (eqb row.strike level) (is_selected_put rows level row) front) [
      | inl at ↦ inl (eqb-true row.strike level at)
      | inr put ↦ inr (inl (on_put rows level row rise put))
    ]
    | inr call ↦ inr (inr (on_call rows level row rise call))
  ]),
  (λ h. elim h [
    | inl at ↦ or_left (eqb row.strike level || is_selected_put rows level row) (is_selected_call rows level row) (or_left (eqb row.strike level) (is_selected_put rows level row) (eq-eqb row.strike level at))
    | inr side ↦ elim side [
      | inl put ↦ or_left (eqb row.strike level || is_selected_put rows level row) (is_selected_call rows level row) (or_right (eqb row.strike level) (is_selected_put rows level row) (put_on rows level row rise put))
      | inr call ↦ or_right (eqb row.strike level || is_selected_put rows level row) (is_selected_call rows level row) (call_on rows level row rise call)
    ]
  ]),
)
