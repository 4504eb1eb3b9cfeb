-- Two ends have at most one answer.
use Rattle.std.proofs.Common.{◌≡◌, ◌∙◌, ℕ, ◌*◌, ◌<◌, ◌≤◌, ◌⊎◌, ℤ, List, [], ◌∷◌, Some, slice_get, refl, sym, ap, subst, inl, inr, arith}
use Rattle.std.proofs.lemmas.Int.{ints}
use Rattle.std.proofs.lemmas.Bool.{cases_lt, cases_order}
use Rattle.std.proofs.lemmas.Option.{slice_get_within, get_or_from_slice_get}
use Rattle.vx_symbol.specs.declared.rows.StrikeRow.{StrikeRow}
use Rattle.vx_formula.specs.Level.{StrikesRise, IsListed, strikes}
use Rattle.vx_formula.specs.Refusal.{HasNoneAbove}
use Rattle.vx_formula.proofs.Lists.{In, in_from_contains, contains_from_in}
use Rattle.vx_forward.specs.declared.level.K0Answer.{K0Answer}
use Rattle.vx_forward.specs.declared.level.K0Answer.TheVariants.{At, NoStrikeBelow, NoStrikeAbove, Straddle}
use Rattle.vx_formula.specs.StrikesByEnds.{IsLowestBetween}
use Rattle.vx_forward.specs.Level.{HasNoneBetween, HasNoneAtMost, IsLevelRow, IsK0Answer}
use Rattle.vx_forward.proofs.PairOrder.{some_row}
use Rattle.vx_forward.proofs.Places.{row_at_is_listed, strikes_rise_by_place, strike_at}

-- rows in rising order have one place of a strike
place_is_one : (rows : List StrikeRow) (p q : ℕ) (a b : StrikeRow) → StrikesRise rows → slice_get rows p ≡ Some a → slice_get rows q ≡ Some b → a.strike ≡ b.strike → p ≡ q
place_is_one rows p q a b rise h k e =
    let at_p : strike_at rows p ≡ a.strike = ap (λ (r : StrikeRow). r.strike) (get_or_from_slice_get rows p a some_row h) in
    let at_q : strike_at rows q ≡ b.strike = ap (λ (r : StrikeRow). r.strike) (get_or_from_slice_get rows q b some_row k) in
    elim (cases_order p q) [
      | inl same ↦ same
      | inr d ↦ elim d [
        | inl less ↦ let l = strikes_rise_by_place rows rise p q less (slice_get_within rows q b k) in absurd (omega arith)
        | inr more ↦ let l = strikes_rise_by_place rows rise q p more (slice_get_within rows p a h) in absurd (omega arith)
      ]
    ]

module _ (rows : List StrikeRow) (lo hi : ℤ) where
  -- the strike of the level's row is one
  same_strike : (p q : ℕ) (a b : StrikeRow) → IsLevelRow rows lo hi p a → IsLevelRow rows lo hi q b → a.strike ≡ b.strike
  same_strike p q a b h k =
      let g = h.greatest in
      let l = k.greatest in
      let one = g.greatest b.strike (row_at_is_listed rows q b l.is_at) l.at_most in
      let two = l.greatest a.strike (row_at_is_listed rows p a g.is_at) g.at_most in
      omega arith

  same_place : (p q : ℕ) (a b : StrikeRow) → StrikesRise rows → IsLevelRow rows lo hi p a → IsLevelRow rows lo hi q b → p ≡ q
  same_place p q a b rise h k =
      let g = h.greatest in
      let l = k.greatest in
      place_is_one rows p q a b rise g.is_at l.is_at (same_strike p q a b h k)

  level_or_none : (p : ℕ) (a : StrikeRow) → IsLevelRow rows lo hi p a → HasNoneAtMost rows lo → ⊥
  level_or_none p a h none =
      let g = h.greatest in
      let low = g.at_most in
      let above = none a.strike (row_at_is_listed rows p a g.is_at) in
      absurd (omega (arith, ints))

  between_or_none : (strike : ℕ) → IsLowestBetween rows lo hi strike → HasNoneBetween rows lo hi → ⊥
  between_or_none strike h none = none strike h.listed h.straddles

  above_or_none : (p q : ℕ) (a b : StrikeRow) → IsLevelRow rows lo hi p a → IsLevelRow rows lo hi q b → (¬ HasNoneAbove rows a.strike) → HasNoneAbove rows b.strike → ⊥
  above_or_none p q a b h k one none = one (subst (HasNoneAbove rows) (sym (same_strike p q a b h k)) none)

  lowest_is_one : (s t : ℕ) → IsLowestBetween rows lo hi s → IsLowestBetween rows lo hi t → s ≡ t
  lowest_is_one s t h k =
      let one = h.lowest t k.listed k.straddles in
      let two = k.lowest s h.listed h.straddles in
      omega arith

  pub answer_is_one : (a b : K0Answer) → StrikesRise rows → IsK0Answer rows lo hi a → IsK0Answer rows lo hi b → a ≡ b
  answer_is_one (At p) (At q) rise (a, h, one) (b, k, two) = ap At (same_place p q a b rise h k)
  answer_is_one (At p) NoStrikeBelow rise (a, h, one) (none, above) = absurd (level_or_none p a h above)
  answer_is_one (At p) (NoStrikeAbove q) rise (a, h, one) (b, k, none) = absurd (above_or_none p q a b h k one none)
  answer_is_one (At p) (Straddle t low high) rise (a, h, one) (l, e, f) = absurd (between_or_none t l h.none_between)
  answer_is_one NoStrikeBelow (At q) rise (none, above) (b, k, two) = absurd (level_or_none q b k above)
  answer_is_one NoStrikeBelow NoStrikeBelow rise h k = refl
  answer_is_one NoStrikeBelow (NoStrikeAbove q) rise (none, above) (b, k, two) = absurd (level_or_none q b k above)
  answer_is_one NoStrikeBelow (Straddle t low high) rise (none, above) (l, e, f) = absurd (between_or_none t l none)
  answer_is_one (NoStrikeAbove p) (At q) rise (a, h, none) (b, k, one) = absurd (above_or_none q p b a k h one none)
  answer_is_one (NoStrikeAbove p) NoStrikeBelow rise (a, h, none) (none', above) = absurd (level_or_none p a h above)
  answer_is_one (NoStrikeAbove p) (NoStrikeAbove q) rise (a, h, none) (b, k, none') = ap NoStrikeAbove (same_place p q a b rise h k)
  answer_is_one (NoStrikeAbove p) (Straddle t low high) rise (a, h, none) (l, e, f) = absurd (between_or_none t l h.none_between)
  answer_is_one (Straddle s low high) (At q) rise (l, e, f) (b, k, one) = absurd (between_or_none s l k.none_between)
  answer_is_one (Straddle s low high) NoStrikeBelow rise (l, e, f) (none, above) = absurd (between_or_none s l none)
  answer_is_one (Straddle s low high) (NoStrikeAbove q) rise (l, e, f) (b, k, none) = absurd (between_or_none s l k.none_between)
  answer_is_one (Straddle s low high) (Straddle t low' high') rise (l, e, f) (m, g, i) =
      let same : s ≡ t = lowest_is_one s t l m in
      let lows : low ≡ low' = e ∙ sym g in
      let highs : high ≡ high' = f ∙ sym i in
      cc

-- ---- a strike above, where not every one is past twice

search_above : (xs : List ℕ) (k : ℕ) → ((s : ℕ) → In xs s → k < s → 2 * k < s) ⊎ ((s : ℕ) × In xs s × (k < s) × (s ≤ 2 * k))
search_above [] k = inl (λ s h. elim h [ ])
search_above (x ∷ xs) k =
    elim (search_above xs k) [
      | inr found ↦ inr (found.0, inr found.1, found.2, found.3)
      | inl none ↦ elim (cases_lt k x) [
        | inl above ↦ elim (cases_lt (2 * k) x) [
          | inl past ↦ inl (λ s h. elim h [ inl e ↦ λ more. omega arith | inr later ↦ none s later ])
          | inr within ↦ inr (x, inl refl, above, within)
        ]
        | inr below ↦ inl (λ s h. elim h [ inl e ↦ λ more. absurd (omega arith) | inr later ↦ none s later ])
      ]
    ]

pub one_above : (rows : List StrikeRow) (k : ℕ) → (¬ HasNoneAbove rows k) → (s : ℕ) × IsListed rows s × (k < s) × (s ≤ 2 * k)
one_above rows k one =
    elim (search_above (strikes rows) k) [
      | inl none ↦ absurd (one (λ s listed. none s (in_from_contains (strikes rows) s listed)))
      | inr found ↦ (found.0, contains_from_in (strikes rows) found.0 found.1, found.2, found.3)
    ]
