-- Rows in rising order, split at a place into those at most an end and those above it.
use Rattle.std.proofs.Common.{◌≡◌, ◌∙◌, ℕ, ◌+◌, ◌*◌, ◌<◌, ◌≤◌, ℤ, ◌≤ℤ◌, ◌<ℤ◌, List, length, get_or, slice_get, Some, sym, ap, subst, inl, inr, arith}
use Rattle.std.specs.List.Sorted.{IsPartitionPoint, IsPartitionedBy}
use Rattle.std.specs.Prelude.{Bool, true, false, int_le}
use Rattle.std.proofs.lemmas.Int.{ints}
use Rattle.std.proofs.lemmas.Bool.{cases_lt, cases_order}
use Rattle.std.proofs.lemmas.List.{get_or_default}
use Rattle.std.proofs.lemmas.List.Elements.{Contains-get_or}
use Rattle.std.proofs.lemmas.Option.{slice_get-get_or, slice_get_within, get_or_from_slice_get}
use Rattle.vx_symbol.specs.declared.rows.StrikeRow.{StrikeRow}
use Rattle.vx_formula.specs.Level.{StrikesRise, IsListed, strikes}
use Rattle.vx_formula.specs.Refusal.{HasNoneAbove}
use Rattle.vx_formula.specs.Undecided.{StrikeStraddles}
use Rattle.vx_formula.proofs.Lists.{in_from_contains, contains_from_in, in_map, map_in}
use Rattle.vx_formula.specs.StrikesByEnds.{IsLowestBetween}
use Rattle.vx_forward.specs.Level.{in_units, HasNoneBetween, HasNoneAtMost, IsGreatestAtMost, IsLevelRow}
use Rattle.vx_forward.proofs.PairOrder.{some_row}

-- the strike at a place
abbrev pub strike_at : List StrikeRow → ℕ → ℕ
strike_at rows k = (get_or rows k some_row).strike

-- ---- listed strikes are those at the places

pub listed_place : (rows : List StrikeRow) (strike : ℕ) → IsListed rows strike → (k : ℕ) × (k < length rows) × (strike_at rows k ≡ strike)
listed_place rows strike h =
    let found = in_map (λ (row : StrikeRow). row.strike) rows strike (in_from_contains (strikes rows) strike h) in
    let at = contains_from_in rows found.0 found.1 in (
      at.0,
      at.1,
      ap (λ (row : StrikeRow). row.strike) (sym (get_or_default rows at.0 found.0 some_row at.1) ∙ at.2) ∙ found.2,
    )

pub place_listed : (rows : List StrikeRow) (k : ℕ) → k < length rows → IsListed rows (strike_at rows k)
place_listed rows k h =
    contains_from_in (strikes rows) (strike_at rows k)
    (map_in (λ (row : StrikeRow). row.strike) rows (get_or rows k some_row) (in_from_contains rows (get_or rows k some_row) (Contains-get_or rows k some_row h)))

-- the row at a place is of a listed strike
pub row_at_is_listed : (rows : List StrikeRow) (k : ℕ) (row : StrikeRow) → slice_get rows k ≡ Some row → IsListed rows row.strike
row_at_is_listed rows k row h =
    subst (IsListed rows) (ap (λ (r : StrikeRow). r.strike) (get_or_from_slice_get rows k row some_row h)) (place_listed rows k (slice_get_within rows k row h))

-- what holds of the strike at each place holds of each listed strike
pub for_listed : (rows : List StrikeRow) (P : ℕ → Type 0) → ((k : ℕ) → k < length rows → P (strike_at rows k)) → (strike : ℕ) → IsListed rows strike → P strike
for_listed rows P h strike listed =
    let at = listed_place rows strike listed in
    subst P at.2 (h at.0 at.1)

-- of two places the later has the higher strike
pub strikes_rise_by_place : (rows : List StrikeRow) → StrikesRise rows → (i j : ℕ) → i < j → j < length rows → strike_at rows i < strike_at rows j
strikes_rise_by_place rows rise i j h k = rise i j some_row h k

pub strikes_do_not_fall : (rows : List StrikeRow) → StrikesRise rows → (i j : ℕ) → i ≤ j → j < length rows → strike_at rows i ≤ strike_at rows j
strikes_do_not_fall rows rise i j h k =
    elim (cases_order i j) [
      | inl e ↦ let same : strike_at rows i ≡ strike_at rows j = ap (strike_at rows) e in omega arith
      | inr d ↦ elim d [
        | inl less ↦ let l = strikes_rise_by_place rows rise i j less k in omega arith
        | inr more ↦ absurd (omega arith)
      ]
    ]

-- ---- the split

-- the rows before the place are at most the end, and those from it on are above it
abbrev pub IsSplitAt : List StrikeRow → ℤ → ℕ → Type 0
IsSplitAt rows end place = IsPartitionPoint (λ row. in_units row.strike ≤ℤ end) (λ row. end <ℤ in_units row.strike) rows place

module _ (rows : List StrikeRow) (rise : StrikesRise rows) (lo : ℤ) (place : ℕ) (split : IsSplitAt rows lo place) where
  before : (k : ℕ) → k < place → in_units (strike_at rows k) ≤ℤ lo
  before k h = split.0 k some_row (omega arith) h

  after : (k : ℕ) → place ≤ k → k < length rows → lo <ℤ in_units (strike_at rows k)
  after k h l = split.1 k some_row h l

  -- a strike above the low end stands at the place or after it
  at_or_after : (k : ℕ) → lo <ℤ in_units (strike_at rows k) → place ≤ k
  at_or_after k h = elim (cases_lt k place) [ inl less ↦ let b = before k less in absurd (omega (arith, ints)) | inr more ↦ more ]

  -- a strike at most the low end stands before the place
  stands_before : (k : ℕ) → k < length rows → in_units (strike_at rows k) ≤ℤ lo → k < place
  stands_before k l h = elim (cases_lt k place) [ inl less ↦ less | inr more ↦ let b = after k more l in absurd (omega (arith, ints)) ]

  pub lowest_between : (hi : ℤ) → place < length rows → in_units (strike_at rows place) ≤ℤ hi → IsLowestBetween rows lo hi (strike_at rows place)
  lowest_between hi there most = record {
    listed = place_listed rows place there;
    straddles = record { above = after place (omega arith) there; at_most = most };
    lowest = for_listed rows (λ other. StrikeStraddles lo hi other → strike_at rows place ≤ other)
        (λ k l between. strikes_do_not_fall rows rise place k (at_or_after k between.above) l);
  }

  pub none_between : (hi : ℤ) → (place < length rows → hi <ℤ in_units (strike_at rows place)) → HasNoneBetween rows lo hi
  none_between hi past =
      for_listed rows (λ strike. ¬ StrikeStraddles lo hi strike)
      (λ k l between.
      let from = at_or_after k between.above in
      let b = past (omega arith) in
      let c = strikes_do_not_fall rows rise place k from l in
      let d = between.at_most in
      absurd (omega (arith, ints)))

  pub none_at_most : place ≡ 0 → HasNoneAtMost rows lo
  none_at_most e = for_listed rows (λ strike. lo <ℤ in_units strike) (λ k l. after k (omega arith) l)

  -- the row before the place has the greatest strike at most the low end
  pub greatest_at_most : (level : ℕ) → level + 1 ≡ place → place ≤ length rows → IsGreatestAtMost rows lo level (get_or rows level some_row)
  greatest_at_most level e within = record {
    is_at = slice_get-get_or rows level some_row (omega arith);
    at_most = before level (omega arith);
    greatest = for_listed rows (λ other. in_units other ≤ℤ lo → other ≤ strike_at rows level)
        (λ k l most. strikes_do_not_fall rows rise k level (let b = stands_before k l most in omega arith) (omega arith));
  }

  pub level_row : (hi : ℤ) (level : ℕ) → level + 1 ≡ place → place ≤ length rows → (place < length rows → hi <ℤ in_units (strike_at rows place)) → IsLevelRow rows lo hi level (get_or rows level some_row)
  level_row hi level e within past = record { none_between = none_between hi past; greatest = greatest_at_most level e within }

  -- the strike at the place is the lowest above the level
  pub has_one_above : (level : ℕ) → level + 1 ≡ place → place < length rows → strike_at rows place ≤ 2 * strike_at rows level → ¬ HasNoneAbove rows (strike_at rows level)
  has_one_above level e there twice none =
      let a = none (strike_at rows place) (place_listed rows place there) (strikes_rise_by_place rows rise level place (omega arith) there) in
      omega arith

  pub has_none_above : (level : ℕ) → level + 1 ≡ place → place ≤ length rows → (place < length rows → 2 * strike_at rows level < strike_at rows place) → HasNoneAbove rows (strike_at rows level)
  has_none_above level e within past =
      for_listed rows (λ strike. strike_at rows level < strike → 2 * strike_at rows level < strike)
      (λ k l above.
      elim (cases_lt level k) [
        | inl more ↦ (let b = past (omega arith) in let c = strikes_do_not_fall rows rise place k (omega arith) l in omega arith)
        | inr less ↦ (let c = strikes_do_not_fall rows rise k level less (omega arith) in absurd (omega arith))
      ])

-- ---- the test of a row

pub test_yes : (a b : ℤ) → int_le a b ≡ true → a ≤ℤ b
test_yes a b e = grind (arith, ints)

pub test_no : (a b : ℤ) → int_le a b ≡ false → b <ℤ a
test_no a b e = grind (arith, ints)

pub test_true : (a b : ℤ) → a ≤ℤ b → int_le a b ≡ true
test_true a b h = grind (arith, ints)

fall_at : (rows : List StrikeRow) → StrikesRise rows → (d : StrikeRow) (i j : ℕ) → i ≤ j → j < length rows → (get_or rows i d).strike ≤ (get_or rows j d).strike
fall_at rows rise d i j h k =
    elim (cases_order i j) [
      | inl e ↦ let same : (get_or rows i d).strike ≡ (get_or rows j d).strike = ap (λ n. (get_or rows n d).strike) e in omega arith
      | inr o ↦ elim o [
        | inl less ↦ let l = rise i j d less k in omega arith
        | inr more ↦ absurd (omega arith)
      ]
    ]

-- no row that passes comes after one that fails
pub is_partitioned : (rows : List StrikeRow) (end : ℤ) → StrikesRise rows → IsPartitionedBy (λ row. int_le (in_units row.strike) end) rows
is_partitioned rows end rise i j d h l most =
    let fall = fall_at rows rise d i j h l in
    let b = test_yes (in_units (get_or rows j d).strike) end most in
    test_true (in_units (get_or rows i d).strike) end (omega (arith, ints))

pub split_from_tests : (rows : List StrikeRow) (end : ℤ) (place : ℕ) → IsPartitionPoint (λ row. int_le (in_units row.strike) end ≡ true) (λ row. int_le (in_units row.strike) end ≡ false) rows place → IsSplitAt rows end place
split_from_tests rows end place h =
    (λ k d l t. test_yes (in_units (get_or rows k d).strike) end (h.0 k d l t), λ k d l t. test_no (in_units (get_or rows k d).strike) end (h.1 k d l t))

pub split_given : (rows : List StrikeRow) (lo lo' : ℤ) (place : ℕ) → lo' ≡ lo → IsSplitAt rows lo' place → IsSplitAt rows lo place
split_given rows lo lo' place e h = let P : ℤ → Type 0 = λ z. IsSplitAt rows z place in subst P e h

pub most_given : (strike : ℕ) (hi hi' : ℤ) (b : Bool) → hi' ≡ hi → b ≡ int_le (in_units strike) hi' → b ≡ true → in_units strike ≤ℤ hi
most_given strike hi hi' b p e t = let P : ℤ → Type 0 = λ z. in_units strike ≤ℤ z in subst P p (test_yes (in_units strike) hi' (sym e ∙ t))

pub past_given : (strike : ℕ) (hi hi' : ℤ) (b : Bool) → hi' ≡ hi → b ≡ int_le (in_units strike) hi' → b ≡ false → hi <ℤ in_units strike
past_given strike hi hi' b p e t = let P : ℤ → Type 0 = λ z. z <ℤ in_units strike in subst P p (test_no (in_units strike) hi' (sym e ∙ t))
