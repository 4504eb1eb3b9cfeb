-- Where listed strikes lie by two ends.
use Rattle.std.proofs.Common.{ℕ, ◌<◌, ◌≤◌, ◌⊎◌, ℤ, pos, ◌*ℤ◌, ◌≤ℤ◌, ◌<ℤ◌, List, inl, inr, arith}
use Rattle.std.proofs.lemmas.Int.{ints, by_lt_z}
use Rattle.std.proofs.lemmas.Bool.{cases_lt}
use Rattle.vx_symbol.specs.declared.rows.StrikeRow.{StrikeRow}
use Rattle.vx_formula.specs.declared.limits.TheConstants.{FORWARD_UNITS}
use Rattle.vx_formula.specs.Level.{strikes}
use Rattle.vx_formula.specs.Undecided.{StrikeStraddles}
use Rattle.vx_formula.proofs.Lists.{In, in_from_contains, contains_from_in}
use Rattle.vx_formula.specs.StrikesByEnds.{IsLowestBetween, AreAllAbove, IsLevelByEnds, StrikesLieOneWay, LowestBetweenIsOne, LevelByEndsIsOne}
use Rattle.vx_formula.proofs.BestOf.{Best, best_or_none}
use Rattle.vx_formula.proofs.Comparisons.{at_most_or_not, falling_total, rising_total}

abbrev IsAtMost : ℤ → ℕ → Type 0
IsAtMost lo k = (pos FORWARD_UNITS *ℤ pos k) ≤ℤ lo

-- the units of a strike lie between the ends, or not
pub straddles_or_not : (lo hi : ℤ) (k : ℕ) → StrikeStraddles lo hi k ⊎ ¬ StrikeStraddles lo hi k
straddles_or_not lo hi k =
    by_lt_z lo (pos FORWARD_UNITS *ℤ pos k)
    (λ above. by_lt_z hi (pos FORWARD_UNITS *ℤ pos k) (λ beyond. inr (λ h. let high = h.at_most in omega (arith, ints))) (λ within. inl (record { above = above; at_most = within })))
    (λ low. inr (λ h. let high = h.above in omega (arith, ints)))

-- what lies neither at most the low end nor between is above the high end
is_beyond : (lo hi : ℤ) (k : ℕ) → ¬ StrikeStraddles lo hi k → ¬ IsAtMost lo k → hi <ℤ (pos FORWARD_UNITS *ℤ pos k)
is_beyond lo hi k between_not low_not =
    by_lt_z hi (pos FORWARD_UNITS *ℤ pos k) (λ beyond. beyond)
    (λ within. by_lt_z lo (pos FORWARD_UNITS *ℤ pos k) (λ above. absurd (between_not (record { above = above; at_most = within }))) (λ low. absurd (low_not low)))

abbrev LowestOf : List ℕ → ℤ → ℤ → ℕ → Type 0
LowestOf ks lo hi k = Best (StrikeStraddles lo hi) (λ a b. a ≤ b) ks k

abbrev GreatestOf : List ℕ → ℤ → ℕ → Type 0
GreatestOf ks lo k = Best (IsAtMost lo) (λ a b. b ≤ a) ks k

lowest_of : (rows : List StrikeRow) (lo hi : ℤ) (k : ℕ) → LowestOf (strikes rows) lo hi k → IsLowestBetween rows lo hi k
lowest_of rows lo hi k h = record {
  listed = contains_from_in (strikes rows) k h.among;
  straddles = h.counts;
  lowest = λ other listed. h.first other (in_from_contains (strikes rows) other listed);
}

greatest_of : (rows : List StrikeRow) (lo hi : ℤ) (k : ℕ) → ((other : ℕ) → In (strikes rows) other → ¬ StrikeStraddles lo hi other) → GreatestOf (strikes rows) lo k → IsLevelByEnds rows lo hi k
greatest_of rows lo hi k none h = record {
  listed = contains_from_in (strikes rows) k h.among;
  at_most = h.counts;
  others_above = λ other listed above.
      let inside = in_from_contains (strikes rows) other listed in
      is_beyond lo hi other (none other inside) (λ low. let order : other ≤ k = h.first other inside low in omega arith);
}

pub lie_one_way : (rows : List StrikeRow) (lo hi : ℤ) → ((strike : ℕ) × IsLowestBetween rows lo hi strike) ⊎ (AreAllAbove rows hi ⊎ ((k : ℕ) × IsLevelByEnds rows lo hi k))
lie_one_way rows lo hi =
    elim (best_or_none (StrikeStraddles lo hi) (λ a b. a ≤ b) (straddles_or_not lo hi) (λ k. omega arith) rising_total (λ a b c h k. omega arith) (strikes rows)) [
      | inl found ↦ inl (found.0, lowest_of rows lo hi found.0 found.1)
      | inr none ↦ elim (best_or_none (IsAtMost lo) (λ a b. b ≤ a) (λ k. at_most_or_not (pos FORWARD_UNITS *ℤ pos k) lo) (λ k. omega arith) falling_total (λ a b c h k. omega arith) (strikes rows)) [
        | inl found ↦ inr (inr (found.0, greatest_of rows lo hi found.0 none found.1))
        | inr none_low ↦ inr (inl (λ strike listed.
            let inside = in_from_contains (strikes rows) strike listed in
            is_beyond lo hi strike (none strike inside) (none_low strike inside)))
      ]
    ]

between_not_above : (rows : List StrikeRow) (lo hi : ℤ) → ((strike : ℕ) × IsLowestBetween rows lo hi strike) → AreAllAbove rows hi → ⊥
between_not_above rows lo hi (strike, h) above =
    let within = h.straddles.at_most in
    let beyond = above strike h.listed in
    omega (arith, ints)

between_not_greatest : (rows : List StrikeRow) (lo hi : ℤ) → ((strike : ℕ) × IsLowestBetween rows lo hi strike) → ((k : ℕ) × IsLevelByEnds rows lo hi k) → ⊥
between_not_greatest rows lo hi (strike, h) (k, l) =
    let above = h.straddles.above in
    let within = h.straddles.at_most in
    let low = l.at_most in
    let less : k < strike = omega (arith, ints) in
    let beyond = l.others_above strike h.listed less in
    omega (arith, ints)

above_not_greatest : (rows : List StrikeRow) (lo hi : ℤ) → lo ≤ℤ hi → AreAllAbove rows hi → ((k : ℕ) × IsLevelByEnds rows lo hi k) → ⊥
above_not_greatest rows lo hi order above (k, l) =
    let low = l.at_most in
    let beyond = above k l.listed in
    omega (arith, ints)

pub strikes_lie_one_way : StrikesLieOneWay
strikes_lie_one_way rows lo hi order = record {
  one = lie_one_way rows lo hi;
  not_first_and_second = between_not_above rows lo hi;
  not_first_and_third = between_not_greatest rows lo hi;
  not_second_and_third = above_not_greatest rows lo hi order;
}

pub lowest_between_is_one : LowestBetweenIsOne
lowest_between_is_one rows lo hi a b h l =
    let one = h.lowest b l.listed l.straddles in
    let other = l.lowest a h.listed h.straddles in
    omega arith

not_above : (rows : List StrikeRow) (lo hi : ℤ) (a b : ℕ) → lo ≤ℤ hi → IsLevelByEnds rows lo hi a → IsLevelByEnds rows lo hi b → a < b → ⊥
not_above rows lo hi a b order h l less =
    let beyond = h.others_above b l.listed less in
    let low = l.at_most in
    omega (arith, ints)

pub greatest_at_most_is_one : LevelByEndsIsOne
greatest_at_most_is_one rows lo hi a b order h l =
    elim (cases_lt a b) [
      | inl less ↦ absurd (not_above rows lo hi a b order h l less)
      | inr fine ↦ elim (cases_lt b a) [ inl more ↦ absurd (not_above rows lo hi b a order l h more) | inr other ↦ omega arith ]
    ]
