-- What two printed ends say of the level: there is such an answer for all rows and ends.
use Rattle.std.proofs.Common.{◌≡◌, refl, sym, subst, ap, ℕ, zero, suc, ◌≤◌, ℤ, ◌≤ℤ◌, ◌<ℤ◌, List, [], ◌∷◌, Some, slice_get, inl, inr, arith}
use Rattle.std.proofs.lemmas.Int.{by_lt_z}
use Rattle.vx_symbol.specs.declared.rows.StrikeRow.{StrikeRow}
use Rattle.vx_formula.specs.Level.{strikes}
use Rattle.vx_formula.specs.Undecided.{StrikeStraddles}
use Rattle.vx_formula.proofs.Lists.{In, in_from_contains, contains_from_in, in_map}
use Rattle.vx_formula.proofs.BestOf.{Best, best_or_none}
use Rattle.vx_formula.proofs.Comparisons.{at_most_or_not, falling_total, rising_total}
use Rattle.vx_formula.proofs.RowDecisions.{none_above_or_not}
use Rattle.vx_formula.proofs.StrikeCases.{straddles_or_not}
use Rattle.vx_forward.specs.Level.{in_units, HasNoneBetween, IsLevelRow, IsK0Answer}
use Rattle.vx_forward.specs.declared.level.K0Answer.{K0Answer}
use Rattle.vx_forward.specs.declared.level.K0Answer.TheVariants.{At, NoStrikeBelow, NoStrikeAbove, Straddle}

-- ---- tests of a strike

abbrev IsAtMost : ℤ → ℕ → Type 0
IsAtMost lo k = in_units k ≤ℤ lo

above_if_not : (lo : ℤ) (k : ℕ) → ¬ IsAtMost lo k → lo <ℤ in_units k
above_if_not lo k none = by_lt_z lo (in_units k) (λ above. above) (λ low. absurd (none low))

-- a row of a list stands at a place
place_of : (rows : List StrikeRow) (row : StrikeRow) → In rows row → (place : ℕ) × (slice_get rows place ≡ Some row)
place_of [] row h = elim h [ ]
place_of (first ∷ rest) row (inl same) = (zero, ap Some same)
place_of (first ∷ rest) row (inr later) = let found = place_of rest row later in (suc found.0, found.1)

-- ---- the answer

module _ (rows : List StrikeRow) (lo hi : ℤ) where
  abbrev Answered : Type 0
  Answered = (answer : K0Answer) × IsK0Answer rows lo hi answer

  -- at the row of the level, by whether a strike is listed above it
  at_row : (place : ℕ) (row : StrikeRow) → IsLevelRow rows lo hi place row → Answered
  at_row place row is =
      elim (none_above_or_not rows row.strike) [
        | inl none ↦ (NoStrikeAbove place, (row, is, none))
        | inr some ↦ (At place, (row, is, some))
      ]

  -- where the greatest listed strike at most the low end is k
  at_greatest : (k : ℕ) → HasNoneBetween rows lo hi → Best (IsAtMost lo) (λ a b. b ≤ a) (strikes rows) k → Answered
  at_greatest k none best =
      let found = in_map (λ (row : StrikeRow). row.strike) rows k best.among in
      let row : StrikeRow = found.0 in
      let same : row.strike ≡ k = found.2 in
      let at = place_of rows row found.1 in
      at_row at.0 row (
      record {
        none_between = none;
        greatest = record {
          is_at = at.1;
          at_most = subst (λ (n : ℕ). IsAtMost lo n) (sym same) best.counts;
          greatest = λ other listed most. let first = best.first other (in_from_contains (strikes rows) other listed) most in omega (arith, first, same);
        };
      }
      )

  with_none_between : HasNoneBetween rows lo hi → Answered
  with_none_between none =
      elim (best_or_none (IsAtMost lo) (λ a b. b ≤ a) (λ k. at_most_or_not (in_units k) lo) (λ k. omega arith) falling_total (λ a b c h k. omega (arith, h, k)) (strikes rows)) [
        | inl found ↦ at_greatest found.0 none found.1
        | inr none_low ↦
            (NoStrikeBelow, (none, λ strike listed. above_if_not lo strike (none_low strike (in_from_contains (strikes rows) strike listed))))
      ]

  -- some answer is that of the two ends
  pub level_is_answered : (answer : K0Answer) × IsK0Answer rows lo hi answer
  level_is_answered =
      elim (best_or_none (StrikeStraddles lo hi) (λ a b. a ≤ b) (straddles_or_not lo hi) (λ k. omega arith) rising_total
      (λ a b c h k. omega (arith, h, k)) (strikes rows)) [
        | inl found ↦ (
          Straddle found.0 lo hi,
          (
            record {
              listed = contains_from_in (strikes rows) found.0 found.1.among;
              straddles = found.1.counts;
              lowest = λ other listed. found.1.first other (in_from_contains (strikes rows) other listed);
            },
            refl,
            refl,
          ),
        )
        | inr none ↦ with_none_between (λ strike listed. none strike (in_from_contains (strikes rows) strike listed))
      ]
