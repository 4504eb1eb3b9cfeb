-- The worked examples, computed.
use Rattle.std.proofs.Common.{◌≡◌, ℕ, ◌+◌, ◌*◌, ◌<◌, ◌≤◌, ◌⊎◌, ℤ, pos, negsuc, ◌≤ℤ◌, ◌<ℤ◌, [], ◌∷◌, refl, subst, inl, inr, arith}
use Rattle.std.proofs.lemmas.Int.{ints}
use Rattle.std.proofs.lemmas.List.Elements.{All-cons, All-nil}
use lib.Signed.{le_z_yes, lt_z_yes}
use Rattle.vx_num.specs.Fraction.{whole, ◌<ᶠ◌}
use Rattle.vx_symbol.specs.declared.rows.StrikeRow.{StrikeRow}
use Rattle.vx_formula.specs.Pair.{Pair, IsAsClose}
use Rattle.vx_formula.specs.Forward.{forward_at}
use Rattle.vx_formula.specs.Level.{strikes}
use Rattle.vx_formula.specs.Undecided.{Straddles}
use Rattle.vx_formula.specs.Examples.{at_cents, row_at, at_rate_zero, tied_pair, tied_rows, StopsAtTwoZeroBids, PassesSingleZeroBids}
use Rattle.vx_formula.specs.Examples.{TieTakesLowestStrike, TiedForward, TiedLevel, TiedHasNoPut, TwiceTheLevelCounts, MoreDoesNotCount}
use Rattle.vx_formula.specs.Examples.{HalfCentStraddles, HalfCentBelongsAbove, NoneBelowHalfCent, ZeroStraddles, NoneBelowZero, HalfRoundsUp}
use Rattle.vx_formula.specs.Examples.{StrikeIsBetween, OthersAreNot, SumOfTwo, SumAboveTwo, SampleStrip, SampleRounds, SampleIsBetween, AllAreTouched}
use Rattle.vx_formula.specs.Examples.{NoneIsTouched, NeighboursAreTouched, BoughtGain, SoldLose, SoldMinisGain}
use Rattle.vx_formula.proofs.Lists.{In, in_from_contains}

pub stops_at_two_zero_bids : StopsAtTwoZeroBids
stops_at_two_zero_bids = refl

pub passes_single_zero_bids : PassesSingleZeroBids
passes_single_zero_bids = refl

pub tie_takes_lowest_strike : TieTakesLowestStrike
tie_takes_lowest_strike = record {
  among = (0, omega arith, refl);
  closest =
      let other : Pair = record { strike = 1960000; d = negsuc 999 } in
      All-cons (IsAsClose tied_pair) tied_pair (other ∷ []) (inr (refl, omega arith))
      (All-cons (IsAsClose tied_pair) other [] (inr (refl, omega arith)) (All-nil (IsAsClose tied_pair)));
}

pub tied_forward : TiedForward
tied_forward = refl

listed_of_two : (a b k : ℕ) → In (a ∷ (b ∷ [])) k → (a ≡ k) ⊎ (b ≡ k)
listed_of_two a b k (inl e) = inl e
listed_of_two a b k (inr (inl e)) = inr e
listed_of_two a b k (inr (inr h)) = elim h [ ]

pub tied_level : TiedLevel
tied_level = record {
  is_listed = (0, omega arith, refl);
  at_most = le_z_yes tt;
  others_above = λ other h less.
      let P : ℕ → Type 0 = λ k. forward_at tied_pair at_rate_zero <ᶠ whole (pos k) in
      elim (listed_of_two 1950000 1960000 other (in_from_contains (strikes tied_rows) other h)) [
        | inl e ↦ absurd (omega arith)
        | inr e ↦ subst P e (lt_z_yes tt)
      ];
}

pub tied_has_no_put : TiedHasNoPut
tied_has_no_put =
    let P : StrikeRow → Type 0 = λ row. 1950000 ≤ row.strike in
    let first = row_at 1950000 (at_cents 2500) (at_cents 3000) in
    let second = row_at 1960000 (at_cents 3000) (at_cents 2500) in
    All-cons P first (second ∷ []) (omega arith) (All-cons P second [] (omega arith) (All-nil P))

pub twice_the_level_counts : TwiceTheLevelCounts
twice_the_level_counts h = let above : 2 * 1000000 < 2000000 = h 2000000 (1, omega arith, refl) (omega arith) in omega arith

pub more_does_not_count : MoreDoesNotCount
more_does_not_count = λ strike h less.
    elim (listed_of_two 1000000 2000001 strike (in_from_contains (1000000 ∷ (2000001 ∷ [])) strike h)) [
      | inl e ↦ absurd (omega arith)
      | inr e ↦ omega arith
    ]

pub half_cent_straddles : HalfCentStraddles
half_cent_straddles = record { boundary = pos 13685000; is_boundary = inr (1368, omega arith, refl); above = lt_z_yes tt; at_most = le_z_yes tt }

-- a boundary between two ends is 0 or has a number
none_between : (lo hi : ℤ) → Straddles lo hi → (lo <ℤ pos 0 → pos 0 ≤ℤ hi → ⊥) → ((k : ℕ) → lo <ℤ pos (10000 * k + 5000) → pos (10000 * k + 5000) ≤ℤ hi → ⊥) → ⊥
none_between lo hi h zero half =
    let above = h.above in
    let at_most = h.at_most in
    elim h.is_boundary [
      | inl e ↦ zero (omega (arith, ints)) (omega (arith, ints))
      | inr found ↦ half found.0 (omega (arith, ints, found.2)) (omega (arith, ints, found.2))
    ]

pub half_cent_belongs_above : HalfCentBelongsAbove
half_cent_belongs_above h = none_between (pos 13685000) (pos 13685010) h (λ a b. omega (arith, ints)) (λ k a b. omega (arith, ints))

pub none_below_half_cent : NoneBelowHalfCent
none_below_half_cent h = none_between (pos 0) (pos 4999) h (λ a b. omega (arith, ints)) (λ k a b. omega (arith, ints))

pub zero_straddles : ZeroStraddles
zero_straddles = record { boundary = pos 0; is_boundary = inl refl; above = lt_z_yes tt; at_most = le_z_yes tt }

pub none_below_zero : NoneBelowZero
none_below_zero h = none_between (negsuc 8) (negsuc 1) h (λ a b. omega (arith, ints)) (λ k a b. omega (arith, ints))

pub half_rounds_up : HalfRoundsUp
half_rounds_up = record { at_least = le_z_yes tt; below = lt_z_yes tt }

pub strike_is_between : StrikeIsBetween
strike_is_between = record { above = lt_z_yes tt; at_most = le_z_yes tt }

pub others_are_not : OthersAreNot
others_are_not = ((λ h. let a = h.above in omega (arith, ints)), (λ h. let a = h.at_most in omega (arith, ints)))

pub sum_of_two : SumOfTwo
sum_of_two = refl

pub sum_above_two : SumAboveTwo
sum_above_two = refl

pub sample_strip : SampleStrip
sample_strip = refl

pub sample_rounds : SampleRounds
sample_rounds = record { at_least = le_z_yes tt; below = lt_z_yes tt }

pub sample_is_between : SampleIsBetween
sample_is_between = record { at_least = le_z_yes tt; at_most = le_z_yes tt }

pub all_are_touched : AllAreTouched
all_are_touched = refl

pub none_is_touched : NoneIsTouched
none_is_touched = refl

pub neighbours_are_touched : NeighboursAreTouched
neighbours_are_touched = refl

pub bought_gain : BoughtGain
bought_gain = refl

pub sold_lose : SoldLose
sold_lose = refl

pub sold_minis_gain : SoldMinisGain
sold_minis_gain = refl
