-- The worked days of a feed, computed.
use Rattle.std.proofs.Common.{◌≡◌, ℕ, ◌≤◌, ◌⊎◌, pos, List, [], ◌∷◌, ◌++◌, refl, subst, inl, inr, arith}
use Rattle.std.proofs.lemmas.List.Elements.{All-cons, All-nil}
use lib.Signed.{le_z_yes, lt_z_yes}
use Rattle.vx_num.specs.Fraction.{whole, ◌<ᶠ◌}
use Rattle.vx_clock.specs.Day.{IsDayInRange}
use Rattle.vx_symbol.specs.Symbol.{IsSymbolInRange}
use Rattle.vx_feed.specs.declared.events.Event.{Event}
use Rattle.vx_feed.specs.declared.events.Event.TheVariants as event
use Rattle.vx_feed.specs.Listed.{listed_rows, no_price}
use Rattle.vx_feed.specs.Order.{AreLawful, AreLawfulAfter}
use Rattle.vx_formula.specs.Pair.{IsAsClose}
use Rattle.vx_formula.specs.Forward.{forward_at}
use Rattle.vx_formula.specs.Level.{strikes}
use Rattle.vx_formula.specs.Examples.{at_cents, row_at, at_rate_zero}
use Rattle.vx_formula.proofs.Lists.{In, in_from_contains}
use Rattle.vx_days.specs.FeedExamples.{september_17, standard, call_at, put_at, half_past_eight, listing, quotes, SampleIsLawful, SampleShowsRows}
use Rattle.vx_days.specs.FeedExamples.{crossed_call, crossed_beside, pair_of_1900}
use Rattle.vx_days.specs.FeedExamples.{UncrossedStands, CrossedIsLawful, CrossedStandsNot, CrossedShowsNoCall, CrossedHasNoPair, CrossedPairIsBeside}
use Rattle.vx_days.specs.FeedExamples.{CrossedForward, CrossedLevel, CrossedLacksMoney}

day_17 : IsDayInRange september_17
day_17 = (le_z_yes tt, le_z_yes tt)

day_of_expiry : IsDayInRange standard.date
day_of_expiry = (le_z_yes tt, le_z_yes tt)

call_in_range : (strike : ℕ) → 100000 ≤ strike → strike ≤ 50000000 → IsSymbolInRange (call_at strike)
call_in_range strike low high = record { date = day_of_expiry; strike = (low, high) }

put_in_range : (strike : ℕ) → 100000 ≤ strike → strike ≤ 50000000 → IsSymbolInRange (put_at strike)
put_in_range strike low high = record { date = day_of_expiry; strike = (low, high) }

-- what may come behind the listing of the three strikes may come with it
behind_listing : (rest : List Event) → AreLawfulAfter listing rest → AreLawful (listing ++ rest)
behind_listing rest behind = (
  record { in_range = day_17; in_order = refl },
  (
    record { in_range = day_of_expiry; in_order = refl },
    (
      record { in_range = (day_of_expiry, (le_z_yes tt, le_z_yes tt)); in_order = refl },
      (
        record { in_range = call_in_range 1900000 (omega arith) (omega arith); in_order = refl },
        (
          record { in_range = put_in_range 1900000 (omega arith) (omega arith); in_order = refl },
          (
            record { in_range = call_in_range 2000000 (omega arith) (omega arith); in_order = refl },
            (
              record { in_range = put_in_range 2000000 (omega arith) (omega arith); in_order = refl },
              (
                record { in_range = call_in_range 2100000 (omega arith) (omega arith); in_order = refl },
                (
                  record { in_range = put_in_range 2100000 (omega arith) (omega arith); in_order = refl },
                  behind,
                ),
              ),
            ),
          ),
        ),
      ),
    ),
  ),
)

-- each event of the small feed may come after those before it
pub sample_is_lawful : SampleIsLawful
sample_is_lawful = behind_listing (quotes ++ event.Tick half_past_eight ∷ event.End 13 ∷ []) (
  record { in_range = (omega arith, put_in_range 1900000 (omega arith) (omega arith), omega arith, omega arith); in_order = refl },
  (
    record { in_range = (omega arith, call_in_range 2000000 (omega arith) (omega arith), omega arith, omega arith); in_order = refl },
    (
      record { in_range = (omega arith, put_in_range 2000000 (omega arith) (omega arith), omega arith, omega arith); in_order = refl },
      (
        record { in_range = (omega arith, call_in_range 2100000 (omega arith) (omega arith), omega arith, omega arith); in_order = refl },
        (
          record { in_range = omega arith; in_order = refl },
          (
            record { in_range = omega arith; in_order = refl },
            tt,
          ),
        ),
      ),
    ),
  ),
)

-- and they show the rows of the worked figure, 20.66
pub sample_shows_rows : SampleShowsRows
sample_shows_rows = refl

-- each event of the feed with a crossed quote may come after those before it
pub crossed_is_lawful : CrossedIsLawful
crossed_is_lawful = behind_listing crossed_call (
  record { in_range = (omega arith, call_in_range 2000000 (omega arith) (omega arith), omega arith, omega arith); in_order = refl },
  (
    record { in_range = (omega arith, put_in_range 2000000 (omega arith) (omega arith), omega arith, omega arith); in_order = refl },
    (
      record { in_range = (omega arith, call_in_range 2000000 (omega arith) (omega arith), omega arith, omega arith); in_order = refl },
      tt,
    ),
  ),
)

-- before the crossed quote the call's quote stands
pub uncrossed_stands : UncrossedStands
uncrossed_stands = refl

-- after it none of the call stands
pub crossed_stands_not : CrossedStandsNot
crossed_stands_not = refl

-- so the row of 2000 shows its put alone, and the others nothing
pub crossed_shows_no_call : CrossedShowsNoCall
crossed_shows_no_call = refl

-- and no strike has both sides live
pub crossed_has_no_pair : CrossedHasNoPair
crossed_has_no_pair = refl

-- with both sides of 1900 quoted the closest pair is that of 1900
pub crossed_pair_is_beside : CrossedPairIsBeside
crossed_pair_is_beside = record {
  among = (0, omega arith, refl);
  closest = All-cons (IsAsClose pair_of_1900) pair_of_1900 [] (inr (refl, omega arith)) (All-nil (IsAsClose pair_of_1900));
}

-- its forward at rate zero is 2000 points
pub crossed_forward : CrossedForward
crossed_forward = refl

-- one of three listed strikes is the first, the second or the third
pub listed_of_three : (a b c k : ℕ) → In (a ∷ (b ∷ (c ∷ []))) k → (a ≡ k) ⊎ ((b ≡ k) ⊎ (c ≡ k))
listed_of_three a b c k (inl e) = inl e
listed_of_three a b c k (inr (inl e)) = inr (inl e)
listed_of_three a b c k (inr (inr (inl e))) = inr (inr e)
listed_of_three a b c k (inr (inr (inr h))) = elim h [ ]

-- and the level is 2000
pub crossed_level : CrossedLevel
crossed_level = record {
  is_listed = (1, omega arith, refl);
  at_most = le_z_yes tt;
  others_above = λ other h less.
      let P : ℕ → Type 0 = λ k. forward_at pair_of_1900 at_rate_zero <ᶠ whole (pos k) in
      elim (listed_of_three 1900000 2000000 2100000 other (in_from_contains (strikes (listed_rows standard crossed_beside)) other h)) [
        | inl e ↦ absurd (omega arith)
        | inr later ↦ elim later [
          | inl e ↦ absurd (omega arith)
          | inr e ↦ subst P e (lt_z_yes tt)
        ]
      ];
}

-- whose row lacks the price of its call, which is a refusal
pub crossed_lacks_money : CrossedLacksMoney
crossed_lacks_money = record { row = row_at 2000000 (at_cents 5000) no_price; listed = (1, omega arith, refl); at_level = refl; lacks = refl }
