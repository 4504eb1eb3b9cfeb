-- The printed ends lie around the forward, and what they say of the level holds of it.
use Rattle.std.proofs.Common.{◌≡◌, ℕ, ◌*◌, ◌<◌, ℤ, pos, ◌*ℤ◌, ◌≤ℤ◌, ◌<ℤ◌, List, refl, arith, one-mul}
use Rattle.std.proofs.lemmas.Int.{ints, by_lt_z}
use Rattle.vx_num.specs.Fraction.{Fraction, whole, ◌*ᶠ◌, ◌≤ᶠ◌, ◌<ᶠ◌}
use Rattle.vx_num.proofs.Whole.{mul_assoc, mul_right_comm, mul_mono, mul_mono_left, mul_strict, mul_cancel, mul_cancel_left, mul_cancel_strict_left}
use Rattle.vx_interval.specs.Rounding.{floor_of, ceiling_of}
use Rattle.vx_interval.specs.Ends.{Ends, unit}
use Rattle.vx_interval.specs.Membership.{IsMember}
use Rattle.vx_interval.proofs.EndsLemmas.{unit_positive}
use Rattle.vx_interval.proofs.Enclosures.{member_at_least, member_at_most}
use Rattle.vx_interval.proofs.RoundingLemmas.{floor_of_is, ceiling_of_is}
use Rattle.vx_symbol.specs.declared.rows.StrikeRow.{StrikeRow}
use Rattle.vx_formula.specs.declared.limits.TheConstants.{FORWARD_UNITS}
use Rattle.vx_formula.specs.Level.{IsListed, IsGreatestBelow}
use Rattle.vx_forward.specs.declared.level.K0Answer.{K0Answer}
use Rattle.vx_forward.specs.declared.level.K0Answer.TheVariants.{At, NoStrikeBelow, NoStrikeAbove, Straddle}
use Rattle.vx_forward.specs.Forward.{printed_forward}
use Rattle.vx_forward.specs.Level.{in_units, HasNoneBetween, IsLevelRow, IsK0Answer, SaysOfForward}
use Rattle.vx_forward.proofs.Places.{row_at_is_listed}

-- ---- the ends and a member t / n: lo / 10^9 ≤ t / n ≤ hi / 10^9, multiplied out

module _ (P : ℕ) (f : Ends) (x : Fraction) (m : IsMember P f x) where
  bottom : pos 0 ≤ℤ pos x.bottom
  bottom = omega (arith, ints)

  low_times : ((printed_forward P f).0 *ℤ pos x.bottom) ≤ℤ (pos FORWARD_UNITS *ℤ x.top)
  low_times =
      let n : ℤ = pos x.bottom in
      let u : ℤ = unit P in
      let h = unit_positive P in
      let lo : ℤ = floor_of (pos FORWARD_UNITS *ℤ f.lo) u in
      let floor = floor_of_is (pos FORWARD_UNITS *ℤ f.lo) u h in
      let scaled = mul_mono (lo *ℤ u) (pos FORWARD_UNITS *ℤ f.lo) n bottom floor.at_most in
      let member = mul_mono_left (f.lo *ℤ n) (x.top *ℤ u) (pos FORWARD_UNITS) (omega (arith, ints)) (member_at_least P f x m) in
      mul_cancel (lo *ℤ n) (pos FORWARD_UNITS *ℤ x.top) u h
      (omega (arith, ints, scaled, member, mul_right_comm lo u n, mul_assoc (pos FORWARD_UNITS) f.lo n, mul_assoc (pos FORWARD_UNITS) x.top u))

  high_times : (pos FORWARD_UNITS *ℤ x.top) ≤ℤ ((printed_forward P f).1 *ℤ pos x.bottom)
  high_times =
      let n : ℤ = pos x.bottom in
      let u : ℤ = unit P in
      let h = unit_positive P in
      let hi : ℤ = ceiling_of (pos FORWARD_UNITS *ℤ f.hi) u in
      let ceiling = ceiling_of_is (pos FORWARD_UNITS *ℤ f.hi) u h in
      let scaled = mul_mono (pos FORWARD_UNITS *ℤ f.hi) (hi *ℤ u) n bottom ceiling.at_least in
      let member = mul_mono_left (x.top *ℤ u) (f.hi *ℤ n) (pos FORWARD_UNITS) (omega (arith, ints)) (member_at_most P f x m) in
      mul_cancel (pos FORWARD_UNITS *ℤ x.top) (hi *ℤ n) u h
      (omega (arith, ints, scaled, member, mul_right_comm hi u n, mul_assoc (pos FORWARD_UNITS) f.hi n, mul_assoc (pos FORWARD_UNITS) x.top u))

  one_bottom : (z : ℤ) → z *ℤ pos (1 * x.bottom) ≡ z *ℤ pos x.bottom
  one_bottom z = rw (one-mul x.bottom) refl

  pub printed_low_is_at_most : whole (printed_forward P f).0 ≤ᶠ (whole (pos FORWARD_UNITS) *ᶠ x)
  printed_low_is_at_most = omega (arith, ints, low_times, one_bottom (printed_forward P f).0)

  pub printed_high_is_at_least : (whole (pos FORWARD_UNITS) *ᶠ x) ≤ᶠ whole (printed_forward P f).1
  printed_high_is_at_least = omega (arith, ints, high_times, one_bottom (printed_forward P f).1)

  -- a strike at most the low end is at most the forward, and one above the high end is above it
  pub strike_at_most : (strike : ℕ) → in_units strike ≤ℤ (printed_forward P f).0 → whole (pos strike) ≤ᶠ x
  strike_at_most strike h =
      let n : ℤ = pos x.bottom in
      let a = mul_mono (in_units strike) (printed_forward P f).0 n bottom h in
      let b = mul_cancel_left (pos strike *ℤ n) x.top (pos FORWARD_UNITS) (omega (arith, ints)) (omega (arith, ints, a, low_times, mul_assoc (pos FORWARD_UNITS) (pos strike) n)) in
      omega (arith, ints, b)

  pub strike_above : (strike : ℕ) → (printed_forward P f).1 <ℤ in_units strike → x <ᶠ whole (pos strike)
  strike_above strike h =
      let n : ℤ = pos x.bottom in
      let p = m.proper in
      let a = mul_strict (printed_forward P f).1 (in_units strike) n (omega (arith, ints)) h in
      let b = mul_cancel_strict_left x.top (pos strike *ℤ n) (pos FORWARD_UNITS) (omega (arith, ints)) (omega (arith, ints, a, high_times, mul_assoc (pos FORWARD_UNITS) (pos strike) n)) in
      omega (arith, ints, b)

-- a strike above the low end, where none is between, is above the high end
past_high : (rows : List StrikeRow) (lo hi : ℤ) (strike : ℕ) → HasNoneBetween rows lo hi → IsListed rows strike → lo <ℤ in_units strike → hi <ℤ in_units strike
past_high rows lo hi strike none listed above =
    by_lt_z hi (in_units strike) (λ past. past) (λ most. absurd (none strike listed (record { above = above; at_most = most })))

level_holds : (P : ℕ) (rows : List StrikeRow) (f : Ends) (x : Fraction) (place : ℕ) (row : StrikeRow) → IsMember P f x → IsLevelRow rows (printed_forward P f).0 (printed_forward P f).1 place row → IsGreatestBelow rows x row.strike
level_holds P rows f x place row m h =
    let lo : ℤ = (printed_forward P f).0 in
    let hi : ℤ = (printed_forward P f).1 in
    let g = h.greatest in
    record {
      is_listed = row_at_is_listed rows place row g.is_at;
      at_most = strike_at_most P f x m row.strike g.at_most;
      others_above = λ other listed above.
          strike_above P f x m other (past_high rows lo hi other h.none_between listed
          (by_lt_z lo (in_units other) (λ past. past) (λ most. let low = g.greatest other listed most in absurd (omega arith))));
    }

pub answer_holds : (P : ℕ) (rows : List StrikeRow) (f : Ends) (x : Fraction) (answer : K0Answer) → IsMember P f x → IsK0Answer rows (printed_forward P f).0 (printed_forward P f).1 answer → SaysOfForward rows x answer
answer_holds P rows f x (At place) m (row, h, one) = (row, (h.greatest).is_at, level_holds P rows f x place row m h)
answer_holds P rows f x NoStrikeBelow m (none, above) =
    λ strike listed. strike_above P f x m strike (past_high rows (printed_forward P f).0 (printed_forward P f).1 strike none listed (above strike listed))
answer_holds P rows f x (NoStrikeAbove place) m (row, h, none) = (row, (h.greatest).is_at, level_holds P rows f x place row m h)
answer_holds P rows f x (Straddle strike low high) m h = tt

-- ---- the level and the ends themselves

pub level_lies_below : (P : ℕ) (rows : List StrikeRow) (f : Ends) (place : ℕ) (row : StrikeRow) → IsLevelRow rows (printed_forward P f).0 (printed_forward P f).1 place row
    → ((pos row.strike *ℤ unit P) ≤ℤ f.lo) × ((other : ℕ) → IsListed rows other → row.strike < other → f.hi <ℤ (pos other *ℤ unit P))
level_lies_below P rows f place row h =
    let u : ℤ = unit P in
    let p = unit_positive P in
    let lo : ℤ = (printed_forward P f).0 in
    let hi : ℤ = (printed_forward P f).1 in
    let floor = floor_of_is (pos FORWARD_UNITS *ℤ f.lo) u p in
    let ceiling = ceiling_of_is (pos FORWARD_UNITS *ℤ f.hi) u p in
    let g = h.greatest in
    let low = mul_mono (in_units row.strike) lo u (omega (arith, ints)) g.at_most in
    let fl = floor.at_most in
    let ce = ceiling.at_least in (
      mul_cancel_left (pos row.strike *ℤ u) f.lo (pos FORWARD_UNITS) (omega (arith, ints)) (omega (arith, ints, low, fl, mul_assoc (pos FORWARD_UNITS) (pos row.strike) u)),
      λ other listed above.
          let past = past_high rows lo hi other h.none_between listed
          (by_lt_z lo (in_units other) (λ q. q) (λ most. let low' = g.greatest other listed most in absurd (omega arith))) in
          let high = mul_strict hi (in_units other) u p past in
          mul_cancel_strict_left f.hi (pos other *ℤ u) (pos FORWARD_UNITS) (omega (arith, ints)) (omega (arith, ints, high, ce, mul_assoc (pos FORWARD_UNITS) (pos other) u)),
    )
