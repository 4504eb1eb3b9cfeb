-- A run's forward, its level and its excess pass the tests of a certificate's.
use Rattle.std.proofs.Common.{◌≡◌, ◌∙◌, sym, subst, ℕ, ◌*◌, ◌^◌, ◌≤◌, ℤ, pos, negsuc, ◌*ℤ◌, ◌≤ℤ◌, ◌<ℤ◌, List, arith}
use Rattle.std.proofs.lemmas.Int.{ints}
use Rattle.vx_symbol.specs.declared.rows.StrikeRow.{StrikeRow}
use Rattle.vx_num.proofs.Whole.{mul_mono_left, mul_anti_left}
use Rattle.vx_interval.specs.Ends.{Ends, unit, exact_ends, sub_ends, scale_ends}
use Rattle.vx_interval.proofs.EndsLemmas.{unit_positive}
use Rattle.vx_interval.proofs.RoundingLemmas.{floor_of_is, ceiling_of_is}
use Rattle.vx_interval.proofs.Ranges.{rounded_ordered}
use Rattle.vx_formula.specs.Pair.{Pair}
use Rattle.vx_forward.specs.Forward.{forward_interval, IsForwardInRange}
use Rattle.vx_forward.specs.declared.level.K0Answer.TheVariants as level
use Rattle.vx_forward.proofs.AnswersAreOne.{one_above}
use Rattle.vx_forward.proofs.Places.{row_at_is_listed}
use Rattle.vx_forward.proofs.Printed.{level_lies_below}
use Rattle.vx_strip.specs.Entries.{strike_at}
use Rattle.vx_formula.proofs.Walks.{strike_at_is}
use Rattle.vx_term.specs.Runs.{ForwardSays}
use Rattle.vx_term.specs.Steps.{IsUpTo}
use Rattle.vx_term.specs.Variance.{excess_ends}
use Rattle.vx_cert.specs.declared.certificate.Pair.{Pair as CertPair}
use Rattle.vx_claims.specs.TermTests.{EnclosesForward, IsLevelOfEnds, HasStrikeAbove, EnclosesExcess}
use Rattle.vx_certify.specs.Certified.{certified_ends}

-- ---- the forward

-- the ends of a multiple lie around the multiple of either end
record Spans (x y : Ends) (k : ℤ) : Type 0 where
  low_at_low : y.lo ≤ℤ (k *ℤ x.lo)
  low_at_high : y.lo ≤ℤ (k *ℤ x.hi)
  high_at_low : (k *ℤ x.lo) ≤ℤ y.hi
  high_at_high : (k *ℤ x.hi) ≤ℤ y.hi

multiple_spans : (x : Ends) (k : ℤ) → x.lo ≤ℤ x.hi → Spans x (scale_ends x k) k
multiple_spans x (pos k) ordered =
    let grows = mul_mono_left x.lo x.hi (pos k) (omega (arith, ints)) ordered in
    record { low_at_low = omega (arith, ints); low_at_high = grows; high_at_low = grows; high_at_high = omega (arith, ints) }
multiple_spans x (negsuc k) ordered =
    let falls = mul_anti_left x.lo x.hi (negsuc k) (omega (arith, ints)) ordered in
    record { low_at_low = falls; low_at_high = omega (arith, ints); high_at_low = omega (arith, ints); high_at_high = falls }

abbrev stated : Pair → CertPair
stated pair = record { strike = pair.strike; d = pair.d }

scaled_strike : (P strike : ℕ) → pos (strike * 2 ^ P) ≡ pos strike *ℤ unit P
unfolding unit
scaled_strike P strike = omega (arith, ints)

-- the forward's ends lie around what each end of the exponential gives
pub forward_is_enclosed : (P : ℕ) (pair : Pair) (e : Ends) → e.lo ≤ℤ e.hi → IsForwardInRange P (forward_interval P pair e)
    → EnclosesForward P (stated pair) (certified_ends e) (certified_ends (forward_interval P pair e))
forward_is_enclosed P pair e ordered range =
    let k : ℤ = pos 5 *ℤ pair.d in
    let spans = multiple_spans e k ordered in
    let strike = scaled_strike P pair.strike in
    let a = spans.low_at_low in
    let b = spans.low_at_high in
    let c = spans.high_at_low in
    let d = spans.high_at_high in
    let low = range.low in
    let high = range.high in
    record {
      low_at_low = omega (arith, ints, strike, a);
      low_at_high = omega (arith, ints, strike, b);
      high_at_low = omega (arith, ints, strike, c);
      high_at_high = omega (arith, ints, strike, d);
      low_range = (low, omega (arith, ints, a, c, high));
      high_range = (omega (arith, ints, a, c, low), high);
    }

-- ---- the level

-- the level that the printed ends tell is the level of the ends themselves, with a strike above it
pub level_is_of_ends : (P : ℕ) (rows : List StrikeRow) (f : Ends) (place k : ℕ) → ForwardSays P rows f (level.At place) → k ≡ strike_at rows place
    → IsLevelOfEnds P rows (certified_ends f) k × HasStrikeAbove rows k
level_is_of_ends P rows f place k (row, is, some) at =
    let is_at = (is.greatest).is_at in
    let k_is : row.strike ≡ k = sym (at ∙ strike_at_is rows place row is_at) in
    let lies = level_lies_below P rows f place row is in
    let here = scaled_strike P row.strike in
    subst (λ (j : ℕ). IsLevelOfEnds P rows (certified_ends f) j × HasStrikeAbove rows j) k_is (
      record {
        is_listed = row_at_is_listed rows place row is_at;
        at_most = omega (arith, ints, here, lies.0);
        others_above = λ other listed above. let past = lies.1 other listed above in let there = scaled_strike P other in omega (arith, ints, there, past);
      },
      one_above rows row.strike some,
    )

-- ---- the excess

-- the excess's ends are quotients rounded outwards
pub excess_is_enclosed : (P k : ℕ) (f : Ends) → 1 ≤ k → f.lo ≤ℤ f.hi → IsUpTo (unit P) (excess_ends P k f)
    → EnclosesExcess P (certified_ends f) k (certified_ends (excess_ends P k f))
excess_is_enclosed P k f some ordered up =
    let u = unit_positive P in
    let one : pos 0 <ℤ pos k = omega (arith, ints) in
    let above : Ends = sub_ends f (exact_ends P (pos k)) in
    let floor = floor_of_is above.lo (pos k) one in
    let ceiling = ceiling_of_is above.hi (pos k) one in
    let strike = scaled_strike P k in
    let at_most = floor.at_most in
    let at_least = ceiling.at_least in
    let low = up.low in
    let high = up.high in
    let two = scaled_strike P 2 in
    record {
      not_negative = low;
      in_order = rounded_ordered above.lo above.hi (pos k) one (omega (arith, ints, ordered));
      in_range = omega (arith, ints, high, u, two);
      low = omega (arith, ints, at_most, strike);
      high = omega (arith, ints, at_least, strike);
    }
