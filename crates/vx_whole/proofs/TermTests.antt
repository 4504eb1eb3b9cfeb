-- Each test of one term is met or not.
use Rattle.std.proofs.Common.{◌≡◌, ap, inl, ℕ, ◌+◌, ◌*◌, ◌^◌, ◌<◌, ◌≤◌, true, ◌&&◌, ℤ, pos, ◌-ℤ◌, ◌*ℤ◌, neg_ℤ, nat_abs, List, map, sum_by, slice_index, arith}
use Rattle.vx_symbol.specs.declared.rows.StrikeRow.{StrikeRow}
use Rattle.vx_cert.specs.declared.limits.TheConstants.{TAYLOR_TERMS}
use Rattle.vx_cert.specs.declared.certificate.Ends.{Ends}
use Rattle.vx_cert.specs.declared.certificate.Pair.{Pair as CertPair}
use Rattle.vx_cert.specs.declared.certificate.CertTerm.{CertTerm}
use Rattle.vx_cert.specs.declared.rows.CertRow.{CertRow}
use Rattle.vx_formula.specs.declared.limits.TheConstants.{RATE_UNITS, STRIP_TOTAL_MAX, YEAR_MINUTES}
use Rattle.vx_formula.specs.Pair.{IsClosestPair}
use Rattle.vx_formula.specs.Strip.{StripEntry, strip}
use Rattle.vx_formula.specs.Term.{TermFacts}
use Rattle.vx_formula.proofs.Comparisons.{at_most_or_not, below_or_not}
use Rattle.vx_claims.specs.declared.limits.TheConstants.{EXCESS_MAX, FORWARD_BITS, VARIANCE_MAX}
use Rattle.vx_claims.specs.declared.acceptance.Test.{Test}
use Rattle.vx_claims.specs.declared.acceptance.Test.TheVariants.{Place, Terms, Minutes, Rate, TaylorTerms, Exponential, ClosestPair, Forward, Level, Excess, Strip, Contributions, Total, Variance, Square, IndexEnds}
use Rattle.vx_claims.specs.Exponential.{AreTaylorTerms, EncloseExponential, high_sum, low_sum}
use Rattle.vx_claims.specs.TermTests.{EnclosesContribution, EnclosesExcess, EnclosesForward, EnclosesTotal, EnclosesVariance, HasStrikeAbove, IsLevelOfEnds, IsStatedStrip, IsWithin, TermMeets, forward_end, stated_entry, stated_pair}
use Rattle.vx_tests.proofs.Decisions.{above_listed, closest_decides, listed_decides, others_decide}
use Rattle.vx_whole.proofs.Decided.{IsDecided, all_below, all_of, any_of, at_most, both, by_test, implied, is_some, less, like, is_true, same_list, same_number, same_whole}

pub within : (limit : ℕ) (z : ℤ) → IsDecided (IsWithin limit z)
within limit z = both (at_most_or_not (neg_ℤ (pos limit)) z) (at_most_or_not z (pos limit))

-- ---- the exponential

-- of every number that has another after it among so many
next_below : (P : ℕ → Type 0) → ((k : ℕ) → IsDecided (P k)) → IsDecided ((k : ℕ) → k + 1 < TAYLOR_TERMS → P k)
next_below P each =
    like (λ h k low. h k (omega arith)) (λ h k low. h k (omega arith)) (all_below P each 13)

taylor_terms : (P p q : ℕ) (low high : List ℕ) → IsDecided (AreTaylorTerms P p q low high)
taylor_terms P p q low high =
    let NextLow : ℕ → Type 0 = λ k. slice_index low (k + 1) * (q * (k + 1)) ≤ slice_index low k * p in
    let NextHigh : ℕ → Type 0 = λ k. slice_index high k * p ≤ slice_index high (k + 1) * (q * (k + 1)) in
    like
    (λ h. record { first_low = h.0.0; first_high = h.0.1; next_low = h.1.0; next_high = h.1.1 })
    (λ h. ((h.first_low, h.first_high), (h.next_low, h.next_high)))
    (both
    (both (at_most (slice_index low 0) (2 ^ P)) (at_most (2 ^ P) (slice_index high 0)))
    (both
    (next_below NextLow (λ k. at_most (slice_index low (k + 1) * (q * (k + 1))) (slice_index low k * p)))
    (next_below NextHigh (λ k. at_most (slice_index high k * p) (slice_index high (k + 1) * (q * (k + 1)))))))

exponential : (P : ℕ) (rate : ℤ) (low high : List ℕ) (e : Ends) → IsDecided (EncloseExponential P rate low high e)
exponential P rate low high e =
    like
    (λ h. record {
      not_negative = h.0.0;
      in_order = h.0.1.0;
      in_range = h.0.1.1;
      rising = h.1.0;
      falling_range = h.1.1.0;
      falling = h.1.1.1;
    })
    (λ h. ((h.not_negative, (h.in_order, h.in_range)), (h.rising, (h.falling_range, h.falling))))
    (both
    (both (at_most_or_not (pos 0) e.lo) (both (at_most_or_not e.lo e.hi) (at_most_or_not (pos 4 *ℤ e.hi) (pos (5 * 2 ^ P)))))
    (both
    (implied (at_most_or_not (pos 0) rate)
    (both (at_most_or_not e.lo (pos (low_sum low))) (at_most_or_not (pos (high_sum high)) e.hi)))
    (both
    (implied (below_or_not rate (pos 0))
    (both (at_most (4 * low_sum low) (5 * 2 ^ P)) (at_most (4 * high_sum high) (5 * 2 ^ P))))
    (implied (below_or_not rate (pos 0))
    (both (at_most_or_not (e.lo *ℤ pos (high_sum high)) (pos (2 ^ (2 * P)))) (at_most_or_not (pos (2 ^ (2 * P))) (e.hi *ℤ pos (low_sum low))))))))

-- ---- the pair, the forward and the level

pub closest_pair : (rows : List StrikeRow) (pair : CertPair) → IsDecided (IsClosestPair rows (stated_pair pair))
closest_pair rows pair = by_test _ (closest_decides pair rows)

forward : (P : ℕ) (pair : CertPair) (e f : Ends) → IsDecided (EnclosesForward P pair e f)
forward P pair e f =
    like
    (λ h. record {
      low_at_low = h.0.0;
      low_at_high = h.0.1;
      high_at_low = h.1.0.0;
      high_at_high = h.1.0.1;
      low_range = h.1.1.0;
      high_range = h.1.1.1;
    })
    (λ h. ((h.low_at_low, h.low_at_high), ((h.high_at_low, h.high_at_high), (h.low_range, h.high_range))))
    (both
    (both (at_most_or_not f.lo (forward_end P pair e.lo)) (at_most_or_not f.lo (forward_end P pair e.hi)))
    (both
    (both (at_most_or_not (forward_end P pair e.lo) f.hi) (at_most_or_not (forward_end P pair e.hi) f.hi))
    (both (within (2 ^ (P + FORWARD_BITS)) f.lo) (within (2 ^ (P + FORWARD_BITS)) f.hi))))

pub level_of_ends : (P : ℕ) (rows : List StrikeRow) (f : Ends) (k0 : ℕ) → IsDecided (IsLevelOfEnds P rows f k0)
level_of_ends P rows f k0 =
    like
    (λ h. record { is_listed = h.0; at_most = h.1.0; others_above = h.1.1 })
    (λ h. (h.is_listed, (h.at_most, h.others_above)))
    (both (by_test _ (listed_decides k0 rows))
    (both (at_most_or_not (pos (k0 * 2 ^ P)) f.lo) (by_test _ (others_decide P f.hi k0 rows))))

level : (P : ℕ) (rows : List StrikeRow) (f : Ends) (k0 : ℕ) → IsDecided (IsLevelOfEnds P rows f k0 × HasStrikeAbove rows k0)
level P rows f k0 = both (level_of_ends P rows f k0) (by_test _ (above_listed k0 rows))

excess : (P : ℕ) (f : Ends) (k0 : ℕ) (g : Ends) → IsDecided (EnclosesExcess P f k0 g)
excess P f k0 g =
    like
    (λ h. record { not_negative = h.0; in_order = h.1.0; in_range = h.1.1.0; low = h.1.1.1.0; high = h.1.1.1.1 })
    (λ h. (h.not_negative, (h.in_order, (h.in_range, (h.low, h.high)))))
    (both (at_most_or_not (pos 0) g.lo)
    (both (at_most_or_not g.lo g.hi)
    (both (at_most_or_not g.hi (pos (EXCESS_MAX * 2 ^ P)))
    (both (at_most_or_not (g.lo *ℤ pos k0) (f.lo -ℤ pos (k0 * 2 ^ P))) (at_most_or_not (f.hi -ℤ pos (k0 * 2 ^ P)) (g.hi *ℤ pos k0))))))

-- ---- the strip and its sum

same_entry : (a b : StripEntry) → IsDecided (a ≡ b)
same_entry a b =
    like
    (λ h. (λ i. record { strike = h.0 i; d = h.1.0 i; q4 = h.1.1 i }))
    (λ h. (ap (λ (x : StripEntry). x.strike) h, (ap (λ (x : StripEntry). x.d) h, ap (λ (x : StripEntry). x.q4) h)))
    (both (same_number a.strike b.strike) (both (same_number a.d b.d) (same_number a.q4 b.q4)))

-- the level's row has the prices of both sides
HasMoney : ℕ → StrikeRow → Type 0
HasMoney k0 row = (row.strike ≡ k0) × (row.put.there && row.call.there ≡ true)

stated_strip : (rows : List StrikeRow) (k0 : ℕ) (stated : List CertRow) → IsDecided (IsStatedStrip rows k0 stated)
unfolding HasMoney
stated_strip rows k0 stated =
    let Low : CertRow → Type 0 = λ row. row.strike < k0 in
    let High : CertRow → Type 0 = λ row. k0 < row.strike in
    like
    (λ h. record { is_strip = h.0.0; has_money = h.0.1; has_put = h.1.0; has_call = h.1.1 })
    (λ h. ((h.is_strip, h.has_money), (h.has_put, h.has_call)))
    (both
    (both (same_list same_entry (map stated_entry stated) (strip rows k0))
    (any_of (HasMoney k0) (λ row. both (same_number row.strike k0) (is_true (row.put.there && row.call.there))) rows))
    (both (any_of Low (λ row. less row.strike k0) stated) (any_of High (λ row. less k0 row.strike) stated)))

contribution : (P : ℕ) (row : CertRow) → IsDecided (EnclosesContribution P row)
contribution P row =
    like
    (λ h. record { in_order = h.0.0; in_range = h.0.1; low = h.1.0; high = h.1.1 })
    (λ h. ((h.in_order, h.in_range), (h.low, h.high)))
    (both
    (both (at_most row.lo row.hi) (at_most row.hi (STRIP_TOTAL_MAX * 2 ^ P)))
    (both
    (at_most (row.lo * (4 * (row.strike * row.strike))) (5 * (row.d * row.q4) * 2 ^ P))
    (at_most (5 * (row.d * row.q4) * 2 ^ P) (row.hi * (4 * (row.strike * row.strike))))))

total : (P : ℕ) (rows : List CertRow) (s : Ends) → IsDecided (EnclosesTotal P rows s)
total P rows s =
    like
    (λ h. record { not_negative = h.0.0; low = h.0.1; high = h.1.0; in_range = h.1.1 })
    (λ h. ((h.not_negative, h.low), (h.high, h.in_range)))
    (both
    (both (at_most_or_not (pos 0) s.lo) (at_most_or_not s.lo (pos (sum_by (λ (row : CertRow). row.lo) rows))))
    (both (at_most_or_not (pos (sum_by (λ (row : CertRow). row.hi) rows)) s.hi) (at_most_or_not s.hi (pos (STRIP_TOTAL_MAX * 2 ^ P)))))

variance : (P : ℕ) (e g s w : Ends) → IsDecided (EnclosesVariance P e g s w)
variance P e g s w =
    like
    (λ h. record { low = h.0.0; high = h.0.1; low_range = h.1.0; high_range = h.1.1 })
    (λ h. ((h.low, h.high), (h.low_range, h.high_range)))
    (both
    (both
    (at_most_or_not (w.lo *ℤ pos (2 ^ P)) (pos 2 *ℤ (e.lo *ℤ s.lo) -ℤ g.hi *ℤ g.hi))
    (at_most_or_not (pos 2 *ℤ (e.hi *ℤ s.hi) -ℤ g.lo *ℤ g.lo) (w.hi *ℤ pos (2 ^ P))))
    (both (within (VARIANCE_MAX * 2 ^ P) w.lo) (within (VARIANCE_MAX * 2 ^ P) w.hi)))

-- ---- each test

pub term_test : (P : ℕ) (facts : TermFacts) (term : CertTerm) (test : Test) → IsDecided (TermMeets P facts term test)
term_test P facts term Place = inl tt
term_test P facts term Terms = inl tt
term_test P facts term Minutes = same_number term.minutes facts.minutes
term_test P facts term Rate = is_some facts.rate term.rate (λ rate. same_whole rate term.rate)
term_test P facts term TaylorTerms = taylor_terms P (nat_abs term.rate * term.minutes) (YEAR_MINUTES * RATE_UNITS) term.t_lo term.t_hi
term_test P facts term Exponential = exponential P term.rate term.t_lo term.t_hi term.e
term_test P facts term ClosestPair = closest_pair facts.rows term.pair
term_test P facts term Forward = forward P term.pair term.e term.f
term_test P facts term Level = level P facts.rows term.f term.k0
term_test P facts term Excess = excess P term.f term.k0 term.g
term_test P facts term Strip = stated_strip facts.rows term.k0 term.rows
term_test P facts term Contributions = all_of (EnclosesContribution P) (contribution P) term.rows
term_test P facts term Total = total P term.rows term.s
term_test P facts term Variance = variance P term.e term.g term.s term.w
term_test P facts term Square = inl tt
term_test P facts term IndexEnds = inl tt
