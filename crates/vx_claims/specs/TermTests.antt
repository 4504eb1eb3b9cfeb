-- The tests of one term of a certificate, over what the feed shows of the term. This project's own: they are multiplications,
-- sums and comparisons of a certificate's numbers, and show that these enclose the values of the formula. Numbers count 2^-P.
use Rattle.std.specs.Prelude.{◌≡◌, ℕ, ◌+◌, ◌*◌, ◌^◌, ◌<◌, ◌≤◌, true, ◌&&◌, ℤ, pos, ◌+ℤ◌, ◌-ℤ◌, ◌*ℤ◌, ◌≤ℤ◌, ◌<ℤ◌, neg_ℤ, nat_abs, List, map, Some, All, Any, sum_by}
use Rattle.vx_symbol.specs.declared.rows.StrikeRow.{StrikeRow}
use Rattle.vx_cert.specs.declared.certificate.Ends.{Ends}
use Rattle.vx_cert.specs.declared.certificate.Pair.{Pair as CertPair}
use Rattle.vx_cert.specs.declared.certificate.CertTerm.{CertTerm}
use Rattle.vx_cert.specs.declared.rows.CertRow.{CertRow}
use Rattle.vx_formula.specs.declared.limits.TheConstants.{YEAR_MINUTES, RATE_UNITS, STRIP_TOTAL_MAX}
use Rattle.vx_formula.specs.Pair.{Pair, IsClosestPair}
use Rattle.vx_formula.specs.Term.{TermFacts}
use Rattle.vx_formula.specs.Level.{IsListed}
use Rattle.vx_formula.specs.Strip.{StripEntry, strip}
use Rattle.vx_claims.specs.declared.limits.TheConstants.{FORWARD_BITS, EXCESS_MAX, VARIANCE_MAX}
use Rattle.vx_claims.specs.declared.acceptance.Test.{Test}
use Rattle.vx_claims.specs.declared.acceptance.Test.TheVariants.{Minutes, Rate, TaylorTerms, Exponential, ClosestPair, Forward, Level, Excess, Strip, Contributions, Total, Variance}
use Rattle.vx_claims.specs.Exponential.{AreTaylorTerms, EncloseExponential}

-- from -limit to limit
abbrev pub IsWithin : ℕ → ℤ → Type 0
IsWithin limit z = (neg_ℤ (pos limit) ≤ℤ z) × (z ≤ℤ pos limit)

-- the pair that a certificate states
abbrev pub stated_pair : CertPair → Pair
stated_pair pair = record { strike = pair.strike; d = pair.d }

-- K* * 2^P + 5 * D * y, for an end y of the exponential
abbrev pub forward_end : ℕ → CertPair → ℤ → ℤ
forward_end P pair y = pos (pair.strike * 2 ^ P) +ℤ pos 5 *ℤ pair.d *ℤ y

pub record EnclosesForward (P : ℕ) (pair : CertPair) (e f : Ends) : Type 0 where
  pub low_at_low : f.lo ≤ℤ forward_end P pair e.lo
  pub low_at_high : f.lo ≤ℤ forward_end P pair e.hi
  pub high_at_low : forward_end P pair e.lo ≤ℤ f.hi
  pub high_at_high : forward_end P pair e.hi ≤ℤ f.hi
  pub low_range : IsWithin (2 ^ (P + FORWARD_BITS)) f.lo
  pub high_range : IsWithin (2 ^ (P + FORWARD_BITS)) f.hi

-- k0 is the level for every forward from one end to the other
pub record IsLevelOfEnds (P : ℕ) (rows : List StrikeRow) (f : Ends) (k0 : ℕ) : Type 0 where
  pub is_listed : IsListed rows k0
  pub at_most : pos (k0 * 2 ^ P) ≤ℤ f.lo
  pub others_above : (strike : ℕ) → IsListed rows strike → k0 < strike → f.hi <ℤ pos (strike * 2 ^ P)

-- and its last part: a listed strike is above k0 and at most twice k0
abbrev pub HasStrikeAbove : List StrikeRow → ℕ → Type 0
HasStrikeAbove rows k0 = (strike : ℕ) × IsListed rows strike × (k0 < strike) × (strike ≤ 2 * k0)

-- g encloses F/K0 - 1
pub record EnclosesExcess (P : ℕ) (f : Ends) (k0 : ℕ) (g : Ends) : Type 0 where
  pub not_negative : pos 0 ≤ℤ g.lo
  pub in_order : g.lo ≤ℤ g.hi
  pub in_range : g.hi ≤ℤ pos (EXCESS_MAX * 2 ^ P)
  pub low : (g.lo *ℤ pos k0) ≤ℤ (f.lo -ℤ pos (k0 * 2 ^ P))
  pub high : (f.hi -ℤ pos (k0 * 2 ^ P)) ≤ℤ (g.hi *ℤ pos k0)

-- the stated rows are the strip at k0, both sides of k0 have a price, and a row is below k0 and one above
abbrev pub stated_entry : CertRow → StripEntry
stated_entry row = record { strike = row.strike; d = row.d; q4 = row.q4 }

pub record IsStatedStrip (rows : List StrikeRow) (k0 : ℕ) (stated : List CertRow) : Type 0 where
  pub is_strip : map stated_entry stated ≡ strip rows k0
  pub has_money : Any (λ row. (row.strike ≡ k0) × (row.put.there && row.call.there ≡ true)) rows
  pub has_put : Any (λ (row : CertRow). row.strike < k0) stated
  pub has_call : Any (λ (row : CertRow). k0 < row.strike) stated

-- the ends of a row enclose what it adds
pub record EnclosesContribution (P : ℕ) (row : CertRow) : Type 0 where
  pub in_order : row.lo ≤ row.hi
  pub in_range : row.hi ≤ STRIP_TOTAL_MAX * 2 ^ P
  pub low : row.lo * (4 * (row.strike * row.strike)) ≤ 5 * (row.d * row.q4) * 2 ^ P
  pub high : 5 * (row.d * row.q4) * 2 ^ P ≤ row.hi * (4 * (row.strike * row.strike))

-- s encloses the sum
pub record EnclosesTotal (P : ℕ) (rows : List CertRow) (s : Ends) : Type 0 where
  pub not_negative : pos 0 ≤ℤ s.lo
  pub low : s.lo ≤ℤ pos (sum_by (λ (row : CertRow). row.lo) rows)
  pub high : pos (sum_by (λ (row : CertRow). row.hi) rows) ≤ℤ s.hi
  pub in_range : s.hi ≤ℤ pos (STRIP_TOTAL_MAX * 2 ^ P)

-- w encloses 2 * e * S - g^2
pub record EnclosesVariance (P : ℕ) (e g s w : Ends) : Type 0 where
  pub low : (w.lo *ℤ pos (2 ^ P)) ≤ℤ (pos 2 *ℤ (e.lo *ℤ s.lo) -ℤ g.hi *ℤ g.hi)
  pub high : (pos 2 *ℤ (e.hi *ℤ s.hi) -ℤ g.lo *ℤ g.lo) ≤ℤ (w.hi *ℤ pos (2 ^ P))
  pub low_range : IsWithin (VARIANCE_MAX * 2 ^ P) w.lo
  pub high_range : IsWithin (VARIANCE_MAX * 2 ^ P) w.hi

-- a term meets a test; those of the place, the terms, the square and the printed ends are not of one term
abbrev pub TermMeets : ℕ → TermFacts → CertTerm → Test → Type 0
TermMeets P facts term Minutes = term.minutes ≡ facts.minutes
TermMeets P facts term Rate = facts.rate ≡ Some term.rate
TermMeets P facts term TaylorTerms = AreTaylorTerms P (nat_abs term.rate * term.minutes) (YEAR_MINUTES * RATE_UNITS) term.t_lo term.t_hi
TermMeets P facts term Exponential = EncloseExponential P term.rate term.t_lo term.t_hi term.e
TermMeets P facts term ClosestPair = IsClosestPair facts.rows (stated_pair term.pair)
TermMeets P facts term Forward = EnclosesForward P term.pair term.e term.f
TermMeets P facts term Level = IsLevelOfEnds P facts.rows term.f term.k0 × HasStrikeAbove facts.rows term.k0
TermMeets P facts term Excess = EnclosesExcess P term.f term.k0 term.g
TermMeets P facts term Strip = IsStatedStrip facts.rows term.k0 term.rows
TermMeets P facts term Contributions = All (EnclosesContribution P) term.rows
TermMeets P facts term Total = EnclosesTotal P term.rows term.s
TermMeets P facts term Variance = EnclosesVariance P term.e term.g term.s term.w
TermMeets P facts term _ = Unit {0}
