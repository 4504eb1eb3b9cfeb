-- What the tests of a term show at every member of its bracket.
use Rattle.std.proofs.Common.{ℕ, ◌*◌, ◌^◌, ◌≤◌, pos, nat_abs, List, map, refl, subst, arith}
use Rattle.std.specs.List.{sum_by}
use Rattle.std.proofs.lemmas.Int.{ints}
use Rattle.vx_num.specs.Fraction.{Fraction, IsProper, whole, ◌-ᶠ◌, ◌*ᶠ◌}
use Rattle.vx_num.proofs.Fractions.{IsProper--ᶠ, IsProper-*ᶠ, IsProper-/ᶠ}
use Rattle.vx_bracket.proofs.Members.{members_are_positive}
use Rattle.vx_cert.specs.declared.certificate.CertTerm.{CertTerm}
use Rattle.vx_cert.specs.declared.rows.CertRow.{CertRow}
use Rattle.vx_formula.specs.declared.limits.TheConstants.{YEAR_MINUTES, RATE_UNITS}
use Rattle.vx_formula.specs.Term.{TermFacts, Term, IsTermOf, InBracket, exponent}
use Rattle.vx_formula.specs.Forward.{forward_at}
use Rattle.vx_formula.specs.Level.{IsListed, IsLevelAt, IsLevel}
use Rattle.vx_formula.specs.Strip.{StripEntry, total_of, strip_total}
use Rattle.vx_formula.specs.Variance.{excess_at, variance_at}
use Rattle.vx_formula.proofs.Lists.{In, map_in, all_in}
use Rattle.vx_formula.proofs.LevelLemmas.{exponent_proper}
use Rattle.vx_claims.specs.Exponential.{AreTaylorTerms}
use Rattle.vx_claims.specs.declared.acceptance.Test.{Test}
use Rattle.vx_claims.specs.declared.acceptance.Test.TheVariants.{Minutes, Rate, TaylorTerms, Exponential, ClosestPair, Forward, Level, Excess, Strip, Contributions, Total, Variance}
use Rattle.vx_claims.specs.TermTests.{TermMeets, stated_pair, stated_entry, EnclosesContribution}
use Rattle.vx_soundness.specs.Enclosing.{Encloses}
use Rattle.vx_soundness.proofs.ExponentialLemmas.{exponential_enclosed}
use Rattle.vx_soundness.proofs.TermLemmas.{stated_forward_proper, forward_enclosed, level_enclosed, excess_enclosed, excess_nonneg, IsSummed, rows_summed, total_enclosed, variance_enclosed}
use Rattle.vx_soundness.proofs.RowLemmas.{entry_is_listed}

-- the term that a certificate's term states, over what the feed shows
abbrev pub stated_term : TermFacts → CertTerm → Term
stated_term facts t = record { rows = facts.rows; rate = t.rate; minutes = facts.minutes; pair = stated_pair t.pair }

-- the level, and the variance within its ends
pub record HoldsAt (P : ℕ) (facts : TermFacts) (t : CertTerm) (e : Fraction) : Type 0 where
  pub level : IsLevelAt (stated_term facts t) t.k0 e
  pub proper : IsProper (variance_at (stated_term facts t) t.k0 e)
  pub enclosed : Encloses (2 ^ P) t.w (variance_at (stated_term facts t) t.k0 e)

module _ (P : ℕ) (facts : TermFacts) (t : CertTerm) (meets : (test : Test) → TermMeets P facts t test) (some : 1 ≤ facts.minutes) (positive : (k : ℕ) → IsListed facts.rows k → 1 ≤ k) where
  -- the term that a certificate states is one of the facts that its tests speak of
  pub term_of_facts : IsTermOf facts (stated_term facts t)
  term_of_facts = record { rows_are = refl; rate_stands = meets Rate; minutes_are = refl; pair_is_closest = meets ClosestPair }

  -- the strike of each stated row is above zero
  pub stated_row_positive : (row : CertRow) → In t.rows row → 1 ≤ row.strike
  stated_row_positive row h =
      let at : In (map stated_entry t.rows) (stated_entry row) = map_in stated_entry t.rows row h in
      let F : List StripEntry → Type 0 = λ entries. In entries (stated_entry row) in
      positive row.strike (entry_is_listed facts.rows t.k0 (stated_entry row) (subst F (meets Strip).is_strip at))

  summed : IsSummed (2 ^ P) (sum_by (λ (row : CertRow). row.lo) t.rows) (sum_by (λ (row : CertRow). row.hi) t.rows) (strip_total facts.rows t.k0)
  summed =
      let F : List StripEntry → Type 0 = λ entries. IsSummed (2 ^ P) (sum_by (λ (row : CertRow). row.lo) t.rows) (sum_by (λ (row : CertRow). row.hi) t.rows) (total_of entries) in
      subst F (meets Strip).is_strip (rows_summed P t.rows (λ row h. (all_in (EnclosesContribution P) t.rows row (meets Contributions) h, stated_row_positive row h)))

  -- at each exponential of the bracket of depth 12 the stated level is the level, and the stated ends enclose the variance
  pub holds_at : (e : Fraction) → InBracket (stated_term facts t) 12 e → HoldsAt P facts t e
  holds_at e member =
      let F : ℕ → Type 0 = λ m. AreTaylorTerms P (nat_abs t.rate * m) (YEAR_MINUTES * RATE_UNITS) t.t_lo t.t_hi in
      let e_in = exponential_enclosed P facts.minutes t.rate t.t_lo t.t_hi t.e e some (subst F (meets Minutes) (meets TaylorTerms)) (meets Exponential) member in
      let e_positive = members_are_positive 12 (exponent t.rate facts.minutes) e (exponent_proper t.rate facts.minutes) member in
      let forward = forward_at (stated_pair t.pair) e in
      let proper_forward = stated_forward_proper t.pair e member.proper in
      let f_in = forward_enclosed P t.pair e t.e t.f (meets Forward) e_in in
      let level = level_enclosed P facts.rows t.f t.k0 forward proper_forward (meets Level).0 f_in in
      let k0_some = positive t.k0 level.is_listed in
      let excess = excess_at (stated_pair t.pair) t.k0 e in
      let g_in = excess_enclosed P t.f t.g t.k0 forward proper_forward k0_some (meets Excess) f_in in
      let g_top = excess_nonneg t.k0 forward level.at_most in
      let total = strip_total facts.rows t.k0 in
      let s_in = total_enclosed P t.rows t.s total (meets Total) summed in
      let proper_excess : IsProper excess = IsProper-/ᶠ (forward -ᶠ whole (pos t.k0)) t.k0 (IsProper--ᶠ forward (whole (pos t.k0)) proper_forward (omega arith)) k0_some in
      record {
        level = level;
        proper = IsProper--ᶠ (whole (pos 2) *ᶠ (e *ᶠ total)) (excess *ᶠ excess)
            (IsProper-*ᶠ (whole (pos 2)) (e *ᶠ total) (omega arith) (IsProper-*ᶠ e total member.proper summed.proper))
            (IsProper-*ᶠ excess excess proper_excess proper_excess);
        enclosed = variance_enclosed P t.e t.g t.s t.w e excess total (meets Variance) (meets Exponential).not_negative (meets Excess).not_negative (meets Total).not_negative
            (omega (arith, ints, e_positive)) g_top summed.nonneg e_in g_in s_in;
      }

  -- so the stated level is the term's
  pub stated_level : IsLevel (stated_term facts t) t.k0
  stated_level = record { depth = 12; holds = λ e member. (holds_at e member).level }
