-- The tested ends of a term enclose its values at every member of the bracket.
use Rattle.std.proofs.Common.{◌≡◌, ℕ, ◌+◌, ◌*◌, ◌^◌, ◌≤◌, ℤ, pos, ◌+ℤ◌, ◌-ℤ◌, ◌*ℤ◌, ◌≤ℤ◌, List, [], ◌∷◌, map, refl, sym, ap, subst, inl, inr, arith}
use Rattle.std.specs.List.{sum_by}
use Rattle.std.proofs.lemmas.Int.{ints}
use Rattle.std.proofs.lemmas.List.Sums.{sum_by-cons}
use Rattle.std.proofs.lemmas.Nat.{pow_pos}
use Rattle.std.proofs.Math.Nat.{mul-le-mul}
use Rattle.vx_num.specs.Fraction.{Fraction, IsProper, whole, ◌+ᶠ◌, ◌-ᶠ◌, ◌*ᶠ◌, ◌/ᶠ◌, ◌≤ᶠ◌}
use Rattle.vx_num.proofs.Whole.{mul_assoc, add_mul, sub_mul, mul_mono}
use Rattle.vx_num.proofs.Fractions.{corner_lower, corner_upper, ≤ᶠ_refl, ≤ᶠ_trans, ≤ᶠ-<ᶠ_trans, IsProper-+ᶠ, IsProper--ᶠ, IsProper-*ᶠ, IsProper-/ᶠ, +ᶠ_mono, -ᶠ_mono, *ᶠ_mono, *ᶠ_mono_left}
use Rattle.vx_symbol.specs.declared.rows.StrikeRow.{StrikeRow}
use Rattle.vx_cert.specs.declared.certificate.Ends.{Ends}
use Rattle.vx_cert.specs.declared.certificate.Pair.{Pair as CertPair}
use Rattle.vx_cert.specs.declared.rows.CertRow.{CertRow}
use Rattle.vx_formula.specs.Forward.{forward_at}
use Rattle.vx_formula.specs.Level.{IsGreatestBelow}
use Rattle.vx_formula.specs.Strip.{contribution, total_of}
use Rattle.vx_formula.proofs.Lists.{In}
use Rattle.vx_claims.specs.TermTests.{stated_pair, stated_entry, EnclosesForward, IsLevelOfEnds, EnclosesExcess, EnclosesContribution, EnclosesTotal, EnclosesVariance}
use Rattle.vx_soundness.specs.Enclosing.{over, Encloses}

-- ---- the forward

forward_form : (K v Q : ℕ) (s t : ℤ) → (pos K *ℤ pos (1 * v) +ℤ (s *ℤ t) *ℤ pos 1) *ℤ pos Q ≡ pos (K * Q) *ℤ pos v +ℤ s *ℤ (t *ℤ pos Q)
forward_form K v Q s t =
    let one : (s *ℤ t) *ℤ pos 1 ≡ s *ℤ t = omega (arith, ints) in
    let second = ap (λ z. z *ℤ pos Q) one in
    omega (arith, ints, add_mul (pos K *ℤ pos (1 * v)) ((s *ℤ t) *ℤ pos 1) (pos Q), second, mul_assoc s t (pos Q))

twice_one : (v : ℕ) → 1 * (1 * v) ≡ v
twice_one v = omega arith

-- the forward at a proper exponential is proper
pub stated_forward_proper : (pair : CertPair) (e : Fraction) → IsProper e → IsProper (forward_at (stated_pair pair) e)
stated_forward_proper pair e h = omega arith

-- ends that meet the forward's test enclose the forward at each exponential between the ends of it
pub forward_enclosed : (P : ℕ) (pair : CertPair) (e : Fraction) (ends f : Ends) → EnclosesForward P pair ends f → Encloses (2 ^ P) ends e → Encloses (2 ^ P) f (forward_at (stated_pair pair) e)
forward_enclosed P pair e ends f tests h =
    let Q = 2 ^ P in
    let v = e.bottom in
    let s = pos 5 *ℤ pair.d in
    let form = forward_form pair.strike v Q s e.top in
    let lower = corner_lower f.lo (pos (pair.strike * Q)) s ends.lo ends.hi (pos v) (e.top *ℤ pos Q) (omega (arith, ints)) h.low h.high tests.low_at_low tests.low_at_high in
    let upper = corner_upper f.hi (pos (pair.strike * Q)) s ends.lo ends.hi (pos v) (e.top *ℤ pos Q) (omega (arith, ints)) h.low h.high tests.high_at_low tests.high_at_high in
    let left_low = ap (λ n. f.lo *ℤ pos n) (twice_one v) in
    let left_high = ap (λ n. f.hi *ℤ pos n) (twice_one v) in
    record { low = omega (arith, ints, form, lower, left_low); high = omega (arith, ints, form, upper, left_high) }

-- ---- the level

-- the level of two ends is the level at each forward between them
pub level_enclosed : (P : ℕ) (rows : List StrikeRow) (f : Ends) (k0 : ℕ) (forward : Fraction) → IsProper forward → IsLevelOfEnds P rows f k0 → Encloses (2 ^ P) f forward → IsGreatestBelow rows forward k0
level_enclosed P rows f k0 forward proper tests h = record {
  is_listed = tests.is_listed;
  at_most =
      let low = tests.at_most in
      ≤ᶠ_trans (whole (pos k0)) (over f.lo (2 ^ P)) forward (pow_pos P) (omega (arith, ints)) h.low;
  others_above = λ other listed above.
      let high = tests.others_above other listed above in
      ≤ᶠ-<ᶠ_trans forward (over f.hi (2 ^ P)) (whole (pos other)) proper (pow_pos P) h.high (omega (arith, ints));
}

-- ---- the excess

-- of two fractions over a number the order stays
pub quotient_mono : (f g : Fraction) (n : ℕ) → f ≤ᶠ g → (f /ᶠ n) ≤ᶠ (g /ᶠ n)
quotient_mono f g n h =
    omega (arith, ints, mul_mono (f.top *ℤ pos g.bottom) (g.top *ℤ pos f.bottom) (pos n) (omega (arith, ints)) h, mul_assoc f.top (pos g.bottom) (pos n), mul_assoc g.top (pos f.bottom) (pos n))

excess_low : (g f : ℤ) (k Q : ℕ) → (g *ℤ pos k) ≤ℤ (f -ℤ pos (k * Q)) → (g *ℤ pos (Q * 1 * k)) ≤ℤ ((f *ℤ pos 1 -ℤ pos k *ℤ pos Q) *ℤ pos Q)
excess_low g f k Q h =
    let same : f *ℤ pos 1 -ℤ pos k *ℤ pos Q ≡ f -ℤ pos (k * Q) = omega (arith, ints) in
    let order : Q * 1 * k ≡ k * Q = omega arith in
    omega (arith, ints, mul_mono (g *ℤ pos k) (f -ℤ pos (k * Q)) (pos Q) (omega (arith, ints)) h, mul_assoc g (pos k) (pos Q), ap (λ z. z *ℤ pos Q) same, ap (λ n. g *ℤ pos n) order)

excess_high : (g f : ℤ) (k Q : ℕ) → (f -ℤ pos (k * Q)) ≤ℤ (g *ℤ pos k) → ((f *ℤ pos 1 -ℤ pos k *ℤ pos Q) *ℤ pos Q) ≤ℤ (g *ℤ pos (Q * 1 * k))
excess_high g f k Q h =
    let same : f *ℤ pos 1 -ℤ pos k *ℤ pos Q ≡ f -ℤ pos (k * Q) = omega (arith, ints) in
    let order : Q * 1 * k ≡ k * Q = omega arith in
    omega (arith, ints, mul_mono (f -ℤ pos (k * Q)) (g *ℤ pos k) (pos Q) (omega (arith, ints)) h, mul_assoc g (pos k) (pos Q), ap (λ z. z *ℤ pos Q) same, ap (λ n. g *ℤ pos n) order)

-- ends that meet the excess's test enclose the excess of each forward between its ends
pub excess_enclosed : (P : ℕ) (f g : Ends) (k0 : ℕ) (forward : Fraction) → IsProper forward → 1 ≤ k0 → EnclosesExcess P f k0 g → Encloses (2 ^ P) f forward → Encloses (2 ^ P) g ((forward -ᶠ whole (pos k0)) /ᶠ k0)
excess_enclosed P f g k0 forward proper some tests h =
    let Q = 2 ^ P in
    let k = whole (pos k0) in
    let middle : (z : ℤ) → IsProper ((over z Q -ᶠ k) /ᶠ k0) = λ z. IsProper-/ᶠ (over z Q -ᶠ k) k0 (IsProper--ᶠ (over z Q) k (pow_pos P) (omega arith)) some in
    record {
      low = ≤ᶠ_trans (over g.lo Q) ((over f.lo Q -ᶠ k) /ᶠ k0) ((forward -ᶠ k) /ᶠ k0) (middle f.lo)
          (excess_low g.lo f.lo k0 Q tests.low)
          (quotient_mono (over f.lo Q -ᶠ k) (forward -ᶠ k) k0 (-ᶠ_mono (over f.lo Q) forward k k h.low (≤ᶠ_refl k)));
      high = ≤ᶠ_trans ((forward -ᶠ k) /ᶠ k0) ((over f.hi Q -ᶠ k) /ᶠ k0) (over g.hi Q) (middle f.hi)
          (quotient_mono (forward -ᶠ k) (over f.hi Q -ᶠ k) k0 (-ᶠ_mono forward (over f.hi Q) k k h.high (≤ᶠ_refl k)))
          (excess_high g.hi f.hi k0 Q tests.high);
    }

-- the excess of a forward that is at least the level is not below zero
pub excess_nonneg : (k0 : ℕ) (forward : Fraction) → whole (pos k0) ≤ᶠ forward → pos 0 ≤ℤ ((forward -ᶠ whole (pos k0)) /ᶠ k0).top
excess_nonneg k0 forward h = omega (arith, ints)

-- ---- the strip's sum

-- a proper total, not below zero, between two numbers over Q
pub record IsSummed (Q low high : ℕ) (total : Fraction) : Type 0 where
  pub proper : IsProper total
  pub nonneg : pos 0 ≤ℤ total.top
  pub from_low : over (pos low) Q ≤ᶠ total
  pub to_high : total ≤ᶠ over (pos high) Q

sums_apart : (a b Q : ℕ) → over (pos (a + b)) Q ≤ᶠ (over (pos a) Q +ᶠ over (pos b) Q)
sums_apart a b Q = let e : (a + b) * (Q * Q) ≡ (a * Q + b * Q) * Q = omega arith in omega (arith, ints)

sums_together : (a b Q : ℕ) → (over (pos a) Q +ᶠ over (pos b) Q) ≤ᶠ over (pos (a + b)) Q
sums_together a b Q = let e : (a + b) * (Q * Q) ≡ (a * Q + b * Q) * Q = omega arith in omega (arith, ints)

-- one contribution more is enclosed by the sums with its ends
contribution_more : (P : ℕ) (row : CertRow) (low high : ℕ) (rest : Fraction) → EnclosesContribution P row → 1 ≤ row.strike → IsSummed (2 ^ P) low high rest
    → IsSummed (2 ^ P) (row.lo + low) (row.hi + high) (contribution (stated_entry row) +ᶠ rest)
contribution_more P row low high rest tests some h =
    let Q = 2 ^ P in
    let c = contribution (stated_entry row) in
    let square : 1 * 1 ≤ row.strike * row.strike = mul-le-mul some some in
    let below = tests.low in
    let above = tests.high in
    let c_proper : IsProper c = omega arith in
    let from : over (pos row.lo) Q ≤ᶠ c = omega (arith, ints) in
    let to : c ≤ᶠ over (pos row.hi) Q = omega (arith, ints) in
    record {
      proper = IsProper-+ᶠ c rest c_proper h.proper;
      nonneg = sum_nonneg c.bottom rest.bottom (5 * (row.d * row.q4)) rest.top h.nonneg;
      from_low = ≤ᶠ_trans (over (pos (row.lo + low)) Q) (over (pos row.lo) Q +ᶠ over (pos low) Q) (c +ᶠ rest)
          (IsProper-+ᶠ (over (pos row.lo) Q) (over (pos low) Q) (pow_pos P) (pow_pos P)) (sums_apart row.lo low Q)
          (+ᶠ_mono (over (pos row.lo) Q) c (over (pos low) Q) rest from h.from_low);
      to_high = ≤ᶠ_trans (c +ᶠ rest) (over (pos row.hi) Q +ᶠ over (pos high) Q) (over (pos (row.hi + high)) Q)
          (IsProper-+ᶠ (over (pos row.hi) Q) (over (pos high) Q) (pow_pos P) (pow_pos P))
          (+ᶠ_mono c (over (pos row.hi) Q) rest (over (pos high) Q) to h.to_high) (sums_together row.hi high Q);
    }
  where
    sum_nonneg : (m n a : ℕ) (t : ℤ) → pos 0 ≤ℤ t → pos 0 ≤ℤ (pos a *ℤ pos n +ℤ t *ℤ pos m)
    sum_nonneg m n a t h = omega (arith, ints, mul_mono (pos 0) t (pos m) (omega (arith, ints)) h)

-- the exact sum of rows that meet their test lies between the sums of their ends
pub rows_summed : (P : ℕ) (rows : List CertRow) → ((row : CertRow) → In rows row → EnclosesContribution P row × (1 ≤ row.strike))
    → IsSummed (2 ^ P) (sum_by (λ (row : CertRow). row.lo) rows) (sum_by (λ (row : CertRow). row.hi) rows) (total_of (map stated_entry rows))
rows_summed P [] each = record { proper = omega arith; nonneg = omega (arith, ints); from_low = omega (arith, ints); to_high = omega (arith, ints) }
rows_summed P (row ∷ rows) each =
    let rest = rows_summed P rows (λ r h. each r (inr h)) in
    let here = each row (inl refl) in
    let lows = sum_by-cons (λ (r : CertRow). r.lo) row rows in
    let highs = sum_by-cons (λ (r : CertRow). r.hi) row rows in
    let total = total_of (map stated_entry (row ∷ rows)) in
    let low = sum_by (λ (r : CertRow). r.lo) rows in
    let high = sum_by (λ (r : CertRow). r.hi) rows in
    let F : ℕ → Type 0 = λ a. IsSummed (2 ^ P) a (row.hi + high) total in
    let G : ℕ → Type 0 = λ b. IsSummed (2 ^ P) (sum_by (λ (r : CertRow). r.lo) (row ∷ rows)) b total in
    subst G (sym highs) (subst F (sym lows) (contribution_more P row low high (total_of (map stated_entry rows)) here.0 here.1 rest))

-- and so between the ends that meet the sum's test
pub total_enclosed : (P : ℕ) (rows : List CertRow) (s : Ends) (total : Fraction) → EnclosesTotal P rows s
    → IsSummed (2 ^ P) (sum_by (λ (row : CertRow). row.lo) rows) (sum_by (λ (row : CertRow). row.hi) rows) total → Encloses (2 ^ P) s total
total_enclosed P rows s total tests h =
    let Q = 2 ^ P in
    let low = sum_by (λ (row : CertRow). row.lo) rows in
    let high = sum_by (λ (row : CertRow). row.hi) rows in
    record {
      low = ≤ᶠ_trans (over s.lo Q) (over (pos low) Q) total (pow_pos P) (mul_mono s.lo (pos low) (pos Q) (omega (arith, ints)) tests.low) h.from_low;
      high = ≤ᶠ_trans total (over (pos high) Q) (over s.hi Q) (pow_pos P) h.to_high (mul_mono (pos high) s.hi (pos Q) (omega (arith, ints)) tests.high);
    }

-- ---- the variance

difference_form : (x y : ℤ) (Q : ℕ) → (x *ℤ pos (Q * Q) -ℤ y *ℤ pos (1 * (Q * Q))) *ℤ pos Q ≡ (x -ℤ y) *ℤ pos (Q * Q * Q)
difference_form x y Q =
    let order : 1 * (Q * Q) * Q ≡ Q * Q * Q = omega arith in
    omega (arith, ints, sub_mul (x *ℤ pos (Q * Q)) (y *ℤ pos (1 * (Q * Q))) (pos Q), mul_assoc x (pos (Q * Q)) (pos Q), mul_assoc y (pos (1 * (Q * Q))) (pos Q), ap (λ n. y *ℤ pos n) order, sub_mul x y (pos (Q * Q * Q)))

scaled_form : (w : ℤ) (Q : ℕ) → w *ℤ pos (1 * (Q * Q) * (Q * Q)) ≡ (w *ℤ pos Q) *ℤ pos (Q * Q * Q)
scaled_form w Q =
    let order : 1 * (Q * Q) * (Q * Q) ≡ Q * (Q * Q * Q) = omega arith in
    omega (arith, ints, ap (λ n. w *ℤ pos n) order, mul_assoc w (pos Q) (pos (Q * Q * Q)))

variance_low : (w x y : ℤ) (Q : ℕ) → (w *ℤ pos Q) ≤ℤ (x -ℤ y) → (w *ℤ pos (1 * (Q * Q) * (Q * Q))) ≤ℤ ((x *ℤ pos (Q * Q) -ℤ y *ℤ pos (1 * (Q * Q))) *ℤ pos Q)
variance_low w x y Q h = omega (arith, ints, difference_form x y Q, scaled_form w Q, mul_mono (w *ℤ pos Q) (x -ℤ y) (pos (Q * Q * Q)) (omega (arith, ints)) h)

variance_high : (w x y : ℤ) (Q : ℕ) → (x -ℤ y) ≤ℤ (w *ℤ pos Q) → ((x *ℤ pos (Q * Q) -ℤ y *ℤ pos (1 * (Q * Q))) *ℤ pos Q) ≤ℤ (w *ℤ pos (1 * (Q * Q) * (Q * Q)))
variance_high w x y Q h = omega (arith, ints, difference_form x y Q, scaled_form w Q, mul_mono (x -ℤ y) (w *ℤ pos Q) (pos (Q * Q * Q)) (omega (arith, ints)) h)

-- ends that meet the variance's test enclose `2*e*s - g^2` for each exponential, excess and sum between their ends
pub variance_enclosed : (P : ℕ) (e_ends g_ends s_ends w_ends : Ends) (e g s : Fraction) → EnclosesVariance P e_ends g_ends s_ends w_ends
    → pos 0 ≤ℤ e_ends.lo → pos 0 ≤ℤ g_ends.lo → pos 0 ≤ℤ s_ends.lo → pos 0 ≤ℤ e.top → pos 0 ≤ℤ g.top → pos 0 ≤ℤ s.top
    → Encloses (2 ^ P) e_ends e → Encloses (2 ^ P) g_ends g → Encloses (2 ^ P) s_ends s
    → Encloses (2 ^ P) w_ends (whole (pos 2) *ᶠ (e *ᶠ s) -ᶠ g *ᶠ g)
variance_enclosed P e_ends g_ends s_ends w_ends e g s tests e_lo g_lo s_lo e_top g_top s_top e_in g_in s_in =
    let Q = 2 ^ P in
    let two = whole (pos 2) in
    let middle : (a b c : ℤ) → IsProper (two *ᶠ (over a Q *ᶠ over b Q) -ᶠ over c Q *ᶠ over c Q) = λ a b c.
    IsProper--ᶠ (two *ᶠ (over a Q *ᶠ over b Q)) (over c Q *ᶠ over c Q)
    (IsProper-*ᶠ two (over a Q *ᶠ over b Q) (omega arith) (IsProper-*ᶠ (over a Q) (over b Q) (pow_pos P) (pow_pos P)))
    (IsProper-*ᶠ (over c Q) (over c Q) (pow_pos P) (pow_pos P)) in
    let positive : pos 0 ≤ℤ two.top = omega (arith, ints) in
    record {
      low = ≤ᶠ_trans (over w_ends.lo Q) (two *ᶠ (over e_ends.lo Q *ᶠ over s_ends.lo Q) -ᶠ over g_ends.hi Q *ᶠ over g_ends.hi Q) (two *ᶠ (e *ᶠ s) -ᶠ g *ᶠ g)
          (middle e_ends.lo s_ends.lo g_ends.hi)
          (variance_low w_ends.lo (pos 2 *ℤ (e_ends.lo *ℤ s_ends.lo)) (g_ends.hi *ℤ g_ends.hi) Q tests.low)
          (-ᶠ_mono (two *ᶠ (over e_ends.lo Q *ᶠ over s_ends.lo Q)) (two *ᶠ (e *ᶠ s)) (over g_ends.hi Q *ᶠ over g_ends.hi Q) (g *ᶠ g)
          (*ᶠ_mono_left (over e_ends.lo Q *ᶠ over s_ends.lo Q) (e *ᶠ s) two positive (*ᶠ_mono (over e_ends.lo Q) e (over s_ends.lo Q) s e_lo s_lo e_in.low s_in.low))
          (*ᶠ_mono g (over g_ends.hi Q) g (over g_ends.hi Q) g_top g_top g_in.high g_in.high));
      high = ≤ᶠ_trans (two *ᶠ (e *ᶠ s) -ᶠ g *ᶠ g) (two *ᶠ (over e_ends.hi Q *ᶠ over s_ends.hi Q) -ᶠ over g_ends.lo Q *ᶠ over g_ends.lo Q) (over w_ends.hi Q)
          (middle e_ends.hi s_ends.hi g_ends.lo)
          (-ᶠ_mono (two *ᶠ (e *ᶠ s)) (two *ᶠ (over e_ends.hi Q *ᶠ over s_ends.hi Q)) (g *ᶠ g) (over g_ends.lo Q *ᶠ over g_ends.lo Q)
          (*ᶠ_mono_left (e *ᶠ s) (over e_ends.hi Q *ᶠ over s_ends.hi Q) two positive (*ᶠ_mono e (over e_ends.hi Q) s (over s_ends.hi Q) e_top s_top e_in.high s_in.high))
          (*ᶠ_mono (over g_ends.lo Q) g (over g_ends.lo Q) g g_lo g_lo g_in.low g_in.low))
          (variance_high w_ends.hi (pos 2 *ℤ (e_ends.hi *ℤ s_ends.hi)) (g_ends.lo *ℤ g_ends.lo) Q tests.high);
    }
