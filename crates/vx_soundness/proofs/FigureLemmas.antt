-- The tested ends of a figure enclose the square of the index, and its printed ends and cents hold of it.
use Rattle.std.proofs.Common.{◌≡◌, ℕ, ◌+◌, ◌-◌, ◌*◌, ◌^◌, ◌<◌, ◌≤◌, ℤ, pos, ◌+ℤ◌, ◌-ℤ◌, ◌*ℤ◌, ◌≤ℤ◌, sym, ap, arith}
use Rattle.std.proofs.lemmas.Int.{ints, by_lt_z}
use Rattle.std.proofs.lemmas.Nat.{pow_pos}
use Rattle.std.proofs.Math.Nat.{mul-le-mul}
use Rattle.vx_num.specs.Fraction.{Fraction, IsProper, whole, ◌+ᶠ◌, ◌*ᶠ◌, ◌/ᶠ◌, ◌≤ᶠ◌}
use Rattle.vx_num.specs.SignedSquare.{signed_square}
use Rattle.vx_num.proofs.Whole.{mul_assoc, add_mul, mul_mono, mul_anti_left}
use Rattle.vx_num.proofs.Squares.{signed_square_of_nonneg, signed_square_mono, signed_square_strict}
use Rattle.vx_num.proofs.Fractions.{≤ᶠ_trans, ≤ᶠ-<ᶠ_trans, IsProper-+ᶠ, IsProper-*ᶠ, IsProper-/ᶠ, +ᶠ_mono, *ᶠ_mono_left}
use Rattle.vx_cert.specs.declared.certificate.Ends.{Ends}
use Rattle.vx_cert.specs.declared.certificate.CertFigure.{CertFigure}
use Rattle.vx_formula.specs.declared.limits.TheConstants.{YEAR_MINUTES, THIRTY_DAYS, CENT, HALF_CENT}
use Rattle.vx_formula.specs.Index.{index_square, single_square}
use Rattle.vx_formula.specs.Rounds.{RoundsAt}
use Rattle.vx_formula.specs.Between.{BetweenAt}
use Rattle.vx_formula.specs.Laws.{LiesInHalves}
use Rattle.vx_formula.proofs.FigureLemmas.{rounding_is_half_open}
use Rattle.vx_claims.specs.FigureTests.{ForBothEnds, weighted, span, EnclosesSquare, EnclosesSingleSquare, EnclosesIndex}
use Rattle.vx_soundness.specs.Enclosing.{over, Encloses}
use Rattle.vx_soundness.proofs.TermLemmas.{quotient_mono}

-- ---- a weight of either sign times a fraction between two ends

times_anti : (a : ℤ) (f g : Fraction) → a ≤ℤ pos 0 → f ≤ᶠ g → (whole a *ᶠ g) ≤ᶠ (whole a *ᶠ f)
times_anti a f g p h =
    let one_f : 1 * f.bottom ≡ f.bottom = omega arith in
    let one_g : 1 * g.bottom ≡ g.bottom = omega arith in
    omega (
      arith,
      ints,
      mul_anti_left (f.top *ℤ pos g.bottom) (g.top *ℤ pos f.bottom) a p h,
      mul_assoc a g.top (pos f.bottom),
      mul_assoc a f.top (pos g.bottom),
      ap (λ n. (a *ℤ g.top) *ℤ pos n) one_f,
      ap (λ n. (a *ℤ f.top) *ℤ pos n) one_g,
    )

-- a number of which R holds, and which over Q has at most the product with `a` that `w` has
pub record PicksLow (a : ℤ) (Q : ℕ) (w : Fraction) (R : ℤ → Type 0) : Type 0 where
  pub picked : ℤ
  pub said : R picked
  pub below : (whole a *ᶠ over picked Q) ≤ᶠ (whole a *ᶠ w)

-- and one which over Q has at least that product
pub record PicksHigh (a : ℤ) (Q : ℕ) (w : Fraction) (R : ℤ → Type 0) : Type 0 where
  pub picked : ℤ
  pub said : R picked
  pub above : (whole a *ᶠ w) ≤ᶠ (whole a *ᶠ over picked Q)

pick_low : (a : ℤ) (Q : ℕ) (ends : Ends) (w : Fraction) (R : ℤ → Type 0) → ForBothEnds ends R → Encloses Q ends w → PicksLow a Q w R
pick_low a Q ends w R said h =
    by_lt_z a (pos 0)
    (λ negative. record { picked = ends.hi; said = said.1; below = times_anti a w (over ends.hi Q) (omega (arith, ints)) h.high })
    (λ nonneg. record { picked = ends.lo; said = said.0; below = *ᶠ_mono_left (over ends.lo Q) w (whole a) nonneg h.low })

pick_high : (a : ℤ) (Q : ℕ) (ends : Ends) (w : Fraction) (R : ℤ → Type 0) → ForBothEnds ends R → Encloses Q ends w → PicksHigh a Q w R
pick_high a Q ends w R said h =
    by_lt_z a (pos 0)
    (λ negative. record { picked = ends.lo; said = said.0; above = times_anti a (over ends.lo Q) w (omega (arith, ints)) h.low })
    (λ nonneg. record { picked = ends.hi; said = said.1; above = *ᶠ_mono_left w (over ends.hi Q) (whole a) nonneg h.high })

-- ---- two terms

combined_form : (y m n : ℤ) (Q : ℕ) → (y *ℤ (m *ℤ pos (1 * Q) +ℤ n *ℤ pos (1 * Q))) *ℤ pos Q ≡ (y *ℤ (m +ℤ n)) *ℤ pos (Q * Q)
combined_form y m n Q =
    let order : 1 * Q * Q ≡ Q * Q = omega arith in
    let inner : m *ℤ pos (1 * Q) +ℤ n *ℤ pos (1 * Q) ≡ (m +ℤ n) *ℤ pos (1 * Q) = sym (add_mul m n (pos (1 * Q))) in
    omega (
      arith,
      ints,
      ap (λ z. (y *ℤ z) *ℤ pos Q) inner,
      ap (λ z. z *ℤ pos Q) (mul_assoc y (m +ℤ n) (pos (1 * Q))),
      mul_assoc (y *ℤ (m +ℤ n)) (pos (1 * Q)) (pos Q),
      ap (λ k. (y *ℤ (m +ℤ n)) *ℤ pos k) order,
    )

spread_form : (x : ℤ) (T Q : ℕ) → x *ℤ pos (1 * (1 * Q * (1 * Q)) * T) ≡ (x *ℤ pos T) *ℤ pos (Q * Q)
spread_form x T Q =
    let order : 1 * (1 * Q * (1 * Q)) * T ≡ T * (Q * Q) = omega arith in
    omega (arith, ints, ap (λ k. x *ℤ pos k) order, mul_assoc x (pos T) (pos (Q * Q)))

-- the target times the time between the terms, as a whole number
pub span_is : (target n1 n2 : ℕ) → n1 < n2 → span target n1 n2 ≡ pos (target * (n2 - n1))
span_is target n1 n2 h = let e : pos n2 -ℤ pos n1 ≡ pos (n2 - n1) = omega (arith, ints) in ap (λ z. pos target *ℤ z) e

square_low : (x y m n s : ℤ) (T Q : ℕ) → s ≡ pos T → (x *ℤ s) ≤ℤ (y *ℤ (m +ℤ n))
    → (x *ℤ pos (1 * (1 * Q * (1 * Q)) * T)) ≤ℤ ((y *ℤ (m *ℤ pos (1 * Q) +ℤ n *ℤ pos (1 * Q))) *ℤ pos Q)
square_low x y m n s T Q e h =
    omega (arith, ints, combined_form y m n Q, spread_form x T Q, ap (λ z. (x *ℤ z) *ℤ pos (Q * Q)) e, mul_mono (x *ℤ s) (y *ℤ (m +ℤ n)) (pos (Q * Q)) (omega (arith, ints)) h)

square_high : (x y m n s : ℤ) (T Q : ℕ) → s ≡ pos T → (y *ℤ (m +ℤ n)) ≤ℤ (x *ℤ s)
    → ((y *ℤ (m *ℤ pos (1 * Q) +ℤ n *ℤ pos (1 * Q))) *ℤ pos Q) ≤ℤ (x *ℤ pos (1 * (1 * Q * (1 * Q)) * T))
square_high x y m n s T Q e h =
    omega (arith, ints, combined_form y m n Q, spread_form x T Q, ap (λ z. (x *ℤ z) *ℤ pos (Q * Q)) e, mul_mono (y *ℤ (m +ℤ n)) (x *ℤ s) (pos (Q * Q)) (omega (arith, ints)) h)

one_span : (target n1 n2 : ℕ) → 1 ≤ target → n1 < n2 → 1 ≤ target * (n2 - n1)
one_span target n1 n2 t h = let apart : 1 ≤ n2 - n1 = omega arith in let product : 1 * 1 ≤ target * (n2 - n1) = mul-le-mul t apart in omega arith

module _ (P target n1 n2 : ℕ) (some : 1 ≤ target) (later : n1 < n2) where
  abbrev weights : Fraction → Fraction → Fraction
  weights f g = whole (pos n2 -ℤ pos target) *ᶠ f +ᶠ whole (pos target -ℤ pos n1) *ᶠ g

  -- the square of two proper variances is proper
  pub square_proper : (f g : Fraction) → IsProper f → IsProper g → IsProper (index_square target f n1 g n2)
  square_proper f g p q =
      IsProper-/ᶠ (whole (pos YEAR_MINUTES) *ᶠ weights f g) (target * (n2 - n1))
      (IsProper-*ᶠ (whole (pos YEAR_MINUTES)) (weights f g) (omega arith)
      (IsProper-+ᶠ (whole (pos n2 -ℤ pos target) *ᶠ f) (whole (pos target -ℤ pos n1) *ᶠ g)
      (IsProper-*ᶠ (whole (pos n2 -ℤ pos target)) f (omega arith) p) (IsProper-*ᶠ (whole (pos target -ℤ pos n1)) g (omega arith) q)))
      (one_span target n1 n2 some later)

  -- ends that meet the test of the square enclose the square of any two variances that their ends enclose
  pub square_enclosed : (w1 w2 x : Ends) (f g : Fraction) → EnclosesSquare P target n1 n2 w1 w2 x → Encloses (2 ^ P) w1 f → Encloses (2 ^ P) w2 g → Encloses (2 ^ P) x (index_square target f n1 g n2)
  square_enclosed w1 w2 x f g tests hf hg =
      let Q = 2 ^ P in
      let a = pos n2 -ℤ pos target in
      let b = pos target -ℤ pos n1 in
      let year = whole (pos YEAR_MINUTES) in
      let T = target * (n2 - n1) in
      let s = span_is target n1 n2 later in
      let y = pick_low a Q w1 f (λ y. ForBothEnds w2 (λ z. (x.lo *ℤ span target n1 n2) ≤ℤ weighted target n1 n2 y z)) tests.low hf in
      let z = pick_low b Q w2 g (λ z. (x.lo *ℤ span target n1 n2) ≤ℤ weighted target n1 n2 y.picked z) y.said hg in
      let y' = pick_high a Q w1 f (λ y. ForBothEnds w2 (λ z. weighted target n1 n2 y z ≤ℤ (x.hi *ℤ span target n1 n2))) tests.high hf in
      let z' = pick_high b Q w2 g (λ z. weighted target n1 n2 y'.picked z ≤ℤ (x.hi *ℤ span target n1 n2)) y'.said hg in
      let low = weights (over y.picked Q) (over z.picked Q) in
      let high = weights (over y'.picked Q) (over z'.picked Q) in
      record {
        low = ≤ᶠ_trans (over x.lo Q) ((year *ᶠ low) /ᶠ T) ((year *ᶠ weights f g) /ᶠ T)
            (square_proper (over y.picked Q) (over z.picked Q) (pow_pos P) (pow_pos P))
            (square_low x.lo (pos YEAR_MINUTES) (a *ℤ y.picked) (b *ℤ z.picked) (span target n1 n2) T Q s z.said)
            (quotient_mono (year *ᶠ low) (year *ᶠ weights f g) T (*ᶠ_mono_left low (weights f g) year (omega (arith, ints))
            (+ᶠ_mono (whole a *ᶠ over y.picked Q) (whole a *ᶠ f) (whole b *ᶠ over z.picked Q) (whole b *ᶠ g) y.below z.below)));
        high = ≤ᶠ_trans ((year *ᶠ weights f g) /ᶠ T) ((year *ᶠ high) /ᶠ T) (over x.hi Q)
            (square_proper (over y'.picked Q) (over z'.picked Q) (pow_pos P) (pow_pos P))
            (quotient_mono (year *ᶠ weights f g) (year *ᶠ high) T (*ᶠ_mono_left (weights f g) high year (omega (arith, ints))
            (+ᶠ_mono (whole a *ᶠ f) (whole a *ᶠ over y'.picked Q) (whole b *ᶠ g) (whole b *ᶠ over z'.picked Q) y'.above z'.above)))
            (square_high x.hi (pos YEAR_MINUTES) (a *ℤ y'.picked) (b *ℤ z'.picked) (span target n1 n2) T Q s z'.said);
      }

-- ---- one term

-- the square of one proper variance is proper
pub single_proper : (f : Fraction) → IsProper f → IsProper (single_square f)
single_proper f p = omega arith

single_form : (x : ℤ) (Q : ℕ) → x *ℤ pos (1 * Q * THIRTY_DAYS) ≡ (x *ℤ pos THIRTY_DAYS) *ℤ pos Q
single_form x Q = let order : 1 * Q * THIRTY_DAYS ≡ THIRTY_DAYS * Q = omega arith in omega (arith, ints, ap (λ k. x *ℤ pos k) order, mul_assoc x (pos THIRTY_DAYS) (pos Q))

-- and ends that meet its test enclose the square of any variance that the variance's ends enclose
pub single_enclosed : (P : ℕ) (w x : Ends) (f : Fraction) → EnclosesSingleSquare P w x → Encloses (2 ^ P) w f → Encloses (2 ^ P) x (single_square f)
single_enclosed P w x f tests h =
    let Q = 2 ^ P in
    let year = whole (pos YEAR_MINUTES) in
    record {
      low = ≤ᶠ_trans (over x.lo Q) (single_square (over w.lo Q)) (single_square f) (single_proper (over w.lo Q) (pow_pos P))
          (omega (arith, ints, single_form x.lo Q, mul_mono (x.lo *ℤ pos THIRTY_DAYS) (pos YEAR_MINUTES *ℤ w.lo) (pos Q) (omega (arith, ints)) tests.low.0))
          (quotient_mono (year *ᶠ over w.lo Q) (year *ᶠ f) THIRTY_DAYS (*ᶠ_mono_left (over w.lo Q) f year (omega (arith, ints)) h.low));
      high = ≤ᶠ_trans (single_square f) (single_square (over w.hi Q)) (over x.hi Q) (single_proper (over w.hi Q) (pow_pos P))
          (quotient_mono (year *ᶠ f) (year *ᶠ over w.hi Q) THIRTY_DAYS (*ᶠ_mono_left f (over w.hi Q) year (omega (arith, ints)) h.high))
          (omega (arith, ints, single_form x.hi Q, mul_mono (pos YEAR_MINUTES *ℤ w.hi) (x.hi *ℤ pos THIRTY_DAYS) (pos Q) (omega (arith, ints)) tests.high.1));
    }

-- ---- the printed ends and the cents

abbrev in_units : Fraction → Fraction
in_units x = whole (pos (10 ^ 16)) *ᶠ x

units_proper : (x : Fraction) → IsProper x → IsProper (in_units x)
units_proper x p = omega arith

-- the index of any square between a figure's ends of the square lies between the stated ends of the index
pub between_stated : (P : ℕ) (figure : CertFigure) (x : Fraction) → EnclosesIndex P figure → Encloses (2 ^ P) figure.x x → BetweenAt figure.lo figure.hi x
between_stated P figure x tests h =
    let Q = 2 ^ P in
    let lo = figure.lo in
    let hi = figure.hi in
    let nonneg = tests.not_negative in
    let order = tests.in_order in
    let one : 1 * Q ≡ Q = omega arith in
    let lo_square = signed_square_of_nonneg lo nonneg in
    let hi_square = signed_square_of_nonneg hi (omega (arith, ints)) in
    record {
      at_least = ≤ᶠ_trans (whole (signed_square lo)) (in_units (over figure.x.lo Q)) (in_units x) (units_proper (over figure.x.lo Q) (pow_pos P))
          (omega (arith, ints, ap (λ z. z *ℤ pos (1 * Q)) lo_square, ap (λ k. (lo *ℤ lo) *ℤ pos k) one, tests.low))
          (*ᶠ_mono_left (over figure.x.lo Q) x (whole (pos (10 ^ 16))) (omega (arith, ints)) h.low);
      at_most = ≤ᶠ_trans (in_units x) (in_units (over figure.x.hi Q)) (whole (signed_square hi)) (units_proper (over figure.x.hi Q) (pow_pos P))
          (*ᶠ_mono_left x (over figure.x.hi Q) (whole (pos (10 ^ 16))) (omega (arith, ints)) h.high)
          (omega (arith, ints, ap (λ z. z *ℤ pos (1 * Q)) hi_square, ap (λ k. (hi *ℤ hi) *ℤ pos k) one, tests.high));
    }

-- and the figure is this index rounded
pub rounds_stated : (P : ℕ) (figure : CertFigure) (x : Fraction) → IsProper x → EnclosesIndex P figure → BetweenAt figure.lo figure.hi x → RoundsAt figure.cents x
rounds_stated P figure x proper tests h =
    let lo = figure.lo in
    let hi = figure.hi in
    let low = pos (CENT * figure.cents - HALF_CENT) in
    let high = pos (CENT * figure.cents + HALF_CENT) in
    let nonneg = tests.not_negative in
    let rounds_low = tests.rounds_low in
    let halves : LiesInHalves figure.cents x = record {
      from_half_below = ≤ᶠ_trans (whole (signed_square low)) (whole (signed_square lo)) (in_units x) (omega arith)
          (omega (arith, ints, signed_square_mono low lo (omega (arith, ints)))) h.at_least;
      below_half_above = ≤ᶠ-<ᶠ_trans (in_units x) (whole (signed_square hi)) (whole (signed_square high)) (units_proper x proper) (omega arith) h.at_most
          (omega (arith, ints, signed_square_strict hi high tests.rounds_high));
    } in
    (rounding_is_half_open figure.cents x).1 halves
