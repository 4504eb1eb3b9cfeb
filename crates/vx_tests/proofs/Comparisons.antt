-- A comparison that is the last of a chain says whether the whole holds, where those before it do.
use Rattle.std.proofs.Common.{◌≡◌, ◌↔◌, ℕ, ◌+◌, ◌*◌, ◌^◌, ◌≤◌, Bool, true, false, ℤ, pos, int_le, ◌≤ℤ◌, ◌<ℤ◌, List, IsTrue, sym, ◌∙◌, ap, subst, arith}
use Rattle.std.proofs.lemmas.Nat.{pow-add}
use Rattle.vx_cert.specs.declared.certificate.Ends.{Ends}
use Rattle.vx_claims.specs.Exponential.{low_sum, high_sum, EncloseExponential}
use Rattle.vx_tests.specs.Ranges.{IsExponentialAdmitted, EnclosesReciprocal}
use Rattle.std.proofs.lemmas.Int.{ints}
use Rattle.std.proofs.Math.Nat.{pow-le-pow_right}
use Rattle.vx_claims.specs.declared.limits.TheConstants.{SCALE}
use Rattle.vx_tests.proofs.Decisions.{decides_int_le}

pub last_le : {A B : ℤ} (a b : ℤ) (R : Type 0) → A ≡ a → B ≡ b → (a ≤ℤ b → R) → (R → a ≤ℤ b) → (IsTrue (int_le A B) → R) × (R → IsTrue (int_le A B))
last_le {A} {B} a b R p q f g = (
  λ t. let h = (decides_int_le A B).0 t in f (omega (arith, ints)),
  λ r. let h = g r in (decides_int_le A B).1 (omega (arith, ints)),
)

-- and where one before it fails
pub fails_first : (R : Type 0) → (R → ⊥) → (IsTrue false → R) × (R → IsTrue false)
fails_first R never_met = (λ t. absurd (never t), λ r. absurd (never_met r)) where
  never : IsTrue false → ⊥
  never t = let e : false ≡ true = t in cc e

pub power_at_scale : (scale : ℕ) → scale ≤ SCALE → 2 ^ scale ≤ 2 ^ SCALE
power_at_scale scale h = pow-le-pow_right (omega arith) h

-- ---- at a negative rate

double : (P : ℕ) → 2 ^ (2 * P) ≡ 2 ^ P * 2 ^ P
double P = let e : 2 * P ≡ P + P = omega arith in ap (λ k. 2 ^ k) e ∙ pow-add 2 P P

module _ (P : ℕ) (rate : ℤ) (low high : List ℕ) (e : Ends) (negative : rate <ℤ pos 0) (range : IsExponentialAdmitted P e) where
  from_reciprocal : EnclosesReciprocal P (pos (low_sum low)) (pos (high_sum high)) e → EncloseExponential P rate low high e
  from_reciprocal h =
      let d = double P in
      let below = h.below in
      let above = h.above in
      let small = h.low_range in
      let smaller = h.high_range in
      record {
        not_negative = range.not_negative;
        in_order = range.in_order;
        in_range = range.in_range;
        rising = λ up. absurd (omega (arith, ints));
        falling_range = λ down. (omega (arith, ints), omega (arith, ints));
        falling = λ down. (omega (arith, ints), omega (arith, ints));
      }

  to_reciprocal : EncloseExponential P rate low high e → EnclosesReciprocal P (pos (low_sum low)) (pos (high_sum high)) e
  to_reciprocal h =
      let d = double P in
      let small = h.falling_range negative in
      let both = h.falling negative in
      record { low_range = omega (arith, ints, small.0); high_range = omega (arith, ints, small.1); below = omega (arith, ints, both.0); above = omega (arith, ints, both.1) }

  pub by_reciprocal : (b : Bool) (L H : ℤ) → L ≡ pos (low_sum low) → H ≡ pos (high_sum high) → (IsTrue b ↔ EnclosesReciprocal P L H e) → (IsTrue b ↔ EncloseExponential P rate low high e)
  by_reciprocal b L H p q both =
      let R : ℤ → ℤ → Type 0 = λ l k. EnclosesReciprocal P l k e in (
        λ t. from_reciprocal (subst (λ k. R (pos (low_sum low)) k) q (subst (λ l. R l H) p (both.0 t))),
        λ h. both.1 (subst (λ l. R l H) (sym p) (subst (λ k. R (pos (low_sum low)) k) (sym q) (to_reciprocal h))),
      )
