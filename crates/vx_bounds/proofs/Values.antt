-- The exponential's ends enclose the bracket at 12, and how they lie.
use Rattle.std.proofs.Common.{◌≡◌, ◌∙◌, ℕ, zero, suc, ◌+◌, ◌-◌, ◌*◌, ◌^◌, ◌<◌, ◌≤◌, ℤ, pos, negsuc, ◌≤ℤ◌, ◌<ℤ◌, refl, sym, ap, subst, arith, le_refl, le_trans, mul-le-mul_left, mul-le-mul_right, mul-pos, pow-add, pow_pos, List, get_or}
use Rattle.std.proofs.Math.Nat.{lt_of_mul-lt-mul_right, le_of_mul-le-mul_right}
use Rattle.std.proofs.Math.Pow.{pow_mono}
use Rattle.std.proofs.lemmas.Int.{ints}
use Rattle.vx_num.specs.Fraction.{Fraction}
use Rattle.vx_interval.specs.Ends.{Ends, IsScale, unit}
use Rattle.vx_interval.specs.Membership.{IsMember}
use Rattle.vx_num.specs.Quotient.{IsFloor, IsCeiling}
use Rattle.vx_interval.proofs.EndsLemmas.{same_ends}
use Rattle.vx_interval.proofs.RoundingLemmas.{floor_of_is, ceiling_of_is}
use Rattle.vx_bracket.specs.Bracket.{Bracket}
use Rattle.vx_bracket.specs.Cleared.{series_bottom, series_top, upper_top}
use Rattle.vx_bracket.proofs.Series.{natural}
use Rattle.vx_bracket.proofs.Members.{bracket_up, bracket_down, members_are_positive}
use Rattle.vx_bracket.proofs.Terms.{partial_sum, sum_below, value_above, enclosed_up, enclosed_down}
use Rattle.vx_bounds.specs.Exponential.{IsTerms, low_term, high_term, low_sum_to, high_sum_to, low_end, high_end, IsTightValue, exp_ends, signed_ends}
use Rattle.vx_bounds.proofs.TermLemmas.{low_step, high_step}
use Rattle.vx_bounds.proofs.EndLemmas.{IsUnit, last_term, ends_order, ends_close, low_end_above, high_end_below, low_first, high_first}

-- the unit of each scale is in range
pub unit_facts : (P : ℕ) → IsScale P → IsUnit (2 ^ P)
unit_facts P h =
    let e : 2 ^ (7 + (P - 7)) ≡ 2 ^ 7 * 2 ^ (P - 7) = pow-add 2 7 (P - 7) in
    let f : 2 ^ (7 + (P - 7)) ≡ 2 ^ P = ap (λ z. 2 ^ z) (omega arith) in
    record { v = 2 ^ (P - 7); whole = sym f ∙ e; low = pow_mono h.0; high = pow_mono h.1 }

-- ---- enclosure

low_sum_is : (u p q n : ℕ) → low_sum_to u p q n ≡ partial_sum (low_term u p q) n
unfolding low_sum_to partial_sum
low_sum_is u p q zero = refl
low_sum_is u p q (suc n) = ap (λ z. z + low_term u p q (suc n)) (low_sum_is u p q n)

high_sum_is : (u p q n : ℕ) → high_sum_to u p q n ≡ partial_sum (high_term u p q) n
unfolding high_sum_to partial_sum
high_sum_is u p q zero = refl
high_sum_is u p q (suc n) = ap (λ z. z + high_term u p q (suc n)) (high_sum_is u p q n)

-- the low end is at most Taylor's sum
pub low_end_below : (u p q : ℕ) → low_end u p q * series_bottom q 12 ≤ u * series_top p q 12
unfolding low_end
low_end_below u p q =
    let P : ℕ → Type 0 = λ z. z * series_bottom q 12 ≤ u * series_top p q 12 in
    subst P (sym (low_sum_is u p q 12)) (sum_below u p q (low_term u p q) 12 (rw (low_first u p q) (le_refl u)) (λ k h. low_step u p q k))

-- the high end is at least the sum with its remainder
pub high_end_above : (u p q : ℕ) → 0 < q → u * upper_top p q 12 ≤ high_end u p q * series_bottom q 13
unfolding high_end
high_end_above u p q hq =
    let P : ℕ → Type 0 = λ z. u * upper_top p q 12 ≤ (z + 2 * high_term u p q 13) * series_bottom q 13 in
    subst P (sym (high_sum_is u p q 12)) (value_above u p q (high_term u p q) 12 (rw (high_first u p q) (le_refl u)) (λ k h. high_step u p q k hq))

member_of : (P A B t b : ℕ) → 1 ≤ b → (A * b ≤ t * 2 ^ P) × (t * 2 ^ P ≤ B * b) → IsMember P (record { lo = pos A; hi = pos B }) (natural t b)
member_of P A B t b h e = let l = e.0 in let u = e.1 in record { proper = h; above = omega (arith, ints); below = omega (arith, ints) }

enclosed_at : (P p q : ℕ) (t : ℤ) (b : ℕ) → 0 < q → pos 0 <ℤ t → Bracket 12 (natural p q) (record { top = t; bottom = b }) → IsMember P (exp_ends P p q) (record { top = t; bottom = b })
enclosed_at P p q (negsuc t) b hq ht m = absurd (omega (arith, ints))
enclosed_at P p q (pos t) b hq ht m =
    let c = bracket_up 12 p q t b hq m in
    member_of P (low_end (2 ^ P) p q) (high_end (2 ^ P) p q) t b m.proper
    (enclosed_up (2 ^ P) p q 12 (low_end (2 ^ P) p q) (high_end (2 ^ P) p q) t b hq (low_end_below (2 ^ P) p q) (high_end_above (2 ^ P) p q hq) c.above_sum c.below_upper)

-- the ends enclose each member of the bracket
pub exp_encloses : (P p q : ℕ) (f : Fraction) → 0 < q → Bracket 12 (natural p q) f → IsMember P (exp_ends P p q) f
exp_encloses P p q f hq m = enclosed_at P p q f.top f.bottom hq (members_are_positive 12 (natural p q) f hq m) m

-- ---- how the ends lie

-- the low end is at least 1
pub exp_at_least_one : (P p q : ℕ) → unit P ≤ℤ (exp_ends P p q).lo
unfolding unit
exp_at_least_one P p q = let a = low_end_above (2 ^ P) p q in omega (arith, ints)

-- the ends are ordered, narrow and in range
pub exp_is_good : (P p q : ℕ) → IsScale P → 0 < q → 8 * p ≤ q → IsTightValue P 25 (exp_ends P p q)
unfolding unit
exp_is_good P p q s hq h =
    let u = unit_facts P s in
    let high = u.high in
    let order = ends_order (2 ^ P) p q hq in
    let close = ends_close (2 ^ P) p q hq h high in
    let above = low_end_above (2 ^ P) p q in
    let below = high_end_below (2 ^ P) p q hq h u in
    record {
      interval = record { scale = s; ordered = omega (arith, ints); in_range = record { low = omega (arith, ints); high = omega (arith, ints) } };
      narrow = omega (arith, ints);
      height = omega (arith, ints);
      quarter = omega (arith, ints);
      nonneg = omega (arith, ints);
    }

-- ---- the reciprocal of the ends A and B, with u ≤ A ≤ B ≤ A + 25

-- l = floor of u*u/B, h = ceiling of u*u/A, over natural numbers
pub record IsReciprocal (u A B l h : ℕ) : Type 0 where
  pub floor_at_most : l * B ≤ u * u
  pub floor_next : u * u < l * B + B
  pub ceil_at_least : u * u ≤ h * A
  pub ceil_last : h * A < u * u + A

not_more : (a b d : ℕ) → a * d < (b + 1) * d → a ≤ b
not_more a b d h = let l : a < b + 1 = lt_of_mul-lt-mul_right d h in omega arith

-- a reciprocal of what is at least the unit is at most the unit
pub reciprocal_high : (u A B l h : ℕ) → 0 < u → u ≤ A → IsReciprocal u A B l h → h ≤ u
reciprocal_high u A B l h hu a r =
    let top = r.ceil_last in
    let m : u * u ≤ u * A = mul-le-mul_left u a in
    not_more h u A (omega arith)

-- reciprocals of ordered ends are ordered
pub reciprocal_order : (u A B l h : ℕ) → 0 < B → A ≤ B → IsReciprocal u A B l h → l ≤ h
reciprocal_order u A B l h hb ab r =
    let m : h * A ≤ h * B = mul-le-mul_left h ab in
    le_of_mul-le-mul_right (le_trans r.floor_at_most (le_trans r.ceil_at_least m)) hb

-- reciprocals of ends 25 units apart are at most 27 units apart
pub reciprocal_close : (u A B l h : ℕ) → 2 ^ 40 ≤ u → u ≤ A → B ≤ A + 25 → A ≤ B → IsReciprocal u A B l h → h ≤ l + 27
reciprocal_close u A B l h hu a b ab r =
    let top = r.ceil_last in
    let next = r.floor_next in
    let grown : l * B ≤ l * (A + 25) = mul-le-mul_left l b in
    let small : l ≤ u = reciprocal_low u A B l h (omega arith) a ab r in
    not_more h (l + 27) A (omega arith)
  where
    reciprocal_low : (u A B l h : ℕ) → 0 < u → u ≤ A → A ≤ B → IsReciprocal u A B l h → l ≤ u
    reciprocal_low u A B l h hu a ab r = le_trans (reciprocal_order u A B l h (omega arith) ab r) (reciprocal_high u A B l h hu a r)

-- the ends are the reciprocals of A and B, rounded outwards
pub record HasReciprocal (u A B : ℕ) (x : Ends) : Type 0 where
  pub l : ℕ
  pub h : ℕ
  pub low_is : x.lo ≡ pos l
  pub high_is : x.hi ≡ pos h
  pub reciprocal : IsReciprocal u A B l h

from_quotients : (u A B : ℕ) (z w : ℤ) → 0 < A → 0 < B → IsFloor (pos (u * u)) (pos B) z → IsCeiling (pos (u * u)) (pos A) w → HasReciprocal u A B (record { lo = z; hi = w })
from_quotients u A B (negsuc z) w ha hb f c = let a = f.next_above in let m : 0 < suc z * B = mul-pos (omega arith) hb in let k : 1 * B ≤ suc z * B = mul-le-mul_right B (omega arith) in absurd (omega (arith, ints))
from_quotients u A B (pos z) (negsuc w) ha hb f c = let a = c.at_least in let k : 1 * A ≤ suc w * A = mul-le-mul_right A (omega arith) in absurd (omega (arith, ints))
from_quotients u A B (pos z) (pos w) ha hb f c =
    let f1 = f.at_most in
    let f2 = f.next_above in
    let c1 = c.at_least in
    let c2 = c.last_below in
    record { l = z; h = w; low_is = refl; high_is = refl; reciprocal = record { floor_at_most = omega (arith, ints); floor_next = omega (arith, ints); ceil_at_least = omega (arith, ints); ceil_last = omega (arith, ints) } }

-- the ends for a negative exponent are the reciprocals of those at its opposite
pub negative_ends : (P p q : ℕ) → 0 < q → HasReciprocal (2 ^ P) (low_end (2 ^ P) (suc p) q) (high_end (2 ^ P) (suc p) q) (signed_ends P (negsuc p) q)
negative_ends P p q hq =
    let u : ℕ = 2 ^ P in
    let one : 0 < u = pow_pos P in
    let a : u ≤ low_end u (suc p) q = low_end_above u (suc p) q in
    let b : low_end u (suc p) q ≤ high_end u (suc p) q = ends_order u (suc p) q hq in
    from_quotients u (low_end u (suc p) q) (high_end u (suc p) q) _ _ (omega arith) (omega arith)
    (floor_of_is (pos (u * u)) (pos (high_end u (suc p) q)) (omega (arith, ints))) (ceiling_of_is (pos (u * u)) (pos (low_end u (suc p) q)) (omega (arith, ints)))

-- ---- the value for either sign

negative_at : (P p q : ℕ) (t : ℤ) (b : ℕ) → 0 < q → pos 0 <ℤ t → Bracket 12 (record { top = negsuc p; bottom = q }) (record { top = t; bottom = b }) → IsMember P (signed_ends P (negsuc p) q) (record { top = t; bottom = b })
negative_at P p q (negsuc t) b hq ht m = absurd (omega (arith, ints))
negative_at P p q (pos t) b hq ht m =
    let u : ℕ = 2 ^ P in
    let c = bracket_down 12 p q t b hq m in
    let e = enclosed_up u (suc p) q 12 (low_end u (suc p) q) (high_end u (suc p) q) b t hq (low_end_below u (suc p) q) (high_end_above u (suc p) q hq) c.above_sum c.below_upper in
    let n = negative_ends P p q hq in
    let r = n.reciprocal in
    let d = enclosed_down u (low_end u (suc p) q) (high_end u (suc p) q) n.l n.h t b (pow_pos P) r.floor_at_most r.ceil_at_least e.0 e.1 in
    let Q : Ends → Type 0 = λ x. IsMember P x (natural t b) in
    subst Q (sym (same_ends (signed_ends P (negsuc p) q) (record { lo = pos n.l; hi = pos n.h }) n.low_is n.high_is)) (member_of P n.l n.h t b m.proper d)

-- for each sign of the exponent the ends enclose each member of the bracket
pub signed_encloses : (P : ℕ) (p : ℤ) (q : ℕ) (f : Fraction) → 0 < q → Bracket 12 (record { top = p; bottom = q }) f → IsMember P (signed_ends P p q) f
signed_encloses P (pos p) q f hq m = exp_encloses P p q f hq m
signed_encloses P (negsuc p) q f hq m = negative_at P p q f.top f.bottom hq (members_are_positive 12 (record { top = negsuc p; bottom = q }) f hq m) m

good_naturals : (P l k : ℕ) → IsScale P → 2 ^ P ≤ 2 ^ 62 → l ≤ k → k ≤ l + 27 → k ≤ 2 ^ P → IsTightValue P 27 (record { lo = pos l; hi = pos k })
unfolding unit
good_naturals P l k s high ordered narrow at_most = record {
  interval = record { scale = s; ordered = omega (arith, ints); in_range = record { low = omega (arith, ints); high = omega (arith, ints) } };
  narrow = omega (arith, ints);
  height = omega (arith, ints);
  quarter = omega (arith, ints);
  nonneg = omega (arith, ints);
}

-- for a negative exponent they are ordered, narrow and in range
pub negative_is_good : (P p q : ℕ) → IsScale P → 0 < q → 8 * suc p ≤ q → IsTightValue P 27 (signed_ends P (negsuc p) q)
negative_is_good P p q s hq h =
    let n = negative_ends P p q hq in
    let l : ℕ = n.l in
    let k : ℕ = n.h in
    let u = unit_facts P s in
    let low = u.low in
    let high = u.high in
    let A : ℕ = low_end (2 ^ P) (suc p) q in
    let B : ℕ = high_end (2 ^ P) (suc p) q in
    let above : 2 ^ P ≤ A = low_end_above (2 ^ P) (suc p) q in
    let order : A ≤ B = ends_order (2 ^ P) (suc p) q hq in
    let close : B ≤ A + 25 = ends_close (2 ^ P) (suc p) q hq h high in
    let at_most : k ≤ 2 ^ P = reciprocal_high (2 ^ P) A B l k (omega arith) above n.reciprocal in
    let ordered : l ≤ k = reciprocal_order (2 ^ P) A B l k (omega arith) order n.reciprocal in
    let narrow : k ≤ l + 27 = reciprocal_close (2 ^ P) A B l k low above close order n.reciprocal in
    let Q : Ends → Type 0 = λ x. IsTightValue P 27 x in
    subst Q (sym (same_ends (signed_ends P (negsuc p) q) (record { lo = pos l; hi = pos k }) n.low_is n.high_is))
    (good_naturals P l k s high ordered narrow at_most)

-- ---- what the code has found

-- the computed sums give the ends of the exponential
pub record IsFound (P p q low high last : ℕ) : Type 0 where
  pub low_is : low ≡ low_end (2 ^ P) p q
  pub high_is : high + 2 * last ≡ high_end (2 ^ P) p q
  pub last_small : last ≤ 1
  pub fits : high + 2 * last < 2 ^ 63
  pub ordered : low ≤ high + 2 * last

-- sums and a last term that are computed give the ends
sums_are_found : (P p q low high last : ℕ) → IsScale P → 0 < q → 8 * p ≤ q → low ≡ low_sum_to (2 ^ P) p q 12 → high ≡ high_sum_to (2 ^ P) p q 12 → last ≡ high_term (2 ^ P) p q 13 → IsFound P p q low high last
unfolding low_end high_end
sums_are_found P p q low high last s hq h a b e =
    let u = unit_facts P s in
    let most = u.high in
    let f : high + 2 * last ≡ high_sum_to (2 ^ P) p q 12 + 2 * high_term (2 ^ P) p q 13 = omega arith in
    let small : high_term (2 ^ P) p q 13 ≤ 1 = last_term (2 ^ P) p q hq h most in
    let below : 1000 * (high_sum_to (2 ^ P) p q 12 + 2 * high_term (2 ^ P) p q 13) ≤ 1134 * 2 ^ P = high_end_below (2 ^ P) p q hq h u in
    let order : low_sum_to (2 ^ P) p q 12 ≤ high_sum_to (2 ^ P) p q 12 + 2 * high_term (2 ^ P) p q 13 = ends_order (2 ^ P) p q hq in
    record { low_is = a; high_is = f; last_small = omega arith; fits = omega arith; ordered = omega arith }

-- the sums of a complete loop do
pub found : (P p q one low high : ℕ) (terms : List ℕ) → IsScale P → 0 < q → 8 * p ≤ q → one ≡ 2 ^ P → low ≡ low_sum_to one p q 12
    → high ≡ high_sum_to one p q 12 → IsTerms (high_term one p q) terms → IsFound P p q low high (get_or terms 13 0)
found P p q one low high terms s hq h e a b t =
    sums_are_found P p q low high (get_or terms 13 0) s hq h (a ∙ ap (λ u. low_sum_to u p q 12) e) (b ∙ ap (λ u. high_sum_to u p q 12) e) (t.each 13 (omega arith) ∙ ap (λ u. high_term u p q 13) e)

-- the unit of each scale is at most 2^62
pub units_small : (P one : ℕ) → IsScale P → one ≡ 2 ^ P → one ≤ 2 ^ 62
units_small P one s e = let m : 2 ^ P ≤ 2 ^ 62 = pow_mono s.1 in omega arith
