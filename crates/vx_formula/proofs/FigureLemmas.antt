-- One figure rounds; and what a figure, two ends, and a sign say of one another.
use Rattle.std.proofs.Common.{◌≡◌, ℕ, ◌+◌, ◌-◌, ◌*◌, ◌^◌, ◌<◌, ◌≤◌, ◌↔◌, ℤ, pos, ◌+ℤ◌, ◌-ℤ◌, ◌*ℤ◌, ◌≤ℤ◌, ◌<ℤ◌, ap, ◌∙◌, subst, inl, inr, arith}
use Rattle.std.proofs.lemmas.Int.{ints}
use Rattle.std.proofs.lemmas.Bool.{cases_order}
use Rattle.std.proofs.Math.Nat.{mul-le-mul}
use Rattle.vx_num.specs.Fraction.{Fraction, whole, ◌*ᶠ◌, ◌≤ᶠ◌, ◌<ᶠ◌}
use Rattle.vx_num.specs.SignedSquare.{signed_square}
use Rattle.vx_num.proofs.Squares.{signed_square_cancel, signed_square_cancel_strict}
use Rattle.vx_formula.specs.declared.limits.TheConstants.{CENT, HALF_CENT, INDEX_WIDTH_MAX, FORWARD_UNITS, FORWARD_WIDTH_MAX}
use Rattle.vx_formula.specs.Term.{Term, HasSmallExponent}
use Rattle.vx_formula.specs.Forward.{forward_at}
use Rattle.vx_formula.specs.Variance.{variance_at}
use Rattle.vx_formula.specs.Index.{Basis, TwoTerms, OneTerm, index_square, single_square, TwoTermsMeet, OneTermMeets, SquareMeets, IsNegative, HasSmallExponents}
use Rattle.vx_formula.specs.Rounds.{RoundsAt, Rounds}
use Rattle.vx_formula.specs.Between.{BetweenAt, Between, forward_units}
use Rattle.vx_formula.specs.Undecided.{UndecidedCents, UndecidedForward}
use Rattle.vx_formula.specs.Clear.{IsFarFromStrikes, IsClearAt, IsClearIndex}
use Rattle.vx_formula.specs.Laws.{LiesInHalves}
use Rattle.vx_formula.proofs.Ends.{whole_below, whole_above, whole_at_most, whole_proper}
use Rattle.vx_formula.proofs.LevelLemmas.{brackets_of_term_meet, greatest_below_is_one}

-- some square meets both tests
pub record BothMet (P Q : Fraction → Type 0) : Type 0 where
  pub square : Fraction
  pub first : P square
  pub second : Q square

two_terms_meet_both : (near next : Term) (target : ℕ) (P Q : Fraction → Type 0) → HasSmallExponent near → HasSmallExponent next
    → TwoTermsMeet near next target P → TwoTermsMeet near next target Q → BothMet P Q
two_terms_meet_both near next target P Q small1 small2 h l =
    let c1 = brackets_of_term_meet near h.depth l.depth small1 in
    let c2 = brackets_of_term_meet next h.depth l.depth small2 in
    let a = h.holds c1.0 c2.0 c1.1 c2.1 in
    let b = l.holds c1.0 c2.0 c1.2 c2.2 in
    let k1 : l.near_level ≡ h.near_level = greatest_below_is_one near.rows (forward_at near.pair c1.0) l.near_level h.near_level b.near_level a.near_level in
    let k2 : l.next_level ≡ h.next_level = greatest_below_is_one next.rows (forward_at next.pair c2.0) l.next_level h.next_level b.next_level a.next_level in
    let At : ℕ → ℕ → Fraction = λ n m. index_square target (variance_at near n c1.0) near.minutes (variance_at next m c2.0) next.minutes in
    let F : ℕ → Type 0 = λ n. Q (At n l.next_level) in
    let G : ℕ → Type 0 = λ m. Q (At h.near_level m) in
    record {
      square = At h.near_level h.next_level;
      first = a.test;
      second = subst G k2 (subst F k1 b.test);
    }

one_term_meets_both : (term : Term) (P Q : Fraction → Type 0) → HasSmallExponent term → OneTermMeets term P → OneTermMeets term Q → BothMet P Q
one_term_meets_both term P Q small h l =
    let c = brackets_of_term_meet term h.depth l.depth small in
    let a = h.holds c.0 c.1 in
    let b = l.holds c.0 c.2 in
    let k : l.level ≡ h.level = greatest_below_is_one term.rows (forward_at term.pair c.0) l.level h.level b.level a.level in
    let F : ℕ → Type 0 = λ n. Q (single_square (variance_at term n c.0)) in
    record { square = single_square (variance_at term h.level c.0); first = a.test; second = subst F k b.test }

pub square_meets_both : (basis : Basis) (P Q : Fraction → Type 0) → HasSmallExponents basis → SquareMeets basis P → SquareMeets basis Q → BothMet P Q
square_meets_both (TwoTerms near next target) P Q small h l = two_terms_meet_both near next target P Q small.0 small.1 h l
square_meets_both (OneTerm term) P Q small h l = one_term_meets_both term P Q small h l

-- ---- one figure

-- twice a greater figure less one is at least twice the lesser one and one more
lower_half_above : (c d : ℕ) (x : Fraction) → c < d → RoundsAt c x → RoundsAt d x → ⊥
lower_half_above c d x less h l =
    let apart : 2 * c + 1 ≤ 2 * d - 1 = omega arith in
    let squares : (2 * c + 1) * (2 * c + 1) ≤ (2 * d - 1) * (2 * d - 1) = mul-le-mul apart apart in
    let turned : pos ((2 * d - 1) * (2 * d - 1)) <ℤ pos ((2 * c + 1) * (2 * c + 1)) =
    whole_below (pos ((2 * d - 1) * (2 * d - 1))) (pos ((2 * c + 1) * (2 * c + 1))) (whole (pos (4 * 10 ^ 8)) *ᶠ x) l.at_least h.below in
    omega (arith, ints)

pub rounds_at_one : (c d : ℕ) (x : Fraction) → RoundsAt c x → RoundsAt d x → c ≡ d
rounds_at_one c d x h l =
    elim (cases_order c d) [
      | inl e ↦ e
      | inr apart ↦ elim apart [ inl less ↦ absurd (lower_half_above c d x less h l) | inr more ↦ absurd (lower_half_above d c x more l h) ]
    ]

pub figure_is_one : (basis : Basis) (c d : ℕ) → HasSmallExponents basis → Rounds basis c → Rounds basis d → c ≡ d
figure_is_one basis c d small h l =
    let both = square_meets_both basis (RoundsAt c) (RoundsAt d) small h l in
    rounds_at_one c d both.square both.first both.second

-- ---- the figure in the unit of the printed ends

five_thousand_squared : (m : ℕ) → (5000 * m) * (5000 * m) ≡ 25000000 * (m * m)
five_thousand_squared m = omega arith

low_squared : (c : ℕ) → (CENT * c - HALF_CENT) * (CENT * c - HALF_CENT) ≡ 25000000 * ((2 * c - 1) * (2 * c - 1))
low_squared c = let e : CENT * c - HALF_CENT ≡ 5000 * (2 * c - 1) = omega arith in ap (λ n. n * n) e ∙ five_thousand_squared (2 * c - 1)

high_squared : (c : ℕ) → (CENT * c + HALF_CENT) * (CENT * c + HALF_CENT) ≡ 25000000 * ((2 * c + 1) * (2 * c + 1))
high_squared c = let e : CENT * c + HALF_CENT ≡ 5000 * (2 * c + 1) = omega arith in ap (λ n. n * n) e ∙ five_thousand_squared (2 * c + 1)

-- a square a is 25,000,000 times a square b, at a fraction t/n
scaled_low : (a b n : ℕ) (t : ℤ) → a ≡ 25000000 * b → pos (b * n) ≤ℤ (pos (4 * 10 ^ 8) *ℤ t) → pos (a * n) ≤ℤ (pos (10 ^ 16) *ℤ t)
scaled_low a b n t e h = let s : a * n ≡ 25000000 * (b * n) = ap (λ z. z * n) e ∙ omega arith in omega (arith, ints)

low_scaled : (a b n : ℕ) (t : ℤ) → a ≡ 25000000 * b → pos (a * n) ≤ℤ (pos (10 ^ 16) *ℤ t) → pos (b * n) ≤ℤ (pos (4 * 10 ^ 8) *ℤ t)
low_scaled a b n t e h = let s : a * n ≡ 25000000 * (b * n) = ap (λ z. z * n) e ∙ omega arith in omega (arith, ints)

scaled_high : (a b n : ℕ) (t : ℤ) → a ≡ 25000000 * b → (pos (4 * 10 ^ 8) *ℤ t) <ℤ pos (b * n) → (pos (10 ^ 16) *ℤ t) <ℤ pos (a * n)
scaled_high a b n t e h = let s : a * n ≡ 25000000 * (b * n) = ap (λ z. z * n) e ∙ omega arith in omega (arith, ints)

high_scaled : (a b n : ℕ) (t : ℤ) → a ≡ 25000000 * b → (pos (10 ^ 16) *ℤ t) <ℤ pos (a * n) → (pos (4 * 10 ^ 8) *ℤ t) <ℤ pos (b * n)
high_scaled a b n t e h = let s : a * n ≡ 25000000 * (b * n) = ap (λ z. z * n) e ∙ omega arith in omega (arith, ints)

-- the two forms of a comparison with a multiple of x, with and without factors 1
module _ (a k : ℕ) (x : Fraction) where
  low_plain : whole (pos a) ≤ᶠ (whole (pos k) *ᶠ x) → pos (a * (1 * x.bottom)) ≤ℤ (pos k *ℤ x.top)
  low_plain h = omega (arith, ints)

  plain_low : pos (a * (1 * x.bottom)) ≤ℤ (pos k *ℤ x.top) → whole (pos a) ≤ᶠ (whole (pos k) *ᶠ x)
  plain_low h = omega (arith, ints)

  high_plain : (whole (pos k) *ᶠ x) <ᶠ whole (pos a) → (pos k *ℤ x.top) <ℤ pos (a * (1 * x.bottom))
  high_plain h = omega (arith, ints)

  plain_high : (pos k *ℤ x.top) <ℤ pos (a * (1 * x.bottom)) → (whole (pos k) *ᶠ x) <ᶠ whole (pos a)
  plain_high h = omega (arith, ints)

pub rounding_is_half_open : (c : ℕ) (x : Fraction) → RoundsAt c x ↔ LiesInHalves c x
rounding_is_half_open c x =
    let a = (CENT * c - HALF_CENT) * (CENT * c - HALF_CENT) in
    let b = (2 * c - 1) * (2 * c - 1) in
    let d = (CENT * c + HALF_CENT) * (CENT * c + HALF_CENT) in
    let f = (2 * c + 1) * (2 * c + 1) in
    let n = 1 * x.bottom in (
      (λ h. record {
        from_half_below = plain_low a (10 ^ 16) x (scaled_low a b n x.top (low_squared c) (low_plain b (4 * 10 ^ 8) x h.at_least));
        below_half_above = plain_high d (10 ^ 16) x (scaled_high d f n x.top (high_squared c) (high_plain f (4 * 10 ^ 8) x h.below));
      }),
      (λ h. record {
        at_least = plain_low b (4 * 10 ^ 8) x (low_scaled a b n x.top (low_squared c) (low_plain a (10 ^ 16) x h.from_half_below));
        below = plain_high f (4 * 10 ^ 8) x (high_scaled d f n x.top (high_squared c) (high_plain d (10 ^ 16) x h.below_half_above));
      }),
    )

pub figure_lies_in_ends : (basis : Basis) (c : ℕ) (lo hi : ℤ) → HasSmallExponents basis → Rounds basis c → Between basis lo hi
    → (lo <ℤ pos (CENT * c + HALF_CENT)) × (pos (CENT * c - HALF_CENT) ≤ℤ hi)
figure_lies_in_ends basis c lo hi small h l =
    let both = square_meets_both basis (RoundsAt c) (BetweenAt lo hi) small h l in
    let x = both.square in
    let in_units = whole (pos (10 ^ 16)) *ᶠ x in
    let halves : LiesInHalves c x = (rounding_is_half_open c x).0 both.first in
    let low = pos (CENT * c - HALF_CENT) in
    let high = pos (CENT * c + HALF_CENT) in (
      signed_square_cancel_strict lo high (whole_below (signed_square lo) (signed_square high) in_units both.second.at_least halves.below_half_above),
      signed_square_cancel low hi (whole_at_most (signed_square low) (signed_square hi) in_units
          (whole_proper (signed_square low) (signed_square high) in_units halves.from_half_below halves.below_half_above)
          halves.from_half_below both.second.at_most),
    )

pub figure_is_not_negative : (basis : Basis) (c : ℕ) → HasSmallExponents basis → Rounds basis c → SquareMeets basis IsNegative → ⊥
figure_is_not_negative basis c small h l =
    let both = square_meets_both basis (RoundsAt c) IsNegative small h l in
    let x = both.square in
    let low : pos (((2 * c - 1) * (2 * c - 1)) * (1 * x.bottom)) ≤ℤ (pos (4 * 10 ^ 8) *ℤ x.top) = low_plain ((2 * c - 1) * (2 * c - 1)) (4 * 10 ^ 8) x both.first.at_least in
    let negative : (x.top *ℤ pos 1) <ℤ (pos 0 *ℤ pos x.bottom) = both.second in
    omega (arith, ints)

-- ---- what is clear is decided

pub clear_index_is_decided : (basis : Basis) (lo hi : ℤ) → HasSmallExponents basis → IsClearIndex basis → UndecidedCents basis lo hi → ⊥
clear_index_is_decided basis lo hi small clear h =
    let both = square_meets_both basis (BetweenAt lo hi) IsClearAt small h.between clear in
    let x = both.square in
    let in_units = whole (pos (10 ^ 16)) *ᶠ x in
    let b = h.straddles.boundary in
    let narrow = h.narrow in
    let above = h.straddles.above in
    let at_most = h.straddles.at_most in
    let up = b +ℤ pos INDEX_WIDTH_MAX in
    let down = b -ℤ pos INDEX_WIDTH_MAX in
    elim (both.second b h.straddles.is_boundary) [
      | inl far ↦ let less : up <ℤ hi = signed_square_cancel_strict up hi (whole_above (signed_square up) (signed_square hi) in_units far both.first.at_most) in omega (arith, ints)
      | inr far ↦ let less : lo <ℤ down = signed_square_cancel_strict lo down (whole_below (signed_square lo) (signed_square down) in_units both.first.at_least far) in omega (arith, ints)
    ]

pub far_forward_is_decided : (term : Term) (strike : ℕ) (lo hi : ℤ) → HasSmallExponent term → IsFarFromStrikes term → UndecidedForward term strike lo hi → ⊥
far_forward_is_decided term strike lo hi small far h =
    let common = brackets_of_term_meet term far.depth h.between.depth small in
    let at = forward_units term common.0 in
    let narrow = h.narrow in
    let above = h.straddles.above in
    let at_most = h.straddles.at_most in
    let s = pos FORWARD_UNITS *ℤ pos strike in
    let low = h.between.at_least common.0 common.2 in
    let high = h.between.at_most common.0 common.2 in
    elim (far.holds common.0 common.1 strike h.listed) [
      | inl up ↦ let less : (s +ℤ pos FORWARD_WIDTH_MAX) <ℤ hi = whole_above (s +ℤ pos FORWARD_WIDTH_MAX) hi at up high in omega (arith, ints)
      | inr down ↦ let less : lo <ℤ (s -ℤ pos FORWARD_WIDTH_MAX) = whole_below lo (s -ℤ pos FORWARD_WIDTH_MAX) at low down in omega (arith, ints)
    ]
