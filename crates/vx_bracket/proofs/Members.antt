-- The bracket's members: each is a positive fraction u/v, and the cleared sums bound it.
use Rattle.std.proofs.Common.{◌≡◌, ℕ, zero, suc, ◌+◌, ◌*◌, ◌<◌, ◌≤◌, ◌↔◌, ℤ, pos, negsuc, ◌*ℤ◌, ◌<ℤ◌, neg_ℤ, nat_abs, subst, arith, le_refl, le_antisymm}
use Rattle.std.proofs.Math.Nat.{le_of_mul-le-mul_left}
use Rattle.std.proofs.lemmas.Int.{ints}
use Rattle.vx_num.specs.Fraction.{Fraction}
use Rattle.vx_bracket.specs.Bracket.{IsBetweenSums, Bracket}
use Rattle.vx_bracket.specs.Cleared.{series_bottom, series_top, upper_top}
use Rattle.vx_bracket.specs.Laws.{BracketHasMember, BracketsNest, BracketsMeet, MembersArePositive, ZeroGivesOne, FormsAgreeAtZero}
use Rattle.vx_bracket.proofs.Cleared.{quotient_trans, bottom_positive, top_positive, low_nested, high_nested, low_below_high, top_at_zero, upper_at_zero}
use Rattle.vx_bracket.proofs.Series.{natural, IsBetweenCleared, between_cleared, cleared_between, between_positive}

-- ---- a bracket by the cleared sums

-- the bracket of p/q
pub bracket_up : (n p q u v : ℕ) → 0 < q → Bracket n (natural p q) (natural u v) → IsBetweenCleared n p q u v
bracket_up n p q u v hq h = between_cleared n p q u v hq (h.from_zero (omega (arith, ints)))

-- for an exponent that is not negative the cleared sums give the bracket
pub up_bracket : (n p q u v : ℕ) → 0 < q → 0 < v → IsBetweenCleared n p q u v → Bracket n (natural p q) (natural u v)
up_bracket n p q u v hq hv h = record {
  proper = hv;
  from_zero = λ _. cleared_between n p q u v hq h;
  below_zero = λ low. absurd (omega (arith, ints));
}

-- the bracket of -(p + 1)/q
pub bracket_down : (n p q u v : ℕ) → 0 < q → Bracket n (record { top = negsuc p; bottom = q }) (natural u v) → IsBetweenCleared n (suc p) q v u
bracket_down n p q u v hq h = between_cleared n (suc p) q v u hq ((h.below_zero (omega (arith, ints))).1)

-- for a negative one their reciprocals do
pub down_bracket : (n p q u v : ℕ) → 0 < q → 0 < u → 0 < v → IsBetweenCleared n (suc p) q v u → Bracket n (record { top = negsuc p; bottom = q }) (natural u v)
down_bracket n p q u v hq hu hv h = record {
  proper = hv;
  from_zero = λ low. absurd (omega (arith, ints));
  below_zero = λ _. (omega (arith, ints), cleared_between n (suc p) q v u hq h);
}

-- ---- members are positive

positive_at : (n : ℕ) (x : ℤ) (q : ℕ) (f : Fraction) → 0 < q → Bracket n (record { top = x; bottom = q }) f → pos 0 <ℤ f.top
positive_at n (pos p) q f hq h = between_positive n p q f hq h.proper (h.from_zero (omega (arith, ints)))
positive_at n (negsuc p) q f hq h = (h.below_zero (omega (arith, ints))).0

-- each member of a bracket is positive
pub members_are_positive : MembersArePositive
members_are_positive n x f hx h = positive_at n x.top x.bottom f hx h

-- ---- no bracket is empty

has_member_at : (n : ℕ) (x : ℤ) (q : ℕ) → 0 < q → (f : Fraction) × Bracket n (record { top = x; bottom = q }) f
has_member_at n (pos p) q hq = (
  natural (series_top p q n) (series_bottom q n),
  up_bracket n p q (series_top p q n) (series_bottom q n) hq (bottom_positive q n hq) (record { above_sum = le_refl (series_top p q n * series_bottom q n); below_upper = low_below_high p q n }),
)
has_member_at n (negsuc p) q hq = (
  natural (series_bottom q n) (series_top (suc p) q n),
  down_bracket n p q (series_bottom q n) (series_top (suc p) q n) hq (bottom_positive q n hq) (top_positive (suc p) q n hq)
      (record { above_sum = le_refl (series_top (suc p) q n * series_bottom q n); below_upper = low_below_high (suc p) q n }),
)

-- each bracket has a member
pub bracket_has_member : BracketHasMember
bracket_has_member n x hx = has_member_at n x.top x.bottom hx

-- ---- brackets nest

nest_cleared : (n m p q u v : ℕ) → 0 < q → p ≤ q → n ≤ m → IsBetweenCleared m p q u v → IsBetweenCleared n p q u v
nest_cleared n m p q u v hq hp le h = record {
  above_sum = quotient_trans (series_top p q n) (series_bottom q n) (series_top p q m) (series_bottom q m) u v (bottom_positive q m hq) (low_nested p q n m hq le) h.above_sum;
  below_upper = quotient_trans u v (upper_top p q m) (series_bottom q (suc m)) (upper_top p q n) (series_bottom q (suc n)) (bottom_positive q (suc m) hq) h.below_upper (high_nested p q n m hq hp le);
}

nest_at : (n m : ℕ) (x : ℤ) (q : ℕ) (u : ℤ) (v : ℕ) → 0 < q → nat_abs x ≤ q → n ≤ m → pos 0 <ℤ u
    → Bracket m (record { top = x; bottom = q }) (record { top = u; bottom = v })
    → Bracket n (record { top = x; bottom = q }) (record { top = u; bottom = v })
nest_at n m x q (negsuc u) v hq hx le hu h = absurd (omega (arith, ints))
nest_at n m (pos p) q (pos u) v hq hx le hu h = up_bracket n p q u v hq h.proper (nest_cleared n m p q u v hq hx le (bracket_up m p q u v hq h))
nest_at n m (negsuc p) q (pos u) v hq hx le hu h = down_bracket n p q u v hq (omega (arith, ints)) h.proper (nest_cleared n m (suc p) q v u hq hx le (bracket_down m p q u v hq h))

-- a bracket of more terms lies within one of fewer
pub brackets_nest : BracketsNest
brackets_nest n m x f hx one le h = nest_at n m x.top x.bottom f.top f.bottom hx one le (members_are_positive m x f hx h) h

-- so brackets of any two depths have a common member
pub brackets_meet : BracketsMeet
brackets_meet n m x hx one =
    let common = bracket_has_member (n + m) x hx in (
      common.0,
      brackets_nest n (n + m) x common.0 hx one (omega arith) common.1,
      brackets_nest m (n + m) x common.0 hx one (omega arith) common.1,
    )

-- ---- at exponent 0

one_at_zero : (n q u v : ℕ) → 0 < q → IsBetweenCleared n 0 q u v → u ≡ v
one_at_zero n q u v hq h =
    let b : 0 < series_bottom q n = bottom_positive q n hq in
    let b' : 0 < series_bottom q (suc n) = bottom_positive q (suc n) hq in
    let low : series_bottom q n * v ≤ u * series_bottom q n = rw (top_at_zero q n) at h.above_sum in
    let high : u * series_bottom q (suc n) ≤ series_bottom q (suc n) * v = rw (upper_at_zero q n) at h.below_upper in
    let less : series_bottom q n * v ≤ series_bottom q n * u = omega arith in
    let more : series_bottom q (suc n) * u ≤ series_bottom q (suc n) * v = omega arith in
    le_antisymm (le_of_mul-le-mul_left more b') (le_of_mul-le-mul_left less b)

zero_from_one : (n q u : ℕ) → IsBetweenCleared n 0 q u u
zero_from_one n q u = record {
  above_sum = rw (top_at_zero q n) (omega arith);
  below_upper = rw (upper_at_zero q n) (omega arith);
}

one_at : (n : ℕ) (x : ℤ) (q : ℕ) (u : ℤ) (v : ℕ) → 0 < q → x ≡ pos 0 → pos 0 <ℤ u → Bracket n (record { top = x; bottom = q }) (record { top = u; bottom = v }) → u *ℤ pos 1 ≡ pos 1 *ℤ pos v
one_at n x q (negsuc u) v hq e hu h = absurd (omega (arith, ints))
one_at n (negsuc p) q (pos u) v hq e hu h = absurd (omega (arith, ints))
one_at n (pos p) q (pos u) v hq e hu h =
    let none : p ≡ 0 = omega (arith, ints) in
    let P : ℕ → Type 0 = λ z. IsBetweenCleared n z q u v in
    let same : u ≡ v = one_at_zero n q u v hq (subst P none (bracket_up n p q u v hq h)) in
    omega (arith, ints)

-- at the exponent 0 the one member is 1
pub zero_gives_one : ZeroGivesOne
zero_gives_one n x f hx e h = one_at n x.top x.bottom f.top f.bottom hx e (members_are_positive n x f hx h) h

agree_there : (n q u v : ℕ) → 0 < q → IsBetweenSums n (natural 0 q) (natural u v) → IsBetweenSums n (natural 0 q) (natural v u)
agree_there n q u v hq h =
    let same : u ≡ v = one_at_zero n q u v hq (between_cleared n 0 q u v hq h) in
    let P : ℕ → Type 0 = λ z. IsBetweenSums n (natural 0 q) (natural z u) in
    subst P same (cleared_between n 0 q u u hq (zero_from_one n q u))

agree_at : (n : ℕ) (x : ℤ) (q : ℕ) (u : ℤ) (v : ℕ) → 0 < q → 1 ≤ v → x ≡ pos 0
    → IsBetweenSums n (record { top = x; bottom = q }) (record { top = u; bottom = v })
    ↔ ((pos 0 <ℤ u) × IsBetweenSums n (record { top = neg_ℤ x; bottom = q }) (record { top = pos v; bottom = nat_abs u }))
agree_at n (negsuc p) q u v hq hv e = absurd (omega (arith, ints))
agree_at n (pos (suc p)) q u v hq hv e = absurd (omega (arith, ints))
agree_at n (pos zero) q (pos u) v hq hv e =
    ((λ h. (between_positive n 0 q (natural u v) hq hv h, agree_there n q u v hq h)), (λ h. agree_there n q v u hq h.1))
agree_at n (pos zero) q (negsuc u) v hq hv e = (
  (λ h. let positive : pos 0 <ℤ negsuc u = between_positive n 0 q (record { top = negsuc u; bottom = v }) hq hv h in absurd (omega (arith, ints))),
  (λ h. let positive : pos 0 <ℤ negsuc u = h.0 in absurd (omega (arith, ints))),
)

-- there both forms of the bracket agree
pub forms_agree_at_zero : FormsAgreeAtZero
forms_agree_at_zero n x f hx hf e = agree_at n x.top x.bottom f.top f.bottom hx hf e
