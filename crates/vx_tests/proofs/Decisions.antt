-- Each computed test decides what the certificate's test says.
use Rattle.std.proofs.Common.{◌≡◌, ℕ, ◌*◌, ◌^◌, ◌<◌, ◌≤◌, ◌⊎◌, List, [], ◌∷◌, map, refl, sym, ◌∙◌, ap, subst, inl, inr, arith}
use Rattle.std.proofs.Common.{Bool, true, false, cond, not, ◌&&◌, ◌||◌, ◌==◌, nat_lt, nat_le, nat_abs, int_lt, int_le, ℤ, pos, ◌≤ℤ◌, ◌<ℤ◌, Decides, T}
use Rattle.std.specs.List.{All, AllByRecursion, filter, list_any, list_all}
use Rattle.std.specs.Int.Signed.{le_z_yes, lt_z_yes}
use Rattle.std.specs.Ordering.{int_eq}
use Rattle.std.proofs.lemmas.Float.{T_from_true}
use Rattle.std.proofs.lemmas.Bool.{le-leb, leb-true, cases_lt}
use Rattle.std.proofs.lemmas.Bool.Decides.{Decides-at, Decides-like, Decides-and, Decides-or, Decides-eqb, Decides-int_eq, Decides-ltb, Decides-by_and}
use Rattle.std.proofs.lemmas.List.Elements.{All-from_recursion, recursion_from_All}
use Rattle.vx_symbol.specs.declared.rows.StrikeRow.{StrikeRow}
use Rattle.vx_cert.specs.declared.certificate.Pair.{Pair as CertPair}
use Rattle.vx_formula.specs.Pair.{Pair, pair_of, is_both_live, live_pairs, IsAsClose, IsClosestPair}
use Rattle.vx_formula.specs.Level.{strikes, IsListed}
use Rattle.vx_formula.proofs.Lists.{In, in_from_contains, contains_from_in, in_map, map_in, all_in, all_from_in}
use Rattle.vx_claims.specs.TermTests.{stated_pair, HasStrikeAbove}
use Rattle.vx_tests.specs.Rows.{is_pair_of_row, is_as_close, has_strike, is_other_above, is_just_above}

-- ---- tests of numbers

pub decides_le : (a b : ℕ) → Decides (nat_le a b) (a ≤ b)
decides_le a b = (leb-true a b, le-leb a b)

true_from_T : (b : Bool) → T b → b ≡ true
true_from_T true t = refl
true_from_T false t = absurd t

pub decides_int_le : (a b : ℤ) → Decides (int_le a b) (a ≤ℤ b)
decides_int_le a b = (λ e. le_z_yes (T_from_true (int_le a b) e), λ h. true_from_T (int_le a b) h.le)

pub decides_int_lt : (a b : ℤ) → Decides (int_lt a b) (a <ℤ b)
decides_int_lt a b = (λ e. lt_z_yes (T_from_true (int_lt a b) e), λ h. true_from_T (int_lt a b) h.lt)

-- ---- the closest pair

abbrev pair_at : ℕ → ℤ → Pair
pair_at strike d = record { strike = strike; d = d }

same_pair : (a b : ℕ) (c d : ℤ) → Decides ((a == b) && int_eq c d) (pair_at a c ≡ pair_at b d)
same_pair a b c d =
    Decides-like ((a == b) && int_eq c d)
    (λ h. ap (λ k. pair_at k c) h.0 ∙ ap (pair_at b) h.1)
    (λ e. (ap (λ (p : Pair). p.strike) e, ap (λ (p : Pair). p.d) e))
    (Decides-and (a == b) (int_eq c d) (Decides-eqb a b) (Decides-int_eq c d))

-- a row before the others, of which b says whether both its sides are live
pair_step : (b : Bool) (row : StrikeRow) (pair : CertPair) (rest : List StrikeRow) (more : Bool)
    → Decides more (In (map pair_of rest) (stated_pair pair))
    → Decides ((b && (row.strike == pair.strike) && int_eq (pair_of row).d pair.d) || more) (In (map pair_of (cond b (row ∷ rest) rest)) (stated_pair pair))
pair_step true row pair rest more h =
    Decides-or ((row.strike == pair.strike) && int_eq (pair_of row).d pair.d) more (same_pair row.strike pair.strike (pair_of row).d pair.d) h
pair_step false row pair rest more h = h

pair_is_in : (pair : CertPair) (rows : List StrikeRow) → Decides (list_any (is_pair_of_row pair) rows) (In (live_pairs rows) (stated_pair pair))
pair_is_in pair [] = (λ e. cc, λ h. absurd h)
pair_is_in pair (row ∷ rows) = pair_step (is_both_live row) row pair (filter is_both_live rows) (list_any (is_pair_of_row pair) rows) (pair_is_in pair rows)

close_step : (b : Bool) (row : StrikeRow) (pair : CertPair) (rest : List StrikeRow) (more : Bool)
    → Decides more (AllByRecursion (IsAsClose (stated_pair pair)) (map pair_of rest))
    → Decides
    ((not b || nat_lt (nat_abs pair.d) (nat_abs (pair_of row).d) || ((nat_abs pair.d == nat_abs (pair_of row).d) && nat_le pair.strike row.strike)) && more)
    (AllByRecursion (IsAsClose (stated_pair pair)) (map pair_of (cond b (row ∷ rest) rest)))
close_step true row pair rest more h =
    let stated = nat_abs pair.d in
    let other = nat_abs (pair_of row).d in
    let tie = Decides-and (stated == other) (nat_le pair.strike row.strike) (Decides-eqb stated other) (decides_le pair.strike row.strike) in
    let close = Decides-or (nat_lt stated other) ((stated == other) && nat_le pair.strike row.strike) (Decides-ltb stated other) tie in
    Decides-and (nat_lt stated other || ((stated == other) && nat_le pair.strike row.strike)) more close h
close_step false row pair rest more h = h

all_close : (pair : CertPair) (rows : List StrikeRow) → Decides (list_all (is_as_close pair) rows) (AllByRecursion (IsAsClose (stated_pair pair)) (live_pairs rows))
all_close pair [] = (λ e. tt, λ h. refl)
all_close pair (row ∷ rows) = close_step (is_both_live row) row pair (filter is_both_live rows) (list_all (is_as_close pair) rows) (all_close pair rows)

pub closest_decides : (pair : CertPair) (rows : List StrikeRow) → Decides (list_any (is_pair_of_row pair) rows && list_all (is_as_close pair) rows) (IsClosestPair rows (stated_pair pair))
closest_decides pair rows =
    let among = pair_is_in pair rows in
    let close = all_close pair rows in
    Decides-like (list_any (is_pair_of_row pair) rows && list_all (is_as_close pair) rows)
    (λ h. record {
      among = contains_from_in (live_pairs rows) (stated_pair pair) h.0;
      closest = All-from_recursion (IsAsClose (stated_pair pair)) (live_pairs rows) h.1;
    })
    (λ (h : IsClosestPair rows (stated_pair pair)). (
      in_from_contains (live_pairs rows) (stated_pair pair) h.among,
      recursion_from_All (IsAsClose (stated_pair pair)) (live_pairs rows) h.closest,
    ))
    (Decides-and (list_any (is_pair_of_row pair) rows) (list_all (is_as_close pair) rows) among close)

-- ---- the level

strike_is_in : (k : ℕ) (rows : List StrikeRow) → Decides (list_any (has_strike k) rows) (In (strikes rows) k)
strike_is_in k [] = (λ e. cc, λ h. absurd h)
strike_is_in k (row ∷ rows) = Decides-or (row.strike == k) (list_any (has_strike k) rows) (Decides-eqb row.strike k) (strike_is_in k rows)

pub listed_decides : (k : ℕ) (rows : List StrikeRow) → Decides (list_any (has_strike k) rows) (IsListed rows k)
listed_decides k rows =
    Decides-like (list_any (has_strike k) rows) (contains_from_in (strikes rows) k) (in_from_contains (strikes rows) k) (strike_is_in k rows)

-- a strike above the level is above the forward
abbrev IsAbove : ℕ → ℤ → ℕ → ℕ → Type 0
IsAbove P f k0 strike = k0 < strike → f <ℤ pos (strike * 2 ^ P)

above_decides : (P : ℕ) (f : ℤ) (k0 strike : ℕ) → Decides (nat_le strike k0 || int_lt f (pos (strike * 2 ^ P))) (IsAbove P f k0 strike)
above_decides P f k0 strike =
    Decides-like (nat_le strike k0 || int_lt f (pos (strike * 2 ^ P)))
    (λ h above. elim h [ inl below ↦ absurd (omega arith) | inr less ↦ less ])
    (λ h. elim (cases_lt k0 strike) [ inl above ↦ inr (h above) | inr below ↦ inl below ])
    (Decides-or (nat_le strike k0) (int_lt f (pos (strike * 2 ^ P))) (decides_le strike k0) (decides_int_lt f (pos (strike * 2 ^ P))))

pub others_decide : (P : ℕ) (f : ℤ) (k0 : ℕ) (rows : List StrikeRow) → Decides (list_all (is_other_above P f k0) rows) ((strike : ℕ) → IsListed rows strike → IsAbove P f k0 strike)
others_decide P f k0 rows =
    let A : StrikeRow → Type 0 = λ row. IsAbove P f k0 row.strike in
    let each : (row : StrikeRow) → Decides (is_other_above P f k0 row) (A row) = λ row. above_decides P f k0 row.strike in
    Decides-like (list_all (is_other_above P f k0) rows)
    (λ (h : All A rows). λ strike listed.
    let found = in_map (λ (row : StrikeRow). row.strike) rows strike (in_from_contains (strikes rows) strike listed) in
    subst (IsAbove P f k0) found.2 (all_in A rows found.0 h found.1))
    (λ (h : (strike : ℕ) → IsListed rows strike → IsAbove P f k0 strike).
    all_from_in A rows (λ row among. h row.strike (contains_from_in (strikes rows) row.strike (map_in (λ (row : StrikeRow). row.strike) rows row among))))
    (Decides-by_and (is_other_above P f k0) A (list_all (is_other_above P f k0)) each refl (λ _ _. refl) rows)

-- ---- a strike above the level

just_above_in : (k0 : ℕ) (rows : List StrikeRow) → Decides (list_any (is_just_above k0) rows) ((row : StrikeRow) × In rows row × ((k0 < row.strike) × (row.strike ≤ 2 * k0)))
just_above_in k0 [] = (λ e. cc, λ h. absurd h.1)
just_above_in k0 (row ∷ rows) =
    let here = Decides-and (nat_lt k0 row.strike) (nat_le row.strike (2 * k0)) (Decides-ltb k0 row.strike) (decides_le row.strike (2 * k0)) in
    Decides-like (is_just_above k0 row || list_any (is_just_above k0) rows)
    (λ h. elim h [ inl at ↦ (row, inl refl, at) | inr later ↦ (later.0, inr later.1, later.2) ])
    (λ h. just_above_split k0 row rows h.0 h.1 h.2)
    (Decides-or (is_just_above k0 row) (list_any (is_just_above k0) rows) here (just_above_in k0 rows))
  where
    just_above_split : (k0 : ℕ) (row : StrikeRow) (rows : List StrikeRow) (found : StrikeRow) → In (row ∷ rows) found → (k0 < found.strike) × (found.strike ≤ 2 * k0)
        → ((k0 < row.strike) × (row.strike ≤ 2 * k0)) ⊎ ((r : StrikeRow) × In rows r × ((k0 < r.strike) × (r.strike ≤ 2 * k0)))
    just_above_split k0 row rows found (inl same) h = let P : StrikeRow → Type 0 = λ r. (k0 < r.strike) × (r.strike ≤ 2 * k0) in inl (subst P (sym same) h)
    just_above_split k0 row rows found (inr later) h = inr (found, later, h)

pub above_listed : (k0 : ℕ) (rows : List StrikeRow) → Decides (list_any (is_just_above k0) rows) (HasStrikeAbove rows k0)
above_listed k0 rows =
    Decides-like (list_any (is_just_above k0) rows)
    (λ h. (h.0.strike, contains_from_in (strikes rows) h.0.strike (map_in (λ (row : StrikeRow). row.strike) rows h.0 h.1), h.2.0, h.2.1))
    (λ (h : HasStrikeAbove rows k0).
    let found = in_map (λ (row : StrikeRow). row.strike) rows h.0 (in_from_contains (strikes rows) h.0 h.1) in
    let P : ℕ → Type 0 = λ k. (k0 < k) × (k ≤ 2 * k0) in
    (found.0, found.1, subst P (sym found.2) (h.2, h.3)))
    (just_above_in k0 rows)

-- ---- tests joined one after another

pub and_then : (a b first second : Bool) (P : Type 0) → Decides (first && second) P → a ≡ first → b ≡ second → a ≡ true → Decides b P
and_then a b first second P h p q is =
    Decides-at b (first && second) (q ∙ sym (ap (λ t. t && second) (sym p ∙ is))) h

pub and_else : (a first second : Bool) (P : Type 0) → Decides (first && second) P → a ≡ first → a ≡ false → Decides a P
and_else a first second P h p is =
    Decides-at a (first && second) (is ∙ sym (ap (λ t. t && second) (sym p ∙ is))) h
