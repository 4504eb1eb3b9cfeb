-- A run's strip, its contributions and their sum pass the tests of a certificate's.
use Rattle.std.proofs.Common.{◌≡◌, ◌∙◌, sym, ap, subst, refl, ℕ, ◌+◌, ◌-◌, ◌*◌, ◌/◌, ◌^◌, ◌<◌, ◌≤◌, ◌⊎◌, inl, inr, true, ◌&&◌, List, [], ◌∷◌, map, Option, Some, None, mul-pos, le_trans, arith}
use Rattle.std.specs.List.{All, Any, sum_by}
use Rattle.std.proofs.lemmas.Int.{ints}
use Rattle.std.proofs.Math.Nat.{div-mul-le_self, mod-lt, le_of_mul-le-mul_right}
use Rattle.std.proofs.lemmas.Bool.{cases_Bool, cases_lt}
use Rattle.std.proofs.lemmas.Nat.{div-add-mod'}
use Rattle.std.proofs.lemmas.List.Sums.{sum_by-cons}
use Rattle.vx_symbol.specs.declared.rows.StrikeRow.{StrikeRow}
use Rattle.vx_symbol.specs.Rows.{AreLawfulRows, IsLawfulRow}
use Rattle.vx_formula.specs.declared.limits.TheConstants.{STRIP_TOTAL_MAX}
use Rattle.vx_formula.specs.Level.{strikes, IsListed}
use Rattle.vx_formula.specs.Selection.{selected_rows}
use Rattle.vx_formula.specs.Strip.{StripEntry, strip, entries_after, upper_end, upper_total}
use Rattle.vx_formula.specs.Refusal.{LacksMoney}
use Rattle.vx_formula.proofs.Lists.{In, in_from_contains, contains_from_in, in_map, map_in, all_in, all_from_in}
use Rattle.vx_strip.specs.declared.strip.StripRow.{StripRow}
use Rattle.vx_strip.specs.Entries.{entry_of}
use Rattle.vx_strip.specs.Refusals.{HasNoStripRefusal}
use Rattle.vx_sum.specs.declared.sum.SumRow.{SumRow}
use Rattle.vx_sum.specs.Sums.{lower_end, row_ends, total_ends}
use Rattle.vx_cert.specs.declared.rows.CertRow.{CertRow}
use Rattle.vx_claims.specs.TermTests.{stated_entry, IsStatedStrip, EnclosesContribution, EnclosesTotal}
use Rattle.vx_soundness.proofs.RowLemmas.{entry_is_listed}
use Rattle.vx_certify.specs.Certified.{certified_ends, certified_rows}

-- ---- the stated rows

-- what is stated of an entry
abbrev pub certified_entry : ℕ → StripEntry → CertRow
certified_entry P entry = record { strike = entry.strike; d = entry.d; q4 = entry.q4; lo = lower_end P entry; hi = upper_end P entry }

-- the rows of a strip with their contributions are what is stated of its entries
rows_are_entries : (P : ℕ) (rows : List StripRow) → certified_rows rows (map (row_ends P) (map entry_of rows)) ≡ map (certified_entry P) (map entry_of rows)
rows_are_entries P [] = refl
rows_are_entries P (row ∷ rows) = ap (λ l. certified_entry P (entry_of row) ∷ l) (rows_are_entries P rows)

-- the stated rows of a strip are its entries, each with its contribution rounded down and up
pub certified_is : (P : ℕ) (rows : List StripRow) (parts : List SumRow) (entries : List StripEntry) → map entry_of rows ≡ entries → parts ≡ map (row_ends P) (map entry_of rows)
    → certified_rows rows parts ≡ map (certified_entry P) entries
certified_is P rows parts entries is parts_are = ap (certified_rows rows) parts_are ∙ rows_are_entries P rows ∙ ap (map (certified_entry P)) is

stated_back : (P : ℕ) (entries : List StripEntry) → map stated_entry (map (certified_entry P) entries) ≡ entries
stated_back P [] = refl
stated_back P (entry ∷ entries) = ap (λ l. entry ∷ l) (stated_back P entries)

-- ---- one of a list

any_from_in : {X : Type 0} (Q : X → Type 0) (xs : List X) (x : X) → In xs x → Q x → Any Q xs
any_from_in Q xs x at h = let found = contains_from_in xs x at in (found.0, x, found.1, found.2, h)

-- the strikes of a strip are those of the selected rows
strikes_of_entries : (level : ℕ) (below : Option ℕ) (rows : List StrikeRow) (row : StrikeRow) → In rows row → (entry : StripEntry) × In (entries_after level below rows) entry × (entry.strike ≡ row.strike)
strikes_of_entries level below [] row h = elim h [ ]
strikes_of_entries level below (first ∷ rest) row (inl same) = (_, inl refl, ap (λ (r : StrikeRow). r.strike) same)
strikes_of_entries level below (first ∷ rest) row (inr later) = let found = strikes_of_entries level (Some first.strike) rest row later in (found.0, inr found.1, found.2)

-- where not all are at least k, one is less, and the other way round
none_or_one_below : (k : ℕ) (rows : List StrikeRow) → ((row : StrikeRow) → In rows row → k ≤ row.strike) ⊎ ((row : StrikeRow) × In rows row × (row.strike < k))
none_or_one_below k [] = inl (λ row h. elim h [ ])
none_or_one_below k (row ∷ rows) =
    elim (cases_lt row.strike k) [
      | inl less ↦ inr (row, inl refl, less)
      | inr more ↦ elim (none_or_one_below k rows) [
        | inl all ↦ inl (λ r at. elim at [ inl same ↦ subst (λ (x : StrikeRow). k ≤ x.strike) same more | inr later ↦ all r later ])
        | inr found ↦ inr (found.0, inr found.1, found.2)
      ]
    ]

-- all rows are at or below a strike, or one is above it
none_or_one_above : (k : ℕ) (rows : List StrikeRow) → ((row : StrikeRow) → In rows row → row.strike ≤ k) ⊎ ((row : StrikeRow) × In rows row × (k < row.strike))
none_or_one_above k [] = inl (λ row h. elim h [ ])
none_or_one_above k (row ∷ rows) =
    elim (cases_lt k row.strike) [
      | inl more ↦ inr (row, inl refl, more)
      | inr less ↦ elim (none_or_one_above k rows) [
        | inl all ↦ inl (λ r at. elim at [ inl same ↦ subst (λ (x : StrikeRow). x.strike ≤ k) same less | inr later ↦ all r later ])
        | inr found ↦ inr (found.0, inr found.1, found.2)
      ]
    ]

stated_strike : (P : ℕ) (Q : ℕ → Type 0) (rows : List StrikeRow) (k : ℕ) (row : StrikeRow) → In (selected_rows rows k) row → Q row.strike
    → Any (λ (c : CertRow). Q c.strike) (map (certified_entry P) (strip rows k))
stated_strike P Q rows k row at h =
    let found = strikes_of_entries k None (selected_rows rows k) row at in
    any_from_in (λ (c : CertRow). Q c.strike) (map (certified_entry P) (strip rows k)) (certified_entry P found.0) (map_in (certified_entry P) (strip rows k) found.0 found.1) (subst Q (sym found.2) h)

-- both sides of a listed level have a price
money_at : (rows : List StrikeRow) (k : ℕ) → IsListed rows k → ¬ LacksMoney rows k → Any (λ row. (row.strike ≡ k) × (row.put.there && row.call.there ≡ true)) rows
money_at rows k listed money =
    let found = in_map (λ (r : StrikeRow). r.strike) rows k (in_from_contains (strikes rows) k listed) in
    let row : StrikeRow = found.0 in
    elim (cases_Bool (row.put.there && row.call.there)) [
      | inl both ↦ any_from_in (λ r. (r.strike ≡ k) × (r.put.there && r.call.there ≡ true)) rows row found.1 (found.2, both)
      | inr lacks ↦ absurd (money (record { row = row; listed = contains_from_in rows row found.1; at_level = found.2; lacks = lacks }))
    ]

-- the stated rows are the strip, with a row on either side of the level
pub strip_is_stated : (P : ℕ) (rows : List StrikeRow) (k : ℕ) → IsListed rows k → HasNoStripRefusal rows k → IsStatedStrip rows k (map (certified_entry P) (strip rows k))
strip_is_stated P rows k listed none =
    record {
      is_strip = stated_back P (strip rows k);
      has_money = money_at rows k listed none.has_money;
      has_put = elim (none_or_one_below k (selected_rows rows k)) [
        | inl all ↦ absurd (none.has_put (all_from_in (λ (r : StrikeRow). k ≤ r.strike) (selected_rows rows k) all))
        | inr found ↦ stated_strike P (λ s. s < k) rows k found.0 found.1 found.2
      ];
      has_call = elim (none_or_one_above k (selected_rows rows k)) [
        | inl all ↦ absurd (none.has_call (all_from_in (λ (r : StrikeRow). r.strike ≤ k) (selected_rows rows k) all))
        | inr found ↦ stated_strike P (λ s. k < s) rows k found.0 found.1 found.2
      ];
    }

-- ---- the contributions

-- a quotient rounded down and one rounded up, multiplied back
round_up : (n d : ℕ) → 0 < d → n ≤ (n + (d - 1)) / d * d
round_up n d positive =
    let parts = div-add-mod' (n + (d - 1)) d in
    let small = mod-lt (n + (d - 1)) positive in
    omega (arith, parts, small)

-- a quotient rounded down is at most the same rounded up
pub rounded_in_order : (n d : ℕ) → 0 < d → n / d ≤ (n + (d - 1)) / d
rounded_in_order n d positive =
    let low = div-mul-le_self n d in
    let high = round_up n d positive in
    le_of_mul-le-mul_right (le_trans low high) positive

one_of_sum : {X : Type 0} (f : X → ℕ) (xs : List X) (x : X) → In xs x → f x ≤ sum_by f xs
one_of_sum f [] x h = elim h [ ]
one_of_sum f (y ∷ ys) x (inl same) = let more = sum_by-cons f y ys in let here = ap f same in omega (arith, more, here)
one_of_sum f (y ∷ ys) x (inr later) = let more = sum_by-cons f y ys in let less = one_of_sum f ys x later in omega (arith, more, less)

-- each entry's strike is a listed one
pub entry_strike : (rows : List StrikeRow) (k : ℕ) (entry : StripEntry) → AreLawfulRows rows → In (strip rows k) entry → 1 ≤ entry.strike
entry_strike rows k entry lawful at =
    let listed = entry_is_listed rows k entry at in
    let found = in_map (λ (r : StrikeRow). r.strike) rows entry.strike (in_from_contains (strikes rows) entry.strike listed) in
    let row = all_in IsLawfulRow rows found.0 lawful.each found.1 in
    let low = row.strike_min in
    let same = found.2 in
    omega (arith, low, same)

contribution_is_enclosed : (P : ℕ) (entry : StripEntry) → 1 ≤ entry.strike → upper_end P entry ≤ STRIP_TOTAL_MAX * 2 ^ P → EnclosesContribution P (certified_entry P entry)
contribution_is_enclosed P entry some range =
    let square : 0 < entry.strike * entry.strike = mul-pos (omega (arith, some)) (omega (arith, some)) in
    let d : ℕ = 4 * (entry.strike * entry.strike) in
    let n : ℕ = 5 * (entry.d * entry.q4) * 2 ^ P in
    let positive : 0 < d = omega (arith, square) in
    record { in_order = rounded_in_order n d positive; in_range = range; low = div-mul-le_self n d; high = round_up n d positive }

-- each stated contribution lies between its ends
pub contributions_are_enclosed : (P : ℕ) (rows : List StrikeRow) (k : ℕ) → AreLawfulRows rows → upper_total P (strip rows k) ≤ STRIP_TOTAL_MAX * 2 ^ P
    → All (EnclosesContribution P) (map (certified_entry P) (strip rows k))
contributions_are_enclosed P rows k lawful accepted =
    all_from_in (EnclosesContribution P) (map (certified_entry P) (strip rows k)) (λ c at.
    let found = in_map (certified_entry P) (strip rows k) c at in
    let part = one_of_sum (upper_end P) (strip rows k) found.0 found.1 in
    subst (EnclosesContribution P) found.2 (contribution_is_enclosed P found.0 (entry_strike rows k found.0 lawful found.1) (omega (arith, part, accepted))))

-- ---- their sum

sum_of_mapped : {X Y : Type 0} (f : Y → ℕ) (g : X → Y) (h : X → ℕ) → ((x : X) → f (g x) ≡ h x) → (xs : List X) → sum_by f (map g xs) ≡ sum_by h xs
sum_of_mapped f g h same [] = refl
sum_of_mapped f g h same (x ∷ xs) =
    let left = sum_by-cons f (g x) (map g xs) in
    let right = sum_by-cons h x xs in
    let here = same x in
    let rest = sum_of_mapped f g h same xs in
    omega (arith, left, right, here, rest)

-- the stated sum is that of the stated contributions
pub total_is_enclosed : (P : ℕ) (entries : List StripEntry) → upper_total P entries ≤ STRIP_TOTAL_MAX * 2 ^ P
    → EnclosesTotal P (map (certified_entry P) entries) (certified_ends (total_ends P entries))
total_is_enclosed P entries accepted =
    let low = sum_of_mapped (λ (c : CertRow). c.lo) (certified_entry P) (lower_end P) (λ x. refl) entries in
    let high = sum_of_mapped (λ (c : CertRow). c.hi) (certified_entry P) (upper_end P) (λ x. refl) entries in
    record { not_negative = omega (arith, ints); low = omega (arith, ints, low); high = omega (arith, ints, high); in_range = omega (arith, ints, accepted) }
