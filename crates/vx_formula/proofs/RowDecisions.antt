-- Each condition on the rows at a level holds or does not.
use Rattle.std.proofs.Common.{◌≡◌, ℕ, ◌*◌, ◌^◌, ◌<◌, ◌≤◌, ◌⊎◌, false, ◌&&◌, List, inl, inr, arith}
use Rattle.std.proofs.lemmas.Bool.{cases_lt, cases_eq, cases_Bool, both_ways}
use Rattle.vx_symbol.specs.declared.rows.StrikeRow.{StrikeRow}
use Rattle.vx_formula.specs.declared.limits.TheConstants.{STRIP_TOTAL_MAX}
use Rattle.vx_formula.specs.Level.{strikes}
use Rattle.vx_formula.specs.Selection.{selected_rows}
use Rattle.vx_formula.specs.Strip.{strip, upper_total}
use Rattle.vx_formula.specs.Refusal.{HasNoneAbove, LacksMoney, HasNoPut, HasNoCall, IsTooLarge}
use Rattle.vx_formula.proofs.Lists.{in_from_contains, contains_from_in, all_in, all_from_in}
use Rattle.vx_formula.proofs.BestOf.{some_or_none}

less_or_not : (a b : ℕ) → (a < b) ⊎ ¬ (a < b)
less_or_not a b = elim (cases_lt a b) [ inl less ↦ inl less | inr fine ↦ inr (λ h. omega arith) ]

-- above k and at most twice k
IsNear : ℕ → ℕ → Type 0
IsNear k strike = (k < strike) × (strike ≤ 2 * k)

near_or_not : (k strike : ℕ) → IsNear k strike ⊎ ¬ IsNear k strike
unfolding IsNear
near_or_not k strike =
    elim (cases_lt k strike) [
      | inl above ↦ elim (cases_lt (2 * k) strike) [ inl far ↦ inr (λ h. omega (arith, h.1)) | inr fine ↦ inl (above, fine) ]
      | inr low ↦ inr (λ h. omega (arith, h.0))
    ]

pub none_above_or_not : (rows : List StrikeRow) (k : ℕ) → HasNoneAbove rows k ⊎ ¬ HasNoneAbove rows k
unfolding IsNear
none_above_or_not rows k =
    elim (some_or_none (IsNear k) (near_or_not k) (strikes rows)) [
      | inl found ↦ inr (λ h. let far : 2 * k < found.0 = h found.0 (contains_from_in (strikes rows) found.0 found.1) found.2.0 in omega (arith, found.2.1))
      | inr none ↦ inl (λ strike listed above.
          elim (cases_lt (2 * k) strike) [ inl far ↦ far | inr fine ↦ absurd (none strike (in_from_contains (strikes rows) strike listed) (above, fine)) ])
    ]

-- the row of k, without the price of a side
Lacks : ℕ → StrikeRow → Type 0
Lacks k row = (row.strike ≡ k) × (row.put.there && row.call.there ≡ false)

lacks_or_not : (k : ℕ) (row : StrikeRow) → Lacks k row ⊎ ¬ Lacks k row
unfolding Lacks
lacks_or_not k row =
    elim (cases_eq row.strike k) [
      | inl at ↦ elim (cases_Bool (row.put.there && row.call.there)) [ inl both ↦ inr (λ h. both_ways (row.put.there && row.call.there) h.1 both) | inr lacks ↦ inl (at, lacks) ]
      | inr apart ↦ inr (λ h. apart h.0)
    ]

pub money_or_not : (rows : List StrikeRow) (k : ℕ) → LacksMoney rows k ⊎ ¬ LacksMoney rows k
unfolding Lacks
money_or_not rows k =
    elim (some_or_none (Lacks k) (lacks_or_not k) rows) [
      | inl found ↦ inl (record { row = found.0; listed = contains_from_in rows found.0 found.1; at_level = found.2.0; lacks = found.2.1 })
      | inr none ↦ inr (λ h. none h.row (in_from_contains rows h.row h.listed) (h.at_level, h.lacks))
    ]

pub put_or_not : (rows : List StrikeRow) (k : ℕ) → HasNoPut rows k ⊎ ¬ HasNoPut rows k
put_or_not rows k =
    let Low : StrikeRow → Type 0 = λ row. row.strike < k in
    let Fine : StrikeRow → Type 0 = λ row. k ≤ row.strike in
    elim (some_or_none Low (λ row. less_or_not row.strike k) (selected_rows rows k)) [
      | inl found ↦ inr (λ h. let fine : k ≤ (found.0).strike = all_in Fine (selected_rows rows k) found.0 h found.1 in omega (arith, found.2))
      | inr none ↦ inl (all_from_in Fine (selected_rows rows k) (λ row inside.
          elim (cases_lt row.strike k) [ inl low ↦ absurd (none row inside low) | inr fine ↦ fine ]))
    ]

pub call_or_not : (rows : List StrikeRow) (k : ℕ) → HasNoCall rows k ⊎ ¬ HasNoCall rows k
call_or_not rows k =
    let High : StrikeRow → Type 0 = λ row. k < row.strike in
    let Fine : StrikeRow → Type 0 = λ row. row.strike ≤ k in
    elim (some_or_none High (λ row. less_or_not k row.strike) (selected_rows rows k)) [
      | inl found ↦ inr (λ h. let fine : (found.0).strike ≤ k = all_in Fine (selected_rows rows k) found.0 h found.1 in omega (arith, found.2))
      | inr none ↦ inl (all_from_in Fine (selected_rows rows k) (λ row inside.
          elim (cases_lt k row.strike) [ inl high ↦ absurd (none row inside high) | inr fine ↦ fine ]))
    ]

pub large_or_not : (P : ℕ) (rows : List StrikeRow) (k : ℕ) → IsTooLarge P rows k ⊎ ¬ IsTooLarge P rows k
large_or_not P rows k = less_or_not (STRIP_TOTAL_MAX * 2 ^ P) (upper_total P (strip rows k))
