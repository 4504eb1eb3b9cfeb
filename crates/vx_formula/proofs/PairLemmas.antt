-- The closest pair is there where a pair is live, and is one.
use Rattle.std.proofs.Common.{◌≡◌, ◌<◌, ◌⊎◌, List, [], ◌∷◌, nat_abs, refl, sym, ◌∙◌, ap, subst, inl, inr, arith}
use Rattle.std.specs.List.{filter}
use Rattle.std.proofs.lemmas.Bool.{cases_order}
use Rattle.vx_symbol.specs.declared.rows.StrikeRow.{StrikeRow}
use Rattle.vx_formula.specs.Pair.{Pair, pair_of, is_both_live, live_pairs, IsAsClose, IsClosestPair}
use Rattle.vx_formula.specs.Level.{StrikesRise}
use Rattle.vx_formula.proofs.Lists.{In, in_from_contains, contains_from_in, in_map, in_filter, all_in, all_from_in, pairs_head, pairs_tail}

-- rows in rising order have one row of a strike
pub row_is_one : (rows : List StrikeRow) (a b : StrikeRow) → StrikesRise rows → In rows a → In rows b → a.strike ≡ b.strike → a ≡ b
row_is_one [] a b rise h k e = elim h [ ]
row_is_one (r ∷ rows) a b rise (inl p) (inl q) e = sym p ∙ q
row_is_one (r ∷ rows) a b rise (inl p) (inr k) e =
    let low : r.strike < b.strike = all_in (λ s. r.strike < s.strike) rows b (pairs_head (λ s t. s.strike < t.strike) r rows rise) k in
    let same : r.strike ≡ a.strike = ap (λ (s : StrikeRow). s.strike) p in
    absurd (omega arith)
row_is_one (r ∷ rows) a b rise (inr h) (inl q) e =
    let low : r.strike < a.strike = all_in (λ s. r.strike < s.strike) rows a (pairs_head (λ s t. s.strike < t.strike) r rows rise) h in
    let same : r.strike ≡ b.strike = ap (λ (s : StrikeRow). s.strike) q in
    absurd (omega arith)
row_is_one (r ∷ rows) a b rise (inr h) (inr k) e = row_is_one rows a b (pairs_tail (λ s t. s.strike < t.strike) r rows rise) h k e

-- a live pair is that of a row
pub row_of_pair : (rows : List StrikeRow) (p : Pair) → In (live_pairs rows) p → (row : StrikeRow) × In rows row × (pair_of row ≡ p)
row_of_pair rows p h =
    let found = in_map pair_of (filter is_both_live rows) p h in
    (found.0, (in_filter is_both_live rows found.0 found.1).0, found.2)

pub close_same_strike : (p q : Pair) → IsAsClose p q → IsAsClose q p → p.strike ≡ q.strike
close_same_strike p q (inl h) (inl k) = absurd (omega arith)
close_same_strike p q (inl h) (inr k) = absurd (omega arith)
close_same_strike p q (inr h) (inl k) = absurd (omega arith)
close_same_strike p q (inr h) (inr k) = omega arith

pub closest_pair_is_one : (rows : List StrikeRow) (p q : Pair) → StrikesRise rows → IsClosestPair rows p → IsClosestPair rows q → p ≡ q
closest_pair_is_one rows p q rise h k =
    let p_in = in_from_contains (live_pairs rows) p h.among in
    let q_in = in_from_contains (live_pairs rows) q k.among in
    let same = close_same_strike p q (all_in (IsAsClose p) (live_pairs rows) q h.closest q_in) (all_in (IsAsClose q) (live_pairs rows) p k.closest p_in) in
    let a = row_of_pair rows p p_in in
    let b = row_of_pair rows q q_in in
    let strikes_same : (a.0).strike ≡ (b.0).strike = ap (λ (s : Pair). s.strike) a.2 ∙ same ∙ sym (ap (λ (s : Pair). s.strike) b.2) in
    sym a.2 ∙ ap pair_of (row_is_one rows a.0 b.0 rise a.1 b.1 strikes_same) ∙ b.2

-- ---- there is one

-- a pair is as close as itself
pub close_refl : (p : Pair) → IsAsClose p p
close_refl p = inr (refl, omega arith)

-- of three pairs, the first as close as the second and the second as the third, the first is as close as the third
pub close_trans : (p q r : Pair) → IsAsClose p q → IsAsClose q r → IsAsClose p r
close_trans p q r (inl h) (inl k) = inl (omega arith)
close_trans p q r (inl h) (inr k) = inl (omega arith)
close_trans p q r (inr h) (inl k) = inl (omega arith)
close_trans p q r (inr h) (inr k) = inr (h.0 ∙ k.0, omega arith)

close_total : (p q : Pair) → IsAsClose p q ⊎ IsAsClose q p
close_total p q =
    elim (cases_order (nat_abs p.d) (nat_abs q.d)) [
      | inl e ↦ elim (cases_order p.strike q.strike) [
        | inl s ↦ inl (inr (e, omega arith))
        | inr s ↦ elim s [ inl less ↦ inl (inr (e, omega arith)) | inr more ↦ inr (inr (sym e, omega arith)) ]
      ]
      | inr d ↦ elim d [ inl less ↦ inl (inl less) | inr more ↦ inr (inl more) ]
    ]

pub record IsBest (ps : List Pair) (p : Pair) : Type 0 where
  pub among : In ps p
  pub best : (q : Pair) → In ps q → IsAsClose p q

take_better : (p : Pair) (ps : List Pair) (b : Pair) → IsBest ps b → (IsAsClose p b ⊎ IsAsClose b p) → (q : Pair) × IsBest (p ∷ ps) q
take_better p ps b h (inl first) = (
  p,
  record {
    among = inl refl;
    best = λ q k. elim k [ inl e ↦ subst (IsAsClose p) e (close_refl p) | inr later ↦ close_trans p b q first (h.best q later) ];
  },
)
take_better p ps b h (inr first) = (
  b,
  record {
    among = inr h.among;
    best = λ q k. elim k [ inl e ↦ subst (IsAsClose b) e first | inr later ↦ h.best q later ];
  },
)

best_of_pairs : (ps : List Pair) → (ps ≡ []) ⊎ ((p : Pair) × IsBest ps p)
best_of_pairs [] = inl refl
best_of_pairs (p ∷ []) = inr (p, record { among = inl refl; best = λ q k. elim k [ inl e ↦ subst (IsAsClose p) e (close_refl p) | inr none ↦ elim none [ ] ] })
best_of_pairs (p ∷ (q ∷ ps)) =
    elim (best_of_pairs (q ∷ ps)) [
      | inl none ↦ absurd (cc)
      | inr found ↦ inr (take_better p (q ∷ ps) found.0 found.1 (close_total p found.0))
    ]

pub closest_pair_is_there : (rows : List StrikeRow) → (live_pairs rows ≡ []) ⊎ ((p : Pair) × IsClosestPair rows p)
closest_pair_is_there rows =
    elim (best_of_pairs (live_pairs rows)) [
      | inl none ↦ inl none
      | inr found ↦ inr (
        found.0,
        record {
          among = contains_from_in (live_pairs rows) found.0 (found.1).among;
          closest = all_from_in (IsAsClose found.0) (live_pairs rows) (found.1).best;
        },
      )
    ]
