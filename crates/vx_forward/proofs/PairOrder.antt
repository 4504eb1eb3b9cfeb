-- The order in which pairs are taken is reflexive and transitive, and the best row's pair is the closest pair.
use Rattle.std.proofs.Common.{◌≡◌, ℕ, true, List, [], ◌∷◌, length, get_or, slice_get, Option, Some, None, IfSome, IfNone, IsSomeAnd, All, false, refl, subst, inl, rules}
use Rattle.std.specs.List.{filter}
use Rattle.std.proofs.lemmas.Option.{slice_get-get_or}
use Rattle.vx_symbol.specs.declared.rows.Price.{Price}
use Rattle.vx_symbol.specs.declared.rows.StrikeRow.{StrikeRow}
use Rattle.vx_formula.specs.Pair.{Pair, pair_of, is_both_live, live_pairs, IsAsClose, IsClosestPair}
use Rattle.vx_formula.proofs.Lists.{In, in_from_contains, contains_from_in, in_map, map_in, in_filter, filter_in, all_from_in}
use Rattle.vx_formula.proofs.PairLemmas.{close_refl, close_trans}
use Rattle.vx_clock.proofs.Best.{IsBestSoFar, none_counts, best_is_there, best_comes_first}

-- the row's put and call are both live
abbrev pub IsBothLive : StrikeRow → Type 0
IsBothLive row = is_both_live row ≡ true

-- the row's pair is taken before the other's
abbrev pub IsTakenBefore : StrikeRow → StrikeRow → Type 0
IsTakenBefore a b = IsAsClose (pair_of a) (pair_of b)

-- what a look-up past the end gives
abbrev pub some_price : Price
some_price = record { there = false; live = false; half = 0 }

abbrev pub some_row : StrikeRow
some_row = record { strike = 0; put = some_price; call = some_price }

pub taken_reflexive : (a : StrikeRow) → IsTakenBefore a a
taken_reflexive a = close_refl (pair_of a)

pub taken_transitive : (a b c : StrikeRow) → IsTakenBefore a b → IsTakenBefore b c → IsTakenBefore a c
taken_transitive a b c h k = close_trans (pair_of a) (pair_of b) (pair_of c) h k

-- no pair is live where no row counts
nothing_in : (ps : List Pair) → ((p : Pair) → In ps p → ⊥) → ps ≡ []
nothing_in [] h = refl
nothing_in (p ∷ ps) h = absurd (h p (inl refl))

live_row : (rows : List StrikeRow) (p : Pair) → In (live_pairs rows) p → (row : StrikeRow) × In rows row × IsBothLive row × (pair_of row ≡ p)
live_row rows p h =
    let found = in_map pair_of (filter is_both_live rows) p h in
    let kept = in_filter is_both_live rows found.0 found.1 in
    (found.0, kept.0, kept.1, found.2)

all_at : {X : Type 0} (P : X → Type 0) (xs : List X) (x : X) → All P xs → In xs x → P x
all_at P xs x h k =
    let c = contains_from_in xs x k in
    subst P c.2 (h c.0 x c.1)

pub no_live_pair : (rows : List StrikeRow) → All (λ row. ¬ IsBothLive row) rows → live_pairs rows ≡ []
no_live_pair rows none =
    nothing_in (live_pairs rows) (λ p h.
    let row = live_row rows p h in
    all_at (λ row. ¬ IsBothLive row) rows row.0 none row.1 row.2)

pub closest_row : (rows : List StrikeRow) (b : StrikeRow) → In rows b → IsBothLive b → ((other : StrikeRow) → In rows other → IsBothLive other → IsTakenBefore b other) → IsClosestPair rows (pair_of b)
closest_row rows b listed live first =
    record {
      among = contains_from_in (live_pairs rows) (pair_of b) (map_in pair_of (filter is_both_live rows) b (filter_in is_both_live rows b listed live));
      closest = all_from_in (IsAsClose (pair_of b)) (live_pairs rows) (λ p h.
          let row = live_row rows p h in
          subst (IsAsClose (pair_of b)) row.3 (first row.0 row.1 row.2));
    }

-- what the place says after all rows
abbrev pub SoFar : List StrikeRow → ℕ → Option ℕ → Type 0
SoFar rows n best = IsBestSoFar IsBothLive IsTakenBefore some_row rows n best

pub found_closest : (rows : List StrikeRow) (best : Option ℕ) → SoFar rows (length rows) best → IfSome best (λ place. IsSomeAnd (slice_get rows place) (λ row. IsClosestPair rows (pair_of row)))
found_closest rows None none = search rules
found_closest rows (Some b) best =
    rw (slice_get-get_or rows b some_row best.within)
    (closest_row rows (get_or rows b some_row)
    (in_from_contains rows (get_or rows b some_row) (best_is_there IsBothLive IsTakenBefore some_row rows (length rows) b best))
    best.counts
    (λ other h. best_comes_first IsBothLive IsTakenBefore some_row rows b best other (contains_from_in rows other h)))

pub found_none : (rows : List StrikeRow) (best : Option ℕ) → SoFar rows (length rows) best → IfNone best (live_pairs rows ≡ [])
found_none rows None none = no_live_pair rows (none_counts IsBothLive IsTakenBefore some_row rows none)
found_none rows (Some b) best = search rules
