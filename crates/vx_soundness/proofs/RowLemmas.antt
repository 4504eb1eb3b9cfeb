-- No strike of the rows that a lawful feed shows is 0; and what a strip's entries come from.
use Rattle.std.proofs.Common.{◌≡◌, ℕ, ◌≤◌, List, [], ◌∷◌, map, Option, Some, None, refl, ◌∙◌, ap, subst, inl, inr, arith}
use Rattle.vx_clock.specs.declared.terms.Expiry.{Expiry}
use Rattle.vx_symbol.specs.declared.rows.Price.{Price}
use Rattle.vx_symbol.specs.declared.rows.StrikeRow.{StrikeRow}
use Rattle.vx_symbol.specs.declared.symbols.Symbol.{Symbol}
use Rattle.vx_feed.specs.declared.events.Event.{Event}
use Rattle.vx_feed.specs.declared.events.Event.TheVariants as event
use Rattle.vx_feed.specs.Listed.{strikes_of, is_strike_listed, listed_strikes, row_of}
use Rattle.vx_formula.specs.Level.{strikes, IsListed}
use Rattle.vx_formula.specs.Selection.{is_selected, selected_rows}
use Rattle.vx_formula.specs.Strip.{StripEntry, entries_after, strip}
use Rattle.vx_claims.proofs.InRange.{AllInRange, strike_in_range}
use Rattle.vx_formula.proofs.Lists.{In, in_from_contains, contains_from_in, in_map, map_in, in_filter}

-- no listed strike is 0
pub rows_positive : (price : Symbol → Price) (x : Expiry) (events : List Event) → AllInRange events
    → (k : ℕ) → IsListed (map (row_of price x) (listed_strikes x events)) k → 1 ≤ k
rows_positive price x events range k h =
    let rows = map (row_of price x) (listed_strikes x events) in
    let row = in_map (λ (r : StrikeRow). r.strike) rows k (in_from_contains (strikes rows) k h) in
    let strike = in_map (row_of price x) (listed_strikes x events) row.0 row.1 in
    let same : strike.0 ≡ k = ap (λ (r : StrikeRow). r.strike) strike.2 ∙ row.2 in
    let in_range = strike_in_range x events strike.0 range (in_filter (is_strike_listed x events) (strikes_of x events) strike.0 strike.1).0 in
    let some = in_range.0 in
    omega arith

-- ---- the entries of a strip

entry_from : (level : ℕ) (below : Option ℕ) (rows : List StrikeRow) (entry : StripEntry) → In (entries_after level below rows) entry → (row : StrikeRow) × In rows row × (row.strike ≡ entry.strike)
entry_from level below [] entry h = elim h [ ]
entry_from level below (row ∷ rows) entry (inl e) = (row, inl refl, ap (λ (s : StripEntry). s.strike) e)
entry_from level below (row ∷ rows) entry (inr later) =
    let found = entry_from level (Some row.strike) rows entry later in (found.0, inr found.1, found.2)

-- an entry is of a selected row
pub entry_is_selected : (rows : List StrikeRow) (level : ℕ) (entry : StripEntry) → In (strip rows level) entry → (row : StrikeRow) × In (selected_rows rows level) row × (row.strike ≡ entry.strike)
entry_is_selected rows level entry h = entry_from level None (selected_rows rows level) entry h

-- the strike of each entry of a strip is listed
pub entry_is_listed : (rows : List StrikeRow) (level : ℕ) (entry : StripEntry) → In (strip rows level) entry → IsListed rows entry.strike
entry_is_listed rows level entry h =
    let found = entry_is_selected rows level entry h in
    let listed = map_in (λ (r : StrikeRow). r.strike) rows found.0 (in_filter (is_selected rows level) rows found.0 found.1).0 in
    let P : ℕ → Type 0 = λ k. In (strikes rows) k in
    contains_from_in (strikes rows) entry.strike (subst P found.2 listed)
