-- The strikes that take part. After the Cboe VIX white paper: puts below the level and calls above it, none with a zero bid, and
-- nothing further out than two consecutive strikes with a zero bid. Said of each row by itself.
use Rattle.std.specs.Prelude.{ℕ, Bool, true, ◌&&◌, ◌||◌, nat_lt, nat_eq, List, [], ◌∷◌, map, filter}
use Rattle.vx_symbol.specs.declared.rows.StrikeRow.{StrikeRow}

-- the rows strictly between two strikes
abbrev pub rows_between : ℕ → ℕ → List StrikeRow → List StrikeRow
rows_between low high rows = filter (λ row. nat_lt low row.strike && nat_lt row.strike high) rows

-- of each two neighbours of the list at least one is true
abbrev pub is_unbroken : List Bool → Bool
is_unbroken [] = true
is_unbroken (a ∷ []) = true
is_unbroken (a ∷ (b ∷ rest)) = (a || b) && is_unbroken (b ∷ rest)

-- the row's put is live, and no two neighbouring rows strictly between it and the level both have a put that is not
abbrev pub is_selected_put : List StrikeRow → ℕ → StrikeRow → Bool
is_selected_put rows level row =
    nat_lt row.strike level && row.put.live && is_unbroken (map (λ r. r.put.live) (rows_between row.strike level rows))

-- the same of a call above the level
abbrev pub is_selected_call : List StrikeRow → ℕ → StrikeRow → Bool
is_selected_call rows level row =
    nat_lt level row.strike && row.call.live && is_unbroken (map (λ r. r.call.live) (rows_between level row.strike rows))

-- the level's own row is always selected
abbrev pub is_selected : List StrikeRow → ℕ → StrikeRow → Bool
is_selected rows level row =
    nat_eq row.strike level || is_selected_put rows level row || is_selected_call rows level row

-- the selected rows, in rising order as the rows are
abbrev pub selected_rows : List StrikeRow → ℕ → List StrikeRow
selected_rows rows level = filter (is_selected rows level) rows
