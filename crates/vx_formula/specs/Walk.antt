-- How far outwards from the level the selection goes: up to the second of two neighbouring rows with a zero bid, or to the last
-- row of its side. The level stands at the place k0; the rows that count are those strictly beyond it.
use Rattle.std.specs.Prelude.{◌≡◌, ℕ, suc, ◌<◌, ◌≤◌, Bool, true, false, ◌||◌, List, length, Some, slice_get}
use Rattle.vx_symbol.specs.declared.rows.StrikeRow.{StrikeRow}

abbrev pub is_live_put : StrikeRow → Bool
is_live_put row = row.put.live

abbrev pub is_live_call : StrikeRow → Bool
is_live_call row = row.call.live

-- of the two neighbouring rows from a place on one is live
abbrev pub IsLivePair : (StrikeRow → Bool) → List StrikeRow → ℕ → Type 0
IsLivePair live rows place =
    (first second : StrikeRow) → slice_get rows place ≡ Some first → slice_get rows (suc place) ≡ Some second → (live first || live second) ≡ true

-- both have a zero bid
pub record IsZeroBidPair (live : StrikeRow → Bool) (rows : List StrikeRow) (place : ℕ) : Type 0 where
  pub first : StrikeRow
  pub second : StrikeRow
  pub first_is : slice_get rows place ≡ Some first
  pub second_is : slice_get rows (suc place) ≡ Some second
  pub zero_bids : (live first || live second) ≡ false

-- the lowest row that the walk downwards over puts reaches
pub record IsLowestReached (rows : List StrikeRow) (k0 low : ℕ) : Type 0 where
  pub below : low ≤ k0
  pub goes_on : (place : ℕ) → low < place → suc place < k0 → IsLivePair is_live_put rows place
  pub ends : 0 < low → (suc low < k0) × IsZeroBidPair is_live_put rows low

-- the highest row that the walk upwards over calls reaches
pub record IsHighestReached (rows : List StrikeRow) (k0 high : ℕ) : Type 0 where
  pub above : k0 ≤ high
  pub within : high < length rows
  pub goes_on : (place : ℕ) → k0 < place → suc place < high → IsLivePair is_live_call rows place
  pub ends : suc high < length rows → (before : ℕ) × (suc before ≡ high) × (k0 < before) × IsZeroBidPair is_live_call rows before
