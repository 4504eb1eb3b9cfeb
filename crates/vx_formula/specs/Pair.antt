-- The closest put-call pair, at whose strike the forward is read off. After the Cboe VIX white paper.
-- This project's own: only strikes whose call and put both have a bid are compared, and a tie takes the lowest strike.
use Rattle.std.specs.Prelude.{◌≡◌, ℕ, ◌<◌, ◌≤◌, ◌⊎◌, ℤ, pos, ◌-ℤ◌, nat_abs, Bool, ◌&&◌, List, map, filter, All, Contains}
use Rattle.vx_symbol.specs.declared.rows.StrikeRow.{StrikeRow}

-- a strike in thousandths of a point, and its call's half price minus its put's, in half cents
pub record Pair : Type 0 where
  pub strike : ℕ
  pub d : ℤ

abbrev pub pair_of : StrikeRow → Pair
pair_of row = record { strike = row.strike; d = pos row.call.half -ℤ pos row.put.half }

abbrev pub is_both_live : StrikeRow → Bool
is_both_live row = row.put.live && row.call.live

-- the pairs of the rows whose put and call are both live
abbrev pub live_pairs : List StrikeRow → List Pair
live_pairs rows = map pair_of (filter is_both_live rows)

-- p comes before q, or is q: its two prices are closer, or as close and its strike is not above
abbrev pub IsAsClose : Pair → Pair → Type 0
IsAsClose p q = (nat_abs p.d < nat_abs q.d) ⊎ ((nat_abs p.d ≡ nat_abs q.d) × (p.strike ≤ q.strike))

pub record IsClosestPair (rows : List StrikeRow) (p : Pair) : Type 0 where
  pub among : Contains (live_pairs rows) p
  pub closest : All (IsAsClose p) (live_pairs rows)
