-- The stated rows of a strip in two parts: their strikes and prices, and their widths. This project's own.
use Rattle.std.specs.Prelude.{◌≡◌, ℕ, ◌<◌, true, ◌&&◌, Any, List, [], ◌∷◌, map, filter, drop, Option, Some, None}
use Rattle.vx_symbol.specs.declared.rows.StrikeRow.{StrikeRow}
use Rattle.vx_cert.specs.declared.rows.CertRow.{CertRow}
use Rattle.vx_formula.specs.Level.{strike_at}
use Rattle.vx_formula.specs.Selection.{is_selected}
use Rattle.vx_formula.specs.Strip.{doubled_width, strip_price}

-- a strike and its price, in quarter cents
pub record Priced : Type 0 where
  pub strike : ℕ
  pub q4 : ℕ

abbrev pub stated_price : CertRow → Priced
stated_price row = record { strike = row.strike; q4 = row.q4 }

-- that of a selected row
abbrev pub strip_price_of : ℕ → StrikeRow → Priced
strip_price_of level row = record { strike = row.strike; q4 = strip_price level row }

abbrev pub first_stated : List CertRow → Option ℕ
first_stated [] = None
first_stated (row ∷ rest) = Some row.strike

-- both sides of the level's row have a price, and a stated row is below it and one above
pub record HasSides (level : StrikeRow) (k0 : ℕ) (stated : List CertRow) : Type 0 where
  pub money : level.put.there && level.call.there ≡ true
  pub has_put : Any (λ (row : CertRow). row.strike < k0) stated
  pub has_call : Any (λ (row : CertRow). k0 < row.strike) stated

-- the stated rows from one place on have the prices of the rows that are selected from another on; the level stands at `level`
abbrev pub AreSameFrom : List StrikeRow → ℕ → ℕ → List CertRow → ℕ → Type 0
AreSameFrom rows level place stated next =
    map stated_price (drop next stated)
    ≡ map (strip_price_of (strike_at rows level)) (filter (is_selected rows (strike_at rows level)) (drop place rows))

-- each width is that between the neighbouring strikes; the first row comes after the strike `below`
abbrev pub AreWidths : Option ℕ → List CertRow → Type 0
AreWidths below [] = Unit {0}
AreWidths below (row ∷ rest) = (row.d ≡ doubled_width below row.strike (first_stated rest)) × AreWidths (Some row.strike) rest
