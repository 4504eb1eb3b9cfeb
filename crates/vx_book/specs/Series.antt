-- What is kept of the series, by their symbols. This project's own.
use Rattle.std.specs.Prelude.{◌≡◌, ℕ, Option, Some, IfSome, if◌then◌else◌, option_and_then}
use Rattle.indexmap.specs.IndexMap.{IndexMap, get}
use Rattle.vx_symbol.specs.declared.symbols.Symbol.{Symbol}
use Rattle.vx_feed.specs.Ranges.{IsPrice}
use Rattle.vx_feed.specs.Same.{is_same_series}
use Rattle.vx_book.specs.declared.series.Series.{Series}

module _ {H : Type 0} where
  -- what is kept of a series, where it is listed
  abbrev pub kept : IndexMap Symbol Series H → Symbol → Option Series
  kept series s = get is_same_series series s

  -- its opening trade, in cents, where it has one
  abbrev pub kept_trade : IndexMap Symbol Series H → Symbol → Option ℕ
  kept_trade series s = option_and_then (λ (one : Series). one.traded) (kept series s)

  -- each of them is in range
  abbrev pub AreTradesInRange : IndexMap Symbol Series H → Type 0
  AreTradesInRange series = (s : Symbol) → IfSome (kept_trade series s) IsPrice

  -- this is kept of the series, and of every other what was kept before
  abbrev pub SetsSeries : Symbol → Series → IndexMap Symbol Series H → IndexMap Symbol Series H → Type 0
  SetsSeries s one old new = (t : Symbol) → kept new t ≡ (if is_same_series s t then Some one else kept old t)

  -- what is kept of each series is as before
  abbrev pub IsSameSeries : IndexMap Symbol Series H → IndexMap Symbol Series H → Type 0
  IsSameSeries old new = (t : Symbol) → kept new t ≡ kept old t
