-- What an event changes of the table of its expiry. This project's own.
use Rattle.std.specs.Prelude.{◌≡◌, ℕ, zero, suc, ℤ, Bool, true, false, List, [], ◌∷◌, ◌++◌, map, Option, Some, None, MatchOption, option_map, if◌then◌else◌, find}
use Rattle.vx_clock.specs.declared.terms.Expiry.{Expiry}
use Rattle.vx_symbol.specs.declared.symbols.Side.{Side}
use Rattle.vx_symbol.specs.declared.symbols.Side.TheVariants.{Call, Put}
use Rattle.vx_symbol.specs.declared.symbols.Symbol.{Symbol}
use Rattle.vx_symbol.specs.declared.rows.Price.{Price}
use Rattle.vx_symbol.specs.declared.rows.StrikeRow.{StrikeRow}
use Rattle.vx_feed.specs.declared.events.Event.{Event}
use Rattle.vx_feed.specs.declared.events.Event.TheVariants as event
use Rattle.vx_feed.specs.Same.{is_same_expiry, is_same_side}
use Rattle.vx_feed.specs.Ranges.{IsPrice}
use Rattle.vx_feed.specs.Listed.{expiry_of, no_price, price_of}
use Rattle.vx_check.specs.declared.table.Half.{Half}
use Rattle.vx_check.specs.declared.table.Table.{Table}
use Rattle.vx_check.specs.Kept.{is_table_of}
use Rattle.vx_check.specs.Rising.{Rises, item_at, IsWith}
use Rattle.vx_check.specs.Trades.{trades_strike, price_of_trade, is_listed_in, SetsTrade}

-- the strike by which rows are kept in order
abbrev pub row_strike : StrikeRow → ℕ
row_strike row = row.strike

-- the strike by which strikes with one side are kept in order
abbrev pub half_strike : Half → ℕ
half_strike half = half.strike

-- the row of a strike of which one side was listed, and the other is now
abbrev pub joined : Half → Side → StrikeRow
joined half Put = record { strike = half.strike; put = no_price; call = half.price }
joined half Call = record { strike = half.strike; put = half.price; call = no_price }

-- the row of a strike, where one of its sides is listed now and the other was listed or not
abbrev pub row_once_listed : Side → Option Half → Option StrikeRow → Option StrikeRow
row_once_listed side None row = row
row_once_listed side (Some half) row = Some (joined half side)

-- the strike's only side
abbrev pub half_when_listed : Side → ℕ → Option Half → Option Half
half_when_listed side strike None = Some (record { strike = strike; side = side; price = no_price })
half_when_listed side strike (Some half) = None

-- a row with a price of one side
abbrev pub row_with_price : Side → Price → StrikeRow → StrikeRow
row_with_price Put price row = record { strike = row.strike; put = price; call = row.call }
row_with_price Call price row = record { strike = row.strike; put = row.put; call = price }

-- the only side of a strike, with a price where it is that of this side
abbrev pub half_with_price : Side → Price → Half → Half
half_with_price side price half =
    if is_same_side half.side side then record { strike = half.strike; side = half.side; price = price } else half

-- the only side of a strike that may have a row
abbrev pub half_when_quoted : Side → Price → Option StrikeRow → Option Half → Option Half
half_when_quoted side price None half = option_map (half_with_price side price) half
half_when_quoted side price (Some row) half = half

-- ---- one table

-- a row stands among those of a table, which rise in strike, in place of one of its strike
abbrev pub PutsRow : StrikeRow → List StrikeRow → List StrikeRow → Type 0
PutsRow row old new = Rises row_strike old → IsWith row_strike row.strike (Some row) old new

-- a strike's only side has this price where it is this side, and the other strikes with one side are as they were
abbrev pub SetsHalfPrice : Side → ℕ → Price → List Half → List Half → Type 0
SetsHalfPrice side strike price old new = Rises half_strike old
    → IsWith half_strike strike (option_map (half_with_price side price) (item_at half_strike strike old)) old new

-- its rows, and its strikes with one side, rise in strike
pub record AreRising (table : Table) : Type 0 where
  pub rows : Rises row_strike table.rows.items
  pub halves : Rises half_strike table.halves.items

-- its first trades rise in strike
abbrev pub AreTradesRising : Table → Type 0
AreTradesRising table = Rises trades_strike table.trades.items

-- the table of an expiry of which nothing was said yet
pub record IsEmptyTable (x : Expiry) (table : Table) : Type 0 where
  pub expiry : table.expiry ≡ x
  pub rate : table.rate ≡ None
  pub rows : table.rows.items ≡ []
  pub halves : table.halves.items ≡ []
  pub trades : table.trades.items ≡ []

-- the table says what it said
pub record IsTableKept (old new : Table) : Type 0 where
  pub expiry : new.expiry ≡ old.expiry
  pub rate : new.rate ≡ old.rate
  pub rows : new.rows.items ≡ old.rows.items
  pub halves : new.halves.items ≡ old.halves.items
  pub trades : new.trades.items ≡ old.trades.items

-- what a rate changes of the table of its expiry
pub record SetsRate (rate : ℤ) (old new : Table) : Type 0 where
  pub expiry : new.expiry ≡ old.expiry
  pub rate_is : new.rate ≡ Some rate
  pub rows : new.rows.items ≡ old.rows.items
  pub halves : new.halves.items ≡ old.halves.items
  pub trades : new.trades.items ≡ old.trades.items

-- what listing a series changes of the lists of rows and of single sides
pub record ListsSeries (side : Side) (strike : ℕ) (rows new_rows : List StrikeRow) (halves new_halves : List Half) : Type 0 where
  pub in_rows : IsWith row_strike strike (row_once_listed side (item_at half_strike strike halves) (item_at row_strike strike rows)) rows new_rows
  pub in_halves : IsWith half_strike strike (half_when_listed side strike (item_at half_strike strike halves)) halves new_halves

-- what a quote changes of them
pub record PutsPrice (side : Side) (strike : ℕ) (price : Price) (rows new_rows : List StrikeRow) (halves new_halves : List Half) : Type 0 where
  pub in_rows : IsWith row_strike strike (option_map (row_with_price side price) (item_at row_strike strike rows)) rows new_rows
  pub in_halves : IsWith half_strike strike (half_when_quoted side price (item_at row_strike strike rows) (item_at half_strike strike halves)) halves new_halves

-- what listing a series changes of the table of its expiry
pub record ListsInTable (side : Side) (strike : ℕ) (old new : Table) : Type 0 where
  pub expiry : new.expiry ≡ old.expiry
  pub rate : new.rate ≡ old.rate
  pub trades : new.trades.items ≡ old.trades.items
  pub series : AreRising old → ListsSeries side strike old.rows.items new.rows.items old.halves.items new.halves.items

-- what a price of a series changes of the table of its expiry
pub record SetsPriceInTable (side : Side) (strike : ℕ) (price : Price) (old new : Table) : Type 0 where
  pub expiry : new.expiry ≡ old.expiry
  pub rate : new.rate ≡ old.rate
  pub trades : new.trades.items ≡ old.trades.items
  pub series : AreRising old → PutsPrice side strike price old.rows.items new.rows.items old.halves.items new.halves.items

-- what a quote changes of the table of its expiry
pub record QuotesInTable (side : Side) (strike bid ask : ℕ) (old new : Table) : Type 0 where
  pub expiry : new.expiry ≡ old.expiry
  pub rate : new.rate ≡ old.rate
  pub trades : new.trades.items ≡ old.trades.items
  pub series : IsPrice bid → IsPrice ask → AreRising old
      → PutsPrice side strike (price_of bid ask) old.rows.items new.rows.items old.halves.items new.halves.items

-- the series of a side and a strike is listed in the table
abbrev pub is_listed_in_table : Side → ℕ → Table → Bool
is_listed_in_table side strike table =
    is_listed_in side (item_at row_strike strike table.rows.items) (item_at half_strike strike table.halves.items)

-- what a trade at this price changes of a table: of a series that is not listed in it, nothing
pub record SetsTradeInTable (side : Side) (strike : ℕ) (price : Price) (old new : Table) : Type 0 where
  pub expiry : new.expiry ≡ old.expiry
  pub rate : new.rate ≡ old.rate
  pub rows : new.rows.items ≡ old.rows.items
  pub halves : new.halves.items ≡ old.halves.items
  pub sets : AreRising old → AreTradesRising old
      → SetsTrade (is_listed_in_table side strike old) side strike price old.trades.items new.trades.items

-- what a trade changes of the table of its expiry
pub record TradesInTable (side : Side) (strike cents : ℕ) (old new : Table) : Type 0 where
  pub expiry : new.expiry ≡ old.expiry
  pub rate : new.rate ≡ old.rate
  pub rows : new.rows.items ≡ old.rows.items
  pub halves : new.halves.items ≡ old.halves.items
  pub sets : IsPrice cents → AreRising old → AreTradesRising old
      → SetsTrade (is_listed_in_table side strike old) side strike (price_of_trade cents) old.trades.items new.trades.items

-- ---- the tables of all expiries

-- the first item that passes the test stands at this place
abbrev pub IsFirstAt : {X : Type 0} → (X → Bool) → ℕ → List X → Type 0
IsFirstAt test place [] = ⊥
IsFirstAt test zero (x ∷ xs) = test x ≡ true
IsFirstAt test (suc place) (x ∷ xs) = (test x ≡ false) × IsFirstAt test place xs

-- the place of the first item that passes the test, or none where none passes
abbrev pub IsFirstPlace : {X : Type 0} → (X → Bool) → List X → Option ℕ → Type 0
IsFirstPlace test xs place = MatchOption place (find test xs ≡ None) (λ n. IsFirstAt test n xs)

-- there is none before and none after, or both are related
abbrev pub AreBoth : {X Y : Type 0} → (X → Y → Type 0) → Option X → Option Y → Type 0
AreBoth R None None = Unit {0}
AreBoth R (Some a) (Some b) = R a b
AreBoth R _ _ = ⊥

-- the expiry of a table
abbrev pub expiry_of_table : Table → Expiry
expiry_of_table table = table.expiry

-- the table of one expiry, if there is one, is changed, and no other
pub record ChangesTable (x : Expiry) (R : Table → Table → Type 0) (old new : List Table) : Type 0 where
  pub expiries : map expiry_of_table new ≡ map expiry_of_table old
  pub others : (y : Expiry) → is_same_expiry y x ≡ false → find (is_table_of y) new ≡ find (is_table_of y) old
  pub own : AreBoth R (find (is_table_of x) old) (find (is_table_of x) new)

-- every table says what it said
pub record SameTables (old new : List Table) : Type 0 where
  pub expiries : map expiry_of_table new ≡ map expiry_of_table old
  pub each : (x : Expiry) → AreBoth IsTableKept (find (is_table_of x) old) (find (is_table_of x) new)

-- an empty table more
pub record AddsTable (x : Expiry) (old new : List Table) : Type 0 where
  pub table : Table
  pub is_empty : IsEmptyTable x table
  pub added : new ≡ old ++ table ∷ []

-- a series is listed
abbrev pub ListsIn : Symbol → List Table → List Table → Type 0
ListsIn s old new = ChangesTable (expiry_of s) (ListsInTable s.side s.strike) old new

-- a series is quoted
abbrev pub QuotesIn : Symbol → ℕ → ℕ → List Table → List Table → Type 0
QuotesIn s bid ask old new = ChangesTable (expiry_of s) (QuotesInTable s.side s.strike bid ask) old new

-- a series trades before the opening
abbrev pub TradesIn : Symbol → ℕ → List Table → List Table → Type 0
TradesIn s cents old new = ChangesTable (expiry_of s) (TradesInTable s.side s.strike cents) old new

-- what a trade changes, by whether the opening was taken: after it nothing
abbrev pub ChangesByTrade : Bool → Symbol → ℕ → List Table → List Table → Type 0
ChangesByTrade true s cents old new = new ≡ old
ChangesByTrade false s cents old new = TradesIn s cents old new

-- what an event changes, by whether the opening was taken
abbrev pub TakesTables : Bool → Event → List Table → List Table → Type 0
TakesTables opened (event.Expiry x) old new = AddsTable x old new
TakesTables opened (event.Rate x rate) old new = ChangesTable x (SetsRate rate) old new
TakesTables opened (event.Series s) old new = ListsIn s old new
TakesTables opened (event.Quote time s bid ask) old new = QuotesIn s bid ask old new
TakesTables opened (event.Trade time s cents) old new = ChangesByTrade opened s cents old new
TakesTables opened _ old new = new ≡ old
