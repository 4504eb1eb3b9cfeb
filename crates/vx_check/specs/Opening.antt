-- What the book keeps of the opening. This project's own.
use Rattle.std.specs.Prelude.{◌≡◌, ℕ, ◌+◌, ◌<◌, ℤ, List, length, Option, Some, IsSomeAnd, option_map, option_and_then, find}
use Rattle.vx_clock.specs.declared.days.DayNo.{DayNo}
use Rattle.vx_symbol.specs.declared.rows.StrikeRow.{StrikeRow}
use Rattle.vx_feed.specs.declared.events.Event.{Event}
use Rattle.vx_feed.specs.declared.events.Event.TheVariants as event
use Rattle.vx_feed.specs.declared.limits.TheConstants.{LINES_MAX}
use Rattle.vx_feed.specs.Opening.{opening_line, opening_time, opening_expiries}
use Rattle.vx_formula.specs.declared.limits.TheConstants.{THIRTY_DAYS}
use Rattle.vx_formula.specs.Term.{TermFacts}
use Rattle.vx_claims.specs.Seen.{opening_expiry, opening_facts}
use Rattle.vx_check.specs.declared.book.PlainBook.{PlainBook}
use Rattle.vx_check.specs.declared.opening.Opening.{Opening}
use Rattle.vx_check.specs.declared.opening.OpeningTerm.{OpeningTerm}
use Rattle.vx_check.specs.declared.table.Table.{Table}
use Rattle.vx_check.specs.declared.trades.FirstTrades.{FirstTrades}
use Rattle.vx_check.specs.Kept.{is_table_of}
use Rattle.vx_check.specs.Trades.{AreRowsAtOpening}
use Rattle.vx_check.specs.Tables.{AreBoth}

-- the opening's term in the words of the formula; its minutes are always those of 30 days
abbrev pub facts_of_term : OpeningTerm → TermFacts
facts_of_term term = record { rows = term.rows.items; rate = term.rate; minutes = THIRTY_DAYS }

-- the opening is the one that these events take: its line and time, how many expiries were declared before it, and the term of
-- the one expiry that it can name, where that is one of those
pub record IsOpeningOfEvents (events : List Event) (opening : Opening) : Type 0 where
  pub line : opening.line ≡ opening_line events
  pub time : opening_time events ≡ Some opening.time
  pub expiries : opening.expiries ≡ length (opening_expiries events)
  pub term : option_map facts_of_term opening.term ≡ (opening_facts events).term

-- ---- what taking it changes

-- the table of the one expiry that an opening can name
abbrev pub opening_table : Option DayNo → List Table → Option Table
opening_table day tables = option_and_then (λ d. find (is_table_of (opening_expiry d)) tables) day

-- the term is what this rate, these first trades and these rows show at the opening
pub record ShowsTerm (rate : Option ℤ) (trades : List FirstTrades) (rows : List StrikeRow) (term : OpeningTerm) : Type 0 where
  pub rate_is : term.rate ≡ rate
  pub rows_are : AreRowsAtOpening trades rows term.rows.items

-- the same for what a table keeps
abbrev pub IsTermOfTable : Table → OpeningTerm → Type 0
IsTermOfTable table term = ShowsTerm table.rate table.trades.items table.rows.items term

-- the opening is taken at a minute over what the book keeps
pub record OpensAt (book : PlainBook) (time : ℕ) (opening : Opening) : Type 0 where
  pub line : book.lines < LINES_MAX → opening.line ≡ book.lines + 1
  pub time_is : opening.time ≡ time
  pub expiries : opening.expiries ≡ length book.expiries.items
  pub term : AreBoth IsTermOfTable (opening_table book.day book.tables.items) opening.term

-- what an event changes of the opening
abbrev pub ChangesOpening : PlainBook → Event → Option Opening → Type 0
ChangesOpening old (event.Opening time) opening = IsSomeAnd opening (OpensAt old time)
ChangesOpening old _ opening = opening ≡ old.opening
