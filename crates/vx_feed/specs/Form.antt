-- What a line says by itself (the forms are this project's own). A line's fields are the pieces
-- between its commas, counted from 1; the first names the kind of line.
use Rattle.std.specs.Prelude.{ℕ, Bool, true, false, ◌==◌, nat_le, ℤ, unsigned_abs, List, [], ◌∷◌, length, codes, bytes_eq, Option, Some, None, Result, Ok, Err, if◌then◌else◌}
use Rattle.std.specs.Result.{result_ok}
use Rattle.vx_num.specs.Decimal.{decimal_of, signed_decimal_of}
use Rattle.vx_clock.specs.Clock.{time_of_text}
use Rattle.vx_clock.specs.Day.{day_of_text}
use Rattle.vx_clock.specs.RootText.{root_of_text}
use Rattle.vx_clock.specs.declared.days.DayNo.{DayNo}
use Rattle.vx_clock.specs.declared.limits.TheConstants.{RATE_MIN, RATE_MAX}
use Rattle.vx_clock.specs.declared.terms.Root.{Root}
use Rattle.vx_fields.specs.Lines.{field}
use Rattle.vx_symbol.specs.Symbol.{symbol_of_text}
use Rattle.vx_symbol.specs.declared.limits.TheConstants.{PRICE_MAX}
use Rattle.vx_symbol.specs.declared.symbols.Symbol.{Symbol}
use Rattle.vx_feed.specs.declared.events.Event.{Event}
use Rattle.vx_feed.specs.declared.events.Event.TheVariants as event
use Rattle.vx_feed.specs.declared.faults.FeedFault.{FeedFault}
use Rattle.vx_feed.specs.declared.faults.FeedFault.TheVariants as fault
use Rattle.vx_feed.specs.declared.kinds.Kind.{Kind}
use Rattle.vx_feed.specs.declared.kinds.Kind.TheVariants as kind
use Rattle.vx_feed.specs.declared.limits.TheConstants.{LINES_MAX}

-- how a kind of line is written
abbrev pub kind_text : Kind → List ℕ
kind_text kind.Header = codes "H"
kind_text kind.Expiry = codes "E"
kind_text kind.Rate = codes "R"
kind_text kind.Series = codes "S"
kind_text kind.Quote = codes "Q"
kind_text kind.Trade = codes "T"
kind_text kind.Tick = codes "V"
kind_text kind.Opening = codes "Z"
kind_text kind.End = codes "END"

-- the nine kinds of lines
abbrev pub all_kinds : List Kind
all_kinds =
    kind.Header ∷ kind.Expiry ∷ kind.Rate ∷ kind.Series ∷ kind.Quote ∷ kind.Trade ∷ kind.Tick ∷ kind.Opening
    ∷ kind.End ∷ []

-- the first of the kinds that is written so
abbrev pub kind_among : List Kind → List ℕ → Option Kind
kind_among [] text = None
kind_among (k ∷ kinds) text = if bytes_eq text (kind_text k) then Some k else kind_among kinds text

abbrev pub kind_of_text : List ℕ → Option Kind
kind_of_text text = kind_among all_kinds text

-- how many fields a kind of line has, its kind among them
abbrev pub field_count : Kind → ℕ
field_count kind.Header = 3
field_count kind.Expiry = 3
field_count kind.Rate = 4
field_count kind.Series = 2
field_count kind.Quote = 5
field_count kind.Trade = 4
field_count kind.Tick = 2
field_count kind.Opening = 2
field_count kind.End = 2

-- the version that is read
abbrev pub is_version : List ℕ → Bool
is_version text = bytes_eq text (codes "1")

-- a date `yyyy-mm-dd` of the years 2000 to 2099
abbrev pub date_of_text : List ℕ → Option DayNo
date_of_text text = result_ok (day_of_text text)

-- a rate in percent per year of at most 6 places, in 10^-8 per year: from 0 to 25, or after a `-` from
-- 0 to 5
abbrev pub rate_of_text : List ℕ → Option ℤ
rate_of_text text = signed_decimal_of text 6 (unsigned_abs RATE_MIN) (unsigned_abs RATE_MAX)

-- a price in points of at most 2 places and at most 50,000, in cents
abbrev pub price_of_text : List ℕ → Option ℕ
price_of_text text = result_ok (decimal_of text 2 PRICE_MAX)

-- the price of a trade, at least a cent
abbrev pub if_positive : Option ℕ → Option ℕ
if_positive None = None
if_positive (Some price) = if nat_le 1 price then Some price else None

-- a count of lines, at most the most of a feed
abbrev pub count_of_text : List ℕ → Option ℕ
count_of_text text = result_ok (decimal_of text 0 LINES_MAX)

abbrev pub series_of_text : List ℕ → Option Symbol
series_of_text text = result_ok (symbol_of_text text)

-- the event of each kind of line by what its fields say, or the first field that says nothing
abbrev pub header_event : Bool → Option DayNo → Result Event FeedFault
header_event false _ = Err (fault.Field 2)
header_event true None = Err (fault.Field 3)
header_event true (Some d) = Ok (event.Header d)

abbrev pub expiry_event : Option Root → Option DayNo → Result Event FeedFault
expiry_event None _ = Err (fault.Field 2)
expiry_event (Some r) None = Err (fault.Field 3)
expiry_event (Some r) (Some d) = Ok (event.Expiry (record { root = r; date = d }))

abbrev pub rate_event : Option Root → Option DayNo → Option ℤ → Result Event FeedFault
rate_event None _ _ = Err (fault.Field 2)
rate_event (Some r) None _ = Err (fault.Field 3)
rate_event (Some r) (Some d) None = Err (fault.Field 4)
rate_event (Some r) (Some d) (Some rate) = Ok (event.Rate (record { root = r; date = d }) rate)

abbrev pub series_event : Option Symbol → Result Event FeedFault
series_event None = Err (fault.Field 2)
series_event (Some s) = Ok (event.Series s)

abbrev pub quote_event : Option ℕ → Option Symbol → Option ℕ → Option ℕ → Result Event FeedFault
quote_event None _ _ _ = Err (fault.Field 2)
quote_event (Some time) None _ _ = Err (fault.Field 3)
quote_event (Some time) (Some s) None _ = Err (fault.Field 4)
quote_event (Some time) (Some s) (Some bid) None = Err (fault.Field 5)
quote_event (Some time) (Some s) (Some bid) (Some ask) = Ok (event.Quote time s bid ask)

abbrev pub trade_event : Option ℕ → Option Symbol → Option ℕ → Result Event FeedFault
trade_event None _ _ = Err (fault.Field 2)
trade_event (Some time) None _ = Err (fault.Field 3)
trade_event (Some time) (Some s) None = Err (fault.Field 4)
trade_event (Some time) (Some s) (Some price) = Ok (event.Trade time s price)

abbrev pub tick_event : Option ℕ → Result Event FeedFault
tick_event None = Err (fault.Field 2)
tick_event (Some time) = Ok (event.Tick time)

abbrev pub opening_event : Option ℕ → Result Event FeedFault
opening_event None = Err (fault.Field 2)
opening_event (Some time) = Ok (event.Opening time)

abbrev pub end_event : Option ℕ → Result Event FeedFault
end_event None = Err (fault.Field 2)
end_event (Some count) = Ok (event.End count)

-- the event of a line of a kind, or else the first fault of its fields
abbrev pub event_of_kind : Kind → List (List ℕ) → Result Event FeedFault
event_of_kind kind.Header f = header_event (is_version (field f 2)) (date_of_text (field f 3))
event_of_kind kind.Expiry f = expiry_event (root_of_text (field f 2)) (date_of_text (field f 3))
event_of_kind kind.Rate f =
    rate_event (root_of_text (field f 2)) (date_of_text (field f 3)) (rate_of_text (field f 4))
event_of_kind kind.Series f = series_event (series_of_text (field f 2))
event_of_kind kind.Quote f =
    quote_event (time_of_text (field f 2)) (series_of_text (field f 3)) (price_of_text (field f 4))
    (price_of_text (field f 5))
event_of_kind kind.Trade f =
    trade_event (time_of_text (field f 2)) (series_of_text (field f 3))
    (if_positive (price_of_text (field f 4)))
event_of_kind kind.Tick f = tick_event (time_of_text (field f 2))
event_of_kind kind.Opening f = opening_event (time_of_text (field f 2))
event_of_kind kind.End f = end_event (count_of_text (field f 2))

-- the event of a line of a kind with so many fields
abbrev pub event_if_counted : Option Kind → List (List ℕ) → Result Event FeedFault
event_if_counted None f = Err fault.Kind
event_if_counted (Some k) f = if length f == field_count k then event_of_kind k f else Err fault.Fields

-- what a line's fields say, or else the first fault of their form
abbrev pub event_of_fields : List (List ℕ) → Result Event FeedFault
event_of_fields f = event_if_counted (kind_of_text (field f 1)) f
