-- How an event is written as a line of a feed (the form is this project's own): its kind, its values, each
-- behind a comma, and LF.
use Rattle.std.specs.Prelude.{ℕ, ℤ, List, [], ◌∷◌, ◌++◌, codes, flat_map}
use Rattle.vx_num.specs.Written.{decimal_text, signed_text}
use Rattle.vx_clock.specs.Clock.{clock_text}
use Rattle.vx_clock.specs.DayText.{day_text}
use Rattle.vx_clock.specs.RootText.{bare_root_text}
use Rattle.vx_clock.specs.declared.terms.Expiry.{Expiry}
use Rattle.vx_symbol.specs.SymbolText.{symbol_text}
use Rattle.vx_fields.specs.Lines.{comma, line_feed}
use Rattle.vx_feed.specs.declared.events.Event.{Event}
use Rattle.vx_feed.specs.declared.events.Event.TheVariants as event
use Rattle.vx_feed.specs.declared.kinds.Kind.{Kind}
use Rattle.vx_feed.specs.declared.kinds.Kind.TheVariants as kind
use Rattle.vx_feed.specs.Form.{kind_text}

-- the version that is written
abbrev pub version_text : List ℕ
version_text = codes "1"

-- a rate, in 10^-8 per year, as percent per year with six places, behind a `-` where it is below zero
abbrev pub rate_text : ℤ → List ℕ
rate_text rate = signed_text rate 6

-- a price, in cents, as points with two places
abbrev pub price_text : ℕ → List ℕ
price_text cents = decimal_text cents 2

-- a count of lines
abbrev pub count_text : ℕ → List ℕ
count_text count = decimal_text count 0

-- the kind of line that says an event
abbrev pub kind_of_event : Event → Kind
kind_of_event (event.Header day) = kind.Header
kind_of_event (event.Expiry x) = kind.Expiry
kind_of_event (event.Rate x rate) = kind.Rate
kind_of_event (event.Series s) = kind.Series
kind_of_event (event.Quote time s bid ask) = kind.Quote
kind_of_event (event.Trade time s price) = kind.Trade
kind_of_event (event.Tick time) = kind.Tick
kind_of_event (event.Opening time) = kind.Opening
kind_of_event (event.End count) = kind.End

-- the fields that name an expiry
abbrev pub expiry_fields : Expiry → List (List ℕ)
expiry_fields x = bare_root_text x.root ∷ day_text x.date ∷ []

-- the fields behind the kind
abbrev pub value_fields : Event → List (List ℕ)
value_fields (event.Header day) = version_text ∷ day_text day ∷ []
value_fields (event.Expiry x) = expiry_fields x
value_fields (event.Rate x rate) = expiry_fields x ++ rate_text rate ∷ []
value_fields (event.Series s) = symbol_text s ∷ []
value_fields (event.Quote time s bid ask) =
    clock_text time ∷ symbol_text s ∷ price_text bid ∷ price_text ask ∷ []
value_fields (event.Trade time s price) = clock_text time ∷ symbol_text s ∷ price_text price ∷ []
value_fields (event.Tick time) = clock_text time ∷ []
value_fields (event.Opening time) = clock_text time ∷ []
value_fields (event.End count) = count_text count ∷ []

-- fields, each behind a comma
abbrev pub behind_commas : List (List ℕ) → List ℕ
behind_commas fields = flat_map (λ field. comma ∷ field) fields

-- the line of an event, without its LF
unfoldable pub event_line : Event → List ℕ
event_line e = kind_text (kind_of_event e) ++ behind_commas (value_fields e)

-- the line of an event
abbrev pub event_text : Event → List ℕ
event_text e = event_line e ++ line_feed ∷ []

-- a list of events as a text, a line each
abbrev pub text_of_events : List Event → List ℕ
text_of_events events = flat_map event_text events
