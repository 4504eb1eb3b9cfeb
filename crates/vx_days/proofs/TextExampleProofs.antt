-- The text of the first sample feed, read line by line.
use Rattle.std.proofs.Common.{◌≡◌, refl, ap, ◌∙◌, ℕ, ◌+◌, true, false, cond, ℤ, pos, List, [], ◌∷◌, ◌++◌, take, drop, length, None, Result, Ok, Err, arith}
use Rattle.std.specs.Prelude.{codes, ◌==◌}
use Rattle.std.specs.List.{list_all}
use Rattle.std.proofs.lemmas.Bool.{cond-true, cond-false}
use Rattle.jiff_core.specs.Calendar.{days_from_civil, days_of_months}
use Rattle.vx_num.specs.Decimal.{decimal_of}
use Rattle.vx_clock.specs.declared.terms.Root.TheVariants.{Spx}
use Rattle.vx_symbol.specs.declared.symbols.Side.{Side}
use Rattle.vx_symbol.specs.declared.symbols.Side.TheVariants.{Call, Put}
use Rattle.vx_lines.specs.TextLines.{at_end, lines_of, text_of}
use Rattle.vx_fields.specs.Lines.{fields_of_line, is_plain}
use Rattle.vx_feed.specs.declared.events.Event.{Event}
use Rattle.vx_feed.specs.declared.events.Event.TheVariants as event
use Rattle.vx_feed.specs.declared.faults.FeedFault.{FeedFault}
use Rattle.vx_feed.specs.declared.faults.FeedFault.TheVariants as fault
use Rattle.vx_feed.specs.declared.limits.TheConstants.{LINE_LEN_MAX}
use Rattle.vx_feed.specs.Form.{event_of_fields}
use Rattle.vx_feed.specs.Feed.{event_unless, event_in_order, next_event, event_of_line, Reading, with_cause, reading_after, reading_from, reading_on}
use Rattle.vx_feed.specs.Order.{order_fault}
use Rattle.vx_days.specs.FeedExamples.{september_17, standard, call_at, put_at, sample_feed}
use Rattle.vx_days.specs.TextExamples.{sample_lines, SampleTextIsRead, SampleTextIsLawful}
use Rattle.vx_days.proofs.TermExampleProofs.{in_2014}

day_of_trade : days_from_civil (pos 2014) 9 17 ≡ pos 16330
unfolding days_of_months
day_of_trade = in_2014 9 17 260 refl (omega arith)

day_of_expiry : days_from_civil (pos 2014) 10 17 ≡ pos 16360
unfolding days_of_months
day_of_expiry = in_2014 10 17 290 refl (omega arith)

-- what lines say, by the number of their day
abbrev Said : Type 0
Said = Result Event FeedFault

abbrev header_of : ℤ → Said
header_of day = Ok (event.Header (record { 0 = day }))

abbrev expiry_of : ℤ → Said
expiry_of day = Ok (event.Expiry (record { root = Spx; date = record { 0 = day } }))

abbrev rate_of : ℤ → Said
rate_of day = Ok (event.Rate (record { root = Spx; date = record { 0 = day } }) (pos 0))

abbrev series_of : Side → ℕ → ℤ → Said
series_of side strike day = Ok (event.Series (record { root = Spx; date = record { 0 = day }; side = side; strike = strike }))

abbrev quote_of : Side → ℕ → ℕ → ℤ → Said
quote_of side strike price day = Ok (event.Quote 510 (record { root = Spx; date = record { 0 = day }; side = side; strike = strike }) price price)

abbrev Says : List ℕ → Event → Type 0
Says line e = event_of_fields (fields_of_line line) ≡ Ok e

says_header : Says (codes "H,1,2014-09-17") (event.Header september_17)
unfolding decimal_of
says_header = ap header_of day_of_trade

says_expiry : Says (codes "E,SPX,2014-10-17") (event.Expiry standard)
unfolding decimal_of
says_expiry = ap expiry_of day_of_expiry

says_rate : Says (codes "R,SPX,2014-10-17,0") (event.Rate standard (pos 0))
unfolding decimal_of
says_rate = ap rate_of day_of_expiry

says_call_1900 : Says (codes "S,SPX   141017C01900000") (event.Series (call_at 1900000))
unfolding decimal_of
says_call_1900 = ap (series_of Call 1900000) day_of_expiry

says_put_1900 : Says (codes "S,SPX   141017P01900000") (event.Series (put_at 1900000))
unfolding decimal_of
says_put_1900 = ap (series_of Put 1900000) day_of_expiry

says_call_2000 : Says (codes "S,SPX   141017C02000000") (event.Series (call_at 2000000))
unfolding decimal_of
says_call_2000 = ap (series_of Call 2000000) day_of_expiry

says_put_2000 : Says (codes "S,SPX   141017P02000000") (event.Series (put_at 2000000))
unfolding decimal_of
says_put_2000 = ap (series_of Put 2000000) day_of_expiry

says_call_2100 : Says (codes "S,SPX   141017C02100000") (event.Series (call_at 2100000))
unfolding decimal_of
says_call_2100 = ap (series_of Call 2100000) day_of_expiry

says_put_2100 : Says (codes "S,SPX   141017P02100000") (event.Series (put_at 2100000))
unfolding decimal_of
says_put_2100 = ap (series_of Put 2100000) day_of_expiry

says_quote_put_1900 : Says (codes "Q,08:30,SPX   141017P01900000,10.00,10.00") (event.Quote 510 (put_at 1900000) 1000 1000)
unfolding decimal_of
says_quote_put_1900 = ap (quote_of Put 1900000 1000) day_of_expiry

says_quote_call_2000 : Says (codes "Q,08:30,SPX   141017C02000000,50.00,50.00") (event.Quote 510 (call_at 2000000) 5000 5000)
unfolding decimal_of
says_quote_call_2000 = ap (quote_of Call 2000000 5000) day_of_expiry

says_quote_put_2000 : Says (codes "Q,08:30,SPX   141017P02000000,50.00,50.00") (event.Quote 510 (put_at 2000000) 5000 5000)
unfolding decimal_of
says_quote_put_2000 = ap (quote_of Put 2000000 5000) day_of_expiry

says_quote_call_2100 : Says (codes "Q,08:30,SPX   141017C02100000,10.00,10.00") (event.Quote 510 (call_at 2100000) 1000 1000)
unfolding decimal_of
says_quote_call_2100 = ap (quote_of Call 2100000 1000) day_of_expiry

says_tick : Says (codes "V,08:30") (event.Tick 510)
unfolding decimal_of
says_tick = refl

says_end : Says (codes "END,13") (event.End 13)
unfolding decimal_of
says_end = refl

-- a line that says an event which may come next is read as it
is_read : (before : List Event) (line : List ℕ) (e : Event) → (length line == 0) ≡ false → list_all is_plain line ≡ true
    → Says line e → order_fault before e ≡ None → with_cause (event_of_line before line) ≡ Ok e
is_read before line e filled plain says order =
    let next : Result Event FeedFault = next_event before (fields_of_line line) in
    ap with_cause (cond-false (length line == 0) (Err fault.Kind) (cond (list_all is_plain line) next (Err fault.Byte)) filled
    ∙ cond-true (list_all is_plain line) next (Err fault.Byte) plain
    ∙ ap (event_in_order before) says
    ∙ ap (λ o. event_unless o e) order)

-- so the reading of the feed goes on behind its line of this number
step : (n : ℕ) (line : List ℕ) (e : Event) → (length line == 0) ≡ false → list_all is_plain line ≡ true → Says line e
    → order_fault (take n sample_feed) e ≡ None
    → reading_from (take n sample_feed) (line ∷ drop (n + 1) sample_lines) at_end
    ≡ reading_from (take n sample_feed ++ e ∷ []) (drop (n + 1) sample_lines) at_end
step n line e filled plain says order =
    ap (reading_after (λ events. reading_from events (drop (n + 1) sample_lines) at_end) (take n sample_feed))
    (is_read (take n sample_feed) line e filled plain says order)

-- the text's lines, and nothing behind the last
sample_lines_are_cut : lines_of LINE_LEN_MAX (text_of sample_lines) ≡ record { lines = sample_lines; ending = at_end }
sample_lines_are_cut = refl

read_lines : reading_from [] sample_lines at_end ≡ record { events = sample_feed; bad = None }
read_lines =
    step 0 (codes "H,1,2014-09-17") (event.Header september_17) refl refl says_header refl
    ∙ step 1 (codes "E,SPX,2014-10-17") (event.Expiry standard) refl refl says_expiry refl
    ∙ step 2 (codes "R,SPX,2014-10-17,0") (event.Rate standard (pos 0)) refl refl says_rate refl
    ∙ step 3 (codes "S,SPX   141017C01900000") (event.Series (call_at 1900000)) refl refl says_call_1900 refl
    ∙ step 4 (codes "S,SPX   141017P01900000") (event.Series (put_at 1900000)) refl refl says_put_1900 refl
    ∙ step 5 (codes "S,SPX   141017C02000000") (event.Series (call_at 2000000)) refl refl says_call_2000 refl
    ∙ step 6 (codes "S,SPX   141017P02000000") (event.Series (put_at 2000000)) refl refl says_put_2000 refl
    ∙ step 7 (codes "S,SPX   141017C02100000") (event.Series (call_at 2100000)) refl refl says_call_2100 refl
    ∙ step 8 (codes "S,SPX   141017P02100000") (event.Series (put_at 2100000)) refl refl says_put_2100 refl
    ∙ step 9 (codes "Q,08:30,SPX   141017P01900000,10.00,10.00") (event.Quote 510 (put_at 1900000) 1000 1000) refl refl says_quote_put_1900 refl
    ∙ step 10 (codes "Q,08:30,SPX   141017C02000000,50.00,50.00") (event.Quote 510 (call_at 2000000) 5000 5000) refl refl says_quote_call_2000 refl
    ∙ step 11 (codes "Q,08:30,SPX   141017P02000000,50.00,50.00") (event.Quote 510 (put_at 2000000) 5000 5000) refl refl says_quote_put_2000 refl
    ∙ step 12 (codes "Q,08:30,SPX   141017C02100000,10.00,10.00") (event.Quote 510 (call_at 2100000) 1000 1000) refl refl says_quote_call_2100 refl
    ∙ step 13 (codes "V,08:30") (event.Tick 510) refl refl says_tick refl
    ∙ step 14 (codes "END,13") (event.End 13) refl refl says_end refl

-- each line of the small feed's text says its event, and no line is bad
pub sample_text_is_read : SampleTextIsRead
sample_text_is_read = ap (reading_on []) sample_lines_are_cut ∙ read_lines

-- so the text is a lawful feed
pub sample_text_is_lawful : SampleTextIsLawful
sample_text_is_lawful = ap (λ (r : Reading). r.bad) sample_text_is_read
