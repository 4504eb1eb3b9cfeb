-- A worked day of two expiries: its events, the two runs of its tick, and the figure 20.66, each number written out.
use Rattle.std.specs.Prelude.{ℕ, pos, List, [], ◌∷◌, ◌++◌, replicate}
use Rattle.vx_clock.specs.declared.limits.TheConstants.{INDEX_DAYS, INDEX_WINDOW}
use Rattle.vx_clock.specs.declared.terms.Expiry.{Expiry}
use Rattle.vx_symbol.specs.declared.symbols.Side.TheVariants.{Call, Put}
use Rattle.vx_interval.specs.Ends.{Ends}
use Rattle.vx_feed.specs.declared.events.Event.{Event}
use Rattle.vx_feed.specs.declared.events.Event.TheVariants as event
use Rattle.vx_feed.specs.Listed.{series_at}
use Rattle.vx_feed.specs.Order.{AreLawful}
use Rattle.vx_cert.specs.declared.certificate.Certificate.{Certificate}
use Rattle.vx_claims.specs.declared.limits.TheConstants.{SCALE}
use Rattle.vx_claims.specs.Accepts.{AcceptsFor}
use Rattle.vx_strip.specs.declared.strip.StripRow.{StripRow}
use Rattle.vx_sum.specs.declared.sum.SumRow.{SumRow}
use Rattle.vx_term.specs.declared.answer.TermRun.{TermRun}
use Rattle.vx_replay.specs.declared.answer.TickAnswer.TheVariants.{Published}
use Rattle.vx_replay.specs.Figures.{certificate_of_runs}
use Rattle.vx_replay.specs.Ticks.{IsIndexAnswer}
use Rattle.vx_days.specs.FeedExamples.{september_17, standard, half_past_eight, quote_at}
use Rattle.vx_days.specs.TermExamples.{weekly_24}

-- ---- the feed, of 27 lines

-- the strikes 1900, 2000 and 2100 of an expiry
abbrev pub series_of : Expiry → List Event
series_of x =
    event.Series (series_at x Call 1900000) ∷ event.Series (series_at x Put 1900000)
    ∷ event.Series (series_at x Call 2000000) ∷ event.Series (series_at x Put 2000000)
    ∷ event.Series (series_at x Call 2100000) ∷ event.Series (series_at x Put 2100000) ∷ []

-- its quotes, in cents
abbrev pub quotes_of : Expiry → List Event
quotes_of x =
    quote_at (series_at x Put 1900000) 1000 1000 ∷ quote_at (series_at x Call 2000000) 5000 5000
    ∷ quote_at (series_at x Put 2000000) 5000 5000 ∷ quote_at (series_at x Call 2100000) 1000 1000 ∷ []

-- two expiries, 30 and 37 days after the trade date, with rate 0 and the same quotes; the tick is line 26
abbrev pub two_terms : List Event
two_terms =
    event.Header september_17 ∷ event.Expiry standard ∷ event.Expiry weekly_24 ∷ event.Rate standard (pos 0) ∷ event.Rate weekly_24 (pos 0)
    ∷ series_of standard ++ series_of weekly_24 ++ quotes_of standard ++ quotes_of weekly_24
    ++ event.Tick half_past_eight ∷ event.End 25 ∷ []

-- each line may come after those before it
abbrev pub DayIsLawful : Type 0
DayIsLawful = AreLawful two_terms

-- ---- the tick, in units of 2^-62

abbrev pub ends_at : ℕ → ℕ → Ends
ends_at lo hi = record { lo = pos lo; hi = pos hi }

-- the exponential's terms at rate 0: 1, and 13 times 0
abbrev pub terms_of_one : List ℕ
terms_of_one = 4611686018427387904 ∷ replicate 13 0

abbrev pub strip_row : ℕ → ℕ → ℕ → StripRow
strip_row strike d q4 = record { strike = strike; d = d; q4 = q4 }

abbrev pub sum_row : ℕ → ℕ → SumRow
sum_row lo hi = record { lo = lo; hi = hi }

-- the run of an expiry so many minutes before its settlement; the two terms have all else in common
abbrev pub run_of : Expiry → ℕ → TermRun SCALE
run_of x minutes = record {
  expiry = x;
  minutes = minutes;
  rate = pos 0;
  exp = record { t_lo = terms_of_one; t_hi = terms_of_one; value = ends_at 4611686018427387904 4611686018427387904 };
  pair = record { strike = 2000000; d = pos 0 };
  f = ends_at 9223372036854775808000000 9223372036854775808000000;
  k0 = 2000000;
  g = ends_at 0 0;
  strip = record { rows = strip_row 1900000 200000 4000 ∷ strip_row 2000000 200000 20000 ∷ strip_row 2100000 200000 4000 ∷ [] };
  sum = record {
    rows =
        sum_row 1277475351364927 1277475351364928 ∷ sum_row 5764607523034234 5764607523034235
        ∷ sum_row 1045733791026618 1045733791026619 ∷ [];
    total = ends_at 8087816665425779 8087816665425782;
  };
  w = ends_at 16175633330851558 16175633330851564;
}

-- 30 days to a settlement in the morning, and 37 days and six and a half hours to one in the afternoon
abbrev pub near_run : TermRun SCALE
near_run = run_of standard 43200

abbrev pub next_run : TermRun SCALE
next_run = run_of weekly_24 53670

-- the certificate of 20.66: the index lies from 20.657919 to 20.657920
abbrev pub day_certificate : Certificate
day_certificate =
    certificate_of_runs 26 half_past_eight INDEX_DAYS near_run next_run
    (record { x = record { lo = pos 196803538858693955; hi = pos 196803538858694029 }; lo = pos 20657919; hi = pos 20657920; cents = 2066 })

-- is the answer
abbrev pub DayIsAnswered : Type 0
DayIsAnswered = IsIndexAnswer two_terms 26 half_past_eight (Published 2066 (pos 20657919) (pos 20657920) day_certificate)

-- and is accepted
abbrev pub DayIsAccepted : Type 0
DayIsAccepted = AcceptsFor INDEX_DAYS INDEX_WINDOW two_terms day_certificate
