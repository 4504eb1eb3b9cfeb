-- Sample feeds: how they end, how their text is read, and their ticks.
use Rattle.std.proofs.Common.{◌≡◌, ◌∙◌, ap, refl, ℕ, zero, suc, ◌+◌, ◌*◌, true, List, [], ◌∷◌, ◌++◌, length, arith, append-nil}
use Rattle.std.specs.List.{list_any}
use Rattle.std.proofs.lemmas.Bool.{or_right}
use Rattle.std.proofs.lemmas.List.Elements.{filter_map-append}
use Rattle.std.proofs.lemmas.List.Folds.{list_any-append}
use Rattle.vx_clock.specs.declared.terms.Expiry.{Expiry}
use Rattle.vx_feed.specs.declared.events.Event.{Event}
use Rattle.vx_feed.specs.declared.events.Event.TheVariants as event
use Rattle.vx_feed.specs.Feed.{Reading}
use Rattle.vx_feed.specs.Order.{is_end, tick_minute}
use Rattle.vx_feed.proofs.EndLaws.{end_is_last}
use Rattle.vx_make.specs.Drawing.{next_state, state_after}
use Rattle.vx_make.specs.Quotes.{for_each, drawn_quote, strike_quotes, expiry_quotes, drawn_centre}
use Rattle.vx_make.specs.Feed.{header, standard_term, weekly_term, strike_series, listed_series, tick_events, ticks_events, body_events, make_events}
use Rattle.vx_make.specs.Lawful.{SamplesEnd, SampleLinesAreOfEvents, SamplesAreReadBack, SampleTextsAreLawful, SamplesTickByMinute, SamplesHaveTheirTicks, tick_minutes}
use Rattle.vx_make.proofs.FeedLemmas.{length-for_each}
use Rattle.vx_make.proofs.SampleEvents.{samples_are_lawful}
use Rattle.vx_make.proofs.WrittenEvents.{lines_are_of_events, texts_are_read_back}

-- ---- the end and the text

ends : (number ticks : ℕ) → list_any is_end (make_events number ticks) ≡ true
ends number ticks =
    let body = header ∷ body_events number ticks in
    let last = event.End (length (body_events number ticks)) in
    list_any-append is_end body (last ∷ []) ∙ or_right (list_any is_end body) true refl

-- the last event of a sample feed is its one END
pub samples_end : SamplesEnd
samples_end number ticks most = end_is_last (make_events number ticks) (samples_are_lawful number ticks most) (ends number ticks)

-- the lines of its text are those of its events
pub sample_lines_are_of_events : SampleLinesAreOfEvents
sample_lines_are_of_events number ticks most = lines_are_of_events (make_events number ticks) (samples_are_lawful number ticks most)

-- its text is read as its events
pub samples_are_read_back : SamplesAreReadBack
samples_are_read_back number ticks most = texts_are_read_back (make_events number ticks) (samples_are_lawful number ticks most) (ends number ticks)

-- its text is a lawful feed
pub sample_texts_are_lawful : SampleTextsAreLawful
sample_texts_are_lawful number ticks most = ap (λ (r : Reading). r.bad) (samples_are_read_back number ticks most)

-- ---- the ticks

minutes-append : (xs ys : List Event) → tick_minutes (xs ++ ys) ≡ tick_minutes xs ++ tick_minutes ys
minutes-append xs ys = filter_map-append tick_minute xs ys

-- the minutes of the ticks part by part
minutes-for_each : (minutes : ℕ → List ℕ) (part : ℕ → List Event) (n : ℕ) → ((i : ℕ) → tick_minutes (part i) ≡ minutes i) → tick_minutes (for_each n part) ≡ for_each n minutes
unfolding for_each
minutes-for_each minutes part zero each = refl
minutes-for_each minutes part (suc n) each =
    minutes-append (for_each n part) (part n) ∙ ap (λ l. l ++ tick_minutes (part n)) (minutes-for_each minutes part n each)
    ∙ ap (λ l. for_each n minutes ++ l) (each n)

nothing_each : (n : ℕ) → for_each {A = ℕ} n (λ _. []) ≡ []
unfolding for_each
nothing_each zero = refl
nothing_each (suc n) = append-nil (for_each n (λ _. [])) ∙ nothing_each n

no_minutes : (part : ℕ → List Event) (n : ℕ) → ((i : ℕ) → tick_minutes (part i) ≡ []) → tick_minutes (for_each n part) ≡ []
no_minutes part n each = minutes-for_each (λ _. []) part n each ∙ nothing_each n

no_minutes_listed : (x : Expiry) → tick_minutes (listed_series x) ≡ []
no_minutes_listed x = no_minutes (strike_series x) 200 (λ i. refl)

no_minutes_quoted : (time centre : ℕ) (x : Expiry) (state : ℕ) → tick_minutes (expiry_quotes time centre x state) ≡ []
unfolding drawn_quote
no_minutes_quoted time centre x state = no_minutes (λ i. strike_quotes time centre x i (state_after (4 * i) state)) 200 (λ i. refl)

minutes_of_tick : (time state : ℕ) → tick_minutes (tick_events time state) ≡ time ∷ []
unfolding tick_events
minutes_of_tick time state =
    let first = next_state state in
    let standard = expiry_quotes time (drawn_centre first) standard_term first in
    let weekly = expiry_quotes time (drawn_centre first) weekly_term (state_after 800 first) in
    minutes-append (standard ++ weekly) (event.Tick time ∷ [])
    ∙ ap (λ l. l ++ time ∷ []) (minutes-append standard weekly ∙ ap (λ l. l ++ tick_minutes weekly) (no_minutes_quoted time (drawn_centre first) standard_term first)
    ∙ no_minutes_quoted time (drawn_centre first) weekly_term (state_after 800 first))

-- a sample feed has a tick at each minute from the first on
pub samples_tick_by_minute : SamplesTickByMinute
samples_tick_by_minute number ticks =
    let standard = listed_series standard_term in
    let weekly = listed_series weekly_term in
    let quoted = ticks_events number ticks in
    minutes-append (standard ++ weekly ++ quoted) (event.End (length (body_events number ticks)) ∷ [])
    ∙ append-nil (tick_minutes (standard ++ weekly ++ quoted))
    ∙ minutes-append (standard ++ weekly) quoted
    ∙ ap (λ l. l ++ tick_minutes quoted) (minutes-append standard weekly ∙ ap (λ l. l ++ tick_minutes weekly) (no_minutes_listed standard_term) ∙ no_minutes_listed weekly_term)
    ∙ minutes-for_each (λ t. (510 + t) ∷ []) (λ t. tick_events (510 + t) (state_after (1601 * t) number)) ticks (λ t. minutes_of_tick (510 + t) (state_after (1601 * t) number))

-- so it has as many as were asked for
pub samples_have_their_ticks : SamplesHaveTheirTicks
samples_have_their_ticks number ticks = ap length (samples_tick_by_minute number ticks) ∙ length-for_each 1 ticks (λ t. (510 + t) ∷ []) (λ t. refl) ∙ omega arith
