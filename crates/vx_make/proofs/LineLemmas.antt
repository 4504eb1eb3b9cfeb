-- What the parts of a quote's line are together.
use Rattle.std.proofs.Common.{◌≡◌, refl, sym, ap, ◌∙◌, ℕ, List, [], ◌∷◌, ◌++◌, append_assoc}
use Rattle.std.specs.Prelude.{slice_set}
use Rattle.std.proofs.lemmas.List.{append-nil}
use Rattle.vx_clock.specs.Clock.{clock_text}
use Rattle.vx_clock.specs.declared.terms.Expiry.{Expiry}
use Rattle.vx_clock.specs.declared.terms.Root.{Root}
use Rattle.vx_clock.specs.declared.terms.Root.TheVariants.{Spx, Spxw}
use Rattle.vx_clock.specs.declared.days.DayNo.{DayNo}
use Rattle.vx_symbol.specs.declared.symbols.Symbol.{Symbol}
use Rattle.vx_symbol.specs.declared.symbols.Side.TheVariants.{Call, Put}
use Rattle.vx_symbol.specs.SymbolText.{symbol_text}
use Rattle.vx_feed.specs.declared.events.Event.TheVariants as event
use Rattle.vx_feed.specs.declared.events.Event.{Event}
use Rattle.vx_feed.specs.Written.{event_line, event_text, text_of_events, price_text}
use Rattle.vx_make.specs.Quotes.{sample_series_at}

-- fields behind commas, and what stands behind them
fields_before : (a b c rest : List ℕ) → (a ++ 44 ∷ (b ++ 44 ∷ (c ++ []))) ++ rest ≡ a ++ 44 ∷ (b ++ 44 ∷ (c ++ rest))
fields_before a b c rest =
    append_assoc a (44 ∷ (b ++ 44 ∷ (c ++ []))) rest
    ∙ ap (λ u. a ++ 44 ∷ u) (append_assoc b (44 ∷ (c ++ [])) rest ∙ ap (λ u. b ++ 44 ∷ u) (append_assoc c [] rest))

-- kind, minute, symbol and prices, each behind its comma, and LF
pub quote_parts : (time : ℕ) (s : Symbol) (bid ask : ℕ) → 81 ∷ 44 ∷ clock_text time ++ 44 ∷ (symbol_text s ++ 44 ∷ (price_text bid ++ 44 ∷ (price_text ask ++ 10 ∷ []))) ≡ event_text (event.Quote time s bid ask)
unfolding event_line
quote_parts time s bid ask = ap (λ u. 81 ∷ 44 ∷ clock_text time ++ 44 ∷ u) (sym (fields_before (symbol_text s) (price_text bid) (price_text ask) (10 ∷ [])))

-- kind and minute, and LF
pub tick_parts : (time : ℕ) → 86 ∷ 44 ∷ clock_text time ++ 10 ∷ [] ≡ event_text (event.Tick time)
unfolding event_line
tick_parts time = refl

-- the symbols of a call and of the put at its strike differ in one byte
put_text : (root : Root) (date : DayNo) (strike : ℕ) → slice_set (symbol_text (record { root = root; date = date; side = Call; strike = strike })) 12 80 ≡ symbol_text (record { root = root; date = date; side = Put; strike = strike })
unfolding symbol_text
put_text Spx date strike = refl
put_text Spxw date strike = refl

pub put_symbol : (x : Expiry) (place : ℕ) → slice_set (symbol_text (sample_series_at x Call place)) 12 80 ≡ symbol_text (sample_series_at x Put place)
put_symbol x place = put_text x.root x.date _

-- two lines after one another
pub two_lines : (old a b : List ℕ) (first second call put : Event) → first ≡ call → second ≡ put → a ≡ old ++ event_text first → b ≡ a ++ event_text second → b ≡ old ++ text_of_events (call ∷ put ∷ [])
two_lines old a b first second call put is_call is_put ha hb =
    hb ∙ ap (λ e. a ++ event_text e) is_put ∙ ap (λ t. t ++ event_text put) (ha ∙ ap (λ e. old ++ event_text e) is_call)
    ∙ append_assoc old (event_text call) (event_text put) ∙ ap (λ t. old ++ (event_text call ++ t)) (sym (append-nil (event_text put)))
