-- The listed rows of an expiry by their strikes. This project's own.
use Rattle.std.specs.Prelude.{ℕ, Bool, true, List, Option, Some, None}
use Rattle.vx_clock.specs.declared.terms.Expiry.{Expiry}
use Rattle.vx_symbol.specs.declared.symbols.Side.TheVariants.{Call, Put}
use Rattle.vx_symbol.specs.declared.rows.Price.{Price}
use Rattle.vx_symbol.specs.declared.rows.StrikeRow.{StrikeRow}
use Rattle.vx_feed.specs.declared.events.Event.{Event}
use Rattle.vx_feed.specs.Listed.{is_listed, series_at, standing_price}

-- the row of a strike of which both sides are listed
abbrev pub both_sides : ℕ → Bool → Bool → Price → Price → Option StrikeRow
both_sides strike true true put call = Some (record { strike = strike; put = put; call = call })
both_sides strike _ _ put call = None

-- the same for what the events list and quote
abbrev pub listed_row : Expiry → List Event → ℕ → Option StrikeRow
listed_row x events strike =
    let put = series_at x Put strike in
    let call = series_at x Call strike in
    both_sides strike (is_listed put events) (is_listed call events) (standing_price events put) (standing_price events call)
