-- The rows of lawful events are lawful.
use Rattle.std.proofs.Common.{◌≡◌, subst, ◌≤◌, ℕ, List, not, map, length, refl, arith}
use Rattle.std.proofs.lemmas.List.{length-map}
use Rattle.std.proofs.lemmas.List.Filters.{length-filter_both}
use Rattle.vx_clock.specs.declared.terms.Expiry.{Expiry}
use Rattle.vx_symbol.specs.declared.limits.TheConstants.{ROWS_MAX}
use Rattle.vx_symbol.specs.declared.rows.Price.{Price}
use Rattle.vx_symbol.specs.declared.symbols.Side.TheVariants.{Call, Put}
use Rattle.vx_symbol.specs.declared.symbols.Symbol.{Symbol}
use Rattle.vx_symbol.specs.Rows.{IsLawfulPrice, IsLawfulRow, AreLawfulRows}
use Rattle.vx_feed.specs.declared.events.Event.{Event}
use Rattle.vx_feed.specs.Standing.{before_opening}
use Rattle.vx_feed.specs.Listed.{series_at, strikes_of, is_strike_listed, listed_strikes, row_of, standing_price}
use Rattle.vx_feed.specs.Opening.{opening_price}
use Rattle.vx_feed.specs.Order.{AreLawful}
use Rattle.vx_formula.proofs.Lists.{In, in_map, in_filter, all_from_in}
use Rattle.vx_feed.proofs.RisingStrikes.{rows_rise}
use Rattle.vx_facts.specs.Shown.{StandingIsLawful, OpeningIsLawful}
use Rattle.vx_claims.proofs.InRange.{AllInRange, lawful_in_range, strike_in_range}
use Rattle.vx_facts.proofs.InRange.{before_is_lawful}
use Rattle.vx_facts.proofs.StrikeCounts.{few_strikes_listed}
use Rattle.vx_facts.proofs.PriceRanges.{rate_in_range, standing_lawful, opening_lawful}

-- the row of a strike in range with lawful prices
row_lawful : (price : Symbol → Price) (x : Expiry) (events : List Event) (k : ℕ) → ((s : Symbol) → IsLawfulPrice (price s)) → AllInRange events
    → In (listed_strikes x events) k → IsLawfulRow (row_of price x k)
row_lawful price x events k lawful range at =
    let strike = strike_in_range x events k range (in_filter (is_strike_listed x events) (strikes_of x events) k at).0 in
    record { strike_min = strike.0; strike_max = strike.1; put = lawful (series_at x Put k); call = lawful (series_at x Call k) }

-- the rows of lawful events, where all prices are lawful
rows_lawful : (price : Symbol → Price) (x : Expiry) (events : List Event) → ((s : Symbol) → IsLawfulPrice (price s)) → AreLawful events
    → AreLawfulRows (map (row_of price x) (listed_strikes x events))
rows_lawful price x events lawful h =
    let ks = listed_strikes x events in
    let few : length (strikes_of x events) ≤ ROWS_MAX = few_strikes_listed x events h in
    let listed = is_strike_listed x events in
    let parts = length-filter_both listed (λ k. not (listed k)) (λ k. refl) (strikes_of x events) in
    let fewer : length ks ≤ length (strikes_of x events) = omega (arith, parts) in
    let same : length (map (row_of price x) ks) ≡ length ks = length-map ks (row_of price x) in
    record {
      count = omega (arith, few, fewer, same);
      each = all_from_in IsLawfulRow (map (row_of price x) ks) (λ row at.
          let found = in_map (row_of price x) ks row at in
          subst IsLawfulRow found.2 (row_lawful price x events found.0 lawful (lawful_in_range events h) found.1));
      rising = rows_rise price x events;
    }

-- what stands after lawful events is lawful
pub standing_is_lawful : StandingIsLawful
standing_is_lawful x events h =
    let range = lawful_in_range events h in
    record { rows_are = rows_lawful (standing_price events) x events (λ s. standing_lawful events s range) h; rate_is = rate_in_range x events range }

-- and what stood when they took the opening
pub opening_is_lawful : OpeningIsLawful
opening_is_lawful x events h =
    let range = lawful_in_range events h in
    let before = before_is_lawful events h in
    record {
      rows_are = rows_lawful (opening_price events) x (before_opening events) (λ s. opening_lawful events s range) before;
      rate_is = rate_in_range x (before_opening events) (lawful_in_range (before_opening events) before);
    }
