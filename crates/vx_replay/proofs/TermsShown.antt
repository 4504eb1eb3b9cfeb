-- What the book shows of a term is what is known of it.
use Rattle.std.proofs.Common.{◌≡◌, ◌∙◌, ap, ℕ, ℤ, List, Option}
use Rattle.vx_clock.specs.declared.terms.Expiry.{Expiry}
use Rattle.vx_clock.specs.declared.terms.Moment.{Moment}
use Rattle.vx_clock.specs.Minutes.{minutes_between}
use Rattle.vx_symbol.specs.declared.rows.StrikeRow.{StrikeRow}
use Rattle.vx_feed.specs.declared.events.Event.{Event}
use Rattle.vx_feed.specs.Listed.{listed_rows}
use Rattle.vx_feed.specs.Standing.{standing_rate}
use Rattle.vx_formula.specs.Term.{TermFacts}
use Rattle.vx_claims.specs.Seen.{term_facts}

-- the rows, the rate and the minutes of an expiry are the facts of its term
pub facts_shown : (events : List Event) (now : Moment) (y x : Expiry) (rows : List StrikeRow) (rate : Option ℤ) (minutes : ℕ)
    → y ≡ x → rate ≡ standing_rate y events → rows ≡ listed_rows y events → minutes ≡ minutes_between now y
    → ◌≡◌ {A = TermFacts} (record { rows = rows; rate = rate; minutes = minutes }) (term_facts events now x)
facts_shown events now y x rows rate minutes same rate_is rows_are minutes_are =
    let at_y : ◌≡◌ {A = TermFacts} (record { rows = rows; rate = rate; minutes = minutes }) (term_facts events now y) =
    λ i. record { rows = rows_are i; rate = rate_is i; minutes = minutes_are i } in
    at_y ∙ ap (term_facts events now) same
