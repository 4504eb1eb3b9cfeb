-- What a lawful feed shows at a tick and at the opening is there, and lawful; and each expiry that it declares is in range.
use Rattle.std.specs.Prelude.{ℕ, List, Contains, IfSome}
use Rattle.vx_clock.specs.declared.terms.Expiry.{Expiry}
use Rattle.vx_feed.specs.declared.events.Event.{Event}
use Rattle.vx_feed.specs.Listed.{declared_expiries}
use Rattle.vx_feed.specs.Order.{AreLawful}
use Rattle.vx_formula.specs.Refusal.{TickFacts}
use Rattle.vx_cert.specs.Ranges.{IsExpiryInRange}
use Rattle.vx_claims.specs.Seen.{IsTickAt, AreTickFacts, opening_facts}
use Rattle.vx_term.specs.Ranges.{AreDaysInRange, AreFactsLawful}
use Rattle.vx_accepted.specs.Picked.{IsWindowInRange}

-- each term of a tick is lawful, where it is declared
pub record AreTermsLawful (facts : TickFacts) : Type 0 where
  pub near : IfSome facts.near AreFactsLawful
  pub next : IfSome facts.next AreFactsLawful

-- every tick of a lawful feed has facts, and they are lawful, for 7 to 120 days within a window of at most 35
abbrev pub TickHasLawfulFacts : Type 0
TickHasLawfulFacts = (days window : ℕ) (events : List Event) (line time : ℕ) → AreDaysInRange days → IsWindowInRange window → AreLawful events →
    IsTickAt events line time → (facts : TickFacts) × AreTickFacts events line time days window facts × AreTermsLawful facts

-- and the facts of every such tick are lawful
abbrev pub TickFactsAreLawful : Type 0
TickFactsAreLawful = (days window : ℕ) (events : List Event) (line time : ℕ) (facts : TickFacts) → AreDaysInRange days → IsWindowInRange window →
    AreLawful events → AreTickFacts events line time days window facts → AreTermsLawful facts

-- the term of the opening of lawful events is lawful, where it is declared
abbrev pub OpeningFactsAreLawful : Type 0
OpeningFactsAreLawful = (events : List Event) → AreLawful events → IfSome (opening_facts events).term AreFactsLawful

-- each declared expiry of lawful events is a day of the years 2000 to 2099
abbrev pub DeclaredExpiriesAreInRange : Type 0
DeclaredExpiriesAreInRange = (events : List Event) (x : Expiry) → AreLawful events → Contains (declared_expiries events) x → IsExpiryInRange x
