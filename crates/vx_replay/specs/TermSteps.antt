-- The step of one term of a tick. This project's own.
use Rattle.std.specs.Prelude.{◌≡◌, ℕ, pos, ◌≤ℤ◌, List, length, slice_get, slice_set, Some, Result}
use Rattle.vx_num.specs.declared.fault.NoMemory.{NoMemory}
use Rattle.vx_clock.specs.declared.limits.TheConstants.{DAYS_AHEAD_MAX}
use Rattle.vx_clock.specs.declared.terms.Expiry.{Expiry}
use Rattle.vx_clock.specs.declared.terms.Moment.{Moment}
use Rattle.vx_clock.specs.Minutes.{days_until}
use Rattle.vx_feed.specs.declared.events.Event.{Event}
use Rattle.vx_feed.specs.Order.{AreLawful}
use Rattle.vx_formula.specs.Term.{TermFacts}
use Rattle.vx_claims.specs.declared.limits.TheConstants.{SCALE}
use Rattle.vx_book.specs.declared.book.Book.{Book}
use Rattle.vx_book.specs.StandsFor.{BookStandsFor}
use Rattle.vx_term.specs.declared.answer.TermAnswer.{TermAnswer}
use Rattle.vx_term.specs.KeptAfter.{IsSelectedStrip, IsKeptAfter}
use Rattle.vx_replay.specs.StripsAfter.{Holding}

-- the expiry settles 1 to 181 days ahead
abbrev pub SettlesAhead : Moment → Expiry → Type 0
SettlesAhead now x = (pos 1 ≤ℤ days_until now.day x.date) × (days_until now.day x.date ≤ℤ pos DAYS_AHEAD_MAX)

-- the book stands for some lawful events, and a strip is kept for each of its expiries
pub record HasStripsFor (book : Book) (strips : List Holding) : Type 0 where
  pub events : List Event
  pub lawful : AreLawful events
  pub stands : BookStandsFor book events
  pub as_many : length strips ≡ length book.expiries.items

-- the strip at a place changes as the term's answer says; every other holds what it held
pub record IsTermKept (facts : TermFacts) (place : ℕ) (before after : List Holding) (start count : ℕ) (result : Result (TermAnswer SCALE) NoMemory) : Type 0 where
  pub held : Holding
  pub holds : Holding
  pub is_held : slice_get before place ≡ Some held
  pub after_is : after ≡ slice_set before place holds
  pub kept : IsKeptAfter SCALE (IsSelectedStrip SCALE facts) held holds start count result
