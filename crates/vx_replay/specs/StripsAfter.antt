-- What the kept strips hold after an event, and how many rows were divided for it. This project's own.
use Rattle.std.specs.Prelude.{◌≡◌, ℕ, ◌+◌, ◌≤◌, ◌⊎◌, List, [], ◌∷◌, ◌++◌, slice_get, slice_set, Option, Some, None, Result, Ok, Err}
use Rattle.vx_num.specs.declared.fault.NoMemory.{NoMemory}
use Rattle.vx_clock.specs.declared.days.DayNo.{DayNo}
use Rattle.vx_clock.specs.declared.terms.Expiry.{Expiry}
use Rattle.vx_clock.specs.declared.limits.TheConstants.{INDEX_DAYS, INDEX_WINDOW}
use Rattle.vx_clock.specs.Terms.{IsNearTerm, IsNextTerm}
use Rattle.vx_feed.specs.declared.events.Event.{Event}
use Rattle.vx_feed.specs.declared.events.Event.TheVariants as event
use Rattle.vx_feed.specs.Listed.{trade_date, declared_expiries}
use Rattle.vx_formula.specs.Term.{TermFacts}
use Rattle.vx_formula.specs.Touched.{touched_count}
use Rattle.vx_claims.specs.declared.limits.TheConstants.{SCALE}
use Rattle.vx_claims.specs.Seen.{moment_of, term_facts}
use Rattle.vx_strip.specs.declared.strip.Strip.{Strip}
use Rattle.vx_strip.specs.Entries.{entries_of}
use Rattle.vx_sum.specs.declared.kept.Kept.{Kept}
use Rattle.vx_sum.specs.Kept.{kept_entries, Holds}
use Rattle.vx_term.specs.declared.answer.TermRun.{TermRun}
use Rattle.vx_term.specs.Answer.{IsRun}
use Rattle.vx_term.specs.KeptAfter.{IsSelectedStrip}
use Rattle.vx_replay.specs.declared.answer.TickAnswer.{TickAnswer}
use Rattle.vx_replay.specs.declared.answer.TickAnswer.TheVariants.{Published, UndecidedCents, UndecidedForward, Refused}
use Rattle.vx_replay.specs.declared.answer.Reason.TheVariants.{NoTerm, Term, NegativeVariance}

-- what a kept strip holds: nothing before its first refresh
abbrev pub Holding : Type 0
Holding = Option (Kept SCALE)

-- every kept strip holds what it held, and no row was divided
pub record AreUntouched (before after : List Holding) (start count : ℕ) : Type 0 where
  pub same : after ≡ before
  pub none : count ≡ start

-- ---- at a tick

-- the kept strip of a term's expiry, by its place in order of declaration: what it holds before the tick, and what after it
pub record TermStrip (expiries : List Expiry) (strips : List Holding) (x : Expiry) : Type 0 where
  pub place : ℕ
  pub is_place : slice_get expiries place ≡ Some x
  pub before : Holding
  pub is_before : slice_get strips place ≡ Some before
  pub after : Holding

-- the kept strips of the tick's two terms; every other strip holds what it held
pub record TermStrips (events : List Event) (time : ℕ) (before after : List Holding) : Type 0 where
  pub day : DayNo
  pub day_is : trade_date events ≡ Some day
  pub near : Expiry
  pub is_near : IsNearTerm day INDEX_DAYS INDEX_WINDOW (declared_expiries events) near
  pub near_strip : TermStrip (declared_expiries events) before near
  pub next : Expiry
  pub is_next : IsNextTerm day INDEX_DAYS INDEX_WINDOW (declared_expiries events) next
  pub next_strip : TermStrip (declared_expiries events) before next
  pub after_is : after ≡ slice_set (slice_set before near_strip.place near_strip.after) next_strip.place next_strip.after

-- what is known of the two terms at the tick
abbrev pub near_facts : {events : List Event} {time : ℕ} {before after : List Holding} → TermStrips events time before after → TermFacts
near_facts {events} {time} strips = term_facts events (moment_of strips.day time) strips.near

abbrev pub next_facts : {events : List Event} {time : ℕ} {before after : List Holding} → TermStrips events time before after → TermFacts
next_facts {events} {time} strips = term_facts events (moment_of strips.day time) strips.next

-- how many rows of a strip are touched, measured against what was held
abbrev pub touched : Holding → Strip → ℕ
touched held strip = touched_count (kept_entries held) (entries_of strip)

-- both terms have a run; their strips and sums are held, and the rows divided are exactly the touched ones
pub record HoldRuns (events : List Event) (time : ℕ) (before after : List Holding) (start count : ℕ) : Type 0 where
  pub strips : TermStrips events time before after
  pub near : TermRun SCALE
  pub is_near : IsRun SCALE strips.near (near_facts strips) near
  pub near_is_held : strips.near_strip.after ≡ Some (record { strip = near.strip; sum = near.sum })
  pub next : TermRun SCALE
  pub is_next : IsRun SCALE strips.next (next_facts strips) next
  pub next_is_held : strips.next_strip.after ≡ Some (record { strip = next.strip; sum = next.sum })
  pub counted : count ≡ start + (touched strips.near_strip.before near.strip + touched strips.next_strip.before next.strip)

-- a kept strip holds what it held, or the strip that is selected for its term with its sum; and the most rows that may be divided for
-- it: none where no strip is selected
abbrev pub MayHoldSelected : TermFacts → Holding → Holding → ℕ → Type 0
MayHoldSelected facts before after most =
    ((after ≡ before) × (most ≡ 0))
    ⊎ ((s : Strip) × IsSelectedStrip SCALE facts s × ((after ≡ before) ⊎ Holds SCALE s after) × (most ≡ touched before s))

-- so it is for the two terms
pub record MayHoldStrips (events : List Event) (time : ℕ) (before after : List Holding) (start count : ℕ) : Type 0 where
  pub strips : TermStrips events time before after
  pub near_most : ℕ
  pub near : MayHoldSelected (near_facts strips) strips.near_strip.before strips.near_strip.after near_most
  pub next_most : ℕ
  pub next : MayHoldSelected (next_facts strips) strips.next_strip.before strips.next_strip.after next_most
  pub least : start ≤ count
  pub most : count ≤ start + (near_most + next_most)

-- where no figure was reached
abbrev pub AreKeptOtherwise : List Event → ℕ → List Holding → List Holding → ℕ → ℕ → Type 0
AreKeptOtherwise events time before after start count = AreUntouched before after start count ⊎ MayHoldStrips events time before after start count

-- after a tick's answer: a figure, undecided cents and a negative square are of two runs
abbrev pub AreKeptAfterAnswer : List Event → ℕ → List Holding → List Holding → ℕ → ℕ → TickAnswer → Type 0
AreKeptAfterAnswer events time before after start count (Published cents lo hi certificate) = HoldRuns events time before after start count
AreKeptAfterAnswer events time before after start count (UndecidedCents lo hi) = HoldRuns events time before after start count
AreKeptAfterAnswer events time before after start count (Refused NegativeVariance which) = HoldRuns events time before after start count
AreKeptAfterAnswer events time before after start count (Refused NoTerm which) = AreKeptOtherwise events time before after start count
AreKeptAfterAnswer events time before after start count (Refused (Term refusal) which) = AreKeptOtherwise events time before after start count
AreKeptAfterAnswer events time before after start count (UndecidedForward which strike lo hi) = AreKeptOtherwise events time before after start count

-- and where memory was refused
abbrev pub AreKeptAfterTick : List Event → ℕ → List Holding → List Holding → ℕ → ℕ → Result TickAnswer NoMemory → Type 0
AreKeptAfterTick events time before after start count (Ok answer) = AreKeptAfterAnswer events time before after start count answer
AreKeptAfterTick events time before after start count (Err memory) = AreKeptOtherwise events time before after start count

-- ---- after any event

-- a declared expiry has a new strip, the last of all, and no row was divided
pub record HasNewStrip (before after : List Holding) (start count : ℕ) : Type 0 where
  pub one_more : after ≡ before ++ None ∷ []
  pub none : count ≡ start

-- what the strips hold after an event that comes after these events, by what it was answered
abbrev pub AreKeptAfter : List Event → Event → List Holding → List Holding → ℕ → ℕ → Result (Option TickAnswer) NoMemory → Type 0
AreKeptAfter events (event.Tick time) before after start count (Ok (Some answer)) = AreKeptAfterAnswer events time before after start count answer
AreKeptAfter events (event.Tick time) before after start count (Ok None) = ⊥
AreKeptAfter events (event.Tick time) before after start count (Err memory) = AreKeptOtherwise events time before after start count
AreKeptAfter events (event.Expiry x) before after start count (Ok answer) = HasNewStrip before after start count
AreKeptAfter events (event.Expiry x) before after start count (Err memory) = AreUntouched before after start count
AreKeptAfter events e before after start count result = AreUntouched before after start count
