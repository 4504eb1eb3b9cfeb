-- What a kept strip holds after a term's answer, and how many rows were divided for it. This project's own.
use Rattle.std.specs.Prelude.{◌≡◌, ℕ, ◌+◌, ◌≤◌, ◌⊎◌, List, Option, Some, Result, Ok, Err}
use Rattle.vx_num.specs.declared.fault.NoMemory.{NoMemory}
use Rattle.vx_symbol.specs.declared.rows.StrikeRow.{StrikeRow}
use Rattle.vx_interval.specs.Ends.{Ends}
use Rattle.vx_formula.specs.Term.{TermFacts}
use Rattle.vx_formula.specs.Touched.{touched_count}
use Rattle.vx_strip.specs.declared.strip.Strip.{Strip}
use Rattle.vx_strip.specs.Entries.{entries_of, IsStripOf}
use Rattle.vx_strip.specs.Refusals.{HasNoStripRefusal}
use Rattle.vx_sum.specs.declared.kept.Kept.{Kept}
use Rattle.vx_sum.specs.Kept.{kept_entries, Holds}
use Rattle.vx_term.specs.declared.answer.TermRun.{TermRun}
use Rattle.vx_term.specs.declared.answer.TermAnswer.{TermAnswer}
use Rattle.vx_term.specs.declared.answer.TermAnswer.TheVariants.{Run, Refused, UndecidedForward}
use Rattle.vx_term.specs.Runs.{TellsLevel}
use Rattle.vx_term.specs.Answer.{AtStandingRate}

-- the strip is selected from rows whose exponential lies between the ends e: their forward tells a level, no refusal of a strip
-- holds there, and it is the strip at that level
pub record SelectsStrip (P : ℕ) (rows : List StrikeRow) (e : Ends) (s : Strip) : Type 0 where
  pub level : ℕ
  pub tells : TellsLevel P rows e level
  pub has_strip : HasNoStripRefusal rows level
  pub strip_is : IsStripOf rows level s

-- it is selected for a term, at the rate that stands
abbrev pub IsSelectedStrip : ℕ → TermFacts → Strip → Type 0
IsSelectedStrip P facts s = AtStandingRate P facts (λ e. SelectsStrip P facts.rows e s)

-- after a run its strip and its sum are held, and the count rose by its touched rows
pub record IsKeptAfterRun (P : ℕ) (before after : Option (Kept P)) (start count : ℕ) (run : TermRun P) : Type 0 where
  pub held : after ≡ Some (record { strip = run.strip; sum = run.sum })
  pub counted : count ≡ start + touched_count (kept_entries before) (entries_of run.strip)

-- what was held is held, and nothing was counted
pub record IsUntouched (P : ℕ) (before after : Option (Kept P)) (start count : ℕ) : Type 0 where
  pub held : after ≡ before
  pub counted : count ≡ start

-- a strip was selected: it is held with its sum, or what was held is, and the count rose by at most its touched rows
pub record IsKeptAfterSelection (P : ℕ) (Selected : Strip → Type 0) (before after : Option (Kept P)) (start count : ℕ) : Type 0 where
  pub strip : Strip
  pub selected : Selected strip
  pub held : (after ≡ before) ⊎ Holds P strip after
  pub least : start ≤ count
  pub most : count ≤ start + touched_count (kept_entries before) (entries_of strip)

-- after any other answer, and where memory was refused
abbrev pub IsKeptOtherwise : (P : ℕ) → (Strip → Type 0) → Option (Kept P) → Option (Kept P) → ℕ → ℕ → Type 0
IsKeptOtherwise P Selected before after start count = IsUntouched P before after start count ⊎ IsKeptAfterSelection P Selected before after start count

-- what is held and counted after a call, whatever it answers
abbrev pub IsKeptAfter : (P : ℕ) → (Strip → Type 0) → Option (Kept P) → Option (Kept P) → ℕ → ℕ → Result (TermAnswer P) NoMemory → Type 0
IsKeptAfter P Selected before after start count (Ok (Run run)) = IsKeptAfterRun P before after start count run
IsKeptAfter P Selected before after start count (Ok (Refused refusal)) = IsKeptOtherwise P Selected before after start count
IsKeptAfter P Selected before after start count (Ok (UndecidedForward strike lo hi)) = IsKeptOtherwise P Selected before after start count
IsKeptAfter P Selected before after start count (Err memory) = IsKeptOtherwise P Selected before after start count
