-- What the lines of a day say, and which of it is in range. The lines are those that `replay` prints.
use Rattle.std.specs.Prelude.{ℕ, ◌≤◌, Bool, true, false, not, ◌&&◌, Option, Some, None, IfSome}
use Rattle.vixplot.specs.declared.answer.Answer.{Answer}
use Rattle.vixplot.specs.declared.answer.Answer.TheVariants.{Figure, Refused}
use Rattle.vixplot.specs.declared.answer.Line.{Line}
use Rattle.vixplot.specs.declared.answer.Line.TheVariants.{Tick as TickLine, End}
use Rattle.vixplot.specs.declared.answer.Tick.{Tick}
use Rattle.vixplot.specs.declared.day.Mark.{Mark}
use Rattle.vx_clock.specs.declared.limits.TheConstants.{MINUTE_MAX}
use Rattle.vx_num.specs.declared.limits.TheConstants.{CENTS_MAX}

-- the figure of an answer with its minute, where it is one
abbrev pub mark_of_answer : ℕ → Answer → Option Mark
mark_of_answer minute (Figure cents) = Some (record { minute = minute; cents = cents })
mark_of_answer minute _ = None

abbrev pub mark_of : Tick → Option Mark
mark_of tick = mark_of_answer tick.minute tick.answer

-- a figure is at most the greatest, 3,200 points
abbrev pub IsAnswerInRange : Answer → Type 0
IsAnswerInRange answer = (minute : ℕ) → IfSome (mark_of_answer minute answer) (λ (mark : Mark). mark.cents ≤ CENTS_MAX)

-- the minute is one of a day, and a figure is at most the greatest, 3,200 points
pub record IsTickInRange (tick : Tick) : Type 0 where
  pub minute : tick.minute ≤ MINUTE_MAX
  pub figure : IfSome (mark_of tick) (λ (mark : Mark). mark.cents ≤ CENTS_MAX)

abbrev pub IsLineInRange : Line → Type 0
IsLineInRange (TickLine tick) = IsTickInRange tick
IsLineInRange (End counts) = Unit {0}

abbrev pub shows_figure : Answer → Bool
shows_figure (Figure cents) = true
shows_figure _ = false

abbrev pub shows_refusal : Answer → Bool
shows_refusal (Refused reason which) = true
shows_refusal _ = false

abbrev pub shows_undecided : Answer → Bool
shows_undecided answer = not (shows_figure answer) && not (shows_refusal answer)
