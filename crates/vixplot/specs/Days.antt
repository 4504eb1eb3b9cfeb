-- What is told of a day: how its ticks are answered, and the figures that are marked.
use Rattle.std.specs.Prelude.{◌≡◌, Bool, true, false, ◌<◌, ◌≤◌, ◌-◌, List, [], ◌∷◌, ◌++◌, length, count_by, filter_map, slice_get, All, Contains, Some, IfSome, IsSomeAnd}
use Rattle.vixplot.specs.declared.answer.Counts.{Counts}
use Rattle.vixplot.specs.declared.answer.Line.{Line}
use Rattle.vixplot.specs.declared.answer.Line.TheVariants.{Tick as TickLine, End}
use Rattle.vixplot.specs.declared.answer.Tick.{Tick}
use Rattle.vixplot.specs.declared.day.Mark.{Mark}
use Rattle.vixplot.specs.declared.day.Marks.{Marks}
use Rattle.vixplot.specs.declared.fault.Fault.{Fault}
use Rattle.vixplot.specs.declared.fault.Fault.TheVariants.{AfterEnd, EndCount, NoMemory, TimeBack, TooMany}
use Rattle.vixplot.specs.declared.limits.TheConstants.{TICKS_MAX}
use Rattle.vixplot.specs.Answers.{shows_figure, shows_refusal, shows_undecided, mark_of}

-- how many ticks there are, and how many of them are answered in each way
abbrev pub counts_of : List Tick → Counts
counts_of ticks = record {
  ticks = length ticks;
  published = count_by (λ (tick : Tick). shows_figure tick.answer) ticks;
  undecided = count_by (λ (tick : Tick). shows_undecided tick.answer) ticks;
  refused = count_by (λ (tick : Tick). shows_refusal tick.answer) ticks;
}

-- the figures of a day in order
abbrev pub figures_of : List Tick → List Mark
figures_of ticks = filter_map mark_of ticks

-- the first, the last, a lowest and a highest of some figures
pub record AreMarks (figures : List Mark) (marks : Marks) : Type 0 where
  pub first : slice_get figures 0 ≡ Some marks.first
  pub last : slice_get figures (length figures - 1) ≡ Some marks.last
  pub low : Contains figures marks.low
  pub lowest : All (λ (mark : Mark). marks.low.cents ≤ mark.cents) figures
  pub high : Contains figures marks.high
  pub highest : All (λ (mark : Mark). mark.cents ≤ marks.high.cents) figures

-- the ticks after a line is taken: a tick is put behind the others
abbrev pub ticks_with : List Tick → Line → List Tick
ticks_with ticks (TickLine tick) = ticks ++ tick ∷ []
ticks_with ticks (End counts) = ticks

-- END, which ends the day
abbrev pub ends_day : Line → Bool
ends_day (TickLine tick) = false
ends_day (End counts) = true

-- a tick's time is no earlier than that of the last of these; or it is
abbrev pub IsInTime : List Tick → Tick → Type 0
IsInTime ticks tick = IfSome (slice_get ticks (length ticks - 1)) (λ (last : Tick). last.minute ≤ tick.minute)

abbrev pub IsTimeBack : List Tick → Tick → Type 0
IsTimeBack ticks tick = IsSomeAnd (slice_get ticks (length ticks - 1)) (λ (last : Tick). tick.minute < last.minute)

-- a line may come after these ticks: a tick that is in time, or END with their counts
abbrev pub IsNext : List Tick → Line → Type 0
IsNext ticks (TickLine tick) = IsInTime ticks tick
IsNext ticks (End counts) = counts ≡ counts_of ticks

-- a tick is not taken for this reason; memory may be refused at any
abbrev pub IsTickFault : List Tick → Tick → Fault → Type 0
IsTickFault ticks tick TooMany = TICKS_MAX ≤ length ticks
IsTickFault ticks tick TimeBack = IsTimeBack ticks tick
IsTickFault ticks tick NoMemory = Unit {0}
IsTickFault ticks tick _ = ⊥

-- a line is not taken for this reason, after these ticks and perhaps END
abbrev pub IsDayFault : List Tick → Bool → Line → Fault → Type 0
IsDayFault ticks true line fault = fault ≡ AfterEnd
IsDayFault ticks false (End counts) fault = (fault ≡ EndCount) × (¬ (counts ≡ counts_of ticks))
IsDayFault ticks false (TickLine tick) fault = IsTickFault ticks tick fault
