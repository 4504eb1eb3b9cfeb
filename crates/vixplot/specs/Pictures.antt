-- What lies in the picture that two scales make, and why there is none.
use Rattle.std.specs.Prelude.{◌≤◌, ◌≢◌, List, []}
use Rattle.vixplot.specs.declared.answer.Tick.{Tick}
use Rattle.vixplot.specs.declared.axis.Scale.{Scale}
use Rattle.vixplot.specs.declared.axis.Times.{Times}
use Rattle.vixplot.specs.declared.day.Mark.{Mark}
use Rattle.vixplot.specs.declared.fault.Fault.{Fault}
use Rattle.vixplot.specs.declared.fault.Fault.TheVariants.{NoMemory, Device}

-- a tick is not outside a scale of times
pub record IsWithinTimes (times : Times) (tick : Tick) : Type 0 where
  pub first : times.first ≤ tick.minute
  pub last : tick.minute ≤ times.last

-- nor a figure outside a scale of figures
pub record IsWithinScale (scale : Scale) (mark : Mark) : Type 0 where
  pub first : scale.first ≤ mark.cents
  pub last : mark.cents ≤ scale.last

-- a figure is in the picture that two scales make
pub record IsInPicture (times : Times) (scale : Scale) (mark : Mark) : Type 0 where
  pub first : times.first ≤ mark.minute
  pub last : mark.minute ≤ times.last
  pub within : IsWithinScale scale mark

-- ticks are not drawn to the end for this reason: the output may refuse at any line, and memory is asked for only where there is a tick
abbrev pub IsDrawingFault : List Tick → Fault → Type 0
IsDrawingFault ticks Device = Unit {0}
IsDrawingFault ticks NoMemory = ticks ≢ []
IsDrawingFault ticks _ = ⊥
