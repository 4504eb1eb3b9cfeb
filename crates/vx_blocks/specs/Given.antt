-- What was given of what a slot held, as its lines are read, split and taken.
use Rattle.std.specs.Prelude.{◌≡◌, ◌≤◌, ℕ, List, [], ◌∷◌, ◌++◌, length, drop, Option, Result}
use Rattle.std.specs.Option.{option_map}
use Rattle.std.specs.Io.KnownBytes.{prepend_known}
use Rattle.vx_lines.specs.Cut.{HasNoLf}
use Rattle.vx_lines.specs.TextLines.{line_then, text_of}
use Rattle.vx_desk.specs.declared.device.Slot.{Slot}
use Rattle.vx_desk.specs.Told.{Told}
use Rattle.vx_desk.specs.Lines.{to_come}
use Rattle.vx_blocks.specs.declared.split_lines.SplitLines.{SplitLines}
use Rattle.vx_blocks.specs.declared.split_lines.Rest.{Rest}
use Rattle.vx_blocks.specs.declared.split_lines.Rest.TheVariants.{More}
use Rattle.vx_blocks.specs.declared.stop.ReadStop.{ReadStop}
use Rattle.vx_blocks.specs.SplitLines.{AreAhead, IsSplit, lines_coming}
use Rattle.vx_blocks.specs.Stops.{OnOkOrFault}

-- ---- what was read of a slot by a time

-- these lines were read of a slot: what it held is their text, then what more was read, and then what is left
pub record WereRead (lines : List (List ℕ)) (held : Option (List ℕ)) (now : Told) : Type 0 where
  pub more : List ℕ
  pub held_is : held ≡ prepend_known (text_of lines ++ more) now.left

-- these lines were read of a slot, and behind them no more than a part of a line
pub record IsCutAfter (lines : List (List ℕ)) (limit : ℕ) (held : Option (List ℕ)) (now : Told) : Type 0 where
  pub part : List ℕ
  pub fits : length part ≤ limit
  pub no_lf : HasNoLf part
  pub held_is : held ≡ prepend_known (text_of lines ++ part) now.left

-- ---- what was given of it, where lines are read ahead

-- what is to come of a slot behind the lines that were read ahead
abbrev pub still_to_come : SplitLines → (Slot → Told) → Option (List ℕ)
still_to_come ahead told = to_come ahead.lines (told ahead.lines.slot)

-- what was to come are bytes that have come since, and then what is still to come
pub record ComesOn (before after : Option (List ℕ)) : Type 0 where
  pub came : List ℕ
  pub before_is : before ≡ prepend_known came after

-- no byte of what was to come is lost: those that came were read, and the others are still to come
abbrev pub LosesNothing : SplitLines → (Slot → Told) → SplitLines → (Slot → Told) → Type 0
LosesNothing old before new after = ComesOn (still_to_come old before) (still_to_come new after)

-- a slot held the lines that were given, then these, which are ready, and then what is left, with nothing between them
-- where more is read
pub record IsHeld (given ready : List (List ℕ)) (rest : Rest) (held left : Option (List ℕ)) : Type 0 where
  pub between : List ℕ
  pub held_is : held ≡ prepend_known (text_of (given ++ ready) ++ between) left
  pub none_between : rest ≡ More → between ≡ []

-- a slot held the lines that were given, then the whole block, and then what is to come
abbrev pub HasRead : List (List ℕ) → Option (List ℕ) → SplitLines → (Slot → Told) → Type 0
HasRead given held ahead told = IsHeld given ahead.block ahead.rest held (still_to_come ahead told)

-- a slot held the lines that were given, then those of the block that were not yet taken, and then what is to come
abbrev pub HasGiven : List (List ℕ) → Option (List ℕ) → SplitLines → (Slot → Told) → Type 0
HasGiven given held ahead told =
    IsHeld given (drop ahead.taken ahead.block) ahead.rest held (still_to_come ahead told)

-- a step that reads to a block loses no line, nor does a fault of the device in it
abbrev pub KeepsRead : {T : Type 0} → SplitLines → (Slot → Told) → SplitLines → (Slot → Told) → Result T ReadStop
    → Type 0
KeepsRead old before new after result =
    (given : List (List ℕ)) (held : Option (List ℕ)) → HasRead given held old before
    → OnOkOrFault result (HasRead given held new after)

-- a block is read behind the lines that were given, and at a fault of the device they are given and no other is read
abbrev pub ReadsBlock : {T : Type 0} → SplitLines → (Slot → Told) → SplitLines → (Slot → Told) → Result T ReadStop
    → Type 0
ReadsBlock old before new after result =
    (given : List (List ℕ)) (held : Option (List ℕ)) → HasGiven given held old before
    → OnOkOrFault result (HasRead given held new after)

-- a step that reads ahead gives no line and loses none, nor does a fault of the device in it
abbrev pub KeepsGiven : {T : Type 0} → SplitLines → (Slot → Told) → SplitLines → (Slot → Told) → Result T ReadStop
    → Type 0
KeepsGiven old before new after result =
    (given : List (List ℕ)) (held : Option (List ℕ)) → HasGiven given held old before
    → OnOkOrFault result (HasGiven given held new after)

-- the next line is taken, which was split into these fields: it was the first of those to come, and it is given
pub record TakesNextLine (fields : List (List ℕ)) (old new : SplitLines) : Type 0 where
  pub line : List ℕ
  pub is_split : IsSplit line fields
  pub ahead : AreAhead new
  pub coming : (told : Slot → Told) → lines_coming old told ≡ option_map (line_then line) (lines_coming new told)
  pub given : (lines : List (List ℕ)) (held : Option (List ℕ)) (told : Slot → Told) → HasGiven lines held old told
      → HasGiven (lines ++ line ∷ []) held new told
