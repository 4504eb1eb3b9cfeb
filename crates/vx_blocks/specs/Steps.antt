-- The steps in which a block is read.
use Rattle.std.specs.Prelude.{◌≡◌, false, ℕ, List, [], ◌∷◌, ◌++◌, Option, Some, None}
use Rattle.vx_desk.specs.declared.device.Slot.{Slot}
use Rattle.vx_desk.specs.Told.{Told}
use Rattle.vx_desk.specs.Lines.{holds_line}
use Rattle.vx_fields.specs.declared.line.Unsplit.{Unsplit as WhyUnsplit}
use Rattle.vx_fields.specs.Lines.{why_unsplit}
use Rattle.vx_blocks.specs.declared.split_lines.SplitLines.{SplitLines}
use Rattle.vx_blocks.specs.declared.split_lines.Rest.TheVariants.{More, Unsplit}
use Rattle.vx_blocks.specs.SplitLines.{IsReadingLines, block_coming}
use Rattle.vx_blocks.specs.Given.{HasRead}

-- a line is added to a block, or it cannot be split and the block stops before it
abbrev pub Adds : List ℕ → Option WhyUnsplit → SplitLines → SplitLines → Type 0
Adds line None old new = (new.block ≡ old.block ++ line ∷ []) × (new.rest ≡ More)
Adds line (Some why) old new = (new.block ≡ old.block) × (new.rest ≡ Unsplit why)

-- the line that was read last is added to a block, or the block stops before it
abbrev pub AddsLast : SplitLines → SplitLines → Type 0
AddsLast old new = Adds old.lines.last_bytes (why_unsplit old.lines.last_bytes) old new

-- the lines that were split are as they were
pub record KeepsTable (old new : SplitLines) : Type 0 where
  pub table : new.table ≡ old.table
  pub taken : new.taken ≡ old.taken

-- a block may be read on, the same lines are to come, and none is lost
pub record StepsBlock (old : SplitLines) (before : Slot → Told) (new : SplitLines) (after : Slot → Told) : Type 0 where
  pub reading : IsReadingLines new
  pub coming : block_coming new after ≡ block_coming old before
  pub reads : (given : List (List ℕ)) (held : Option (List ℕ)) → HasRead given held old before → HasRead given held new after

-- the device failed: no line is held, and the block and what comes behind it are as they were
pub record IsFaulted (old new : SplitLines) : Type 0 where
  pub none_held : holds_line new.lines ≡ false
  pub rest : new.rest ≡ old.rest
  pub block : new.block ≡ old.block
