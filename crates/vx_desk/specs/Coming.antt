-- The lines of the text that is to come to a reader.
use Rattle.std.specs.Prelude.{◌≡◌, ℕ, false, Option, None, Some, IfSome, Result, Ok, Err}
use Rattle.std.specs.Option.{option_map}
use Rattle.vx_lines.specs.TextLines.{TextLines, at_end, too_long, no_eol, ended, line_then, lines_of}
use Rattle.vx_desk.specs.declared.device.Slot.{Slot}
use Rattle.vx_desk.specs.declared.lines.Line.{Line}
use Rattle.vx_desk.specs.declared.lines.ReadFault.{ReadFault}
use Rattle.vx_desk.specs.declared.lines.ReadFault.TheVariants.{Device, LineTooLong, NoEol}
use Rattle.vx_desk.specs.Told.{Told}
use Rattle.vx_desk.specs.Lines.{ReaderState, to_come}

-- the lines that are to come to a reader, where its desk tells them
abbrev pub coming : ReaderState → (Slot → Told) → Option TextLines
coming reader told = option_map (lines_of reader.limit) (to_come reader (told reader.slot))

-- a reader of this slot and limit that met no line with too many bytes or without LF
pub record IsReader (slot : Slot) (limit : ℕ) (reader : ReaderState) : Type 0 where
  pub slot_is : reader.slot ≡ slot
  pub limit_is : reader.limit ≡ limit
  pub open_yet : reader.is_ended ≡ false

-- what `next` takes of the lines that were coming, by its answer: their first one, which the reader
-- now has as its last; none at the end of the text or where the device failed; or there was none but
-- what ended the text
abbrev pub TakesLine : Option TextLines → Option TextLines → ReaderState → Result (Option Line) ReadFault → Type 0
TakesLine before after reader (Ok (Some line)) = before ≡ option_map (line_then reader.last_bytes) after
TakesLine before after reader (Ok None) = IfSome before (λ lines. lines ≡ ended at_end) × (after ≡ before)
TakesLine before after reader (Err Device) = after ≡ before
TakesLine before after reader (Err (LineTooLong number)) = IfSome before (λ lines. lines ≡ ended too_long)
TakesLine before after reader (Err (NoEol number)) = IfSome before (λ lines. lines ≡ ended no_eol)
