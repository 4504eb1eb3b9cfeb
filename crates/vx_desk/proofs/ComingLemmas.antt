-- What `next` takes of the lines that are coming.
use Rattle.std.proofs.Common.{◌≡◌, ◌∙◌, sym, ap, subst, ℕ, false, List, [], ◌∷◌, ◌++◌, Option, Some, None, Result, Ok, Err, append_assoc}
use Rattle.std.specs.Prelude.{IfSome}
use Rattle.std.specs.Option.{option_map}
use Rattle.std.specs.Io.KnownBytes.{prepend_known, IsAtEnd}
use Rattle.vx_lines.specs.TextLines.{TextLines, at_end, too_long, no_eol, ended, line_feed, line_then, lines_of}
use Rattle.vx_lines.specs.Cut.{IsLine, IsTooLong, IsCutOff}
use Rattle.vx_lines.proofs.LineLemmas.{lines_of_line, lines_of_long, lines_of_cut_off, lines_of_nothing}
use Rattle.vx_desk.specs.declared.lines.Line.{Line}
use Rattle.vx_desk.specs.declared.lines.ReadFault.{ReadFault}
use Rattle.vx_desk.specs.declared.lines.ReadFault.TheVariants.{Device, LineTooLong, NoEol}
use Rattle.vx_desk.specs.declared.device.Slot.{Slot}
use Rattle.vx_desk.specs.Told.{Told}
use Rattle.vx_desk.specs.Lines.{ReaderState, AnswersNext, to_come}
use Rattle.vx_desk.specs.Coming.{TakesLine, coming}

-- a text that begins with a line has it as the first of its lines
first_line : (limit : ℕ) (line : List ℕ) (before after : Option (List ℕ)) → IsLine limit line → before ≡ prepend_known (line ++ line_feed ∷ []) after
    → option_map (lines_of limit) before ≡ option_map (line_then line) (option_map (lines_of limit) after)
first_line limit line before None is taken = ap (option_map (lines_of limit)) taken
first_line limit line before (Some rest) is taken =
    ap (option_map (lines_of limit)) taken
    ∙ ap (λ text. Some (lines_of limit text)) (append_assoc line (line_feed ∷ []) rest)
    ∙ ap (λ (lines : TextLines). Some lines) (lines_of_line limit line rest is)

-- what is known of a text that is told, said of its lines
if_lines : (limit : ℕ) (P : List ℕ → Type 0) (lines : TextLines) (text : Option (List ℕ)) → ((bytes : List ℕ) → P bytes → lines_of limit bytes ≡ lines)
    → IfSome text P → IfSome (option_map (lines_of limit) text) (λ all. all ≡ lines)
if_lines limit P lines None law told = tt
if_lines limit P lines (Some bytes) law told = law bytes told

-- a text that is told to be at its end has no lines
lines_at_end : (limit : ℕ) (text : Option (List ℕ)) → IsAtEnd text → IfSome (option_map (lines_of limit) text) (λ all. all ≡ ended at_end)
lines_at_end limit None told = tt
lines_at_end limit (Some bytes) told = ap (lines_of limit) told ∙ lines_of_nothing limit

-- the answer of `next` to a text of bytes, said of the text's lines
pub takes_line_by_answer : (old new : ReaderState) (before after : Option (List ℕ)) (result : Result (Option Line) ReadFault)
    → new.limit ≡ old.limit → old.is_ended ≡ false → AnswersNext old new before after result
    → TakesLine (option_map (lines_of old.limit) before) (option_map (lines_of new.limit) after) new result
takes_line_by_answer old new before after (Ok (Some line)) same ready gives =
    rw same (first_line old.limit new.last_bytes before after gives.is_line gives.taken)
takes_line_by_answer old new before after (Ok None) same ready gives =
    (lines_at_end old.limit before (gives.2 ready).1, rw same (ap (option_map (lines_of old.limit)) (gives.0).kept))
takes_line_by_answer old new before after (Err Device) same ready gives = rw same (ap (option_map (lines_of old.limit)) (gives.0).kept)
takes_line_by_answer old new before after (Err (LineTooLong number)) same ready gives =
    if_lines old.limit (IsTooLong old.limit) (ended too_long) before (lines_of_long old.limit) gives.3
takes_line_by_answer old new before after (Err (NoEol number)) same ready gives =
    if_lines old.limit (IsCutOff old.limit) (ended no_eol) before (lines_of_cut_off old.limit) gives.3

-- the same of a reader and its desk
pub takes_coming : (old new : ReaderState) (before after : Slot → Told) (result : Result (Option Line) ReadFault) → new.slot ≡ old.slot
    → new.limit ≡ old.limit → old.is_ended ≡ false
    → AnswersNext old new (to_come old (before old.slot)) (to_come new (after old.slot)) result → TakesLine (coming old before) (coming new after) new result
takes_coming old new before after result slot limit ready answers =
    subst (λ s. TakesLine (coming old before) (option_map (lines_of new.limit) (to_come new (after s))) new result) (sym slot)
    (takes_line_by_answer old new (to_come old (before old.slot)) (to_come new (after old.slot)) result limit ready answers)
