-- The lines of a slot of which nothing was read.
use Rattle.std.proofs.Common.{◌≡◌, ◌∙◌, sym, ap, subst, refl, ℕ, List, [], ◌++◌, map, drop, Option, Some, None, arith}
use Rattle.std.specs.Option.{option_map}
use Rattle.std.specs.Io.KnownBytes.{prepend_known}
use Rattle.std.proofs.lemmas.List.{drop_all}
use Rattle.std.proofs.lemmas.List.Elements.{All-nil}
use Rattle.vx_lines.specs.TextLines.{TextLines, lines_of, lines_then, text_of}
use Rattle.vx_desk.specs.declared.device.Slot.{Slot}
use Rattle.vx_desk.specs.Slots.{IsReadingSlot}
use Rattle.vx_desk.specs.Told.{Told}
use Rattle.vx_desk.specs.Lines.{ReaderState, to_come}
use Rattle.vx_desk.specs.Coming.{coming}
use Rattle.vx_fields.specs.Lines.{fields_of_line, why_unsplit}
use Rattle.vx_blocks.specs.declared.split_lines.SplitLines.{SplitLines}
use Rattle.vx_blocks.specs.declared.split_lines.Rest.{Rest}
use Rattle.vx_blocks.specs.SplitLines.{AreAhead, CanBeSplit, IsFresh, IsRestAfter, behind, lines_coming}
use Rattle.vx_blocks.specs.Given.{HasGiven, still_to_come}
use Rattle.vx_blocks.proofs.GivenLemmas.{prepend_nothing}

-- nothing is ready of a block with no line
nothing_ready : (slot : Slot) (limit : ℕ) (ahead : SplitLines) → IsFresh slot limit ahead → drop ahead.taken ahead.block ≡ []
nothing_ready slot limit ahead fresh = ap (λ (ls : List (List ℕ)). drop ahead.taken ls) fresh.block ∙ drop_all ahead.taken [] (omega arith)

-- all that is left is to come
all_to_come : (slot : Slot) (limit : ℕ) (ahead : SplitLines) (told : Slot → Told) → IsFresh slot limit ahead → still_to_come ahead told ≡ (told slot).left
all_to_come slot limit ahead told fresh = ap (λ (reader : ReaderState). to_come reader (told reader.slot)) fresh.lines ∙ prepend_nothing (told slot).left

-- no line was given of it
pub fresh_given : (slot : Slot) (limit : ℕ) (ahead : SplitLines) (told : Slot → Told) → IsFresh slot limit ahead → HasGiven [] (told slot).left ahead told
fresh_given slot limit ahead told fresh = record {
  between = [];
  held_is =
      sym (all_to_come slot limit ahead told fresh)
      ∙ sym (prepend_nothing (still_to_come ahead told))
      ∙ ap (λ (ls : List (List ℕ)). prepend_known (text_of ls ++ []) (still_to_come ahead told)) (sym (nothing_ready slot limit ahead fresh));
  none_between = λ rest. refl;
}

-- and all its lines are to come
pub fresh_coming : (slot : Slot) (limit : ℕ) (ahead : SplitLines) (told : Slot → Told) → IsFresh slot limit ahead
    → lines_coming ahead told ≡ option_map (lines_of limit) (told slot).left
fresh_coming slot limit ahead told fresh =
    ap (λ (r : Rest). option_map (λ text. lines_then (drop ahead.taken ahead.block) (behind ahead.lines.last_bytes r text)) (coming ahead.lines told)) fresh.rest
    ∙ ap (λ (ls : List (List ℕ)). option_map (λ text. lines_then ls text) (coming ahead.lines told)) (nothing_ready slot limit ahead fresh)
    ∙ same (coming ahead.lines told)
    ∙ ap (λ (n : ℕ). option_map (lines_of n) (still_to_come ahead told)) (ap (λ (reader : ReaderState). reader.limit) fresh.lines)
    ∙ ap (option_map (lines_of limit)) (all_to_come slot limit ahead told fresh)
  where
    same : (o : Option TextLines) → option_map (λ text. lines_then [] text) o ≡ o
    same None = refl
    same (Some text) = refl

-- they may be read
pub fresh_ahead : (slot : Slot) (limit : ℕ) (ahead : SplitLines) → IsReadingSlot slot → IsFresh slot limit ahead → AreAhead ahead
fresh_ahead slot limit ahead reads fresh = record {
  reading = record {
    reads = subst (λ (reader : ReaderState). IsReadingSlot reader.slot) (sym fresh.lines) reads;
    may_read = λ more. ap (λ (reader : ReaderState). reader.is_ended) fresh.lines;
    rest = subst (λ (r : Rest). IsRestAfter ahead.lines.last_bytes r) (sym fresh.rest) tt;
    block = subst (λ (ls : List (List ℕ)). CanBeSplit ls) (sym fresh.block) (All-nil (λ line. why_unsplit line ≡ None));
  };
  split =
      ap (λ (fs : List (List (List ℕ))). drop ahead.taken fs) fresh.table
      ∙ drop_all ahead.taken [] (omega arith)
      ∙ ap (map fields_of_line) (sym (nothing_ready slot limit ahead fresh));
}
