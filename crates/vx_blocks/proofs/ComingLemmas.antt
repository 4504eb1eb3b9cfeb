-- Which line is the next, and which lines are to come.
use Rattle.std.proofs.Common.{◌≡◌, ◌∙◌, sym, ap, refl, ℕ, ◌<◌, ◌≤◌, Bool, true, false, List, [], ◌∷◌, length, map, drop, arith}
use Rattle.std.specs.Prelude.{nat_lt}
use Rattle.std.specs.Option.{option_map}
use Rattle.std.proofs.lemmas.Bool.Decides.{nat_tests}
use Rattle.std.proofs.lemmas.List.{drop_all}
use Rattle.vx_lines.specs.TextLines.{lines_of, lines_then}
use Rattle.vx_desk.specs.declared.device.Slot.{Slot}
use Rattle.vx_desk.specs.Told.{Told}
use Rattle.vx_desk.specs.Lines.{to_come}
use Rattle.vx_desk.specs.Coming.{coming}
use Rattle.vx_fields.specs.Lines.{fields_of_line}
use Rattle.vx_blocks.specs.declared.split_lines.SplitLines.{SplitLines}
use Rattle.vx_blocks.specs.SplitLines.{AreAhead, behind, has_line, lines_coming}

-- a line is at hand where there is one
pub at_hand : (ahead : SplitLines) (has : Bool) → has ≡ has_line ahead → has ≡ true → ahead.taken < length ahead.table
at_hand ahead has is there = below ahead.taken (length ahead.table) (sym is ∙ there)
  where
    below : (taken count : ℕ) → nat_lt taken count ≡ true → taken < count
    below taken count is = grind (arith, nat_tests)

-- where none is, all lines of the table are taken
pub all_taken : (ahead : SplitLines) → has_line ahead ≡ false → length ahead.table ≤ ahead.taken
all_taken ahead none = above ahead.taken (length ahead.table) none
  where
    above : (taken count : ℕ) → nat_lt taken count ≡ false → count ≤ taken
    above taken count is = grind (arith, nat_tests)

-- what maps to nothing is nothing
none_mapped : {A B : Type 0} (f : A → B) (xs : List A) → map f xs ≡ [] → xs ≡ []
none_mapped f [] none = refl
none_mapped f (x ∷ xs) none = cc

-- and none of the block is ready
pub none_ready : (ahead : SplitLines) → AreAhead ahead → length ahead.table ≤ ahead.taken → drop ahead.taken ahead.block ≡ []
none_ready ahead is taken = none_mapped fields_of_line (drop ahead.taken ahead.block) (sym is.split ∙ drop_all ahead.taken ahead.table taken)

-- where no line is at hand, what comes behind them is to come
pub none_at_hand : (ahead : SplitLines) (told : Slot → Told) → AreAhead ahead → has_line ahead ≡ false
    → lines_coming ahead told ≡ option_map (behind ahead.lines.last_bytes ahead.rest) (coming ahead.lines told)
none_at_hand ahead told is none =
    ap (λ (ls : List (List ℕ)). option_map (λ text. lines_then ls (behind ahead.lines.last_bytes ahead.rest text)) (coming ahead.lines told))
    (none_ready ahead is (all_taken ahead none))

-- the same lines are to come where the slot is as it was
pub coming_kept : (ahead : SplitLines) (before after : Slot → Told) → after ahead.lines.slot ≡ before ahead.lines.slot → lines_coming ahead after ≡ lines_coming ahead before
coming_kept ahead before after same =
    ap (λ (told : Told). option_map (λ text. lines_then (drop ahead.taken ahead.block) (behind ahead.lines.last_bytes ahead.rest text))
    (option_map (lines_of ahead.lines.limit) (to_come ahead.lines told))) same
