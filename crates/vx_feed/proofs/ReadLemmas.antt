-- A line that can be split: its fields in a table of one line, and its event.
use Rattle.std.proofs.Common.{◌≡◌, ◌∙◌, sym, ap, refl, ℕ, Bool, true, false, cond, ◌==◌, List, [], ◌∷◌, ◌++◌, length, map, Some, None, Result, Err}
use Rattle.std.specs.List.{list_all, slice_get}
use Rattle.vx_fields.specs.Lines.{fields_of_line, is_plain, why_unsplit}
use Rattle.vx_fields.specs.declared.line.Unsplit.{Unsplit}
use Rattle.vx_fields.specs.declared.line.Unsplit.TheVariants.{Empty, Byte}
use Rattle.vx_feed.specs.declared.events.Event.{Event}
use Rattle.vx_feed.specs.declared.faults.FeedFault.{FeedFault}
use Rattle.vx_feed.specs.declared.faults.FeedFault.TheVariants as fault
use Rattle.vx_feed.specs.Feed.{event_of_line, fault_of_unsplit, next_event}

-- the fields of a table's first line, which was split alone
pub fields_of_one : (table : List (List (List ℕ))) (block before : List (List ℕ)) (line : List ℕ) (fields : List (List ℕ))
    → slice_get table 0 ≡ Some fields → table ≡ map fields_of_line block → block ≡ before ++ line ∷ [] → before ≡ [] → fields ≡ fields_of_line line
fields_of_one table block before line fields first split one none =
    let only : table ≡ fields_of_line line ∷ [] = split ∙ ap (map fields_of_line) (one ∙ ap (λ l. l ++ line ∷ []) none) in
    let same : Some (fields_of_line line) ≡ Some fields = sym (ap (λ t. slice_get t 0) only) ∙ first in
    cc

-- a line that can be split says what its fields say
pub split_says : (events : List Event) (line : List ℕ) → why_unsplit line ≡ None → event_of_line events line ≡ next_event events (fields_of_line line)
split_says events line none = by (length line == 0) (list_all is_plain line) (next_event events (fields_of_line line)) none
  where
    by : (is_empty are_plain : Bool) (said : Result Event FeedFault) → cond is_empty (Some Empty) (cond are_plain None (Some Byte)) ≡ None
        → cond is_empty (Err fault.Kind) (cond are_plain said (Err fault.Byte)) ≡ said
    by true are_plain said none = cc
    by false true said none = refl
    by false false said none = cc

-- and one that cannot be split says its fault
pub unsplit_says : (events : List Event) (line : List ℕ) (why : Unsplit) → why_unsplit line ≡ Some why → event_of_line events line ≡ Err (fault_of_unsplit why)
unsplit_says events line why some = by (length line == 0) (list_all is_plain line) (next_event events (fields_of_line line)) some
  where
    same : (a b : Unsplit) → Some a ≡ Some b → a ≡ b
    same a b h = cc

    by : (is_empty are_plain : Bool) (said : Result Event FeedFault) → cond is_empty (Some Empty) (cond are_plain None (Some Byte)) ≡ Some why
        → cond is_empty (Err fault.Kind) (cond are_plain said (Err fault.Byte)) ≡ Err (fault_of_unsplit why)
    by true are_plain said some = ap (λ w. Err (fault_of_unsplit w)) (same Empty why some)
    by false true said some = cc
    by false false said some = ap (λ w. Err (fault_of_unsplit w)) (same Byte why some)
