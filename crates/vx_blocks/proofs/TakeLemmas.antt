-- The next line is taken.
use Rattle.std.proofs.Common.{◌≡◌, ◌∙◌, sym, ap, subst, refl, ℕ, ◌+◌, ◌<◌, get_or, length, List, [], ◌∷◌, ◌++◌, map, drop, All, Option, Some, None, append_assoc}
use Rattle.std.specs.Prelude.{slice_get}
use Rattle.std.specs.Option.{option_map}
use Rattle.std.specs.Io.KnownBytes.{prepend_known}
use Rattle.std.proofs.lemmas.List.{drop_more, drop-drop}
use Rattle.std.proofs.lemmas.List.Elements.{All-head, All-drop}
use Rattle.std.proofs.lemmas.Option.{get_or_from_slice_get, slice_get-get_or, slice_get_within}
use Rattle.vx_lines.specs.TextLines.{TextLines, line_then, lines_then, text_of}
use Rattle.vx_desk.specs.Coming.{coming}
use Rattle.vx_fields.specs.Lines.{fields_of_line, why_unsplit}
use Rattle.vx_blocks.specs.declared.split_lines.SplitLines.{SplitLines}
use Rattle.vx_blocks.specs.SplitLines.{AreAhead, behind}
use Rattle.vx_blocks.specs.Given.{TakesNextLine, still_to_come}

-- the elements from one of them on
drop_at : {X : Type 0} (xs : List X) (i : ℕ) (x : X) → slice_get xs i ≡ Some x → drop i xs ≡ x ∷ drop (i + 1) xs
drop_at xs i x is = drop_more xs i x (slice_get_within xs i x is) ∙ ap (λ y. y ∷ drop (i + 1) xs) (get_or_from_slice_get xs i x x is)

-- where the next line of the block is this, and its fields were split
taken_one : (fields : List (List ℕ)) (line : List ℕ) (lines : List (List ℕ)) (old : SplitLines) → AreAhead old → drop old.taken old.block ≡ line ∷ lines
    → fields ∷ drop (old.taken + 1) old.table ≡ fields_of_line line ∷ map fields_of_line lines → TakesNextLine fields old (record old { taken = old.taken + 1 })
taken_one fields line lines old is ready split =
    let next : drop (old.taken + 1) old.block ≡ lines = sym (drop-drop 1 old.taken old.block) ∙ ap (drop 1) ready in
    let fields_are : fields ≡ fields_of_line line = cc in
    let table : drop (old.taken + 1) old.table ≡ map fields_of_line lines = cc in
    let plain = subst (λ (ls : List (List ℕ)). All (λ l. why_unsplit l ≡ None) ls) ready (All-drop (λ l. why_unsplit l ≡ None) old.taken old.block is.reading.block) in
    record {
      line = line;
      is_split = record { can_be = All-head (λ l. why_unsplit l ≡ None) line lines plain; fields_are = fields_are };
      ahead = record { reading = record { reads = is.reading.reads; may_read = is.reading.may_read; rest = is.reading.rest; block = is.reading.block }; split = table ∙ ap (map fields_of_line) (sym next) };
      coming = λ told.
          ap (λ (ls : List (List ℕ)). option_map (λ text. lines_then ls (behind old.lines.last_bytes old.rest text)) (coming old.lines told)) (ready ∙ ap (λ (ls : List (List ℕ)). line ∷ ls) (sym next))
          ∙ one_then line (drop (old.taken + 1) old.block) (λ text. behind old.lines.last_bytes old.rest text) (coming old.lines told);
      given = λ given held told has. record {
        between = has.between;
        held_is =
            has.held_is
            ∙ ap (λ (ls : List (List ℕ)). prepend_known (text_of ls ++ has.between) (still_to_come old told)) (
            ap (λ (ls : List (List ℕ)). given ++ ls) (ready ∙ ap (λ (ls : List (List ℕ)). line ∷ ls) (sym next))
            ∙ sym (append_assoc given (line ∷ []) (drop (old.taken + 1) old.block))
            );
        none_between = has.none_between;
      };
    }
  where
    one_then : (l : List ℕ) (ls : List (List ℕ)) (f : TextLines → TextLines) (text : Option TextLines)
        → option_map (λ t. lines_then (l ∷ ls) (f t)) text ≡ option_map (line_then l) (option_map (λ t. lines_then ls (f t)) text)
    one_then l ls f None = refl
    one_then l ls f (Some t) = refl

-- the next line is taken
pub takes_next : (fields : List (List ℕ)) (old : SplitLines) → AreAhead old → slice_get old.table old.taken ≡ Some fields → TakesNextLine fields old (record old { taken = old.taken + 1 })
takes_next fields old is at = by (drop old.taken old.block) refl
  where
    first : drop old.taken old.table ≡ fields ∷ drop (old.taken + 1) old.table
    first = drop_at old.table old.taken fields at

    by : (ready : List (List ℕ)) → drop old.taken old.block ≡ ready → TakesNextLine fields old (record old { taken = old.taken + 1 })
    by [] ready = absurd (let eq : fields ∷ drop (old.taken + 1) old.table ≡ [] = sym first ∙ is.split ∙ ap (map fields_of_line) ready in let no : ⊥ = cc in no)
    by (line ∷ lines) ready = taken_one fields line lines old is ready (sym first ∙ is.split ∙ ap (map fields_of_line) ready)

-- and the lines behind it may be taken and read on
pub ahead_next : (old : SplitLines) → AreAhead old → old.taken < length old.table → AreAhead (record old { taken = old.taken + 1 })
ahead_next old is within = (takes_next (get_or old.table old.taken []) old is (slice_get-get_or old.table old.taken [] within)).ahead
