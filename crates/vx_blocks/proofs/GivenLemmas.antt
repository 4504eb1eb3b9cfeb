-- What was given of what a slot held, as its lines are read, split and taken.
use Rattle.std.proofs.Common.{◌≡◌, ◌∙◌, sym, ap, refl, ℕ, List, [], ◌∷◌, ◌++◌, drop, Option, Some, None, append_assoc}
use Rattle.std.specs.Io.KnownBytes.{prepend_known}
use Rattle.vx_lines.specs.TextLines.{line_feed, text_of}
use Rattle.vx_desk.specs.declared.device.Slot.{Slot}
use Rattle.vx_desk.specs.Told.{Told}
use Rattle.vx_blocks.specs.declared.split_lines.SplitLines.{SplitLines}
use Rattle.vx_blocks.specs.Given.{ComesOn, HasGiven, WereRead, still_to_come}

-- ---- texts

-- the text of lines in two parts
pub texts-append : (first second : List (List ℕ)) → text_of (first ++ second) ≡ text_of first ++ text_of second
texts-append [] second = refl
texts-append (line ∷ first) second =
    ap (λ t. line ++ line_feed ∷ t) (texts-append first second) ∙ sym (append_assoc line (line_feed ∷ text_of first) (text_of second))

-- no bytes before the known ones
pub prepend_nothing : (known : Option (List ℕ)) → prepend_known [] known ≡ known
prepend_nothing None = refl
prepend_nothing (Some bytes) = refl

-- bytes before the known ones in two parts
pub prepend_twice : (first second : List ℕ) (known : Option (List ℕ)) → prepend_known first (prepend_known second known) ≡ prepend_known (first ++ second) known
prepend_twice first second None = refl
prepend_twice first second (Some bytes) = ap (λ t. Some t) (sym (append_assoc first second bytes))

-- ---- bytes that come

-- nothing came
pub comes_none : (before after : Option (List ℕ)) → after ≡ before → ComesOn before after
comes_none before after same = record { came = []; before_is = sym same ∙ sym (prepend_nothing after) }

-- where nothing was read
pub comes_start : (text : Option (List ℕ)) → ComesOn text text
comes_start text = comes_none text text refl

-- some bytes came, and then others
pub comes_twice : (before between after : Option (List ℕ)) → ComesOn before between → ComesOn between after → ComesOn before after
comes_twice before between after first second = record {
  came = first.came ++ second.came;
  before_is = first.before_is ∙ ap (prepend_known first.came) second.before_is ∙ prepend_twice first.came second.came after;
}

-- ---- what was read

-- the lines that were given were read of the slot, also after more bytes came
pub were_read : (given : List (List ℕ)) (held : Option (List ℕ)) (ahead now : SplitLines) (before after : Slot → Told) → HasGiven given held ahead before
    → ComesOn (still_to_come ahead before) (still_to_come now after) → WereRead given held (after now.lines.slot)
were_read given held ahead now before after has comes =
    let ready = text_of (drop ahead.taken ahead.block) in
    let between = has.between in
    let left = (after now.lines.slot).left in
    record {
      more = ready ++ (between ++ (comes.came ++ now.lines.waiting));
      held_is =
          has.held_is
          ∙ ap (prepend_known (text_of (given ++ drop ahead.taken ahead.block) ++ between)) comes.before_is
          ∙ prepend_twice (text_of (given ++ drop ahead.taken ahead.block) ++ between) comes.came (still_to_come now after)
          ∙ prepend_twice ((text_of (given ++ drop ahead.taken ahead.block) ++ between) ++ comes.came) now.lines.waiting left
          ∙ ap (λ t. prepend_known t left) (
          ap (λ t. ((t ++ between) ++ comes.came) ++ now.lines.waiting) (texts-append given (drop ahead.taken ahead.block))
          ∙ append_assoc ((text_of given ++ ready) ++ between) comes.came now.lines.waiting
          ∙ append_assoc (text_of given ++ ready) between (comes.came ++ now.lines.waiting)
          ∙ append_assoc (text_of given) ready (between ++ (comes.came ++ now.lines.waiting))
          );
    }

-- what was given stays given where the slot is as it was
pub given_kept : (given : List (List ℕ)) (held : Option (List ℕ)) (ahead : SplitLines) (before after : Slot → Told) → after ahead.lines.slot ≡ before ahead.lines.slot
    → HasGiven given held ahead before → HasGiven given held ahead after
given_kept given held ahead before after same has = record {
  between = has.between;
  held_is =
      has.held_is
      ∙ ap (λ (told : Told). prepend_known (text_of (given ++ drop ahead.taken ahead.block) ++ has.between) (prepend_known ahead.lines.waiting told.left)) (sym same);
  none_between = has.none_between;
}
