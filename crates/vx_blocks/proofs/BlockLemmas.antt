-- Lines that are read to a block: what is to come stays the same, and none is lost.
use Rattle.std.proofs.Common.{◌≡◌, ◌∙◌, sym, ap, subst, refl, ℕ, ◌≤◌, Bool, true, false, not, ◌&&◌, ◌==◌, List, [], ◌∷◌, ◌++◌, length, map, drop, take, All, Option, Some, None, IfSome, Ok, Err, arith, append_assoc, append-nil}
use Rattle.std.specs.Prelude.{if◌then◌else◌}
use Rattle.std.specs.List.{list_all}
use Rattle.std.specs.Option.{option_map}
use Rattle.std.specs.Io.KnownBytes.{prepend_known}
use Rattle.std.proofs.lemmas.List.{drop_all, length-append, length-take, take-take}
use Rattle.std.proofs.lemmas.List.Elements.{All-append, All-cons, All-nil, All-head, All-tail}
use Rattle.vx_lines.specs.Cut.{HasNoLf, IsLine}
use Rattle.vx_lines.specs.TextLines.{Ending, TextLines, ended, line_feed, line_then, lines_then, text_of}
use Rattle.vx_lines.proofs.LineLemmas.{lines_then-append}
use Rattle.vx_desk.specs.declared.device.Slot.{Slot}
use Rattle.vx_desk.specs.Slots.{IsReadingSlot}
use Rattle.vx_desk.specs.Told.{Told}
use Rattle.vx_desk.specs.declared.lines.Line.{Line}
use Rattle.vx_desk.specs.Lines.{AnswersNext, ReaderState, holds_line, to_come}
use Rattle.vx_desk.specs.Coming.{TakesLine, coming}
use Rattle.vx_desk.specs.Held.{IsHeldText, passed}
use Rattle.vx_desk.proofs.HeldLemmas.{lines_to_come, text_to_come}
use Rattle.vx_fields.specs.declared.line.Unsplit.{Unsplit as WhyUnsplit}
use Rattle.vx_fields.specs.declared.line.Unsplit.TheVariants.{Empty, Byte}
use Rattle.vx_fields.specs.Lines.{fields_of_line, is_plain, is_plain_line, lines_in, plain_head, why_unsplit}
use Rattle.vx_fields.proofs.CsvLines.{both_left, both_right}
use Rattle.vx_fields.proofs.TextLemmas.{head_keeps, head_plain, lines_in_text}
use Rattle.vx_blocks.specs.declared.split_lines.SplitLines.{SplitLines}
use Rattle.vx_blocks.specs.declared.split_lines.Rest.{Rest}
use Rattle.vx_blocks.specs.declared.split_lines.Rest.TheVariants.{More, Unsplit}
use Rattle.vx_blocks.specs.SplitLines.{AreAhead, CanBeSplit, IsReadingLines, IsRestAfter, behind, block_coming, lines_coming, then_behind}
use Rattle.vx_blocks.specs.Given.{HasGiven, HasRead, IsHeld, LosesNothing, still_to_come}
use Rattle.vx_blocks.specs.declared.stop.ReadStop.{ReadStop}
use Rattle.vx_blocks.specs.declared.stop.ReadStop.TheVariants.{Device, NoMemory}
use Rattle.vx_blocks.specs.Stops.{OnFault, OnOkOrFault}
use Rattle.vx_blocks.specs.Steps.{Adds, KeepsTable, StepsBlock}
use Rattle.vx_blocks.proofs.GivenLemmas.{prepend_nothing, prepend_twice, texts-append}
use Rattle.vx_blocks.proofs.ComingLemmas.{none_ready}

-- ---- which lines can be split

unsplit_none_by : (is_empty are_plain : Bool) → (not is_empty && are_plain) ≡ true → (if is_empty then Some Empty else (if are_plain then None else Some Byte)) ≡ None
unsplit_none_by true are_plain plain = cc
unsplit_none_by false true plain = refl
unsplit_none_by false false plain = cc

-- plain lines can be split
pub plain_can_be : (lines : List (List ℕ)) → list_all is_plain_line lines ≡ true → CanBeSplit lines
plain_can_be [] plain = All-nil (λ line. why_unsplit line ≡ None)
plain_can_be (line ∷ lines) plain =
    All-cons (λ l. why_unsplit l ≡ None) line lines (unsplit_none_by (length line == 0) (list_all is_plain line) (both_left _ _ plain)) (plain_can_be lines (both_right _ _ plain))

-- ---- lines behind a block

-- what is to come where lines were added
pub lines_told : (lines : List (List ℕ)) (before after : Option TextLines) (old new : SplitLines) → old.rest ≡ More → new.rest ≡ More → new.block ≡ old.block ++ lines
    → before ≡ option_map (lines_then lines) after
    → option_map (λ text. lines_then new.block (behind new.lines.last_bytes new.rest text)) after
    ≡ option_map (λ text. lines_then old.block (behind old.lines.last_bytes old.rest text)) before
lines_told lines before after old new more new_more block taken =
    ap (λ (r : Rest). option_map (λ text. lines_then new.block (behind new.lines.last_bytes r text)) after) new_more
    ∙ ap (λ (ls : List (List ℕ)). option_map (λ text. lines_then ls text) after) block
    ∙ both after
    ∙ ap (option_map (λ text. lines_then old.block text)) (sym taken)
    ∙ ap (λ (r : Rest). option_map (λ text. lines_then old.block (behind old.lines.last_bytes r text)) before) (sym more)
  where
    both : (o : Option TextLines) → option_map (λ text. lines_then (old.block ++ lines) text) o ≡ option_map (λ text. lines_then old.block text) (option_map (lines_then lines) o)
    both None = refl
    both (Some text) = ap (λ t. Some t) (lines_then-append old.block lines text)

-- where the block stops before a line that cannot be split
unsplit_told : (line : List ℕ) (why : WhyUnsplit) (before after : Option TextLines) (old new : SplitLines) → old.rest ≡ More → new.rest ≡ Unsplit why → new.block ≡ old.block
    → new.lines.last_bytes ≡ line → before ≡ option_map (line_then line) after
    → option_map (λ text. lines_then new.block (behind new.lines.last_bytes new.rest text)) after
    ≡ option_map (λ text. lines_then old.block (behind old.lines.last_bytes old.rest text)) before
unsplit_told line why before after old new more stops block last taken =
    ap (λ (r : Rest). option_map (λ text. lines_then new.block (behind new.lines.last_bytes r text)) after) stops
    ∙ ap (λ (ls : List (List ℕ)). option_map (λ text. lines_then ls (line_then new.lines.last_bytes text)) after) block
    ∙ ap (λ (l : List ℕ). option_map (λ text. lines_then old.block (line_then l text)) after) last
    ∙ both after
    ∙ ap (option_map (λ text. lines_then old.block text)) (sym taken)
    ∙ ap (λ (r : Rest). option_map (λ text. lines_then old.block (behind old.lines.last_bytes r text)) before) (sym more)
  where
    both : (o : Option TextLines) → option_map (λ text. lines_then old.block (line_then line text)) o ≡ option_map (λ text. lines_then old.block text) (option_map (line_then line) o)
    both None = refl
    both (Some text) = refl

line_by : (line : List ℕ) (said : Option WhyUnsplit) (before after : Option TextLines) (old new : SplitLines) → old.rest ≡ More → new.lines.last_bytes ≡ line
    → before ≡ option_map (line_then line) after → Adds line said old new
    → option_map (λ text. lines_then new.block (behind new.lines.last_bytes new.rest text)) after
    ≡ option_map (λ text. lines_then old.block (behind old.lines.last_bytes old.rest text)) before
line_by line None before after old new more last taken adds = lines_told (line ∷ []) before after old new more adds.1 adds.0 taken
line_by line (Some why) before after old new more last taken adds = unsplit_told line why before after old new more adds.1 adds.0 last taken

-- a line was read behind a block
pub line_told : (old new : SplitLines) (reader : ReaderState) (before after : Slot → Told) → old.rest ≡ More
    → coming old.lines before ≡ option_map (line_then reader.last_bytes) (coming reader after) → new.lines ≡ reader
    → Adds reader.last_bytes (why_unsplit reader.last_bytes) (record old { lines = reader }) new → block_coming new after ≡ block_coming old before
line_told old new reader before after more taken lines adds =
    ap (λ (r : ReaderState). option_map (λ text. lines_then new.block (behind new.lines.last_bytes new.rest text)) (coming r after)) lines
    ∙ line_by reader.last_bytes (why_unsplit reader.last_bytes) (coming old.lines before) (coming reader after) (record old { lines = reader }) new more (ap (λ (r : ReaderState). r.last_bytes) lines) taken adds
    ∙ ap (λ (r : Rest). option_map (λ text. lines_then old.block (behind reader.last_bytes r text)) (coming old.lines before)) more
    ∙ ap (λ (r : Rest). option_map (λ text. lines_then old.block (behind old.lines.last_bytes r text)) (coming old.lines before)) (sym more)

-- or what stands in its place
pub place_told : (lines : List (List ℕ)) (ending : Ending) (before after : Option TextLines) (old_last new_last : List ℕ) (old_rest new_rest : Rest) → old_rest ≡ More
    → IfSome before (λ all. all ≡ ended ending) → after ≡ before → ((text : TextLines) → behind new_last new_rest text ≡ ended ending)
    → option_map (λ text. lines_then lines (behind new_last new_rest text)) after ≡ option_map (λ text. lines_then lines (behind old_last old_rest text)) before
place_told lines ending None after old_last new_last old_rest new_rest more all same says =
    ap (option_map (λ text. lines_then lines (behind new_last new_rest text))) same
place_told lines ending (Some text) after old_last new_last old_rest new_rest more all same says =
    ap (option_map (λ text. lines_then lines (behind new_last new_rest text))) same
    ∙ ap (λ t. Some (lines_then lines t)) (says text ∙ sym all)
    ∙ ap (λ r. Some (lines_then lines (behind old_last r text))) (sym more)

-- where nothing was read
pub none_told : (old new : SplitLines) (before after : Slot → Told) → old.rest ≡ More → new.rest ≡ old.rest → new.block ≡ old.block → coming new.lines after ≡ coming old.lines before
    → block_coming new after ≡ block_coming old before
none_told old new before after more rest block same =
    ap (λ (ls : List (List ℕ)). option_map (λ text. lines_then ls (behind new.lines.last_bytes new.rest text)) (coming new.lines after)) block
    ∙ ap (λ (r : Rest). option_map (λ text. lines_then old.block (behind new.lines.last_bytes r text)) (coming new.lines after)) (rest ∙ more)
    ∙ ap (option_map (λ text. lines_then old.block text)) same
    ∙ ap (λ (r : Rest). option_map (λ text. lines_then old.block (behind old.lines.last_bytes r text)) (coming old.lines before)) (sym more)

-- ---- what was given

-- bytes that came stand behind the lines
came_behind : (given ready : List (List ℕ)) (rest : Rest) (held before after : Option (List ℕ)) (bytes : List ℕ) → rest ≡ More → before ≡ prepend_known bytes after → IsHeld given ready rest held before
    → held ≡ prepend_known (text_of (given ++ ready) ++ bytes) after
came_behind given ready rest held before after bytes more taken is_held =
    is_held.held_is
    ∙ ap (λ b. prepend_known (text_of (given ++ ready) ++ b) before) (is_held.none_between more)
    ∙ ap (λ t. prepend_known t before) (append-nil (text_of (given ++ ready)))
    ∙ ap (prepend_known (text_of (given ++ ready))) taken
    ∙ prepend_twice (text_of (given ++ ready)) bytes after

-- lines that are added stand behind those of the block
pub lines_read : (lines given old_ready new_ready : List (List ℕ)) (old_rest new_rest : Rest) (held before after : Option (List ℕ)) → old_rest ≡ More
    → before ≡ prepend_known (text_of lines) after → new_ready ≡ old_ready ++ lines → IsHeld given old_ready old_rest held before → IsHeld given new_ready new_rest held after
lines_read lines given old_ready new_ready old_rest new_rest held before after more taken block is_held = record {
  between = [];
  held_is =
      came_behind given old_ready old_rest held before after (text_of lines) more taken is_held
      ∙ ap (λ t. prepend_known t after) (
      sym (texts-append (given ++ old_ready) lines)
      ∙ ap text_of (append_assoc given old_ready lines ∙ ap (λ (ls : List (List ℕ)). given ++ ls) (sym block))
      ∙ sym (append-nil (text_of (given ++ new_ready)))
      );
  none_between = λ rest. refl;
}

-- and one that cannot be split between them and what is to come
line_held : (line : List ℕ) (said : Option WhyUnsplit) (given : List (List ℕ)) (held before after : Option (List ℕ)) (old new : SplitLines) → old.rest ≡ More
    → before ≡ prepend_known (line ++ line_feed ∷ []) after → Adds line said old new → IsHeld given old.block old.rest held before → IsHeld given new.block new.rest held after
line_held line None given held before after old new more taken adds is_held = lines_read (line ∷ []) given old.block new.block old.rest new.rest held before after more taken adds.0 is_held
line_held line (Some why) given held before after old new more taken adds is_held = record {
  between = line ++ line_feed ∷ [];
  held_is =
      came_behind given old.block old.rest held before after (line ++ line_feed ∷ []) more taken is_held
      ∙ ap (λ (ls : List (List ℕ)). prepend_known (text_of (given ++ ls) ++ (line ++ line_feed ∷ [])) after) (sym adds.0);
  none_between = λ rest. absurd (let no : ⊥ = let same : Unsplit why ≡ More = sym adds.1 ∙ rest in cc in no);
}

-- a line was read
pub line_read : (given : List (List ℕ)) (held : Option (List ℕ)) (old new : SplitLines) (reader : ReaderState) (before after : Slot → Told) → old.rest ≡ More
    → still_to_come old before ≡ prepend_known (reader.last_bytes ++ line_feed ∷ []) (to_come reader (after reader.slot)) → new.lines ≡ reader
    → Adds reader.last_bytes (why_unsplit reader.last_bytes) (record old { lines = reader }) new → HasRead given held old before → HasRead given held new after
line_read given held old new reader before after more taken lines adds has =
    subst (λ (r : ReaderState). IsHeld given new.block new.rest held (to_come r (after r.slot))) (sym lines)
    (line_held reader.last_bytes (why_unsplit reader.last_bytes) given held (still_to_come old before) (to_come reader (after reader.slot)) (record old { lines = reader }) new more taken adds has)

-- no line was read, whatever comes in its place
pub place_read : (given ready : List (List ℕ)) (old_rest new_rest : Rest) (held before after : Option (List ℕ)) → old_rest ≡ More → after ≡ before → IsHeld given ready old_rest held before
    → IsHeld given ready new_rest held after
place_read given ready old_rest new_rest held before after more same is_held = record {
  between = [];
  held_is = came_behind given ready old_rest held before after [] more (sym same ∙ sym (prepend_nothing after)) is_held;
  none_between = λ rest. refl;
}

-- ---- whole lines that a reader holds

-- text of lines that can be split, which a reader holds
pub record TakesText (reader : ReaderState) (text : List ℕ) : Type 0 where
  pub begins : text ≡ take (length text) reader.waiting
  pub whole : text ≡ text_of (lines_in text)
  pub are_lines : All (IsLine reader.limit) (lines_in text)
  pub plain : list_all is_plain_line (lines_in text) ≡ true

no_lfs : (limit : ℕ) (lines : List (List ℕ)) → All (IsLine limit) lines → All HasNoLf lines
no_lfs limit [] are = All-nil HasNoLf
no_lfs limit (line ∷ lines) are = All-cons HasNoLf line lines (All-head (IsLine limit) line lines are).no_lf (no_lfs limit lines (All-tail (IsLine limit) line lines are))

-- what a reader holds are the lines of its text
pub held_whole : (reader : ReaderState) (most : ℕ) (text : List ℕ) → IsHeldText reader most text → text ≡ text_of (lines_in text)
held_whole reader most text held = held.whole ∙ ap text_of (sym (ap lines_in held.whole ∙ lines_in_text held.lines (no_lfs reader.limit held.lines held.are_lines)))

-- the leading plain lines of what a reader holds
pub takes_text : (reader : ReaderState) (most : ℕ) (held text : List ℕ) → IsHeldText reader most held → text ≡ text_of (plain_head (lines_in held)) → text ≡ take (length text) held
    → TakesText reader text
takes_text reader most held text is head begins =
    let same : lines_in held ≡ is.lines = ap lines_in is.whole ∙ lines_in_text is.lines (no_lfs reader.limit is.lines is.are_lines) in
    let are : All (IsLine reader.limit) (plain_head is.lines) = head_keeps (IsLine reader.limit) is.lines is.are_lines in
    let text_is : text ≡ text_of (plain_head is.lines) = head ∙ ap (λ (ls : List (List ℕ)). text_of (plain_head ls)) same in
    let lines : lines_in text ≡ plain_head is.lines = ap lines_in text_is ∙ lines_in_text (plain_head is.lines) (no_lfs reader.limit (plain_head is.lines) are) in
    let within : length text ≤ length held = omega (arith, ap length begins, length-take (length text) held) in
    record {
      begins = begins ∙ ap (take (length text)) is.begins ∙ take-take (length text) (length held) reader.waiting within;
      whole = text_is ∙ ap text_of (sym lines);
      are_lines = subst (All (IsLine reader.limit)) (sym lines) are;
      plain = rw lines (head_plain is.lines);
    }

-- such text waits whole
pub text_waits : (reader : ReaderState) (text : List ℕ) → TakesText reader text → length text ≤ length reader.waiting
text_waits reader text is = omega (arith, ap length is.begins, length-take (length text) reader.waiting)

-- it is read to a block at once
pub text_read : (old new : SplitLines) (text : List ℕ) (count : ℕ) (told : Slot → Told) → IsReadingLines old → old.rest ≡ More → TakesText old.lines text
    → new.lines ≡ passed old.lines (length text) count → new.rest ≡ old.rest → new.block ≡ old.block ++ lines_in text → StepsBlock old told new told
text_read old new text count told is more takes lines rest block = record {
  reading = record {
    reads = subst (λ (r : ReaderState). IsReadingSlot r.slot) (sym lines) is.reads;
    may_read = λ m. ap (λ (r : ReaderState). r.is_ended) lines ∙ is.may_read more;
    rest = subst (λ (r : Rest). IsRestAfter new.lines.last_bytes r) (sym (rest ∙ more)) tt;
    block = subst (λ (ls : List (List ℕ)). CanBeSplit ls) (sym block) (All-append (λ line. why_unsplit line ≡ None) old.block (lines_in text) is.block (plain_can_be (lines_in text) takes.plain));
  };
  coming =
      lines_told (lines_in text) (coming old.lines told) (coming new.lines told) old new more (rest ∙ more) block
      (lines_to_come old.lines text (lines_in text) count told takes.begins takes.whole takes.are_lines ∙ ap (λ (r : ReaderState). option_map (lines_then (lines_in text)) (coming r told)) (sym lines));
  reads = λ given held has.
      lines_read (lines_in text) given old.block new.block old.rest new.rest held (still_to_come old told) (still_to_come new told) more
      (text_to_come old.lines text count (told old.lines.slot) takes.begins ∙ ap (λ (r : ReaderState). prepend_known text (to_come r (told r.slot))) (sym lines)
      ∙ ap (λ t. prepend_known t (still_to_come new told)) takes.whole) block has;
}

-- and none of it is lost
pub text_comes : (old new : SplitLines) (text : List ℕ) (count : ℕ) (told : Slot → Told) → TakesText old.lines text → new.lines ≡ passed old.lines (length text) count
    → LosesNothing old told new told
text_comes old new text count told takes lines = record {
  came = text;
  before_is = text_to_come old.lines text count (told old.lines.slot) takes.begins ∙ ap (λ (r : ReaderState). prepend_known text (to_come r (told r.slot))) (sym lines);
}

-- where no line is added the reader holds what it held
pub none_passed : (old new : SplitLines) (text : List ℕ) (count : ℕ) → TakesText old.lines text → new.lines ≡ passed old.lines (length text) count
    → new.block ≡ old.block ++ lines_in text → length new.block ≡ length old.block → holds_line new.lines ≡ holds_line old.lines
none_passed old new text count takes lines block same =
    let none : lines_in text ≡ [] = no_elements (lines_in text) (omega (arith, ap length block, same, length-append old.block (lines_in text))) in
    let empty : text ≡ [] = takes.whole ∙ ap text_of none in
    ap holds_line (lines ∙ ap (λ (t : List ℕ). passed old.lines (length t) count) empty)
  where
    no_elements : (ls : List (List ℕ)) → length ls ≤ 0 → ls ≡ []
    no_elements [] few = refl
    no_elements (l ∷ ls) few = absurd (omega (arith, few))

-- ---- two steps

-- one step after another
pub steps_twice : (old mid new : SplitLines) (before between after : Slot → Told) → StepsBlock old before mid between → StepsBlock mid between new after → StepsBlock old before new after
steps_twice old mid new before between after first second = record {
  reading = second.reading;
  coming = second.coming ∙ first.coming;
  reads = λ given held has. second.reads given held (first.reads given held has);
}

-- ---- blocks

-- an empty block is followed by what is to come where all lines are taken
pub start_coming : (old start : SplitLines) (told : Slot → Told) → start.lines ≡ old.lines → start.rest ≡ old.rest → start.block ≡ [] → AreAhead old → length old.table ≤ old.taken
    → block_coming start told ≡ lines_coming old told
start_coming old start told lines rest none is taken =
    ap (λ (ls : List (List ℕ)). then_behind ls start told) (none ∙ sym (none_ready old is taken))
    ∙ ap (λ (r : Rest). option_map (λ text. lines_then (drop old.taken old.block) (behind start.lines.last_bytes r text)) (coming start.lines told)) rest
    ∙ ap (λ (reader : ReaderState). option_map (λ text. lines_then (drop old.taken old.block) (behind reader.last_bytes old.rest text)) (coming reader told)) lines

-- and it has read what was given
pub start_given : (given : List (List ℕ)) (held : Option (List ℕ)) (old start : SplitLines) (told : Slot → Told) → start.lines ≡ old.lines → start.rest ≡ old.rest → start.block ≡ [] → AreAhead old
    → length old.table ≤ old.taken → HasGiven given held old told → HasRead given held start told
start_given given held old start told lines rest none is taken has =
    subst (λ (ls : List (List ℕ)). IsHeld given ls start.rest held (still_to_come start told)) (none_ready old is taken ∙ sym none)
    (subst (λ (r : Rest). IsHeld given (drop old.taken old.block) r held (still_to_come start told)) (sym rest)
    (subst (λ (reader : ReaderState). IsHeld given (drop old.taken old.block) old.rest held (to_come reader (told reader.slot))) (sym lines) has))

-- the lines of a block that was split are to come
pub block_split : (block ahead : SplitLines) (told : Slot → Told) → ahead.lines ≡ block.lines → ahead.rest ≡ block.rest → ahead.block ≡ block.block → ahead.taken ≡ 0
    → lines_coming ahead told ≡ block_coming block told
block_split block ahead told lines rest same first =
    ap (λ (n : ℕ). then_behind (drop n ahead.block) ahead told) first
    ∙ ap (λ (ls : List (List ℕ)). then_behind ls ahead told) same
    ∙ ap (λ (r : Rest). option_map (λ text. lines_then block.block (behind ahead.lines.last_bytes r text)) (coming ahead.lines told)) rest
    ∙ ap (λ (reader : ReaderState). option_map (λ text. lines_then block.block (behind reader.last_bytes block.rest text)) (coming reader told)) lines

-- they are given as they were read
pub given_split : (given : List (List ℕ)) (held : Option (List ℕ)) (block ahead : SplitLines) (told : Slot → Told) → ahead.lines ≡ block.lines → ahead.rest ≡ block.rest → ahead.block ≡ block.block
    → ahead.taken ≡ 0 → HasRead given held block told → HasGiven given held ahead told
given_split given held block ahead told lines rest same first has =
    subst (λ (n : ℕ). IsHeld given (drop n ahead.block) ahead.rest held (still_to_come ahead told)) (sym first)
    (subst (λ (ls : List (List ℕ)). IsHeld given ls ahead.rest held (still_to_come ahead told)) (sym same)
    (subst (λ (r : Rest). IsHeld given block.block r held (still_to_come ahead told)) (sym rest)
    (subst (λ (reader : ReaderState). IsHeld given block.block block.rest held (to_come reader (told reader.slot))) (sym lines) has)))

-- and may be taken and read on
pub ahead_split : (block ahead : SplitLines) → IsReadingLines block → ahead.lines ≡ block.lines → ahead.rest ≡ block.rest → ahead.block ≡ block.block → ahead.taken ≡ 0
    → ahead.table ≡ map fields_of_line block.block → AreAhead ahead
ahead_split block ahead is lines rest same first table = record {
  reading = record {
    reads = subst (λ (reader : ReaderState). IsReadingSlot reader.slot) (sym lines) is.reads;
    may_read = λ more. ap (λ (reader : ReaderState). reader.is_ended) lines ∙ is.may_read (sym rest ∙ more);
    rest = subst (λ (reader : ReaderState). IsRestAfter reader.last_bytes ahead.rest) (sym lines) (subst (λ (r : Rest). IsRestAfter block.lines.last_bytes r) (sym rest) is.rest);
    block = subst (λ (ls : List (List ℕ)). CanBeSplit ls) (sym same) is.block;
  };
  split =
      ap (λ (n : ℕ). drop n ahead.table) first ∙ table ∙ ap (map fields_of_line) (sym same)
      ∙ ap (λ (n : ℕ). map fields_of_line (drop n ahead.block)) (sym first);
}

-- ---- a fault of the device

-- where the block holds nothing, all is as it was with all lines taken
pub fault_ahead : (old new : SplitLines) → IsReadingLines new → KeepsTable old new → new.block ≡ [] → length old.table ≤ old.taken → AreAhead new
fault_ahead old new is kept none taken = record {
  reading = is;
  split =
      drop_all new.taken new.table (subst (λ (n : ℕ). length new.table ≤ n) (sym kept.taken) (subst (λ (t : List (List (List ℕ))). length t ≤ old.taken) (sym kept.table) taken))
      ∙ ap (map fields_of_line) (sym (dropped new none));
}
  where
    dropped : (ahead : SplitLines) → ahead.block ≡ [] → drop ahead.taken ahead.block ≡ []
    dropped ahead empty = ap (λ (ls : List (List ℕ)). drop ahead.taken ls) empty ∙ drop_all ahead.taken [] (omega arith)

-- no line of it is ready
pub fault_ready : (new : SplitLines) → new.block ≡ [] → drop new.taken new.block ≡ new.block
fault_ready new none = ap (λ (ls : List (List ℕ)). drop new.taken ls) none ∙ drop_all new.taken [] (omega arith) ∙ sym none

-- ---- what `next` answers

-- a line that it gives was the first of those to come
pub next_takes : (before after : Option TextLines) (reader : ReaderState) (found : Option Line) (line : Line) → TakesLine before after reader (Ok found) → found ≡ Some line
    → before ≡ option_map (line_then reader.last_bytes) after
next_takes before after reader found line takes is = subst (λ (o : Option Line). TakesLine before after reader (Ok o)) is takes

-- and its bytes were
pub next_gives : (old new : ReaderState) (before after : Slot → Told) (found : Option Line) (line : Line) → found ≡ Some line → new.slot ≡ old.slot
    → AnswersNext old new (to_come old (before old.slot)) (to_come new (after old.slot)) (Ok found)
    → to_come old (before old.slot) ≡ prepend_known (new.last_bytes ++ line_feed ∷ []) (to_come new (after new.slot))
next_gives old new before after found line is slot answers =
    let gives : AnswersNext old new (to_come old (before old.slot)) (to_come new (after old.slot)) (Ok (Some line)) =
    subst (λ (o : Option Line). AnswersNext old new (to_come old (before old.slot)) (to_come new (after old.slot)) (Ok o)) is answers in
    gives.taken ∙ ap (λ (s : Slot). prepend_known (new.last_bytes ++ line_feed ∷ []) (to_come new (after s))) (sym slot)

-- the line that it gave is read to a block
pub line_steps : (old new : SplitLines) (reader : ReaderState) (before after : Slot → Told) (found : Option Line) (line : Line) → found ≡ Some line → old.rest ≡ More → reader.slot ≡ old.lines.slot
    → AnswersNext old.lines reader (to_come old.lines (before old.lines.slot)) (to_come reader (after old.lines.slot)) (Ok found)
    → TakesLine (coming old.lines before) (coming reader after) reader (Ok found) → IsReadingLines new → new.lines ≡ reader
    → Adds reader.last_bytes (why_unsplit reader.last_bytes) (record old { lines = reader }) new → StepsBlock old before new after
line_steps old new reader before after found line is more slot answers takes reading lines adds = record {
  reading = reading;
  coming = line_told old new reader before after more (next_takes (coming old.lines before) (coming reader after) reader found line takes is) lines adds;
  reads = λ given held has. line_read given held old new reader before after more (next_gives old.lines reader before after found line is slot answers) lines adds has;
}

-- ---- what the device did not give

-- at a fault of the device the lines of an empty block are to come as before
pub fault_coming : (old new : SplitLines) (start : SplitLines) (before after : Slot → Told) → start.lines ≡ old.lines → start.rest ≡ old.rest → start.block ≡ [] → AreAhead old → length old.table ≤ old.taken
    → new.block ≡ start.block → StepsBlock start before new after → lines_coming new after ≡ lines_coming old before
fault_coming old new start before after lines rest none is taken block steps =
    ap (λ (ls : List (List ℕ)). then_behind ls new after) (fault_ready new (block ∙ none)) ∙ steps.coming ∙ start_coming old start before lines rest none is taken

-- and what was given stays given
pub fault_given : (given : List (List ℕ)) (held : Option (List ℕ)) (old new start : SplitLines) (before after : Slot → Told) → start.lines ≡ old.lines → start.rest ≡ old.rest → start.block ≡ []
    → AreAhead old → length old.table ≤ old.taken → new.block ≡ start.block → StepsBlock start before new after → HasGiven given held old before → HasGiven given held new after
fault_given given held old new start before after lines rest none is taken block steps has =
    subst (λ (ls : List (List ℕ)). IsHeld given ls new.rest held (still_to_come new after)) (sym (fault_ready new (block ∙ none)))
    (steps.reads given held (start_given given held old start before lines rest none is taken has))

-- what follows of a step and of a fault in it, where it stops
pub on_fault : (why : ReadStop) (S F P : Type 0) → (S → F → P) → OnOkOrFault {T = Unit {0}} (Err why) S → OnFault {T = Unit {0}} (Err why) F → OnOkOrFault {T = Unit {0}} (Err why) P
on_fault Device S F P law steps fault = law steps fault
on_fault NoMemory S F P law steps fault = tt
