-- Where lines stand of which none is in hand.
use Rattle.std.proofs.Common.{◌≡◌, ◌≢◌, ◌∙◌, ap, subst, refl, ℕ, ◌≤◌, Bool, false, not, ◌&&◌, ◌||◌, ◌==◌, List, [], ◌∷◌, ◌++◌, length, drop, Option, Some, None, arith, append-nil}
use Rattle.std.specs.Prelude.{nat_lt}
use Rattle.std.specs.List.{list_any}
use Rattle.std.specs.Option.{option_map}
use Rattle.std.specs.Io.KnownBytes.{prepend_known}
use Rattle.std.proofs.lemmas.Bool.{or_parts}
use Rattle.std.proofs.lemmas.Bool.Decides.{nat_tests}
use Rattle.std.proofs.lemmas.List.Elements.{All-cons, All-nil}
use Rattle.vx_lines.specs.Cut.{HasNoLf}
use Rattle.vx_lines.specs.TextLines.{line_feed, lines_of, text_of}
use Rattle.vx_desk.specs.declared.device.Slot.{Slot}
use Rattle.vx_desk.specs.declared.lines.TheConstants.{LF}
use Rattle.vx_desk.specs.Told.{Told}
use Rattle.vx_desk.specs.Lines.{ReaderState, holds_line}
use Rattle.vx_desk.specs.Coming.{coming}
use Rattle.vx_blocks.specs.declared.split_lines.SplitLines.{SplitLines}
use Rattle.vx_blocks.specs.declared.split_lines.Rest.{Rest}
use Rattle.vx_blocks.specs.declared.split_lines.Rest.TheVariants.{More, End, Unsplit, TooLong, NoEol}
use Rattle.vx_blocks.specs.SplitLines.{AreAhead, behind, has_line, is_in_hand, is_more, lines_coming}
use Rattle.vx_blocks.specs.Given.{HasGiven, IsCutAfter, still_to_come}
use Rattle.vx_blocks.proofs.ComingLemmas.{all_taken, none_at_hand, none_ready}
use Rattle.vx_blocks.proofs.GivenLemmas.{prepend_twice}

-- bytes among which no LF is found
none_among : (bytes : List ℕ) → list_any (λ byte. byte == LF) bytes ≡ false → HasNoLf bytes
none_among [] none = All-nil (λ byte. byte ≢ line_feed)
none_among (byte ∷ bytes) none =
    let parts = or_parts (byte == LF) (list_any (λ b. b == LF) bytes) none in
    All-cons (λ b. b ≢ line_feed) byte bytes (not_lf byte parts.0) (none_among bytes parts.1)
  where
    not_lf : (b : ℕ) → (b == LF) ≡ false → b ≢ line_feed
    not_lf b is = grind (arith, nat_tests)

more_by : (rest : Rest) → not (is_more rest) ≡ false → rest ≡ More
more_by More is = refl
more_by End is = absurd (let no : ⊥ = cc in no)
more_by (Unsplit why) is = absurd (let no : ⊥ = cc in no)
more_by TooLong is = absurd (let no : ⊥ = cc in no)
more_by NoEol is = absurd (let no : ⊥ = cc in no)

-- bytes that are no whole line: few, and no LF among them
pub record IsPart (limit : ℕ) (bytes : List ℕ) : Type 0 where
  pub fits : length bytes ≤ limit
  pub no_lf : HasNoLf bytes

-- such bytes wait at a reader that holds no line and may read on
pub part_waits : (reader : ReaderState) → reader.is_ended ≡ false → holds_line reader ≡ false → IsPart reader.limit reader.waiting
part_waits reader ready none =
    let either : (nat_lt reader.limit (length reader.waiting) || list_any (λ byte. byte == LF) reader.waiting) ≡ false =
    subst (λ (b : Bool). (not b && (nat_lt reader.limit (length reader.waiting) || list_any (λ byte. byte == LF) reader.waiting)) ≡ false) ready none in
    let parts = or_parts (nat_lt reader.limit (length reader.waiting)) (list_any (λ byte. byte == LF) reader.waiting) either in
    record { fits = at_most reader.limit (length reader.waiting) parts.0; no_lf = none_among reader.waiting parts.1 }
  where
    at_most : (limit count : ℕ) → nat_lt limit count ≡ false → count ≤ limit
    at_most limit count not = grind (arith, nat_tests)

-- where no line is in hand, none is split, more may come, and the reader holds none
record HasNone (ahead : SplitLines) : Type 0 where
  none_split : has_line ahead ≡ false
  more : ahead.rest ≡ More
  none_held : holds_line ahead.lines ≡ false

none_in_hand : (ahead : SplitLines) → is_in_hand ahead ≡ false → HasNone ahead
none_in_hand ahead none =
    let held = or_parts (has_line ahead || not (is_more ahead.rest)) (holds_line ahead.lines) none in
    let known = or_parts (has_line ahead) (not (is_more ahead.rest)) held.0 in
    record { none_split = known.0; more = more_by ahead.rest known.1; none_held = held.1 }

-- behind the lines that were given no more was read than a part of a line
pub cut_after : (given : List (List ℕ)) (held : Option (List ℕ)) (ahead : SplitLines) (told : Slot → Told) → AreAhead ahead → is_in_hand ahead ≡ false
    → HasGiven given held ahead told → IsCutAfter given ahead.lines.limit held (told ahead.lines.slot)
cut_after given held ahead told is none has =
    let stands = none_in_hand ahead none in
    let part = part_waits ahead.lines (is.reading.may_read stands.more) stands.none_held in
    record {
      part = ahead.lines.waiting;
      fits = part.fits;
      no_lf = part.no_lf;
      held_is =
          has.held_is
          ∙ ap (λ (between : List ℕ). prepend_known (text_of (given ++ drop ahead.taken ahead.block) ++ between) (still_to_come ahead told)) (has.none_between stands.more)
          ∙ ap (λ (ls : List (List ℕ)). prepend_known (text_of (given ++ ls) ++ []) (still_to_come ahead told)) (none_ready ahead is (all_taken ahead stands.none_split))
          ∙ ap (λ (ls : List (List ℕ)). prepend_known (text_of ls ++ []) (still_to_come ahead told)) (append-nil given)
          ∙ ap (λ (t : List ℕ). prepend_known t (still_to_come ahead told)) (append-nil (text_of given))
          ∙ prepend_twice (text_of given) ahead.lines.waiting (told ahead.lines.slot).left;
    }

-- the lines of text that begins with these bytes, where it is told
told_lines : (limit : ℕ) (waiting : List ℕ) (left : Option (List ℕ)) → option_map (lines_of limit) (prepend_known waiting left) ≡ option_map (λ bytes. lines_of limit (waiting ++ bytes)) left
told_lines limit waiting None = refl
told_lines limit waiting (Some bytes) = refl

same_lines : (last : List ℕ) (limit : ℕ) (text : Option (List ℕ)) → option_map (behind last More) (option_map (lines_of limit) text) ≡ option_map (lines_of limit) text
same_lines last limit None = refl
same_lines last limit (Some bytes) = refl

-- the lines to come begin in a part of a line
pub part_coming : (ahead : SplitLines) (told : Slot → Told) → AreAhead ahead → is_in_hand ahead ≡ false
    → (lines_coming ahead told ≡ option_map (λ left. lines_of ahead.lines.limit (ahead.lines.waiting ++ left)) (told ahead.lines.slot).left)
    × IsPart ahead.lines.limit ahead.lines.waiting
part_coming ahead told is none =
    let stands = none_in_hand ahead none in (
      none_at_hand ahead told is stands.none_split
          ∙ ap (λ (r : Rest). option_map (behind ahead.lines.last_bytes r) (coming ahead.lines told)) stands.more
          ∙ same_lines ahead.lines.last_bytes ahead.lines.limit (still_to_come ahead told)
          ∙ told_lines ahead.lines.limit ahead.lines.waiting (told ahead.lines.slot).left,
      part_waits ahead.lines (is.reading.may_read stands.more) stands.none_held,
    )
