-- The lines that `vixcert replay` prints, by the pieces between their commas. This project's own formats.
use Rattle.std.specs.Prelude.{ℕ, ◌≡◌, ◌⊎◌, ◌-◌, ◌==◌, ◌&&◌, Bool, List, [], length, drop, slice_index, slice_index_or, codes, bytes_eq, if◌then◌else◌, Option, Some, None, option_map, option_and_then, is_ok}
use Rattle.std.specs.List.{before_first, after_first, slice_split}
use Rattle.std.specs.Result.{result_ok}
use Rattle.vx_clock.specs.Clock.{time_of_text}
use Rattle.vx_num.specs.Decimal.{decimal_of, is_digits, is_dot, is_minus}
use Rattle.vx_num.specs.declared.limits.TheConstants.{CENTS_MAX, FEED_LINES_MAX}
use Rattle.vixplot.specs.declared.answer.Answer.{Answer}
use Rattle.vixplot.specs.declared.answer.Answer.TheVariants.{Figure, UndecidedCents, UndecidedForward, Refused}
use Rattle.vixplot.specs.declared.answer.Line.{Line}
use Rattle.vixplot.specs.declared.answer.Line.TheVariants.{Tick as TickLine, End}
use Rattle.vixplot.specs.declared.answer.Reason.{Reason}
use Rattle.vixplot.specs.declared.answer.Reason.TheVariants.{NoTerm, NoRate, NoPair, NoStrikeBelow, NoStrikeAbove, NoMoney, NoPut, NoCall, StripTooLarge, NegativeVariance}
use Rattle.vixplot.specs.declared.answer.Which.{Which}
use Rattle.vixplot.specs.declared.answer.Which.TheVariants.{Near, Next, Both}
use Rattle.vixplot.specs.declared.limits.TheConstants.{DAYS_MAX, ENDS_PLACES, FORWARD_PLACES, STRIKE_PLACES}

-- the bytes of a text
abbrev pub LineText : Type 0
LineText = List ℕ

-- the pieces of a line between its commas (44)
abbrev pub fields_of : LineText → List LineText
fields_of line = slice_split (λ byte. byte == 44) line

-- the n-th field, from 1
abbrev pub nth_field : List LineText → ℕ → LineText
nth_field fields n = slice_index_or fields (n - 1) []

-- digits, a dot, and just so many digits behind it
abbrev pub is_unsigned : ℕ → LineText → Bool
is_unsigned places text =
    is_digits (before_first is_dot text) && is_digits (after_first is_dot text)
    && length (after_first is_dot text) == places

-- the same, where a `-` may stand in front
abbrev pub is_number : ℕ → LineText → Bool
is_number places text = is_unsigned places (if is_minus (slice_index text 0) then drop 1 text else text)

-- the days ahead, 0 to 1,000
abbrev pub is_days : LineText → Bool
is_days text = is_ok (decimal_of text 0 DAYS_MAX)

-- a count of ticks, at most as many as a feed may have lines
abbrev pub count_of : LineText → Option ℕ
count_of text = result_ok (decimal_of text 0 FEED_LINES_MAX)

-- a figure in hundredths of a point, from points with two places
abbrev pub cents_of_points : LineText → Option ℕ
cents_of_points text = if is_number 2 text then result_ok (decimal_of text 2 CENTS_MAX) else None

-- the term or the terms that an answer speaks of
abbrev pub which_of_word : LineText → Option Which
which_of_word text =
    if bytes_eq text (codes "near") then Some Near
    else if bytes_eq text (codes "next") then Some Next
    else if bytes_eq text (codes "both") then Some Both
    else None

-- the reason of a refusal
abbrev pub reason_of_word : LineText → Option Reason
reason_of_word text =
    if bytes_eq text (codes "no-term") then Some NoTerm
    else if bytes_eq text (codes "no-rate") then Some NoRate
    else if bytes_eq text (codes "no-pair") then Some NoPair
    else if bytes_eq text (codes "no-strike-below") then Some NoStrikeBelow
    else if bytes_eq text (codes "no-strike-above") then Some NoStrikeAbove
    else if bytes_eq text (codes "no-money") then Some NoMoney
    else if bytes_eq text (codes "no-put") then Some NoPut
    else if bytes_eq text (codes "no-call") then Some NoCall
    else if bytes_eq text (codes "strip-too-large") then Some StripTooLarge
    else if bytes_eq text (codes "negative-variance") then Some NegativeVariance
    else None

-- both ends are numbers with so many places
abbrev pub are_ends : ℕ → LineText → LineText → Bool
are_ends places lo hi = is_number places lo && is_number places hi

-- what stands behind the days: a figure and its ends
abbrev pub figure_answer : LineText → LineText → LineText → Option Answer
figure_answer figure lo hi = if are_ends ENDS_PLACES lo hi then option_map Figure (cents_of_points figure) else None

-- the ends of an undecided figure
abbrev pub cents_answer : LineText → LineText → Option Answer
cents_answer lo hi = if are_ends ENDS_PLACES lo hi then Some UndecidedCents else None

-- a term, a strike and the ends of the undecided forward
abbrev pub forward_answer : LineText → LineText → LineText → LineText → Option Answer
forward_answer which strike lo hi =
    if is_number STRIKE_PLACES strike && are_ends FORWARD_PLACES lo hi
    then option_map UndecidedForward (which_of_word which)
    else None

-- the reason and the term of a refusal
abbrev pub refusal_answer : LineText → LineText → Option Answer
refusal_answer reason which =
    option_and_then (λ r. option_map (λ w. Refused r w) (which_of_word which)) (reason_of_word reason)

-- the tick of a time, the days ahead and an answer
abbrev pub tick_line : LineText → LineText → Option Answer → Option Line
tick_line time days None = None
tick_line time days (Some answer) =
    if is_days days
    then option_map (λ minute. TickLine (record { minute = minute; answer = answer })) (time_of_text time)
    else None

-- the end, where all four counts are there
abbrev pub end_of : Option ℕ → Option ℕ → Option ℕ → Option ℕ → Option Line
end_of (Some ticks) (Some published) (Some undecided) (Some refused) =
    Some (End (record { ticks = ticks; published = published; undecided = undecided; refused = refused }))
end_of _ _ _ _ = None

-- so many fields, of which the first is this word
abbrev pub HasForm : List LineText → LineText → ℕ → Type 0
HasForm fields word count = (length fields ≡ count) × (nth_field fields 1 ≡ word)

-- the fields are of one of the five forms
abbrev pub HasAnyForm : List LineText → Type 0
HasAnyForm fields =
    HasForm fields (codes "FIG") 6 ⊎ (HasForm fields (codes "UND") 6 × (nth_field fields 4 ≡ codes "cents"))
    ⊎ (HasForm fields (codes "UND") 8 × (nth_field fields 4 ≡ codes "forward"))
    ⊎ HasForm fields (codes "REF") 5 ⊎ HasForm fields (codes "END") 5

-- what the fields of a line say, by its form:
--   FIG,hh:mm,days,figure,lo,hi
--   UND,hh:mm,days,cents,lo,hi
--   UND,hh:mm,days,forward,which,strike,lo,hi
--   REF,hh:mm,days,reason,which
--   END,ticks,published,undecided,refused
-- and None where the line is of none of these
pub record SaysLine (fields : List LineText) (line : Option Line) : Type 0 where
  pub figure : HasForm fields (codes "FIG") 6
      → line ≡ tick_line (nth_field fields 2) (nth_field fields 3)
      (figure_answer (nth_field fields 4) (nth_field fields 5) (nth_field fields 6))
  pub cents : HasForm fields (codes "UND") 6 → nth_field fields 4 ≡ codes "cents"
      → line ≡ tick_line (nth_field fields 2) (nth_field fields 3) (cents_answer (nth_field fields 5) (nth_field fields 6))
  pub forward : HasForm fields (codes "UND") 8 → nth_field fields 4 ≡ codes "forward"
      → line ≡ tick_line (nth_field fields 2) (nth_field fields 3)
      (forward_answer (nth_field fields 5) (nth_field fields 6) (nth_field fields 7) (nth_field fields 8))
  pub refusal : HasForm fields (codes "REF") 5
      → line ≡ tick_line (nth_field fields 2) (nth_field fields 3) (refusal_answer (nth_field fields 4) (nth_field fields 5))
  pub counts : HasForm fields (codes "END") 5
      → line ≡ end_of (count_of (nth_field fields 2)) (count_of (nth_field fields 3))
      (count_of (nth_field fields 4)) (count_of (nth_field fields 5))
  pub other : ¬ HasAnyForm fields → line ≡ None
