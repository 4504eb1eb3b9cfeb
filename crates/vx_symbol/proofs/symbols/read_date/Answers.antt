use Rattle.std.proofs.Common.{◌≡◌, ℕ, ◌+◌, ◌++◌, List, length, take, drop, slice_range, true, Some, sym, ap, ◌∙◌, refl, arith}
use Rattle.std.specs.Char.{is_ascii_digit}
use Rattle.std.specs.Result.{result_ok}
use Rattle.std.proofs.Math.Seq.{take-add}
use Rattle.std.proofs.lemmas.List.{take_all, drop-drop}
use Rattle.std.proofs.lemmas.List.Folds.{list_all-append}
use Rattle.vx_clock.specs.Day.{day_of_date}
use Rattle.vx_clock.specs.Digits.{are_digits, number_of}
use Rattle.vx_clock.proofs.DigitFacts.{number_of-Some}
use Rattle.vx_symbol.specs.Symbol.{date_of_digits}
use Rattle.vx_symbol.proofs.symbols.read_date.Goals as goal

-- six bytes are three pairs
pairs : (text : List ℕ) → length text ≡ 6 → text ≡ take 2 text ++ (slice_range text 2 4 ++ slice_range text 4 6)
pairs text six =
    let whole = take_all 6 text (omega arith) in
    let first = take-add 2 4 text in
    let others = take-add 2 2 (drop 2 text) in
    let last : drop 2 (drop 2 text) ≡ drop 4 text = drop-drop 2 2 text in
    sym whole ∙ first ∙ ap (λ rest. take 2 text ++ rest) (others ∙ ap (λ rest. take 2 (drop 2 text) ++ take 2 rest) last)

digits_of_date : (text : List ℕ) → length text ≡ 6 → are_digits (take 2 text) ≡ true → are_digits (slice_range text 2 4) ≡ true → are_digits (slice_range text 4 6) ≡ true → are_digits text ≡ true
digits_of_date text six first second third =
    ap are_digits (pairs text six) ∙ simp (list_all-append is_ascii_digit, first, second, third)

-- three pairs of digits are those of a date
dated : (text : List ℕ) (y m d : ℕ) → length text ≡ 6 → number_of (take 2 text) ≡ Some y → number_of (slice_range text 2 4) ≡ Some m → number_of (slice_range text 4 6) ≡ Some d → date_of_digits text ≡ result_ok (day_of_date (2000 + y) m d)
dated text y m d six year month day =
    let ys = number_of-Some (take 2 text) y year in
    let ms = number_of-Some (slice_range text 2 4) m month in
    let ds = number_of-Some (slice_range text 4 6) d day in
    rw (digits_of_date text six ys.0 ms.0 ds.0) (rw (ys.1, ms.1, ds.1) refl)

pub returns-clause-value : goal.returns-clause-value
returns-clause-value c =
    let year = sym c.number.ensures.value ∙ c.in_ok-year.was in
    let month = sym c.number-2.ensures.value ∙ c.in_ok-month.was in
    let day = sym c.number-3.ensures.value ∙ c.in_ok-day.was in
    c.ok.ensures.value ∙ ap result_ok c.day_of.ensures.value ∙ sym (dated c.args.text.now c.in_ok-year.year c.in_ok-month.month c.in_ok-day.day c.requires year month day)
