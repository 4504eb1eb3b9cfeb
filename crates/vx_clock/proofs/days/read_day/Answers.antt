use Rattle.std.proofs.Common.{◌≡◌, ℕ, List, length, take, slice_index, slice_range, true, Some, sym, ◌∙◌, refl, arith}
use Rattle.vx_clock.specs.Day.{day_of_date, day_of_text, has_day_form}
use Rattle.vx_clock.specs.Digits.{number_of}
use Rattle.vx_clock.proofs.DigitFacts.{number_of-Some}
use Rattle.vx_clock.proofs.days.read_day.Goals as goal

-- ten bytes with both dashes and three numbers have the form
formed : (text : List ℕ) (y m d : ℕ) → length text ≡ 10 → slice_index text 4 ≡ 45 → slice_index text 7 ≡ 45 → number_of (take 4 text) ≡ Some y → number_of (slice_range text 5 7) ≡ Some m → number_of (slice_range text 8 10) ≡ Some d → day_of_text text ≡ day_of_date y m d
formed text y m d ten first second year month day =
    let ys = number_of-Some (take 4 text) y year in
    let ms = number_of-Some (slice_range text 5 7) m month in
    let ds = number_of-Some (slice_range text 8 10) d day in
    let form : has_day_form text ≡ true = rw (ten, first, second, ys.0, ms.0, ds.0) refl in
    rw form (rw (ys.1, ms.1, ds.1) refl)

pub returns-clause-value : goal.returns-clause-value
returns-clause-value c =
    let text = c.args.text.now in
    let year = sym c.number.ensures.value ∙ c.in-Some.is in
    let month = sym c.number-2.ensures.value ∙ c.in-Some-number.is in
    let day = sym c.number-3.ensures.value ∙ c.in-Some-number-2.is in
    c.day_of.ensures.value ∙ sym (formed text c.in-Some.year c.in-Some-number.month c.in-Some-number-2.day (omega arith) (omega arith) (omega arith) year month day)
