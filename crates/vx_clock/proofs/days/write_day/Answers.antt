use Rattle.std.proofs.Common.{◌∙◌, refl, arith}
use Rattle.vx_clock.specs.DayText.{day_text}
use Rattle.vx_clock.proofs.DayTexts.{date_is, text_of_date}
use Rattle.vx_clock.proofs.days.write_day.Goals as goal

pub returns-clause-text : goal.returns-clause-text
unfolding day_text
returns-clause-text c =
    let date = date_is c.date_of-year.result.0 c.date_of-year.result.1 c.date_of-year.result.2 c.args.day c.date_of-year.ensures.value in
    rw (c.digit.ensures, c.digit-2.ensures, c.digit-3.ensures, c.digit-4.ensures, c.digit-5.ensures, c.digit-6.ensures, c.digit-7.ensures, c.digit-8.ensures, date.0, date.1, date.2) refl

pub returns-clause-read_back : goal.returns-clause-read_back
returns-clause-read_back c =
    rw (c.digit.ensures, c.digit-2.ensures, c.digit-3.ensures, c.digit-4.ensures, c.digit-5.ensures, c.digit-6.ensures, c.digit-7.ensures, c.digit-8.ensures)
    (text_of_date c.date_of-year.result.0 c.date_of-year.result.1 c.date_of-year.result.2 (omega arith) (omega arith) (omega arith) ∙ c.date_of-year.ensures.value)
