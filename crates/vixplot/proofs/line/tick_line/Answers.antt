-- The minute is one of a day, and the answer is in range.
use Rattle.std.proofs.Common.{rules}
use Rattle.vixplot.specs.Answers.{IsAnswerInRange}
use Rattle.vixplot.proofs.line.tick_line.Goals as goal

pub returns-clause-range : goal.returns-clause-range
returns-clause-range c =
    let in_range : IsAnswerInRange c.in_ok-answer.answer = search rules in
    let figure = in_range c.in_ok-minute.minute in
    record { minute = search rules; figure = search rules }
