use Rattle.std.proofs.Common.{ℤ, subst, to_z-of_z}
use Rattle.std.specs.Prelude.{IfOk}
use Rattle.vx_term.specs.Answer.{IsAnswerOfRows}
use Rattle.vx_term.proofs.Results.{if_ok}
use Rattle.vx_term.proofs.TermLaws.{rows_answer_holds, rows_answer_means, rows_answer_is_tight, rows_answer_is_decided}
use Rattle.vx_term.proofs.variance.variance_with.Goals as goal

pub returns-clause-answer : goal.returns-clause-answer
returns-clause-answer g c =
    subst (λ (rate : ℤ). IfOk c.answer_of.result (IsAnswerOfRows g.row.P c.args.term.now.expiry c.args.minutes rate c.args.exp c.args.term.now.rows.now))
    (to_z-of_z c.ranges.rate) c.answer_of.ensures.answer

pub returns-clause-holds : goal.returns-clause-holds
returns-clause-holds g c =
    if_ok c.answer_of.result (returns-clause-answer g c)
    (rows_answer_holds g.row.P c.args.term.now.expiry c.args.minutes c.args.rate c.args.exp c.args.term.now.rows.now c.requires.lawful.rows)

pub returns-clause-means : goal.returns-clause-means
returns-clause-means g c = λ depth small covers.
    if_ok c.answer_of.result (returns-clause-answer g c)
    (rows_answer_means g.row.P c.args.term.now.expiry c.args.minutes c.args.rate c.args.exp c.args.term.now.rows.now c.requires.lawful.rows depth small covers)

pub returns-clause-tight : goal.returns-clause-tight
returns-clause-tight g c = λ tight.
    if_ok c.answer_of.result (returns-clause-answer g c)
    (rows_answer_is_tight g.row.P c.args.term.now.expiry c.args.minutes c.args.rate c.args.exp c.args.term.now.rows.now c.requires.lawful.rows
    c.requires.exponential c.requires.exponential.interval.ordered tight)

pub returns-clause-decided : goal.returns-clause-decided
returns-clause-decided g c = λ pair closest one.
    if_ok c.answer_of.result (returns-clause-answer g c)
    (rows_answer_is_decided g.row.P c.args.term.now.expiry c.args.minutes c.args.rate c.args.exp c.args.term.now.rows.now c.requires.lawful.rows pair closest one)
