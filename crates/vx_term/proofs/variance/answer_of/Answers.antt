use Rattle.std.proofs.Common.{◌∙◌, sym}
use Rattle.vx_strip.specs.Entries.{strike_at}
use Rattle.vx_term.proofs.ToldLevels.{level_place_within, told_tells, answer_without_strip, answer_without_sum}
use Rattle.vx_term.proofs.variance.answer_of.Goals as goal

pub select-requires-clause-listed : goal.select-requires-clause-listed
select-requires-clause-listed g c = level_place_within g.row.P c.args.term.now.rows.now c.in-Ok.level.f c.in-Ok.level.place c.in-Ok.ensures.level.tells

pub returns-in-Err-select-clause-answer : goal.returns-in-Err-select-clause-answer
returns-in-Err-select-clause-answer g c =
    let tells = told_tells g.row.P c.args.term.now.rows.now c.args.given.exp.value c.in-Ok.level c.in-Ok.ensures.level in
    answer_without_strip g.row.P c.args.term.now.expiry c.args.given.minutes c.args.given.rate c.args.given.exp c.args.term.now.rows.now
    (strike_at c.args.term.now.rows.now c.in-Ok.level.place) c.in-Err-select.refusal c.in_ok-refusal_of_strip-in-Err-select.field-0 tells c.in-Err-select.ensures.refused
    (sym c.refusal_of_strip.ensures ∙ c.in_ok-refusal_of_strip-in-Err-select.was)

pub returns-in_ok-refusal_of_sum-in-Err-sum_strip-clause-answer : goal.returns-in_ok-refusal_of_sum-in-Err-sum_strip-clause-answer
returns-in_ok-refusal_of_sum-in-Err-sum_strip-clause-answer g c =
    let tells = told_tells g.row.P c.args.term.now.rows.now c.args.given.exp.value c.in-Ok.level c.in-Ok.ensures.level in
    answer_without_sum g.row.P c.args.term.now.expiry c.args.given.minutes c.args.given.rate c.args.given.exp c.args.term.now.rows.now
    (strike_at c.args.term.now.rows.now c.in-Ok.level.place) c.in-Ok-select.strip c.in-Err-sum_strip.refusal c.in_ok-refusal_of_sum-in-Err-sum_strip.field-0 tells
    c.in-Ok-select.ensures.none_refuses c.in-Ok-select.ensures.strip c.in-Err-sum_strip.ensures.refused
    (sym c.refusal_of_sum.ensures ∙ c.in_ok-refusal_of_sum-in-Err-sum_strip.was)
