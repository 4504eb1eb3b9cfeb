use Rattle.std.proofs.Common.{◌∙◌, sym}
use Rattle.vx_strip.specs.declared.strip.Strip.{Strip}
use Rattle.vx_strip.specs.Entries.{strike_at}
use Rattle.vx_term.specs.KeptAfter.{SelectsStrip}
use Rattle.vx_term.proofs.KeptTerms.{selects_told, untouched_without_level, kept_of_error, kept_when_refused, kept_when_refreshed}
use Rattle.vx_term.proofs.ToldLevels.{level_place_within, told_tells, answer_without_strip, answer_without_sum}
use Rattle.vx_term.proofs.kept.answer_kept.Goals as goal

pub select-requires-clause-listed : goal.select-requires-clause-listed
select-requires-clause-listed g c = level_place_within g.row.P c.args.term.now.rows.now c.in-Ok.level.f c.in-Ok.level.place c.in-Ok.ensures.level.tells

pub returns-in-Err-clause-kept : goal.returns-in-Err-clause-kept
returns-in-Err-clause-kept g c =
    untouched_without_level g.row.P (SelectsStrip g.row.P c.args.term.now.rows.now c.args.given.exp.value) c.args.kept.now c.args.steps.now c.args.term.now.rows.now c.args.given.exp.value c.in-Err.answer c.in-Err.ensures.answered

pub returns-in-Err-select-clause-answer : goal.returns-in-Err-select-clause-answer
returns-in-Err-select-clause-answer g c =
    let tells = told_tells g.row.P c.args.term.now.rows.now c.args.given.exp.value c.in-Ok.level c.in-Ok.ensures.level in
    answer_without_strip g.row.P c.args.term.now.expiry c.args.given.minutes c.args.given.rate c.args.given.exp c.args.term.now.rows.now
    (strike_at c.args.term.now.rows.now c.in-Ok.level.place) c.in-Err-select.refusal c.in_ok-refusal_of_strip-in-Err-select.field-0 tells c.in-Err-select.ensures.refused
    (sym c.refusal_of_strip.ensures ∙ c.in_ok-refusal_of_strip-in-Err-select.was)

pub returns-in_err-sum-in-Ok-refresh-clause-kept : goal.returns-in_err-sum-in-Ok-refresh-clause-kept
returns-in_err-sum-in-Ok-refresh-clause-kept g c =
    let Selected : Strip → Type 0 = SelectsStrip g.row.P c.args.term.now.rows.now c.args.given.exp.value in
    let selected = selects_told g.row.P c.args.term.now.rows.now c.args.given.exp.value c.in-Ok.level c.in-Ok-select.strip c.in-Ok.ensures.level c.in-Ok-select.ensures.none_refuses c.in-Ok-select.ensures.strip in
    kept_of_error g.row.P Selected c.args.kept.now c.args.steps.now c.refresh.new.self c.refresh.new.steps c.from_residual-in_err-sum-in-Ok-refresh.result c.from_residual-in_err-sum-in-Ok-refresh.ensures.0
    (kept_when_refreshed g.row.P Selected c.args.kept.now c.args.steps.now c.refresh.new.self c.refresh.new.steps c.in-Ok-select.strip c.in-Ok-refresh.ensures.holds c.in-Ok-refresh.ensures.touched selected)

pub returns-in_err-refusal_of_sum-in-Err-refresh-clause-kept : goal.returns-in_err-refusal_of_sum-in-Err-refresh-clause-kept
returns-in_err-refusal_of_sum-in-Err-refresh-clause-kept g c =
    let Selected : Strip → Type 0 = SelectsStrip g.row.P c.args.term.now.rows.now c.args.given.exp.value in
    let selected = selects_told g.row.P c.args.term.now.rows.now c.args.given.exp.value c.in-Ok.level c.in-Ok-select.strip c.in-Ok.ensures.level c.in-Ok-select.ensures.none_refuses c.in-Ok-select.ensures.strip in
    kept_of_error g.row.P Selected c.args.kept.now c.args.steps.now c.refresh.new.self c.refresh.new.steps c.from_residual-in_err-refusal_of_sum-in-Err-refresh.result c.from_residual-in_err-refusal_of_sum-in-Err-refresh.ensures.0
    (kept_when_refused g.row.P Selected c.args.kept.now c.args.steps.now c.refresh.new.self c.refresh.new.steps c.in-Ok-select.strip selected c.in-Err-refresh.ensures.stays c.in-Err-refresh.ensures.least c.in-Err-refresh.ensures.most)

pub returns-in_ok-refusal_of_sum-in-Err-refresh-clause-answer : goal.returns-in_ok-refusal_of_sum-in-Err-refresh-clause-answer
returns-in_ok-refusal_of_sum-in-Err-refresh-clause-answer g c =
    let tells = told_tells g.row.P c.args.term.now.rows.now c.args.given.exp.value c.in-Ok.level c.in-Ok.ensures.level in
    answer_without_sum g.row.P c.args.term.now.expiry c.args.given.minutes c.args.given.rate c.args.given.exp c.args.term.now.rows.now
    (strike_at c.args.term.now.rows.now c.in-Ok.level.place) c.in-Ok-select.strip c.in-Err-refresh.refusal c.in_ok-refusal_of_sum-in-Err-refresh.field-0 tells
    c.in-Ok-select.ensures.none_refuses c.in-Ok-select.ensures.strip c.in-Err-refresh.ensures.refused
    (sym c.refusal_of_sum.ensures ∙ c.in_ok-refusal_of_sum-in-Err-refresh.was)
