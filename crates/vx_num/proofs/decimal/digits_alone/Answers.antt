-- A run that goes to the end of the text has digits alone.
use Rattle.vx_num.proofs.Decimals.{all_from_run, run_is_all}
use Rattle.vx_num.proofs.decimal.digits_alone.Goals as goal

pub returns-clause-form : goal.returns-clause-form
returns-clause-form c =
    let text = c.args.text.now in
    all_from_run text (run_is_all text c.short_run-run.result.len c.short_run-run.ensures.len c.if-run-text.false).0
