use Rattle.std.proofs.Common.{sym, ◌∙◌, ap}
use Rattle.serde_json.specs.View.{view}
use Rattle.vx_cert.specs.Form.{row_in}
use Rattle.vx_cert.proofs.Reading.{HasRead_none, HasRead_end, all_read_map}
use Rattle.vx_cert.proofs.form.all_rows.Goals as goal

pub returns-in-None : goal.returns-in-None
returns-in-None c =
    sym (all_read_map row_in view c.args.values.now
    ∙ HasRead_none (λ value. row_in (view value)) c.args.values.now _ _ c.value-item.result c.loop-value-test.true
    (ap (λ value. row_in (view value)) (sym c.value-item.is) ∙ (sym c.row.ensures ∙ c.in-None.is)) c.loop-value.invariant)

pub returns : goal.returns
returns c = sym (all_read_map row_in view c.args.values.now ∙ HasRead_end _ _ _ _ c.loop-value-test.false c.loop-value.invariant)
