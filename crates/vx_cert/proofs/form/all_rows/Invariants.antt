use Rattle.serde_json.specs.View.{view}
use Rattle.vx_cert.specs.Form.{row_in}
use Rattle.vx_cert.proofs.Reading.{HasRead}
use Rattle.vx_cert.proofs.form.all_rows.Given as goal

abbrev pub invariant-loop-value : goal.invariant-loop-value
invariant-loop-value l = HasRead (λ value. row_in (view value)) l.values l.value-index l.rows
