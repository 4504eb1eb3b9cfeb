use Rattle.std.proofs.Common.{◌≡◌, take, length}
use Rattle.serde_json.specs.View.{view}
use Rattle.vx_cert.specs.Form.{part_in}
use Rattle.vx_cert.specs.declared.limits.TheConstants.{TAYLOR_TERMS}
use Rattle.vx_cert.proofs.Reading.{HasRead}
use Rattle.vx_cert.proofs.form.all_parts.Given as goal

abbrev pub invariant-loop-i : goal.invariant-loop-i
invariant-loop-i l = HasRead (λ value. part_in (view value)) l.values l.i (take l.i l.terms) × (length l.terms ≡ TAYLOR_TERMS)
