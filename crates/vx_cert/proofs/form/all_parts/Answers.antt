use Rattle.std.proofs.Common.{◌≡◌, ◌+◌, ◌<◌, ◌≤◌, None, Some, length, map, take, ◌++◌, ◌∷◌, [], arith, sym, ◌∙◌, ap}
use Rattle.std.proofs.Math.ListN.{length-set}
use Rattle.std.proofs.lemmas.List.{take_all, take_more_set}
use Rattle.serde_json.specs.View.{view}
use Rattle.vx_cert.specs.Form.{part_in, all_read}
use Rattle.vx_cert.proofs.Reading.{HasRead, HasRead_none, HasRead_step, HasRead_end, all_read_map}
use Rattle.vx_cert.proofs.form.all_parts.Goals as goal

pub returns-in_err-terms : goal.returns-in_err-terms
returns-in_err-terms c =
    let lt : c.loop-i.i < length c.args.values.now = omega (arith, c.requires) in
    let none : all_read part_in (map view c.args.values.now) ≡ None =
    all_read_map part_in view c.args.values.now
    ∙ HasRead_none (λ value. part_in (view value)) c.args.values.now _ _ c.index-values-i.result lt
    (ap (λ value. part_in (view value)) (sym c.index-values-i.is) ∙ (sym c.part.ensures ∙ c.in_err-terms.was))
    c.loop-i.invariant.0 in
    cc

pub loop-i-preserved : goal.loop-i-preserved
loop-i-preserved c =
    let lt : c.loop-i.i < length c.args.values.now = omega (arith, c.requires) in
    let room : c.loop-i.i < length c.loop-i.terms = omega (arith, c.loop-i.invariant.1) in
    let step : HasRead (λ value. part_in (view value)) c.args.values.now (c.loop-i.i + 1) (take c.loop-i.i c.loop-i.terms ++ c.in_ok-terms.field-0 ∷ []) =
    HasRead_step (λ value. part_in (view value)) c.args.values.now _ _ c.index-values-i.result c.in_ok-terms.field-0 lt
    (ap (λ value. part_in (view value)) (sym c.index-values-i.is) ∙ (sym c.part.ensures ∙ c.in_ok-terms.was))
    c.loop-i.invariant.0 in (
      rw (take_more_set c.loop-i.terms c.loop-i.i c.in_ok-terms.field-0 room) step,
      length-set c.loop-i.terms c.loop-i.i c.in_ok-terms.field-0 ∙ c.loop-i.invariant.1,
    )

pub returns : goal.returns
returns c =
    let all : length c.args.values.now ≤ c.loop-i.i = omega (arith, c.requires, c.loop-i-test.false) in
    let full : length c.loop-i.terms ≤ c.loop-i.i = omega (arith, c.loop-i.invariant.1, c.loop-i-test.false) in
    sym (all_read_map part_in view c.args.values.now
    ∙ HasRead_end (λ value. part_in (view value)) c.args.values.now _ _ all c.loop-i.invariant.0
    ∙ ap Some (take_all c.loop-i.i c.loop-i.terms full))
