-- The digits' answer, with the sign that stands in front of them.
use Rattle.std.proofs.Common.{◌≡◌, ◌≢◌, ◌^◌, ◌<◌, sym, ap, ◌∙◌, true, false, get_or, pos, ◌-ℤ◌, neg_ℤ, to_z, of_z, arith}
use Rattle.std.specs.Prelude.{Ok}
use Rattle.std.specs.Int.{w128}
use Rattle.std.proofs.lemmas.Int.{ints}
use Rattle.vx_num.specs.Decimal.{with_sign}
use Rattle.vx_num.proofs.Decimals.{power_at_most, wide_of_empty, wide_of_minus, wide_of_plain}
use Rattle.vx_num.proofs.decimal.read_wide.Goals as goal

pub overflow_cast-result : goal.overflow_cast-result
overflow_cast-result c = omega (arith, ints, power_at_most c.args.bits c.requires.most, c.in-Ok.ensures.within)

pub overflow_sub-result : goal.overflow_sub-result
overflow_sub-result c = omega (arith, ints, power_at_most c.args.bits c.requires.most, c.in-Ok.ensures.within)

pub overflow_cast-result-in-Ok-magnitude : goal.overflow_cast-result-in-Ok-magnitude
overflow_cast-result-in-Ok-magnitude c = omega (arith, ints, power_at_most c.args.bits c.requires.most, c.in-Ok-magnitude.ensures.within)

pub returns-in-empty-clause-answer : goal.returns-in-empty-clause-answer
returns-in-empty-clause-answer c = sym (wide_of_empty c.args.text.now c.args.bits (omega arith))

pub returns-in-Ok-clause-answer : goal.returns-in-Ok-clause-answer
returns-in-Ok-clause-answer c =
    let value = c.in-Ok.value in
    let small : value < 2 ^ 126 = omega (arith, power_at_most c.args.bits c.requires.most, c.in-Ok.ensures.within) in
    let minus : to_z w128 (of_z w128 (pos 0 -ℤ to_z w128 value)) ≡ neg_ℤ (pos value) = omega (arith, ints) in
    let dash : get_or c.args.text.now 0 0 ≡ 45 = omega arith in
    ap Ok minus ∙ ap (with_sign true) c.in-Ok.ensures.answer ∙ sym (wide_of_minus c.args.text.now c.args.bits c.in-45.len_at_least dash)

pub returns-in-Err-clause-answer : goal.returns-in-Err-clause-answer
returns-in-Err-clause-answer c =
    let dash : get_or c.args.text.now 0 0 ≡ 45 = omega arith in
    ap (with_sign true) c.in-Err.ensures.answer ∙ sym (wide_of_minus c.args.text.now c.args.bits c.in-45.len_at_least dash)

pub returns-in-Ok-magnitude-clause-answer : goal.returns-in-Ok-magnitude-clause-answer
returns-in-Ok-magnitude-clause-answer c =
    let value = c.in-Ok-magnitude.value in
    let small : value < 2 ^ 126 = omega (arith, power_at_most c.args.bits c.requires.most, c.in-Ok-magnitude.ensures.within) in
    let same : to_z w128 value ≡ pos value = omega (arith, ints) in
    let plain : get_or c.args.text.now 0 0 ≢ 45 = omega arith in
    ap Ok same ∙ ap (with_sign false) c.in-Ok-magnitude.ensures.answer ∙ sym (wide_of_plain c.args.text.now c.args.bits plain)

pub returns-in-Err-magnitude-clause-answer : goal.returns-in-Err-magnitude-clause-answer
returns-in-Err-magnitude-clause-answer c =
    let plain : get_or c.args.text.now 0 0 ≢ 45 = omega arith in
    ap (with_sign false) c.in-Err-magnitude.ensures.answer ∙ sym (wide_of_plain c.args.text.now c.args.bits plain)
