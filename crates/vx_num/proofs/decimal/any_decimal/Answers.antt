-- Each return is the case of the definition that holds there.
use Rattle.std.proofs.Common.{◌≡◌, ◌<◌, sym, ap, ◌∙◌, length, arith}
use Rattle.std.proofs.lemmas.Bool.Decides.{nat_tests}
use Rattle.std.specs.Option.{ok_or}
use Rattle.vx_num.specs.declared.decimal.TheConstants.{LARGE}
use Rattle.vx_num.specs.declared.fault.DecimalFault.TheVariants.{TooLarge}
use Rattle.vx_num.proofs.Decimals.{decimal_of_empty, decimal_of_other, decimal_of_places, decimal_of_scaled}
use Rattle.vx_num.proofs.decimal.any_decimal.Goals as goal

pub returns-then-is_empty-clause-answer : goal.returns-then-is_empty-clause-answer
returns-then-is_empty-clause-answer c =
    let none : length c.args.text.now ≡ 0 = grind (arith, nat_tests) in
    sym (decimal_of_empty c.args.text.now c.args.places c.args.max none)

pub returns-in_default-clause-answer : goal.returns-in_default-clause-answer
returns-in_default-clause-answer c =
    let some : 0 < length c.args.text.now = grind (arith, nat_tests) in
    let form = c.in_default.ensures in
    sym (decimal_of_other c.args.text.now c.args.places c.args.max some (sym form.form))

pub returns-then-numeral-places-clause-answer : goal.returns-then-numeral-places-clause-answer
returns-then-numeral-places-clause-answer c =
    let told = c.in-Some.ensures in
    sym (decimal_of_places c.args.text.now c.args.places c.args.max (sym told.form) (omega (arith, told.places)))

pub returns-clause-answer : goal.returns-clause-answer
returns-clause-answer c =
    let told = c.in-Some.ensures in
    c.ok_or.ensures.value ∙ ap (λ o. ok_or o TooLarge) c.scaled.ensures
    ∙ decimal_of_scaled c.args.text.now c.args.places c.args.max c.in-Some.numeral.digits c.in-Some.numeral.places LARGE (sym told.form) told.places c.if-numeral-places.false (omega arith) told.digits
