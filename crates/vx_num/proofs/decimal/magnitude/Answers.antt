-- Each return is the case of the definition that holds there.
use Rattle.std.proofs.Common.{◌^◌, ◌<◌, sym, length, arith}
use Rattle.std.proofs.lemmas.Bool.Decides.{nat_tests}
use Rattle.vx_num.specs.declared.decimal.TheConstants.{LARGE}
use Rattle.vx_num.proofs.Decimals.{power_below, power_at_most, magnitude_of_other, magnitude_of_large, magnitude_of_value}
use Rattle.vx_num.proofs.decimal.magnitude.Goals as goal

pub returns-then-run-digits-clause-answer : goal.returns-then-run-digits-clause-answer
returns-then-run-digits-clause-answer c = sym (magnitude_of_other c.args.digits.now c.args.bits c.front_run-run.result.len c.front_run-run.ensures.len c.if-run-digits.true)

pub returns-then-run-bits-clause-answer : goal.returns-then-run-bits-clause-answer
returns-then-run-bits-clause-answer c =
    let some : 0 < length c.args.digits.now = grind (arith, nat_tests) in
    let power = power_below c.args.bits c.requires in
    let most = power_at_most c.args.bits c.requires in
    let run = c.front_run-run.result in
    let told = c.front_run-run.ensures in
    sym (magnitude_of_large c.args.digits.now c.args.bits run.len (10 ^ run.len) run.value LARGE some told.len c.if-run-digits.false (omega arith) told.value (omega arith))

pub returns-clause-answer : goal.returns-clause-answer
returns-clause-answer c =
    let some : 0 < length c.args.digits.now = grind (arith, nat_tests) in
    let power = power_below c.args.bits c.requires in
    let most = power_at_most c.args.bits c.requires in
    let run = c.front_run-run.result in
    let told = c.front_run-run.ensures in
    sym (magnitude_of_value c.args.digits.now c.args.bits run.len (10 ^ run.len) run.value LARGE some told.len c.if-run-digits.false (omega arith) told.value (omega arith))
