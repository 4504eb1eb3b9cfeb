-- Behind a dot a decimal has digits, and no other byte.
use Rattle.std.proofs.Common.{◌≡◌, sym, get_or, arith}
use Rattle.vx_num.proofs.Decimals.{no_digits_behind_dot, digits_behind_dot}
use Rattle.vx_num.proofs.decimal.with_places.Goals as goal

pub returns-then-run-eq0-clause-form : goal.returns-then-run-eq0-clause-form
returns-then-run-eq0-clause-form c =
    let dot : get_or c.args.rest.now 0 0 ≡ 46 = omega arith in
    sym (no_digits_behind_dot c.args.rest.now c.digit_run-run.result.len c.in-46.len_at_least dot c.digit_run-run.ensures.len c.then-run-eq0.either)

pub returns-else-run-behind-clause-form : goal.returns-else-run-behind-clause-form
returns-else-run-behind-clause-form c =
    let dot : get_or c.args.rest.now 0 0 ≡ 46 = omega arith in
    sym (digits_behind_dot c.args.rest.now c.digit_run-run.result.len c.in-46.len_at_least dot c.digit_run-run.ensures.len c.if-run-eq0.false c.if-run-behind.false).0

pub returns-else-run-behind-clause-digits : goal.returns-else-run-behind-clause-digits
returns-else-run-behind-clause-digits c =
    let dot : get_or c.args.rest.now 0 0 ≡ 46 = omega arith in
    let digits = (digits_behind_dot c.args.rest.now c.digit_run-run.result.len c.in-46.len_at_least dot c.digit_run-run.ensures.len c.if-run-eq0.false c.if-run-behind.false).1 in
    rw digits c.digit_run-run.ensures.value
