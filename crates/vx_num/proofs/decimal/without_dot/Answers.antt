-- The digits at the front, and what stands behind them.
use Rattle.std.proofs.Common.{◌≡◌, min, take, sym, ◌∙◌, Bool, true, arith}
use Rattle.std.specs.Prelude.{Option, Some, None, IfSome, is_some}
use Rattle.vx_num.specs.Decimal.{is_decimal_rest, digits_worth}
use Rattle.vx_num.specs.declared.decimal.Numeral.{Numeral}
use Rattle.vx_num.specs.declared.decimal.TheConstants.{LARGE}
use Rattle.vx_num.proofs.Decimals.{rest_has_no_digit, decimal_after_run, places_after_run, digits_of_parts, rest_from}
use Rattle.vx_num.proofs.decimal.without_dot.Goals as goal

pub with_places-requires : goal.with_places-requires
with_places-requires c = rest_has_no_digit c.args.text.now c.front_run-whole.result.len c.front_run-whole.ensures.len

pub returns-clause-form : goal.returns-clause-form
returns-clause-form c = c.with_places.ensures.form ∙ sym (decimal_after_run c.args.text.now c.front_run-whole.result.len c.front_run-whole.ensures.len c.if-whole-eq0.false)

pub returns-clause-places : goal.returns-clause-places
returns-clause-places c = rw (places_after_run c.args.text.now c.front_run-whole.result.len c.front_run-whole.ensures.len) c.with_places.ensures.places

-- two facts of the value that is there give a third, where the test of its being there passed
joined : (P Q R : Numeral → Type 0) (o : Option Numeral) (t : Bool) → is_some o ≡ t → IfSome o P → IfSome o Q → ((x : Numeral) → t ≡ true → P x → Q x → R x) → IfSome o R
joined P Q R None t e p q f = tt
joined P Q R (Some x) t e p q f = f x (sym e) p q

pub returns-clause-digits : goal.returns-clause-digits
returns-clause-digits c =
    let text = c.args.text.now in
    let n = c.front_run-whole.result.len in
    let is = c.front_run-whole.ensures.len in
    let front : min c.front_run-whole.result.value LARGE ≡ min (digits_worth (take n text)) LARGE = omega arith in
    joined _ _ _ c.with_places.result (is_decimal_rest (rest_from n text)) c.with_places.ensures.form c.with_places.ensures.places c.with_places.ensures.digits
    (λ numeral form places digits.
    digits_of_parts text n c.front_run-whole.result.value LARGE numeral.places numeral.digits is front form places digits)
