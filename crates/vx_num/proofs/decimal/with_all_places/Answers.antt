-- The digits before the dot and those behind it are the decimal's.
use Rattle.std.proofs.Common.{◌≡◌, ◌-◌, ◌*◌, ◌^◌, ◌<◌, ◌≤◌, ℕ, length, get_or, arith, length-take}
use Rattle.std.proofs.Math.Nat.{mul-le-mul_left, pow-le-pow_right}
use Rattle.std.specs.Prelude.{Option, Some, None, IfSome}
use Rattle.vx_num.proofs.AllPlaces.{decimal_with_all_places, few_digits}
use Rattle.vx_num.proofs.decimal.with_all_places.Goals as goal

-- two facts of the value that is there give a third
joined : {P Q R : ℕ → Type 0} (o : Option ℕ) → IfSome o P → IfSome o Q → ((x : ℕ) → P x → Q x → R x) → IfSome o R
joined None p q f = tt
joined (Some x) p q f = f x p q

-- behind at most nine digits nine more fit 64 bits
nine_more : (whole n : ℕ) → whole < 1000000000 → n ≤ 9 → whole * 10 ^ n < 2 ^ 63
nine_more whole n few most =
    let power : 10 ^ n ≤ 10 ^ 9 = pow-le-pow_right (omega arith) most in
    let raised : whole * 10 ^ n ≤ whole * 10 ^ 9 = mul-le-mul_left whole power in
    omega arith

pub digits_alone-requires-2-clause-few : goal.digits_alone-requires-2-clause-few
digits_alone-requires-2-clause-few c =
    let whole = few_digits _ _ _ (omega (arith, length-take {A = ℕ})) c.in_ok-whole.ensures.form c.in_ok-whole.ensures.value in
    nine_more c.in_ok-whole.whole _ whole (omega (arith, length-take {A = ℕ}))

pub returns : goal.returns
returns c =
    let text = c.args.text.now in
    let places = c.args.places in
    let point = length text - places - 1 in
    let dot : get_or text point 0 ≡ 46 = omega arith in
    joined c.digits_alone-2.result c.digits_alone-2.ensures.form c.digits_alone-2.ensures.value
    (λ value back is_value max fits.
    decimal_with_all_places text point places c.in_ok-whole.whole value max _ (omega arith) (omega arith) (omega arith) dot c.in_ok-whole.ensures.form c.in_ok-whole.ensures.value back is_value fits)
