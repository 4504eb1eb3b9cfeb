-- The last digits, the dot, and the whole part in front of them.
use Rattle.std.proofs.Common.{rules, ◌∷◌, ◌++◌, sym, ap, ◌∙◌, drop, length, arith}
use Rattle.vx_num.specs.Written.{natural_text, last_digits}
use Rattle.vx_num.proofs.ReadBack.{decimal_text_whole}
use Rattle.vx_room.proofs.Lengths.{length_whole, length_parts, decimal_before}
use Rattle.vx_room.proofs.decimal.put_decimal.Goals as goal

pub put_natural-requires : goal.put_natural-requires
put_natural-requires g c =
    let whole = length_whole c.args.value c.args.places c.if-places-eq0.true in
    (search rules, (omega arith, search rules))

pub returns-then-places-eq0-clause-start : goal.returns-then-places-eq0-clause-start
returns-then-places-eq0-clause-start g c =
    let whole = length_whole c.args.value c.args.places c.if-places-eq0.true in
    omega arith

pub returns-then-places-eq0-clause-written : goal.returns-then-places-eq0-clause-written
returns-then-places-eq0-clause-written g c =
    c.put_natural.ensures.written ∙ ap (λ t. t ++ drop c.args.end c.args.bytes.now) (sym (decimal_text_whole c.args.value c.args.places c.if-places-eq0.true))

pub put_last_digits-whole-requires : goal.put_last_digits-whole-requires
put_last_digits-whole-requires g c =
    let parts = length_parts c.args.value c.args.places (omega arith) in
    (search rules, (omega arith, search rules))

pub overflow_sub-end : goal.overflow_sub-end
overflow_sub-end g c =
    let parts = length_parts c.args.value c.args.places (omega arith) in
    omega arith

pub put-dot-requires : goal.put-dot-requires
put-dot-requires g c =
    let parts = length_parts c.args.value c.args.places (omega arith) in
    (search rules, (omega arith, search rules))

pub put_natural-requires-2 : goal.put_natural-requires-2
put_natural-requires-2 g c =
    let parts = length_parts c.args.value c.args.places (omega arith) in
    let whole = ap (λ n. length (natural_text n)) c.put_last_digits-whole.ensures.rest in
    (search rules, (omega arith, search rules))

pub returns-clause-start : goal.returns-clause-start
returns-clause-start g c =
    let parts = length_parts c.args.value c.args.places (omega arith) in
    let whole = ap (λ n. length (natural_text n)) c.put_last_digits-whole.ensures.rest in
    omega arith

pub returns-clause-written : goal.returns-clause-written
returns-clause-written g c =
    let digits = last_digits c.args.places c.args.value in
    let behind = drop c.args.end c.args.bytes.now in
    c.put_natural-2.ensures.written ∙ ap (λ t. natural_text c.put_last_digits-whole.result ++ t) (c.put-dot.ensures.written ∙ ap (λ t. 46 ∷ t) c.put_last_digits-whole.ensures.written)
    ∙ ap (λ n. natural_text n ++ 46 ∷ (digits ++ behind)) c.put_last_digits-whole.ensures.rest
    ∙ decimal_before c.args.value c.args.places (omega arith) behind
