-- The last digits, the dot, and the whole part in front of them.
use Rattle.std.proofs.Common.{◌≡◌, suc, ◌∷◌, ◌++◌, sym, ap, ◌∙◌, length, arith}
use Rattle.std.proofs.lemmas.List.{append-nil}
use Rattle.vx_num.specs.Written.{natural_text, last_digits}
use Rattle.vx_num.proofs.ReadBack.{decimal_text_whole, decimal_text_parts, length-last_digits, whole_fits}
use Rattle.vx_num.proofs.writing.decimal_backwards.Goals as goal

pub returns-then-places-eq0 : goal.returns-then-places-eq0
returns-then-places-eq0 c =
    c.put_natural.ensures ∙ ap (λ xs. natural_text c.args.value ++ xs) c.new-text.ensures ∙ append-nil (natural_text c.args.value)
    ∙ sym (decimal_text_whole c.args.value c.args.places c.if-places-eq0.true)

pub put-requires : goal.put-requires
put-requires c =
    let digits = last_digits c.args.places c.args.value in
    let written = c.put_last_digits-whole.ensures.written ∙ ap (λ xs. digits ++ xs) c.new-text.ensures ∙ append-nil digits in
    let many = ap length written ∙ length-last_digits c.args.places c.args.value in
    omega arith

pub put_natural-requires-2-clause-room : goal.put_natural-requires-2-clause-room
put_natural-requires-2-clause-room c =
    let digits = last_digits c.args.places c.args.value in
    let written = c.put_last_digits-whole.ensures.written ∙ ap (λ xs. digits ++ xs) c.new-text.ensures ∙ append-nil digits in
    let many = ap length (c.put.ensures ∙ ap (λ xs. 46 ∷ xs) written) in
    omega (arith, length-last_digits c.args.places c.args.value)

pub put_natural-requires-2-clause-fits : goal.put_natural-requires-2-clause-fits
put_natural-requires-2-clause-fits c =
    let digits = last_digits c.args.places c.args.value in
    let written = c.put_last_digits-whole.ensures.written ∙ ap (λ xs. digits ++ xs) c.new-text.ensures ∙ append-nil digits in
    let many : length c.put.new.self ≡ suc c.args.places = ap length (c.put.ensures ∙ ap (λ xs. 46 ∷ xs) written) ∙ ap suc (length-last_digits c.args.places c.args.value) in
    rw c.put_last_digits-whole.ensures.rest (whole_fits c.args.value c.args.places (length c.put.new.self) (omega arith) c.requires many)

pub returns : goal.returns
returns c =
    let digits = last_digits c.args.places c.args.value in
    let written = c.put_last_digits-whole.ensures.written ∙ ap (λ xs. digits ++ xs) c.new-text.ensures ∙ append-nil digits in
    let whole = c.put_last_digits-whole.result in
    c.put_natural-2.ensures ∙ ap (λ xs. natural_text whole ++ xs) (c.put.ensures ∙ ap (λ xs. 46 ∷ xs) written)
    ∙ ap (λ n. natural_text n ++ 46 ∷ digits) c.put_last_digits-whole.ensures.rest
    ∙ sym (decimal_text_parts c.args.value c.args.places (omega arith))
