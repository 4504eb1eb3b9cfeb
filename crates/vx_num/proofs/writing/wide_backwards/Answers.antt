-- The digits, and the minus sign in front of them.
use Rattle.std.proofs.Common.{◌≡◌, ◌≤◌, ◌++◌, ◌∷◌, sym, ap, ◌∙◌, length, pos, ◌≤ℤ◌, ◌<ℤ◌, arith}
use Rattle.std.specs.Prelude.{nat_abs}
use Rattle.std.proofs.lemmas.Int.{ints}
use Rattle.std.proofs.lemmas.List.{append-nil}
use Rattle.vx_num.specs.Written.{natural_text}
use Rattle.vx_num.proofs.ReadBack.{length-natural_text-le, wide_text_negative, wide_text_natural}
use Rattle.vx_num.proofs.writing.wide_backwards.Goals as goal

pub put-requires : goal.put-requires
put-requires c =
    let digits = natural_text c.unsigned_abs.result in
    let written = c.put_natural.ensures ∙ ap (λ xs. digits ++ xs) c.new-text.ensures ∙ append-nil digits in
    let few : length digits ≤ 39 = length-natural_text-le 39 (omega arith) c.unsigned_abs.result (omega arith) in
    let same = ap length written in
    omega arith

pub returns-then-value-lt0 : goal.returns-then-value-lt0
returns-then-value-lt0 c =
    let digits = natural_text c.unsigned_abs.result in
    let written = c.put_natural.ensures ∙ ap (λ xs. digits ++ xs) c.new-text.ensures ∙ append-nil digits in
    let abs : c.unsigned_abs.result ≡ nat_abs c.args.value = omega (arith, ints) in
    let negative : c.args.value <ℤ pos 0 = omega (arith, ints) in
    c.put.ensures ∙ ap (λ xs. 45 ∷ xs) written ∙ ap (λ n. 45 ∷ natural_text n) abs ∙ sym (wide_text_negative c.args.value negative)

pub returns-else-value-lt0 : goal.returns-else-value-lt0
returns-else-value-lt0 c =
    let digits = natural_text c.unsigned_abs.result in
    let written = c.put_natural.ensures ∙ ap (λ xs. digits ++ xs) c.new-text.ensures ∙ append-nil digits in
    let abs : c.unsigned_abs.result ≡ nat_abs c.args.value = omega (arith, ints) in
    let natural : pos 0 ≤ℤ c.args.value = omega (arith, ints) in
    written ∙ ap natural_text abs ∙ sym (wide_text_natural c.args.value natural)
