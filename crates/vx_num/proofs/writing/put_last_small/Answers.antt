-- Each turn moves one digit.
use Rattle.std.proofs.Common.{◌≡◌, ◌+◌, ◌-◌, ◌/◌, ◌^◌, ◌++◌, suc, sym, ap, ◌∙◌, arith}
use Rattle.vx_num.specs.Written.{last_digits}
use Rattle.vx_num.proofs.WrittenLemmas.{last_digits_moved, last_digits_none, high_part}
use Rattle.vx_num.proofs.writing.put_last_small.Goals as goal

pub loop-preserved : goal.loop-preserved
loop-preserved c =
    let inv = c.loop.invariant in
    let left = c.args.count - (c.loop.counter + 1) in
    let split : c.args.count - c.loop.counter ≡ suc left = omega arith in
    let moved = ap (λ k. last_digits k c.loop.rest ++ c.loop.text) split ∙ last_digits_moved left c.loop.rest c.loop.text in
    let high = ap (λ k. c.loop.rest / 10 ^ k) split ∙ high_part c.loop.rest left in
    rw c.put_digit.ensures record { length = omega arith; text = inv.text ∙ moved; rest = inv.rest ∙ high }

pub returns-clause-written : goal.returns-clause-written
returns-clause-written c =
    let inv = c.loop.invariant in
    let none : c.args.count - c.loop.counter ≡ 0 = omega arith in
    sym (inv.text ∙ ap (λ k. last_digits k c.loop.rest ++ c.loop.text) none ∙ ap (λ xs. xs ++ c.loop.text) (last_digits_none c.loop.rest))
