-- Each turn moves one digit.
use Rattle.std.proofs.Common.{◌≡◌, ◌+◌, ◌-◌, ◌/◌, ◌^◌, ◌++◌, suc, sym, ap, ◌∙◌, drop, arith}
use Rattle.vx_num.specs.Written.{last_digits}
use Rattle.vx_num.proofs.WrittenLemmas.{last_digits_moved, last_digits_none, high_part}
use Rattle.vx_room.proofs.natural.put_last_digits.Goals as goal

pub loop-preserved : goal.loop-preserved
loop-preserved g c =
    let inv = c.loop.invariant in
    let left = c.args.count - (c.loop.counter + 1) in
    let split : c.args.count - c.loop.counter ≡ suc left = omega arith in
    let behind = drop c.loop.start c.loop.bytes in
    let moved = ap (λ k. last_digits k c.loop.rest ++ behind) split ∙ last_digits_moved left c.loop.rest behind in
    let high = ap (λ k. c.loop.rest / 10 ^ k) split ∙ high_part c.loop.rest left in record {
      start = omega arith;
      text = inv.text ∙ moved ∙ ap (λ t. last_digits left (c.loop.rest / 10) ++ t) (sym c.put_digit-start.ensures.written);
      rest = inv.rest ∙ high;
    }

pub returns-clause-written : goal.returns-clause-written
returns-clause-written g c =
    let inv = c.loop.invariant in
    let none : c.args.count - c.loop.counter ≡ 0 = omega arith in
    let behind = drop c.loop.start c.loop.bytes in
    let place : c.args.end - c.args.count ≡ c.loop.start = omega arith in
    ap (λ k. drop k c.loop.bytes) place
    ∙ sym (inv.text ∙ ap (λ k. last_digits k c.loop.rest ++ behind) none ∙ ap (λ xs. xs ++ behind) (last_digits_none c.loop.rest))
