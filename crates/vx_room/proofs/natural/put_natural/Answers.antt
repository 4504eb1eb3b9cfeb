-- Each turn moves one digit.
use Rattle.std.proofs.Common.{refl, ◌/◌, ◌≤◌, ◌++◌, sym, ap, ◌∙◌, drop, arith}
use Rattle.vx_num.specs.Written.{natural_text}
use Rattle.vx_num.proofs.ReadBack.{natural_text_some}
use Rattle.vx_num.proofs.WrittenLemmas.{natural_text_moved, natural_text_last}
use Rattle.vx_room.proofs.Lengths.{length_one, length_more}
use Rattle.vx_room.proofs.natural.put_natural.Goals as goal

pub loop-rest-init : goal.loop-rest-init
loop-rest-init g c =
    let some = natural_text_some c.args.value in record { some = omega arith; within = omega arith; room = refl; text = refl }

pub loop-rest-preserved : goal.loop-rest-preserved
loop-rest-preserved g c =
    let inv = c.loop-rest.invariant in
    let rest = c.loop-rest.rest in
    let many : 10 ≤ rest = omega arith in
    let more = length_more rest many in
    let some = natural_text_some (rest / 10) in record {
      some = omega arith;
      within = omega arith;
      room = omega arith;
      text = inv.text ∙ natural_text_moved rest (drop c.loop-rest.start c.loop-rest.bytes) many ∙ ap (λ t. natural_text (rest / 10) ++ t) (sym c.put_digit-start.ensures.written);
    }

pub returns-clause-start : goal.returns-clause-start
returns-clause-start g c =
    let one = length_one c.loop-rest.rest (omega arith) in
    omega arith

pub returns-clause-written : goal.returns-clause-written
returns-clause-written g c =
    c.put_digit.ensures.written ∙ sym (natural_text_last c.loop-rest.rest (drop c.loop-rest.start c.loop-rest.bytes) (omega arith)) ∙ sym c.loop-rest.invariant.text
