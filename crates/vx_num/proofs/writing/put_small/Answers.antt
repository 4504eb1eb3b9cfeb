-- Each turn moves one digit.
use Rattle.std.proofs.Common.{◌≤◌, sym, ◌∙◌, length, arith}
use Rattle.vx_num.proofs.WrittenLemmas.{natural_text_moved, natural_text_last, room_more}
use Rattle.vx_num.proofs.writing.put_small.Goals as goal

pub loop-rest-preserved : goal.loop-rest-preserved
loop-rest-preserved c =
    let inv = c.loop-rest.invariant in
    let many : 10 ≤ c.loop-rest.rest = omega arith in
    let more = room_more 41 c.loop-rest.rest (length c.loop-rest.text) inv.room many inv.fits in
    rw c.put_digit.ensures record { room = more.1; fits = more.0; text = inv.text ∙ natural_text_moved c.loop-rest.rest c.loop-rest.text many }

pub returns : goal.returns
returns c = c.put_digit-2.ensures ∙ sym (natural_text_last c.loop-rest.rest c.loop-rest.text (omega arith)) ∙ sym c.loop-rest.invariant.text
