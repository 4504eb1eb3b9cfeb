-- Each turn moves one digit.
use Rattle.std.proofs.Common.{◌≤◌, ◌∙◌, length, arith}
use Rattle.vx_num.proofs.WrittenLemmas.{natural_text_moved, room_more}
use Rattle.vx_num.proofs.writing.put_natural.Goals as goal

pub loop-rest-preserved : goal.loop-rest-preserved
loop-rest-preserved c =
    let inv = c.loop-rest.invariant in
    let many : 10 ≤ c.loop-rest.rest = omega arith in
    let more = room_more 41 c.loop-rest.rest (length c.loop-rest.text) inv.room many inv.fits in
    rw c.put_digit.ensures record { room = more.1; fits = more.0; text = inv.text ∙ natural_text_moved c.loop-rest.rest c.loop-rest.text many }
