use Rattle.std.proofs.Common.{◌∙◌, true, arith}
use Rattle.vx_fields.proofs.TextLemmas.{are_done, are_lines, are_whole}
use Rattle.vx_fields.proofs.line.are_plain_lines.Goals as goal

pub returns : goal.returns
returns c =
    are_done c.args.text.now c.loop-byte.byte-index c.loop-byte.are_all c.loop-byte.after_lf (are_lines true c.args.text.now) (omega (arith, c.loop-byte-test.false)) c.loop-byte.invariant
    ∙ are_whole c.args.text.now c.requires.whole
