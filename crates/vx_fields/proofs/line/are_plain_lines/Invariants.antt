-- Whether the bytes so far may follow one another.
use Rattle.std.proofs.Common.{◌≡◌, ◌&&◌, drop, true}
use Rattle.vx_fields.proofs.TextLemmas.{are_lines}
use Rattle.vx_fields.proofs.line.are_plain_lines.Given as goal

abbrev pub invariant-loop-byte : goal.invariant-loop-byte
invariant-loop-byte l = are_lines true l.text ≡ (l.are_all && are_lines l.after_lf (drop l.byte-index l.text))
