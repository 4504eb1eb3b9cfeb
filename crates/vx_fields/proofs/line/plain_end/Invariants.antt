-- Where the last line ended that can be split.
use Rattle.std.proofs.Common.{◌≡◌, ◌≤◌, ◌+◌, ◌-◌, drop, true}
use Rattle.vx_fields.proofs.TextLemmas.{head_size}
use Rattle.vx_fields.proofs.line.plain_end.Given as goal

abbrev pub invariant-loop-at : goal.invariant-loop-at
invariant-loop-at l = record {
  before : l.end ≤ l.at;
  size : head_size true 0 l.text ≡ l.end + head_size l.after_lf (l.at - l.end) (drop l.at l.text);
}
