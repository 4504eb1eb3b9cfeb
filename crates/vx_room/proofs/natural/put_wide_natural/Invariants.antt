-- What is left to write stands in front of what is written, and takes the room that is left.
use Rattle.std.proofs.Common.{◌≡◌, ◌+◌, ◌≤◌, ◌++◌, drop, length}
use Rattle.vx_num.specs.Written.{natural_text}
use Rattle.vx_room.proofs.natural.put_wide_natural.Given as goal

abbrev pub invariant-loop-rest : goal.invariant-loop-rest
invariant-loop-rest g l = record {
  some : 1 ≤ l.start;
  within : l.start ≤ l.end;
  room : l.start + length (natural_text l.value) ≡ l.end + length (natural_text l.rest);
  text : natural_text l.value ++ drop l.end l.initial.bytes ≡ natural_text l.rest ++ drop l.start l.bytes;
}

abbrev pub decreases-loop-rest : goal.decreases-loop-rest
decreases-loop-rest g l = l.rest
