-- What is left to write stands in front of what is written.
use Rattle.std.proofs.Common.{◌≡◌, ◌-◌, ◌^◌, ◌<◌, ◌++◌, length}
use Rattle.vx_num.specs.declared.writing.TheConstants.{ROOM}
use Rattle.vx_num.specs.Written.{natural_text}
use Rattle.vx_num.proofs.writing.put_natural.Given as goal

abbrev pub invariant-loop-rest : goal.invariant-loop-rest
invariant-loop-rest l = record {
  room : length l.text < ROOM;
  fits : l.rest < 10 ^ (ROOM - length l.text);
  text : natural_text l.value ++ l.fn.text ≡ natural_text l.rest ++ l.text;
}

abbrev pub decreases-loop-rest : goal.decreases-loop-rest
decreases-loop-rest l = l.rest
