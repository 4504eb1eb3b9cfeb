-- What is left to write stands in front of what is written.
use Rattle.std.proofs.Common.{◌≡◌, ◌+◌, ◌-◌, ◌/◌, ◌^◌, ◌++◌, drop}
use Rattle.vx_num.specs.Written.{last_digits}
use Rattle.vx_room.proofs.natural.put_wide_last_digits.Given as goal

abbrev pub invariant-loop : goal.invariant-loop
invariant-loop g l = record {
  start : l.start + l.counter ≡ l.end;
  text : last_digits l.count l.value ++ drop l.end l.initial.bytes ≡ last_digits (l.count - l.counter) l.rest ++ drop l.start l.bytes;
  rest : l.value / 10 ^ l.count ≡ l.rest / 10 ^ (l.count - l.counter);
}
