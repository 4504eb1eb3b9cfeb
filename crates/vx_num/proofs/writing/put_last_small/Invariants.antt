-- What is left to write stands in front of what is written.
use Rattle.std.proofs.Common.{◌≡◌, ◌+◌, ◌-◌, ◌/◌, ◌^◌, ◌++◌, length}
use Rattle.vx_num.specs.Written.{last_digits}
use Rattle.vx_num.proofs.writing.put_last_small.Given as goal

abbrev pub invariant-loop : goal.invariant-loop
invariant-loop l = record {
  length : length l.text ≡ length l.fn.text + l.counter;
  text : last_digits l.count l.value ++ l.fn.text ≡ last_digits (l.count - l.counter) l.rest ++ l.text;
  rest : l.value / 10 ^ l.count ≡ l.rest / 10 ^ (l.count - l.counter);
}
