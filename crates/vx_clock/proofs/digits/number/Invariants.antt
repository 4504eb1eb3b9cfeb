use Rattle.std.proofs.Common.{◌≡◌, ◌<◌, ◌^◌, take, true}
use Rattle.vx_clock.specs.Digits.{are_digits, digits_value}
use Rattle.vx_clock.proofs.digits.number.Given as goal

abbrev pub invariant-loop-byte : goal.invariant-loop-byte
invariant-loop-byte l = record {
  digits : are_digits (take l.byte-index l.text) ≡ true;
  value_is : l.value ≡ digits_value (take l.byte-index l.text);
  small : l.value < 10 ^ l.byte-index;
}
