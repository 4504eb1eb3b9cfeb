-- Each byte so far is a digit, and the value is what they are worth behind the start: less than a start of one more with zeros behind it.
use Rattle.std.proofs.Common.{◌≡◌, ◌+◌, ◌*◌, ◌^◌, ◌<◌, take, ℕ, true, get_or}
use Rattle.vx_num.specs.Decimal.{digits_worth, is_digit}
use Rattle.vx_num.proofs.decimal.short_run.Given as goal

abbrev pub invariant-loop-len : goal.invariant-loop-len
invariant-loop-len l = record {
  digits : (k : ℕ) → k < l.len → is_digit (get_or l.text k 0) ≡ true;
  value : l.value ≡ l.fn.start * 10 ^ l.len + digits_worth (take l.len l.text);
  small : l.value < l.fn.start * 10 ^ l.len + 10 ^ l.len;
}
