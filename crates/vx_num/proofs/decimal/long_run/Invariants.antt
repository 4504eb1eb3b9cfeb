-- Each byte so far is a digit, and the value is what they are worth behind the start.
use Rattle.std.proofs.Common.{◌≡◌, ◌<◌, take, ℕ, true, get_or}
use Rattle.vx_num.specs.Decimal.{is_digit}
use Rattle.vx_num.specs.Runs.{IsWorthBehind}
use Rattle.vx_num.specs.declared.decimal.TheConstants.{LARGE}
use Rattle.vx_num.proofs.decimal.long_run.Given as goal

abbrev pub invariant-loop-len : goal.invariant-loop-len
invariant-loop-len l = record {
  digits : (k : ℕ) → k < l.len → is_digit (get_or l.text k 0) ≡ true;
  value : IsWorthBehind LARGE l.fn.start l.len (take l.len l.text) l.value;
}
