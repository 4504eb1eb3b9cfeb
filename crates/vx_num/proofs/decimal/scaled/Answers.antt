-- Digits above the limit are above it with zeros behind them too.
use Rattle.std.proofs.Common.{◌≡◌, ◌*◌, ◌^◌, ◌≤◌, false, arith}
use Rattle.std.specs.Prelude.{nat_le}
use Rattle.std.proofs.Math.Nat.{one-le-pow, mul-le-mul_left}
use Rattle.std.proofs.lemmas.Bool.Decides.{nat_tests}
use Rattle.vx_num.proofs.decimal.scaled.Goals as goal

pub returns-then-digits-limit : goal.returns-then-digits-limit
returns-then-digits-limit c =
    let power : 1 ≤ 10 ^ c.args.zeros = one-le-pow c.args.zeros 10 (omega arith) in
    let more : c.args.digits * 1 ≤ c.args.digits * 10 ^ c.args.zeros = mul-le-mul_left c.args.digits power in
    let above : nat_le (c.args.digits * 10 ^ c.args.zeros) c.args.max ≡ false = grind (arith, nat_tests) in
    rw above
