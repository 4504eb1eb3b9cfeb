use Rattle.std.proofs.Common.{◌<◌, ◌≤◌, ◌+◌, ◌*◌, ◌^◌, ℕ, arith, length}
use Rattle.std.proofs.Math.Nat.{pow-le-pow_right}
use Rattle.std.proofs.lemmas.Bool.Decides.{nat_tests}
use Rattle.vx_clock.proofs.digits.number.Goals as goal

-- with eight digits at most read before, one more still fits
room : (i n v digit : ℕ) → i < n → n ≤ 9 → v < 10 ^ i → digit ≤ 9 → 10 * v + digit < 2 ^ 32
room i n v digit before most small one =
    let ten : 0 < 10 = omega arith in
    let short : i ≤ 8 = omega arith in
    let eight : 10 ^ i ≤ 10 ^ 8 = pow-le-pow_right ten short in
    omega arith

pub overflow_mul-value : goal.overflow_mul-value
overflow_mul-value c = omega (arith, room c.loop-byte.byte-index (length c.args.text.now) c.loop-byte.value 0 (omega arith) (omega arith) c.loop-byte.invariant.small (omega arith))

pub overflow_add-value : goal.overflow_add-value
overflow_add-value c =
    let one : c.from.result ≤ 9 = grind (arith, nat_tests) in
    omega (arith, room c.loop-byte.byte-index (length c.args.text.now) c.loop-byte.value c.from.result (omega arith) (omega arith) c.loop-byte.invariant.small one)
