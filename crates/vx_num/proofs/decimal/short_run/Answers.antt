-- The run ends at the first byte that is no digit, or at the end; its value stays below 2^64.
use Rattle.std.proofs.Common.{◌≡◌, ◌+◌, ◌*◌, ◌^◌, ◌<◌, ◌≤◌, ℕ, take, ◌-◌, length, get_or, arith, sym, below_more}
use Rattle.std.proofs.Math.Nat.{mul-le-mul_left, pow-le-pow_right}
use Rattle.std.proofs.lemmas.List.Sums.{prefix_len_is}
use Rattle.std.proofs.lemmas.Bool.Decides.{nat_tests}
use Rattle.std.proofs.lemmas.Grind.{pow_more}
use Rattle.vx_num.specs.Decimal.{digits_worth, is_digit}
use Rattle.vx_num.proofs.Texts.{digits_worth_more}
use Rattle.vx_num.proofs.decimal.short_run.Goals as goal

-- while a digit is left to read, it still fits
room : (i n v s digit : ℕ) → i < n → n ≤ 18 → s * 10 ^ n < 2 ^ 63 → v < s * 10 ^ i + 10 ^ i → digit ≤ 9 → 10 * v + digit < 2 ^ 64
room i n v s digit before most few small one =
    let ten : 0 < 10 = omega arith in
    let next : i + 1 ≤ n = omega arith in
    let raised : 10 ^ i * 10 ≤ 10 ^ n = rw (sym (pow_more 10 i)) (pow-le-pow_right ten next) in
    let front : s * (10 ^ i * 10) ≤ s * 10 ^ n = mul-le-mul_left s raised in
    let eighteen : 10 ^ n ≤ 10 ^ 18 = pow-le-pow_right ten most in
    omega arith

-- a digit more
one_more : (v n a b s p : ℕ) → v ≡ s * p + a → b ≡ a * 10 + n → 10 * v + n ≡ s * (p * 10) + b
one_more v n a b s p h e = omega arith

pub overflow_mul-value : goal.overflow_mul-value
overflow_mul-value c = omega (arith, room c.loop-len.len (length c.args.text.now) c.loop-len.value c.args.start 0 (omega arith) c.requires.short c.requires.few c.loop-len.invariant.small (omega arith))

pub overflow_add-value : goal.overflow_add-value
overflow_add-value c =
    let one : c.from.result ≤ 9 = grind (arith, nat_tests) in
    omega (arith, room c.loop-len.len (length c.args.text.now) c.loop-len.value c.args.start c.from.result (omega arith) c.requires.short c.requires.few c.loop-len.invariant.small one)

pub returns-in_default-clause-len : goal.returns-in_default-clause-len
returns-in_default-clause-len c = sym (prefix_len_is is_digit c.args.text.now c.loop-len.len 0 (omega arith) c.loop-len.invariant.digits (λ h. grind (arith, nat_tests)))

pub returns-in_default-2-clause-len : goal.returns-in_default-2-clause-len
returns-in_default-2-clause-len c = sym (prefix_len_is is_digit c.args.text.now c.loop-len.len 0 (omega arith) c.loop-len.invariant.digits (λ h. grind (arith, nat_tests)))

pub loop-len-preserved : goal.loop-len-preserved
loop-len-preserved c =
    let text = c.args.text.now in
    let len = c.loop-len.len in
    let digit : c.from.result ≡ get_or text len 0 - 48 = omega arith in
    let one : c.from.result ≤ 9 = grind (arith, nat_tests) in
    record {
      digits = below_more _ _ c.loop-len.invariant.digits (grind (arith, nat_tests));
      value =
          let worth = digits_worth_more text len c.loop-len-test.true in
          let more = one_more c.loop-len.value (get_or text len 0 - 48) (digits_worth (take len text)) (digits_worth (take (len + 1) text)) c.args.start (10 ^ len) c.loop-len.invariant.value worth in
          rw (digit, pow_more 10 len) more;
      small = rw (pow_more 10 len) (one_digit_more c.loop-len.value c.from.result c.args.start (10 ^ len) c.loop-len.invariant.small one);
    }
  where
    one_digit_more : (v digit s p : ℕ) → v < s * p + p → digit ≤ 9 → 10 * v + digit < s * (p * 10) + p * 10
    one_digit_more v digit s p small one = omega arith

pub returns-clause-len : goal.returns-clause-len
returns-clause-len c = sym (prefix_len_is is_digit c.args.text.now (length c.args.text.now) 0 (omega arith) (λ k h. c.loop-len.invariant.digits k (omega arith)) (λ h. absurd (omega arith)))
