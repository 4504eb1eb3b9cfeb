-- The run ends at the first byte that is no digit, or at the end.
use Rattle.std.proofs.Common.{◌+◌, ◌^◌, take, ◌-◌, length, get_or, arith, sym, ◌∙◌, below_more}
use Rattle.std.proofs.lemmas.List.Sums.{prefix_len_is}
use Rattle.std.proofs.lemmas.Bool.Decides.{nat_tests}
use Rattle.std.proofs.lemmas.Grind.{pow_more}
use Rattle.vx_num.specs.declared.decimal.TheConstants.{LARGE}
use Rattle.vx_num.specs.Decimal.{digits_worth, is_digit}
use Rattle.vx_num.proofs.Texts.{digits_worth_more, capped_more}
use Rattle.vx_num.proofs.decimal.long_run.Goals as goal

pub returns-in_default-clause-len : goal.returns-in_default-clause-len
returns-in_default-clause-len c = sym (prefix_len_is is_digit c.args.text.now c.loop-len.len 0 (omega arith) c.loop-len.invariant.digits (λ h. grind (arith, nat_tests)))

pub returns-in_default-2-clause-len : goal.returns-in_default-2-clause-len
returns-in_default-2-clause-len c = sym (prefix_len_is is_digit c.args.text.now c.loop-len.len 0 (omega arith) c.loop-len.invariant.digits (λ h. grind (arith, nat_tests)))

pub loop-len-preserved : goal.loop-len-preserved
loop-len-preserved c = record {
  digits = below_more _ _ c.loop-len.invariant.digits (grind (arith, nat_tests));
  value =
      let text = c.args.text.now in
      let len = c.loop-len.len in
      let worth = digits_worth_more text len c.loop-len-test.true in
      let more = capped_more LARGE c.loop-len.value (get_or text len 0 - 48) (digits_worth (take len text)) (digits_worth (take (len + 1) text)) c.args.start (10 ^ len) c.loop-len.invariant.value worth in
      rw (pow_more 10 len) (c.with_digit-value.ensures ∙ more);
}

pub returns-clause-len : goal.returns-clause-len
returns-clause-len c = sym (prefix_len_is is_digit c.args.text.now (length c.args.text.now) 0 (omega arith) (λ k h. c.loop-len.invariant.digits k (omega arith)) (λ h. absurd (omega arith)))
