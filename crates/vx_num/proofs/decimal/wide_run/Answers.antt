-- A text of digits alone is all its front digits.
use Rattle.std.proofs.Common.{◌≡◌, sym, ℕ, length, true, List, arith}
use Rattle.std.specs.List.{list_all, prefix_len}
use Rattle.std.proofs.lemmas.List.Sums.{AllPass-from_list_all, prefix_len_is}
use Rattle.vx_num.specs.Decimal.{is_digit}
use Rattle.vx_num.proofs.decimal.wide_run.Goals as goal

run_of_digits : (xs : List ℕ) → list_all is_digit xs ≡ true → length xs ≡ prefix_len is_digit xs
run_of_digits xs all = sym (prefix_len_is is_digit xs (length xs) 0 (omega arith) (λ k h. AllPass-from_list_all is_digit xs all k 0 h) (λ h. absurd (omega arith)))

pub returns-in-Some-clause-len : goal.returns-in-Some-clause-len
returns-in-Some-clause-len c = run_of_digits c.args.text.now c.in-Some.ensures.form
