-- Two parts of digits alone are a text of digits alone, and the first is raised by the number of the others.
use Rattle.std.proofs.Common.{◌≡◌, sym, ℕ, ◌+◌, ◌-◌, ◌*◌, ◌^◌, true, List, ◌++◌, length, take, arith, length-drop, take-append-drop}
use Rattle.std.specs.List.{list_all}
use Rattle.std.proofs.lemmas.List.{take_rest}
use Rattle.std.proofs.lemmas.List.Folds.{list_all-append}
use Rattle.vx_num.specs.Decimal.{digits_worth, is_digit}
use Rattle.vx_num.proofs.Decimals.{rest_from}
use Rattle.vx_num.proofs.Texts.{digits_worth-append}
use Rattle.vx_num.proofs.decimal.two_parts.Goals as goal

whole_text : (xs : List ℕ) (split : ℕ) → take split xs ++ rest_from split xs ≡ xs
whole_text xs split = rw (take_rest xs split) (take-append-drop split xs)

alone : (xs : List ℕ) (split : ℕ) → list_all is_digit (take split xs) ≡ true → list_all is_digit (rest_from split xs) ≡ true → list_all is_digit xs ≡ true
alone xs split front back =
    let both : list_all is_digit (take split xs ++ rest_from split xs) ≡ true = rw (list_all-append is_digit (take split xs) (rest_from split xs), front) back in
    rw (whole_text xs split) at both

worth : (xs : List ℕ) (split count high low p q : ℕ) → split + count ≡ length xs → high ≡ 0 * p + digits_worth (take split xs) → low ≡ 0 * q + digits_worth (rest_from split xs)
    → high * 10 ^ count + low ≡ digits_worth xs
worth xs split count high low p q len is_high is_low =
    let behind : length (rest_from split xs) ≡ count = rw (take_rest xs split) (omega (arith, length-drop split xs)) in
    let joined = digits_worth-append (take split xs) (rest_from split xs) in
    let parts = rw (whole_text xs split, behind) at joined in
    let front : high ≡ digits_worth (take split xs) = omega arith in
    let back : low ≡ digits_worth (rest_from split xs) = omega arith in
    rw (front, back) (sym parts)

pub returns-clause-form : goal.returns-clause-form
returns-clause-form c =
    let text = c.args.text.now in
    alone text (length text - 18) c.in_ok-high.ensures.form c.in_ok-low.ensures.form

pub returns-clause-value : goal.returns-clause-value
returns-clause-value c =
    let text = c.args.text.now in
    let parts = worth text (length text - 18) 18 c.in_ok-high.high c.in_ok-low.low _ _ (omega arith) c.in_ok-high.ensures.value c.in_ok-low.ensures.value in
    omega (arith, parts)
