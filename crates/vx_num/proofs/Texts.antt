-- What the digits of a text are worth, and how a decimal falls into its parts.
use Rattle.std.proofs.Common.{◌≡◌, ap, ◌∙◌, ℕ, ◌+◌, ◌-◌, ◌*◌, ◌^◌, ◌<◌, min, List, [], ◌∷◌, ◌++◌, length, take, get_or, arith, pow-add}
use Rattle.std.proofs.lemmas.List.{length-append, take_more}
use Rattle.vx_num.specs.Decimal.{digits_worth}

-- digits behind others raise these by their number
pub digits_worth-append : (xs ys : List ℕ) → digits_worth (xs ++ ys) ≡ digits_worth xs * 10 ^ length ys + digits_worth ys
digits_worth-append [] ys = omega arith
digits_worth-append (x ∷ xs) ys =
    let e = digits_worth-append xs ys in
    let p : 10 ^ (length xs + length ys) ≡ 10 ^ length xs * 10 ^ length ys = pow-add 10 (length xs) (length ys) in
    let t : (x - 48) * 10 ^ (length xs + length ys) ≡ ((x - 48) * 10 ^ length xs) * 10 ^ length ys = ap (λ z. (x - 48) * z) p ∙ omega arith in
    rw (length-append xs ys, e, t) (omega arith)

-- one more byte of a text
pub digits_worth_more : (xs : List ℕ) (i : ℕ) → i < length xs → digits_worth (take (i + 1) xs) ≡ digits_worth (take i xs) * 10 + (get_or xs i 0 - 48)
digits_worth_more xs i h = rw (take_more xs i 0 h, digits_worth-append (take i xs) (get_or xs i 0 ∷ [])) (omega arith)

-- a digit behind a capped value
pub capped_more : (c v n a b s p : ℕ) → min v c ≡ min (s * p + a) c → b ≡ a * 10 + n → min (v * 10 + n) c ≡ min (s * (p * 10) + b) c
capped_more c v n a b s p h e = omega arith
