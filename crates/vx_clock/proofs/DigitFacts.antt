-- What digits that were read say.
use Rattle.std.proofs.Common.{◌≡◌, ℕ, Bool, true, false, cond, List, Some, None, refl}
use Rattle.vx_clock.specs.Digits.{are_digits, digits_value, number_of}

when_some : (all : Bool) (v n : ℕ) → cond all (Some v) None ≡ Some n → (all ≡ true) × (v ≡ n)
when_some true v n e = (refl, cc)
when_some false v n e = cc

-- a number that was read is that of digits
pub number_of-Some : (text : List ℕ) (n : ℕ) → number_of text ≡ Some n → (are_digits text ≡ true) × (digits_value text ≡ n)
number_of-Some text n e = when_some (are_digits text) (digits_value text) n e
