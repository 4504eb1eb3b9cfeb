-- The text of a minute of the day, and that of a root, are read back.
use Rattle.std.proofs.Common.{◌≡◌, ◌∙◌, refl, ap, ℕ, ◌+◌, ◌-◌, ◌*◌, ◌/◌, ◌%◌, ◌≤◌, true, nat_le, [], ◌∷◌, Some, arith}
use Rattle.std.proofs.lemmas.Bool.Decides.{nat_tests}
use Rattle.vx_clock.specs.declared.terms.Root.{Root}
use Rattle.vx_clock.specs.declared.terms.Root.TheVariants.{Spx, Spxw}
use Rattle.vx_clock.specs.Clock.{clock_text, time_of_text}
use Rattle.vx_clock.specs.RootText.{bare_root_text, root_of_text}
use Rattle.vx_clock.proofs.DigitText.{is_digit as is_digit_at}

-- two digits of hours and two of minutes are read back
two_digits_back : (hour minute : ℕ) → hour ≤ 23 → minute ≤ 59
    → time_of_text ((48 + hour / 10) ∷ (48 + hour % 10) ∷ 58 ∷ (48 + minute / 10) ∷ (48 + minute % 10) ∷ [])
    ≡ Some (60 * hour + minute)
two_digits_back hour minute h m =
    let h1 = is_digit_at (hour / 10) (omega arith) in
    let h2 = is_digit_at (hour % 10) (omega arith) in
    let m1 = is_digit_at (minute / 10) (omega arith) in
    let m2 = is_digit_at (minute % 10) (omega arith) in
    let hours : 10 * (10 * 0 + (48 + hour / 10 - 48)) + (48 + hour % 10 - 48) ≡ hour = omega arith in
    let minutes : 10 * (10 * 0 + (48 + minute / 10 - 48)) + (48 + minute % 10 - 48) ≡ minute = omega arith in
    let least : nat_le hour 23 ≡ true = grind (arith, nat_tests) in
    let most : nat_le minute 59 ≡ true = grind (arith, nat_tests) in
    rw (h1, h2, m1, m2) (rw (hours, minutes, least, most) refl)

-- the text of a minute of the day is read back
pub read_back_clock : (time : ℕ) → time ≤ 1439 → time_of_text (clock_text time) ≡ Some time
read_back_clock time most =
    let same : 60 * (time / 60) + time % 60 ≡ time = omega arith in
    two_digits_back (time / 60) (time % 60) (omega arith) (omega arith) ∙ ap Some same

-- the text of a root is read back
pub read_back_root : (root : Root) → root_of_text (bare_root_text root) ≡ Some root
read_back_root Spx = refl
read_back_root Spxw = refl
