-- How a decimal falls into the digits at its front, a dot, and the digits behind it.
use Rattle.std.proofs.Common.{◌≡◌, ◌≢◌, refl, sym, ap, ◌∙◌, subst, ℕ, suc, ◌+◌, ◌-◌, ◌*◌, ◌^◌, ◌%◌, ◌<◌, ◌≤◌, Bool, true, false, List, [], ◌∷◌, ◌++◌, length, take, drop, get_or, min, ◌⊎◌, inl, inr, arith}
use Rattle.std.specs.Prelude.{nat_lt, nat_le, if◌then◌else◌, filter, Ok, Err}
use Rattle.std.specs.List.{list_all, prefix_len}
use Rattle.std.specs.Prelude.{Some, None, Result}
use Rattle.vx_num.specs.declared.fault.DecimalFault.{DecimalFault}
use Rattle.std.specs.Option.{ok_or}
use Rattle.std.proofs.Math.Nat.{one-le-pow, mul-le-mul_left, pow-le-pow_right}
use Rattle.std.proofs.lemmas.Nat.{one_shl}
use Rattle.std.proofs.lemmas.List.{take_all, take_rest}
use Rattle.std.proofs.lemmas.List.Sums.{prefix_len-le-length, prefix_len-drop_no, prefix_len-drop_all, prefix_len_stops}
use mathlib.Core.Logic.{⊎_elim}
use Rattle.std.proofs.lemmas.Bool.{cases_lt}
use Rattle.std.proofs.lemmas.Bool.Decides.{nat_tests}
use Rattle.vx_num.specs.Decimal.{is_digit, is_dot, is_digits, is_decimal, is_decimal_rest, places_of, digits_worth, scaled_value, decimal_of, is_minus, magnitude_of, with_sign, wide_of}
use Rattle.vx_num.proofs.Texts.{digits_worth-append}
use Rattle.vx_num.specs.declared.fault.DecimalFault.TheVariants.{Empty, NotDigit, Places, TooLarge}

by_lt : {P : Type 0} (m n : ℕ) → (m < n → P) → (n ≤ m → P) → P
by_lt m n f g = ⊎_elim f g (cases_lt m n)

-- a digit is no dot
pub digit_no_dot : (b : ℕ) → is_digit b ≡ true → is_dot b ≡ false
digit_no_dot b h = grind (arith, nat_tests)

-- ---- what the digits at the front leave

one_more : {A : Type 0} (n : ℕ) (x : A) (xs : List A) → drop (1 + n) (x ∷ xs) ≡ drop n xs
one_more n x xs = let e : 1 + n ≡ suc n = omega arith in rw e

one_more_taken : {A : Type 0} (n : ℕ) (x : A) (xs : List A) → take (1 + n) (x ∷ xs) ≡ x ∷ take n xs
one_more_taken n x xs = let e : 1 + n ≡ suc n = omega arith in rw e

-- what may follow a first digit is settled behind the digits at the front
pub rest_after_digits : (xs : List ℕ) → is_decimal_rest xs ≡ is_decimal_rest (drop (prefix_len is_digit xs) xs)
rest_after_digits [] = refl
rest_after_digits (x ∷ xs) = by (is_digit x) refl (rest_after_digits xs)
  where
    by : (t : Bool) → is_digit x ≡ t → (is_decimal_rest xs ≡ is_decimal_rest (drop (prefix_len is_digit xs) xs)) → is_decimal_rest (x ∷ xs) ≡ is_decimal_rest (drop (prefix_len is_digit (x ∷ xs)) (x ∷ xs))
    by true e r = let d = digit_no_dot x e in rw (e, d, one_more (prefix_len is_digit xs) x xs) r
    by false e r = let z : 0 ≡ prefix_len is_digit (x ∷ xs) = rw e in ap (λ n. is_decimal_rest (drop n (x ∷ xs))) z

-- and so are the places
pub places_after_digits : (xs : List ℕ) → places_of xs ≡ places_of (drop (prefix_len is_digit xs) xs)
places_after_digits [] = refl
places_after_digits (x ∷ xs) = by (is_digit x) refl (places_after_digits xs)
  where
    by : (t : Bool) → is_digit x ≡ t → (places_of xs ≡ places_of (drop (prefix_len is_digit xs) xs)) → places_of (x ∷ xs) ≡ places_of (drop (prefix_len is_digit (x ∷ xs)) (x ∷ xs))
    by true e r = let d = digit_no_dot x e in rw (e, d, one_more (prefix_len is_digit xs) x xs) r
    by false e r = rw e

-- the digits of a text are those at its front and those behind them
pub digits_after_digits : (xs : List ℕ) → filter is_digit xs ≡ take (prefix_len is_digit xs) xs ++ filter is_digit (drop (prefix_len is_digit xs) xs)
digits_after_digits [] = refl
digits_after_digits (x ∷ xs) = by (is_digit x) refl (digits_after_digits xs)
  where
    by : (t : Bool) → is_digit x ≡ t
        → (filter is_digit xs ≡ take (prefix_len is_digit xs) xs ++ filter is_digit (drop (prefix_len is_digit xs) xs))
        → filter is_digit (x ∷ xs) ≡ take (prefix_len is_digit (x ∷ xs)) (x ∷ xs) ++ filter is_digit (drop (prefix_len is_digit (x ∷ xs)) (x ∷ xs))
    by true e r = rw (e, one_more (prefix_len is_digit xs) x xs, one_more_taken (prefix_len is_digit xs) x xs) (ap (λ ys. x ∷ ys) r)
    by false e r = let z : 0 ≡ prefix_len is_digit (x ∷ xs) = rw e in ap (λ n. take n (x ∷ xs) ++ filter is_digit (drop n (x ∷ xs))) z

-- a decimal begins with a digit
pub decimal_from_front : (xs : List ℕ) → 0 < prefix_len is_digit xs → is_decimal xs ≡ is_decimal_rest (drop (prefix_len is_digit xs) xs)
decimal_from_front [] h = absurd (omega arith)
decimal_from_front (x ∷ xs) h = by (is_digit x) refl
  where
    by : (t : Bool) → is_digit x ≡ t → is_decimal (x ∷ xs) ≡ is_decimal_rest (drop (prefix_len is_digit (x ∷ xs)) (x ∷ xs))
    by true e = rw (e, one_more (prefix_len is_digit xs) x xs) (rest_after_digits xs)
    by false e = absurd (let f = rw e at h in omega arith)

-- a text with no digit at its front is no decimal
pub no_decimal_without_digit : (xs : List ℕ) → prefix_len is_digit xs ≡ 0 → is_decimal xs ≡ false
no_decimal_without_digit [] h = refl
no_decimal_without_digit (x ∷ xs) h = by (is_digit x) refl
  where
    by : (t : Bool) → is_digit x ≡ t → is_decimal (x ∷ xs) ≡ false
    by true e = absurd (let f = rw e at h in omega arith)
    by false e = rw e

-- ---- digits alone

-- a text that is all its front digits has digits alone
pub all_from_run : (xs : List ℕ) → prefix_len is_digit xs ≡ length xs → list_all is_digit xs ≡ true
all_from_run [] h = refl
all_from_run (x ∷ xs) h = by (is_digit x) refl (λ k. all_from_run xs k)
  where
    by : (t : Bool) → is_digit x ≡ t → (prefix_len is_digit xs ≡ length xs → list_all is_digit xs ≡ true) → list_all is_digit (x ∷ xs) ≡ true
    by true e r = let f = rw e at h in rw e (r (omega arith))
    by false e r = absurd (let f = rw e at h in omega arith)

-- a text that is longer has another byte
pub not_all_from_run : (xs : List ℕ) → prefix_len is_digit xs < length xs → list_all is_digit xs ≡ false
not_all_from_run [] h = absurd (omega arith)
not_all_from_run (x ∷ xs) h = by (is_digit x) refl (λ k. not_all_from_run xs k)
  where
    by : (t : Bool) → is_digit x ≡ t → (prefix_len is_digit xs < length xs → list_all is_digit xs ≡ false) → list_all is_digit (x ∷ xs) ≡ false
    by true e r = let f = rw e at h in rw e (r (omega arith))
    by false e r = rw e

-- a text of digits alone, and one at least, is digits
pub digits_from_run : (xs : List ℕ) → 0 < length xs → prefix_len is_digit xs ≡ length xs → is_digits xs ≡ true
digits_from_run [] n h = absurd (omega arith)
digits_from_run (x ∷ xs) n h = all_from_run (x ∷ xs) h

-- a text with another byte is not
pub not_digits_from_run : (xs : List ℕ) → prefix_len is_digit xs < length xs → is_digits xs ≡ false
not_digits_from_run [] h = absurd (omega arith)
not_digits_from_run (x ∷ xs) h = not_all_from_run (x ∷ xs) h

-- the digits of a text of digits are the text
pub filter_digits : (xs : List ℕ) → list_all is_digit xs ≡ true → filter is_digit xs ≡ xs
filter_digits [] h = refl
filter_digits (x ∷ xs) h = by (is_digit x) refl (λ k. filter_digits xs k)
  where
    by : (t : Bool) → is_digit x ≡ t → (list_all is_digit xs ≡ true → filter is_digit xs ≡ xs) → filter is_digit (x ∷ xs) ≡ x ∷ xs
    by true e r = let f = rw e at h in rw e (ap (λ ys. x ∷ ys) (r f))
    by false e r = absurd (let f = rw e at h in cc)

not_digits_by : (xs : List ℕ) (n : ℕ) → n ≡ prefix_len is_digit xs → (n ≡ 0) ⊎ ((n ≡ 0 → ⊥) × (n < length xs)) → is_digits xs ≡ false
not_digits_by [] n e h = refl
not_digits_by (x ∷ xs) n e (inl z) = not_digits_from_run (x ∷ xs) (let g : 0 < suc (length xs) = omega arith in omega arith)
not_digits_by (x ∷ xs) n e (inr b) = not_digits_from_run (x ∷ xs) (omega (arith, b.1))

-- ---- a dot at the front

-- what stands behind the first byte, as a slice gives it
abbrev behind_first : List ℕ → List ℕ
behind_first xs = take (length xs - 1) (drop 1 xs)

behind_is : (x : ℕ) (xs : List ℕ) → behind_first (x ∷ xs) ≡ xs
behind_is x xs = let e : suc (length xs) - 1 ≡ length xs = omega arith in rw e (take_all (length xs) xs (omega arith))

-- the byte of a dot is a dot, and no digit
pub dot_is : (x : ℕ) → x ≡ 46 → (is_dot x ≡ true) × (is_digit x ≡ false)
dot_is x e = rw e (refl, refl)

-- at a dot what may follow is digits
pub rest_at_dot : (xs : List ℕ) → 1 ≤ length xs → get_or xs 0 0 ≡ 46 → is_decimal_rest xs ≡ is_digits (behind_first xs)
rest_at_dot [] n e = absurd (omega arith)
rest_at_dot (x ∷ xs) n e = rw ((dot_is x e).0, behind_is x xs)

-- there the places are the bytes behind it
pub places_at_dot : (xs : List ℕ) → 1 ≤ length xs → get_or xs 0 0 ≡ 46 → places_of xs ≡ length (behind_first xs)
places_at_dot [] n e = absurd (omega arith)
places_at_dot (x ∷ xs) n e = rw ((dot_is x e).0, behind_is x xs)

-- and the digits are those behind it
pub filter_at_dot : (xs : List ℕ) → 1 ≤ length xs → get_or xs 0 0 ≡ 46 → filter is_digit xs ≡ filter is_digit (behind_first xs)
filter_at_dot [] n e = absurd (omega arith)
filter_at_dot (x ∷ xs) n e = rw ((dot_is x e).1, behind_is x xs)

-- where the digits behind a dot are none, or end before the text, it is no decimal
pub no_digits_behind_dot : (xs : List ℕ) (n : ℕ) → 1 ≤ length xs → get_or xs 0 0 ≡ 46 → n ≡ prefix_len is_digit (behind_first xs)
    → (n ≡ 0) ⊎ ((n ≡ 0 → ⊥) × (n < length (behind_first xs))) → is_decimal_rest xs ≡ false
no_digits_behind_dot xs n l e p h = rest_at_dot xs l e ∙ not_digits_by (behind_first xs) n p h

-- where they go to the end of the text, it is one
pub digits_behind_dot : (xs : List ℕ) (n : ℕ) → 1 ≤ length xs → get_or xs 0 0 ≡ 46 → n ≡ prefix_len is_digit (behind_first xs)
    → (n ≡ 0 → ⊥) → length (behind_first xs) ≤ n → (is_decimal_rest xs ≡ true) × (filter is_digit xs ≡ take n (behind_first xs))
digits_behind_dot xs n l e p some all =
    let ys = behind_first xs in
    let fits : prefix_len is_digit ys ≤ length ys = prefix_len-le-length is_digit ys in
    let run : prefix_len is_digit ys ≡ length ys = omega arith in (
      rest_at_dot xs l e ∙ digits_from_run ys (omega arith) run,
      filter_at_dot xs l e ∙ filter_digits ys (all_from_run ys run) ∙ sym (take_all n ys all),
    )

-- ---- the digits at the front, and the rest as a slice gives it

abbrev pub rest_from : ℕ → List ℕ → List ℕ
rest_from n xs = take (length xs - n) (drop n xs)

-- behind the digits at the front stands no digit
pub rest_has_no_digit : (xs : List ℕ) (n : ℕ) → n ≡ prefix_len is_digit xs → prefix_len is_digit (rest_from n xs) ≡ 0
rest_has_no_digit xs n e = rw (take_rest xs n, e) (by_lt (prefix_len is_digit xs) (length xs)
    (λ l. prefix_len-drop_no is_digit xs (prefix_len is_digit xs) 0 l (prefix_len_stops is_digit xs 0 l))
    (λ l. prefix_len-drop_all is_digit xs (prefix_len is_digit xs) l))

-- a text with a digit at its front is a decimal as what follows its digits allows
pub decimal_after_run : (xs : List ℕ) (n : ℕ) → n ≡ prefix_len is_digit xs → (n ≡ 0 → ⊥) → is_decimal xs ≡ is_decimal_rest (rest_from n xs)
decimal_after_run xs n e h = rw (take_rest xs n, e) (decimal_from_front xs (omega arith))

-- its places are those of what follows
pub places_after_run : (xs : List ℕ) (n : ℕ) → n ≡ prefix_len is_digit xs → places_of xs ≡ places_of (rest_from n xs)
places_after_run xs n e = rw (take_rest xs n, e) (places_after_digits xs)

digits_after_run : (xs : List ℕ) (n : ℕ) → n ≡ prefix_len is_digit xs → filter is_digit xs ≡ take n xs ++ filter is_digit (rest_from n xs)
digits_after_run xs n e = rw (take_rest xs n, e) (digits_after_digits xs)

-- of what stands behind the digits at the front, the digits are the places
rest_places : (xs : List ℕ) → prefix_len is_digit xs ≡ 0 → is_decimal_rest xs ≡ true → length (filter is_digit xs) ≡ places_of xs
rest_places [] n h = refl
rest_places (x ∷ xs) n h = by (is_dot x) refl
  where
    no_digit : is_digit x ≡ false
    no_digit = at (is_digit x) refl
      where
        at : (t : Bool) → is_digit x ≡ t → is_digit x ≡ false
        at true e = absurd (let f = rw e at n in omega arith)
        at false e = e

    all : (ys : List ℕ) → is_digits ys ≡ true → list_all is_digit ys ≡ true
    all [] e = refl
    all (y ∷ ys) e = e

    by : (t : Bool) → is_dot x ≡ t → length (filter is_digit (x ∷ xs)) ≡ places_of (x ∷ xs)
    by true e = let f = rw e at h in rw (e, no_digit) (ap length (filter_digits xs (all xs f)))
    by false e = absurd (let f = rw (e, no_digit) at h in cc)

capped_front : (whole front large p behind digits : ℕ) → 1 ≤ p → min whole large ≡ min front large → min digits large ≡ min (whole * p + behind) large → min digits large ≡ min (front * p + behind) large
capped_front whole front large p behind digits one h e = by_lt whole large
    (λ l. let same : whole ≡ front = omega arith in rw (sym same) e)
    (λ l. let many : large ≤ front = omega arith in
    let a : whole * 1 ≤ whole * p = mul-le-mul_left whole one in
    let b : front * 1 ≤ front * p = mul-le-mul_left front one in
    omega arith)

-- a decimal's digits are those at the front and those behind the dot
pub digits_of_parts : (xs : List ℕ) (n whole large places digits : ℕ) → n ≡ prefix_len is_digit xs → min whole large ≡ min (digits_worth (take n xs)) large
    → is_decimal_rest (rest_from n xs) ≡ true → places ≡ places_of (rest_from n xs)
    → min digits large ≡ min (whole * 10 ^ places + digits_worth (filter is_digit (rest_from n xs))) large
    → min digits large ≡ min (digits_worth (filter is_digit xs)) large
digits_of_parts xs n whole large places digits e w form p h =
    let behind = filter is_digit (rest_from n xs) in
    let same : length behind ≡ places = rest_places (rest_from n xs) (rest_has_no_digit xs n e) form ∙ sym p in
    rw (digits_after_run xs n e, digits_worth-append (take n xs) behind, same)
    (capped_front whole (digits_worth (take n xs)) large (10 ^ places) (digits_worth behind) digits (one-le-pow places 10 (omega arith)) w h)

-- ---- the answers, one for each case

-- reading no byte answers that the text is empty
pub decimal_of_empty : (xs : List ℕ) (places max : ℕ) → length xs ≡ 0 → decimal_of xs places max ≡ Err Empty
unfolding decimal_of
decimal_of_empty [] places max h = refl
decimal_of_empty (x ∷ xs) places max h = absurd (omega arith)

-- reading what is no decimal answers so
pub decimal_of_other : (xs : List ℕ) (places max : ℕ) → 0 < length xs → is_decimal xs ≡ false → decimal_of xs places max ≡ Err NotDigit
unfolding decimal_of
decimal_of_other [] places max h e = absurd (omega arith)
decimal_of_other (x ∷ xs) places max h e = rw e

-- reading too many places answers so
pub decimal_of_places : (xs : List ℕ) (places max : ℕ) → is_decimal xs ≡ true → places < places_of xs → decimal_of xs places max ≡ Err Places
unfolding decimal_of
decimal_of_places [] places max e h = absurd (omega arith)
decimal_of_places (x ∷ xs) places max e h = let t : nat_lt places (places_of (x ∷ xs)) ≡ true = grind (arith, nat_tests) in rw (e, t)

-- reading a value above the greatest answers so
pub decimal_of_large : (xs : List ℕ) (places max : ℕ) → is_decimal xs ≡ true → places_of xs ≤ places → max < scaled_value xs places → decimal_of xs places max ≡ Err TooLarge
unfolding decimal_of
decimal_of_large [] places max e h l = cc
decimal_of_large (x ∷ xs) places max e h l =
    let s : nat_lt places (places_of (x ∷ xs)) ≡ false = grind (arith, nat_tests) in
    let t : nat_lt max (scaled_value (x ∷ xs) places) ≡ true = grind (arith, nat_tests) in
    rw (e, s, t)

-- reading any other decimal answers its value
pub decimal_of_value : (xs : List ℕ) (places max : ℕ) → is_decimal xs ≡ true → places_of xs ≤ places → scaled_value xs places ≤ max → decimal_of xs places max ≡ Ok (scaled_value xs places)
unfolding decimal_of
decimal_of_value [] places max e h l = cc
decimal_of_value (x ∷ xs) places max e h l =
    let s : nat_lt places (places_of (x ∷ xs)) ≡ false = grind (arith, nat_tests) in
    let t : nat_lt max (scaled_value (x ∷ xs) places) ≡ false = grind (arith, nat_tests) in
    rw (e, s, t)

-- the answer, by digits that are only known below a cap
scaled_answer : (digits worth power max large : ℕ) (answer : Result ℕ DecimalFault) → 1 ≤ power → max < large → min digits large ≡ min worth large
    → (worth * power ≤ max → answer ≡ Ok (worth * power)) → (max < worth * power → answer ≡ Err TooLarge)
    → ok_or (if nat_le (digits * power) max then Some (digits * power) else None) TooLarge ≡ answer
scaled_answer digits worth power max large answer one cap h fits over = by (nat_le (digits * power) max) refl
  where
    by : (t : Bool) → nat_le (digits * power) max ≡ t → ok_or (if nat_le (digits * power) max then Some (digits * power) else None) TooLarge ≡ answer
    by true t =
        let more : digits * 1 ≤ digits * power = mul-le-mul_left digits one in
        let low : digits * power ≤ max = grind (arith, nat_tests) in
        let same : digits ≡ worth = omega arith in
        let value : digits * power ≡ worth * power = ap (λ d. d * power) same in
        rw t (ap Ok value ∙ sym (fits (omega arith)))
    by false t =
        let more : worth * 1 ≤ worth * power = mul-le-mul_left worth one in
        let high : max < digits * power = grind (arith, nat_tests) in
        let above : max < worth * power = by_lt digits large (λ l. let same : digits ≡ worth = omega arith in let P : ℕ → Type 0 = λ d. max < d * power in subst P same high) (λ l. omega arith) in
        rw t (sym (over above))

-- the answer, by the digits and the zeros that they lack
pub decimal_of_scaled : (xs : List ℕ) (places max digits p large : ℕ) → is_decimal xs ≡ true → p ≡ places_of xs → p ≤ places → max < large
    → min digits large ≡ min (digits_worth (filter is_digit xs)) large
    → ok_or (if nat_le (digits * 10 ^ (places - p)) max then Some (digits * 10 ^ (places - p)) else None) TooLarge ≡ decimal_of xs places max
decimal_of_scaled xs places max digits p large form e fits cap h =
    let worth = digits_worth (filter is_digit xs) in
    let value : worth * 10 ^ (places - p) ≡ scaled_value xs places = ap (λ q. worth * 10 ^ (places - q)) e in
    scaled_answer digits worth (10 ^ (places - p)) max large (decimal_of xs places max) (one-le-pow (places - p) 10 (omega arith)) cap h
    (λ l. decimal_of_value xs places max form (omega arith) (omega arith) ∙ ap Ok (sym value))
    (λ l. decimal_of_large xs places max form (omega arith) (omega arith))

-- ---- whole numbers

-- two to a power of at most 126 keeps its value in 128 bits
pub power_below : (bits : ℕ) → bits ≤ 126 → (1 * 2 ^ bits) % 2 ^ 128 ≡ 2 ^ bits
power_below bits h = one_shl bits 128 (omega arith)

-- and is at most 2^126
pub power_at_most : (bits : ℕ) → bits ≤ 126 → 2 ^ bits ≤ 2 ^ 126
power_at_most bits h = pow-le-pow_right (omega arith) h

large_test : (p v w large : ℕ) → p ≤ large → min v large ≡ min w large → p ≤ v → nat_le p w ≡ true
large_test p v w large cap h l = let high : p ≤ w = omega arith in grind (arith, nat_tests)

small_same : (p v w large : ℕ) → p ≤ large → min v large ≡ min w large → v < p → w ≡ v
small_same p v w large cap h l = omega arith

small_test : (p v w large : ℕ) → p ≤ large → min v large ≡ min w large → v < p → nat_le p w ≡ false
small_test p v w large cap h l = let low : w < p = omega arith in grind (arith, nat_tests)

-- reading a whole number from no byte answers that the text is empty
pub magnitude_of_empty : (xs : List ℕ) (bits : ℕ) → length xs ≡ 0 → magnitude_of xs bits ≡ Err Empty
magnitude_of_empty [] bits h = refl
magnitude_of_empty (x ∷ xs) bits h = absurd (omega arith)

-- from a text with another byte than digits it answers so
pub magnitude_of_other : (xs : List ℕ) (bits n : ℕ) → n ≡ prefix_len is_digit xs → n < length xs → magnitude_of xs bits ≡ Err NotDigit
magnitude_of_other [] bits n e h = absurd (omega arith)
magnitude_of_other (x ∷ xs) bits n e h = let no = not_digits_from_run (x ∷ xs) (omega arith) in rw no

-- a run that goes to the end of a text is the text
pub run_is_all : (xs : List ℕ) (n : ℕ) → n ≡ prefix_len is_digit xs → length xs ≤ n → (prefix_len is_digit xs ≡ length xs) × (take n xs ≡ xs)
run_is_all xs n e h = let fits : prefix_len is_digit xs ≤ length xs = prefix_len-le-length is_digit xs in (omega arith, take_all n xs h)

-- from a value of too many bits it answers so
pub magnitude_of_large : (xs : List ℕ) (bits n p v large : ℕ) → 0 < length xs → n ≡ prefix_len is_digit xs → length xs ≤ n → 2 ^ bits ≤ large
    → min v large ≡ min (0 * p + digits_worth (take n xs)) large → 2 ^ bits ≤ v → magnitude_of xs bits ≡ Err TooLarge
magnitude_of_large [] bits n p v large some e all cap h l = absurd (omega arith)
magnitude_of_large (x ∷ xs) bits n p v large some e all cap h l =
    let run = run_is_all (x ∷ xs) n e all in
    let yes = digits_from_run (x ∷ xs) some run.0 in
    let worth : min v large ≡ min (digits_worth (x ∷ xs)) large = (rw run.1 at h) ∙ omega arith in
    let test : nat_le (2 ^ bits) (digits_worth (x ∷ xs)) ≡ true = large_test (2 ^ bits) v (digits_worth (x ∷ xs)) large cap worth l in
    rw (yes, test)

-- from any other digits it answers their value
pub magnitude_of_value : (xs : List ℕ) (bits n p v large : ℕ) → 0 < length xs → n ≡ prefix_len is_digit xs → length xs ≤ n → 2 ^ bits ≤ large
    → min v large ≡ min (0 * p + digits_worth (take n xs)) large → v < 2 ^ bits → magnitude_of xs bits ≡ Ok v
magnitude_of_value [] bits n p v large some e all cap h l = absurd (omega arith)
magnitude_of_value (x ∷ xs) bits n p v large some e all cap h l =
    let run = run_is_all (x ∷ xs) n e all in
    let yes = digits_from_run (x ∷ xs) some run.0 in
    let worth : min v large ≡ min (digits_worth (x ∷ xs)) large = (rw run.1 at h) ∙ omega arith in
    let same : digits_worth (x ∷ xs) ≡ v = small_same (2 ^ bits) v (digits_worth (x ∷ xs)) large cap worth l in
    let test : nat_le (2 ^ bits) (digits_worth (x ∷ xs)) ≡ false = small_test (2 ^ bits) v (digits_worth (x ∷ xs)) large cap worth l in
    rw (yes, test) (ap Ok same)

-- ---- signs

-- a text with a minus sign is read by what stands behind it
pub wide_of_minus : (xs : List ℕ) (bits : ℕ) → 1 ≤ length xs → get_or xs 0 0 ≡ 45 → wide_of xs bits ≡ with_sign true (magnitude_of (behind_first xs) bits)
unfolding wide_of
wide_of_minus [] bits n e = absurd (omega arith)
wide_of_minus (x ∷ xs) bits n e = let minus : is_minus x ≡ true = grind (arith, nat_tests) in rw (minus, behind_is x xs)

-- another is read as it is
pub wide_of_plain : (xs : List ℕ) (bits : ℕ) → get_or xs 0 0 ≢ 45 → wide_of xs bits ≡ with_sign false (magnitude_of xs bits)
unfolding wide_of
wide_of_plain [] bits h = refl
wide_of_plain (x ∷ xs) bits h = let plain : is_minus x ≡ false = grind (arith, nat_tests) in rw plain

-- and none is empty
pub wide_of_empty : (xs : List ℕ) (bits : ℕ) → length xs < 1 → wide_of xs bits ≡ Err Empty
unfolding wide_of
wide_of_empty [] bits h = refl
wide_of_empty (x ∷ xs) bits h = absurd (omega arith)
