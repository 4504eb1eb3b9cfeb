-- What stands at the places of a list after an insert, a push and a write.
use Rattle.std.proofs.Common.{◌≡◌, ◌≢◌, ℕ, zero, suc, ◌+◌, ◌<◌, ◌≤◌, List, [], ◌∷◌, ◌++◌, map, length, get_or, set, take, drop, Option, Some, None, refl, sym, ap, subst, ◌∙◌, inl, inr, Bool, true, false, cond, not, ◌||◌, arith}
use Rattle.std.specs.Prelude.{MatchOption, nat_le, nat_lt, slice_get}
use Rattle.std.specs.List.{insert, list_any, position, position_or_len}
use Rattle.std.proofs.lemmas.Bool.{cases_Bool, cases_lt, cond-false, cond-true, le-ltb, lt-ltb}
use Rattle.std.proofs.lemmas.List.Sums.{passes_at_first}
use Rattle.std.proofs.lemmas.Bool.Decides.{nat_tests}
use Rattle.std.proofs.lemmas.Option.{slice_get-get_or, slice_get_within}
use Rattle.std.proofs.lemmas.List.Edits.{get_or-insert_above, get_or-insert_at, get_or-insert_below, length-insert}
use Rattle.vx_clock.specs.declared.terms.Expiry.{Expiry}
use Rattle.vx_feed.specs.Same.{is_same_expiry}
use Rattle.vx_feed.proofs.SameLemmas.{expiry_from_same}
use Rattle.vx_book.specs.Tables.{moved_up}

-- ---- a place after one more item stands at another

moved_at : (at p : ℕ) → at ≤ p → moved_up at p ≡ p + 1
moved_at at p h = let t : nat_le at p ≡ true = grind (arith, nat_tests) in rw t refl

moved_below : (at p : ℕ) → p < at → moved_up at p ≡ p
moved_below at p h = let t : nat_le at p ≡ false = grind (arith, nat_tests) in rw t refl

pub moved_up-le : (at p n : ℕ) → p < n → moved_up at p < n + 1
moved_up-le at p n h =
    elim (cases_lt p at) [
      | inl below ↦ let e = moved_below at p below in omega arith
      | inr above ↦ let e = moved_at at p above in omega arith
    ]

-- ---- the place of the first item that passes

first_there : {X : Type 0} (p : X → Bool) (xs : List X) → list_any p xs ≡ true → position_or_len p xs < length xs
first_there p [] h = absurd (cc h)
first_there p (x ∷ xs) h =
    elim (cases_Bool (p x)) [
      | inl passes ↦ (let at : position_or_len p (x ∷ xs) ≡ 0 = ap (λ b. cond (not b) (1 + position_or_len p xs) 0) passes in omega arith)
      | inr fails ↦
          let at : position_or_len p (x ∷ xs) ≡ 1 + position_or_len p xs = ap (λ b. cond (not b) (1 + position_or_len p xs) 0) fails in
          let more = first_there p xs (sym (ap (λ b. b || list_any p xs) fails) ∙ h) in
          omega arith
    ]

-- the place of an expiry
pub position_says : (x : Expiry) (xs : List Expiry)
    → MatchOption (position (is_same_expiry x) xs) (list_any (is_same_expiry x) xs ≡ false) (λ i. slice_get xs i ≡ Some x)
position_says x xs =
    let test = is_same_expiry x in
    let first = position_or_len test xs in
    let Says : Option ℕ → Type 0 = λ o. MatchOption o (list_any test xs ≡ false) (λ i. slice_get xs i ≡ Some x) in
    elim (cases_lt first (length xs)) [
      | inl within ↦
          subst Says (sym (cond-true (nat_lt first (length xs)) (Some first) None (lt-ltb first (length xs) within)))
          (slice_get-get_or xs first x within ∙ ap Some (sym (expiry_from_same x (get_or xs first x) (passes_at_first test xs x within))))
      | inr past ↦
          subst Says (sym (cond-false (nat_lt first (length xs)) (Some first) None (le-ltb first (length xs) past)))
          (elim (cases_Bool (list_any test xs)) [
            | inl some ↦ (let within = first_there test xs some in absurd (omega arith))
            | inr none ↦ none
          ])
    ]

module _ {X : Type 0} where
  -- ---- a list with one more item at its end

  pub get_before : (xs ys : List X) (i : ℕ) (x : X) → slice_get xs i ≡ Some x → slice_get (xs ++ ys) i ≡ Some x
  get_before [] ys i x h = absurd (cc h)
  get_before (y ∷ xs) ys zero x h = h
  get_before (y ∷ xs) ys (suc i) x h = get_before xs ys i x h

  pub get_pushed : (xs : List X) (x : X) → slice_get (xs ++ x ∷ []) (length xs) ≡ Some x
  get_pushed [] x = refl
  get_pushed (y ∷ xs) x = get_pushed xs x

  -- an item of the list, or the last
  pub get_of_pushed : (P : Type 0) (xs : List X) (x : X) (i : ℕ) (y : X) → slice_get (xs ++ x ∷ []) i ≡ Some y
      → (slice_get xs i ≡ Some y → P) → (i ≡ length xs → x ≡ y → P) → P
  get_of_pushed P [] x zero y h old new = new refl (cc h)
  get_of_pushed P [] x (suc i) y h old new = absurd (cc h)
  get_of_pushed P (z ∷ xs) x zero y h old new = old h
  get_of_pushed P (z ∷ xs) x (suc i) y h old new = get_of_pushed P xs x i y h old (λ at is. new (omega arith) is)

  -- ---- a list with one item written

  pub get_written : (xs : List X) (i : ℕ) (x : X) → i < length xs → slice_get (set xs i x) i ≡ Some x
  get_written [] i x h = absurd (omega arith)
  get_written (y ∷ xs) zero x h = refl
  get_written (y ∷ xs) (suc i) x h = get_written xs i x (omega arith)

  pub get_unwritten : (xs : List X) (i j : ℕ) (x : X) → j ≢ i → slice_get (set xs i x) j ≡ slice_get xs j
  get_unwritten [] i j x h = refl
  get_unwritten (y ∷ xs) zero zero x h = absurd (h refl)
  get_unwritten (y ∷ xs) zero (suc j) x h = refl
  get_unwritten (y ∷ xs) (suc i) zero x h = refl
  get_unwritten (y ∷ xs) (suc i) (suc j) x h = get_unwritten xs i j x (λ e. h (ap suc e))

  -- ---- a list with one item inserted

  pub get_inserted : (xs : List X) (at p : ℕ) (y x : X) → at ≤ length xs → slice_get xs p ≡ Some x → slice_get (insert xs at y) (moved_up at p) ≡ Some x
  get_inserted xs at p y x le h =
      let within : p < length xs = slice_get_within xs p x h in
      let more : length (insert xs at y) ≡ length xs + 1 = length-insert xs at y le in
      let item : Some (get_or xs p y) ≡ Some x = sym (slice_get-get_or xs p y within) ∙ h in
      elim (cases_lt p at) [
        | inl below ↦
            ap (slice_get (insert xs at y)) (moved_below at p below) ∙ slice_get-get_or (insert xs at y) p y (omega arith)
            ∙ ap Some (get_or-insert_below xs at y y p below le) ∙ item
        | inr above ↦
            ap (slice_get (insert xs at y)) (moved_at at p above) ∙ slice_get-get_or (insert xs at y) (p + 1) y (omega arith)
            ∙ ap Some (get_or-insert_above xs at y y p above le) ∙ item
      ]

  pub get_insert : (xs : List X) (at : ℕ) (y : X) → at ≤ length xs → slice_get (insert xs at y) at ≡ Some y
  get_insert xs at y le =
      let more : length (insert xs at y) ≡ length xs + 1 = length-insert xs at y le in
      slice_get-get_or (insert xs at y) at y (omega arith) ∙ ap Some (get_or-insert_at xs at y y le)

  -- what is still to come of a list that is mapped in place
  pub get_or_unmapped : (f : X → X) (xs : List X) (i : ℕ) (d : X) → i < length xs → get_or (map f (take i xs) ++ drop i xs) i d ≡ get_or xs i d
  get_or_unmapped f [] i d h = absurd (omega arith)
  get_or_unmapped f (x ∷ xs) zero d h = refl
  get_or_unmapped f (x ∷ xs) (suc i) d h = get_or_unmapped f xs i d (omega arith)
