-- The tables of all expiries after one of them is changed.
use Rattle.std.proofs.Common.{◌≡◌, ℕ, zero, suc, ◌<◌, ◌≤◌, Bool, true, false, cond, List, [], ◌∷◌, map, length, get_or, set, Option, Some}
use Rattle.std.proofs.Common.{None, refl, sym, ◌∙◌, ap, subst, inl, inr, arith}
use Rattle.std.specs.Prelude.{ℤ, nat_lt, MatchOption, find}
use Rattle.std.specs.List.{position, position_or_len}
use Rattle.std.specs.Ordering.{int_eq}
use Rattle.std.proofs.Math.Numerals.{one-add}
use Rattle.std.proofs.lemmas.Bool.{cases_lt, cases_Bool}
use Rattle.std.proofs.lemmas.Bool.Decides.{Decides-int_eq, nat_tests}
use Rattle.vx_clock.specs.declared.terms.Root.{Root}
use Rattle.vx_clock.specs.declared.terms.Root.TheVariants.{Spx, Spxw}
use Rattle.vx_clock.specs.declared.terms.Expiry.{Expiry}
use Rattle.vx_feed.specs.Same.{is_same_root, is_same_expiry}
use Rattle.vx_feed.proofs.SameLemmas.{expiry_from_same}
use Rattle.vx_check.specs.declared.table.Table.{Table}
use Rattle.vx_check.specs.Kept.{is_table_of}
use Rattle.vx_check.specs.Tables.{IsFirstAt, AreBoth, IsTableKept, ChangesTable, SameTables, expiry_of_table}

-- ---- sameness of expiries

root_self : (a : Root) → is_same_root a a ≡ true
root_self Spx = refl
root_self Spxw = refl

number_self : (z : ℤ) → int_eq z z ≡ true
number_self z = (Decides-int_eq z z).1 refl

pub expiry_self : (a : Expiry) → is_same_expiry a a ≡ true
expiry_self a = let r = root_self a.root in let d = number_self a.date.0 in rw (r, d) refl

-- ---- the first place

module _ {X : Type 0} (test : X → Bool) where
  abbrev place : List X → ℕ
  place xs = position_or_len test xs

  first_place : (xs : List X) → place xs < length xs → IsFirstAt test (place xs) xs
  first_place [] h = absurd (omega arith)
  first_place (x ∷ xs) h =
      elim (cases_Bool (test x)) [
        | inl t ↦ subst (λ n. IsFirstAt test n (x ∷ xs)) (sym (place_yes t)) t
        | inr f ↦ (let e = place_no f in subst (λ n. IsFirstAt test n (x ∷ xs)) (sym e) (f, first_place xs (omega arith)))
      ]
    where
      place_yes : test x ≡ true → place (x ∷ xs) ≡ zero
      place_yes t = rw t refl

      place_no : test x ≡ false → place (x ∷ xs) ≡ suc (place xs)
      place_no f = rw f (one-add (place xs))

  no_place : (xs : List X) → length xs ≤ place xs → find test xs ≡ None
  no_place [] h = refl
  no_place (x ∷ xs) h =
      elim (cases_Bool (test x)) [
        | inl t ↦ (let e : place (x ∷ xs) ≡ zero = rw t refl in absurd (omega arith))
        | inr f ↦ (let e : place (x ∷ xs) ≡ suc (place xs) = rw f (one-add (place xs)) in rw f (no_place xs (omega arith)))
      ]

  pub first_from_position : (xs : List X) → MatchOption (position test xs) (find test xs ≡ None) (λ n. IsFirstAt test n xs)
  first_from_position xs =
      elim (cases_lt (place xs) (length xs)) [
        | inl less ↦ (let t : nat_lt (place xs) (length xs) ≡ true = grind (arith, nat_tests) in rw t (first_place xs less))
        | inr past ↦ (let t : nat_lt (place xs) (length xs) ≡ false = grind (arith, nat_tests) in rw t (no_place xs past))
      ]

-- ---- one table in the place of another of its expiry

find_same_tail : (x : Expiry) (z : Table) (xs ys : List Table) → find (is_table_of x) xs ≡ find (is_table_of x) ys
    → find (is_table_of x) (z ∷ xs) ≡ find (is_table_of x) (z ∷ ys)
find_same_tail x z xs ys e = ap (λ o. cond (is_table_of x z) (Some z) o) e

find_past : (x : Expiry) (z : Table) (xs : List Table) → is_table_of x z ≡ false → find (is_table_of x) (z ∷ xs) ≡ find (is_table_of x) xs
find_past x z xs h = rw h refl

find_here : (x : Expiry) (z : Table) (xs : List Table) → is_table_of x z ≡ true → find (is_table_of x) (z ∷ xs) ≡ Some z
find_here x z xs h = rw h refl

set_expiries : (place : ℕ) (xs : List Table) (new d : Table) → new.expiry ≡ (get_or xs place d).expiry
    → map expiry_of_table (set xs place new) ≡ map expiry_of_table xs
set_expiries place [] new d e = refl
set_expiries zero (z ∷ xs) new d e = ap (λ x. x ∷ map expiry_of_table xs) e
set_expiries (suc place) (z ∷ xs) new d e = ap (λ l. z.expiry ∷ l) (set_expiries place xs new d e)

set_own : (x : Expiry) (place : ℕ) (xs : List Table) (new d : Table) → IsFirstAt (is_table_of x) place xs → new.expiry ≡ (get_or xs place d).expiry
    → find (is_table_of x) (set xs place new) ≡ Some new
set_own x place [] new d f e = absurd f
set_own x zero (z ∷ xs) new d f e = find_here x new xs (ap (is_same_expiry x) e ∙ f)
set_own x (suc place) (z ∷ xs) new d f e = find_past x z (set xs place new) f.0 ∙ set_own x place xs new d f.1 e

first_own : (x : Expiry) (place : ℕ) (xs : List Table) (d : Table) → IsFirstAt (is_table_of x) place xs → find (is_table_of x) xs ≡ Some (get_or xs place d)
first_own x place [] d f = absurd f
first_own x zero (z ∷ xs) d f = find_here x z xs f
first_own x (suc place) (z ∷ xs) d f = find_past x z xs f.0 ∙ first_own x place xs d f.1

set_others : (x y : Expiry) → is_same_expiry y x ≡ false → (place : ℕ) (xs : List Table) (new d : Table) → IsFirstAt (is_table_of x) place xs
    → new.expiry ≡ (get_or xs place d).expiry
    → find (is_table_of y) (set xs place new) ≡ find (is_table_of y) xs
set_others x y apart place [] new d f e = absurd f
set_others x y apart zero (z ∷ xs) new d f e =
    let its : x ≡ z.expiry = expiry_from_same x z.expiry f in
    let old_not : is_table_of y z ≡ false = sym (ap (is_same_expiry y) its) ∙ apart in
    let new_not : is_table_of y new ≡ false = ap (is_same_expiry y) e ∙ old_not in
    find_past y new xs new_not ∙ sym (find_past y z xs old_not)
set_others x y apart (suc place) (z ∷ xs) new d f e = find_same_tail y z (set xs place new) xs (set_others x y apart place xs new d f.1 e)

pub changed_at : (x : Expiry) (R : Table → Table → Type 0) (place : ℕ) (xs : List Table) (old new : Table)
    → IsFirstAt (is_table_of x) place xs → old ≡ get_or xs place old → new.expiry ≡ old.expiry → R old new → ChangesTable x R xs (set xs place new)
changed_at x R place xs old new f is e r =
    let own_expiry : new.expiry ≡ (get_or xs place old).expiry = e ∙ ap expiry_of_table is in
    let before : find (is_table_of x) xs ≡ Some old = first_own x place xs old f ∙ ap Some (sym is) in
    let after : find (is_table_of x) (set xs place new) ≡ Some new = set_own x place xs new old f own_expiry in
    record {
      expiries = set_expiries place xs new old own_expiry;
      others = λ y apart. set_others x y apart place xs new old f own_expiry;
      own = subst (λ (o : Option Table). AreBoth R o (find (is_table_of x) (set xs place new))) (sym before) (subst (λ (o : Option Table). AreBoth R (Some old) o) (sym after) r);
    }

pub none_changed : (x : Expiry) (R : Table → Table → Type 0) (xs : List Table) → find (is_table_of x) xs ≡ None → ChangesTable x R xs xs
none_changed x R xs e = record { expiries = refl; others = λ y apart. refl; own = subst (λ (o : Option Table). AreBoth R o o) (sym e) tt }

same_itself : (o : Option Table) → AreBoth IsTableKept o o
same_itself None = tt
same_itself (Some table) = record { expiry = refl; rate = refl; rows = refl; halves = refl; trades = refl }

pub same_tables : (xs ys : List Table) → ys ≡ xs → SameTables xs ys
same_tables xs ys e = subst (λ (l : List Table). SameTables xs l) (sym e) (record { expiries = refl; each = λ x. same_itself (find (is_table_of x) xs) })

pub same_from_changed : (x : Expiry) (xs ys : List Table) → ChangesTable x IsTableKept xs ys → SameTables xs ys
same_from_changed x xs ys h = record {
  expiries = h.expiries;
  each = λ y. elim (cases_Bool (is_same_expiry y x)) [
    | inl same ↦ subst (λ z. AreBoth IsTableKept (find (is_table_of z) xs) (find (is_table_of z) ys)) (sym (expiry_from_same y x same)) h.own
    | inr apart ↦ subst (λ (o : Option Table). AreBoth IsTableKept (find (is_table_of y) xs) o) (sym (h.others y apart)) (same_itself (find (is_table_of y) xs))
  ];
}
