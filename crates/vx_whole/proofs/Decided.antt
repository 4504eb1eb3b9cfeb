-- A statement holds or does not: how this is known of one that is made of others.
use Rattle.std.proofs.Common.{◌≡◌, refl, sym, ap, subst, ◌⊎◌, inl, inr, ℕ, zero, suc, ◌<◌, ◌≤◌, ℤ, Bool, true, false, IsTrue, List, [], ◌∷◌, Option, Some, None, Decides, All, Any, arith}
use Rattle.std.specs.Ordering.{int_eq}
use Rattle.std.proofs.lemmas.Bool.{cases_lt, cases_eq}
use Rattle.std.proofs.lemmas.Bool.Decides.{Decides-int_eq}
use Rattle.std.proofs.lemmas.Option.{same_Some}
use Rattle.vx_drivers.proofs.OneRun.{same_head, same_tail}
use Rattle.vx_formula.proofs.BestOf.{some_or_none}
use Rattle.vx_formula.proofs.Lists.{In, all_from_in, all_in, contains_from_in, in_from_contains}

-- a statement holds, or it does not
abbrev pub IsDecided : Type 0 → Type 0
IsDecided P = P ⊎ ¬ P

-- ---- of statements

pub like : {P Q : Type 0} → (P → Q) → (Q → P) → IsDecided P → IsDecided Q
like f g (inl p) = inl (f p)
like f g (inr fails) = inr (λ q. fails (g q))

pub by_test : {P : Type 0} (b : Bool) → Decides b P → IsDecided P
by_test true d = inl (d.0 refl)
by_test false d = inr (λ p. let fails : false ≡ true = d.1 p in cc)

pub is_true : (b : Bool) → IsDecided (IsTrue b)
is_true true = inl refl
is_true false = inr (λ h. let fails : false ≡ true = h in cc)

pub both : {P Q : Type 0} → IsDecided P → IsDecided Q → IsDecided (P × Q)
both (inl p) (inl q) = inl (p, q)
both (inl p) (inr fails) = inr (λ h. fails h.1)
both (inr fails) other = inr (λ h. fails h.0)

pub either : {P Q : Type 0} → IsDecided P → IsDecided Q → IsDecided (P ⊎ Q)
either (inl p) other = inl (inl p)
either (inr fails) (inl q) = inl (inr q)
either (inr fails) (inr none) = inr (λ h. elim h [ inl p ↦ fails p | inr q ↦ none q ])

pub implied : {P Q : Type 0} → IsDecided P → IsDecided Q → IsDecided (P → Q)
implied (inr fails) other = inl (λ p. absurd (fails p))
implied (inl p) (inl q) = inl (λ _. q)
implied (inl p) (inr fails) = inr (λ h. fails (h p))

-- ---- of numbers

pub less : (a b : ℕ) → IsDecided (a < b)
less a b = elim (cases_lt a b) [ inl low ↦ inl low | inr fine ↦ inr (λ h. omega arith) ]

pub at_most : (a b : ℕ) → IsDecided (a ≤ b)
at_most a b = elim (cases_lt b a) [ inl low ↦ inr (λ h. omega arith) | inr fine ↦ inl fine ]

pub same_number : (a b : ℕ) → IsDecided (a ≡ b)
same_number a b = elim (cases_eq a b) [ inl same ↦ inl same | inr apart ↦ inr (λ h. apart h) ]

pub same_whole : (a b : ℤ) → IsDecided (a ≡ b)
same_whole a b = by_test (int_eq a b) (Decides-int_eq a b)

-- ---- of optional values

pub is_some : {A : Type 0} (o : Option A) (a : A) → ((x : A) → IsDecided (x ≡ a)) → IsDecided (o ≡ Some a)
is_some None a same = inr (λ h. cc)
is_some (Some x) a same = like (λ (h : x ≡ a). ap Some h) (λ h. same_Some x a h) (same x)

pub of_some : {A : Type 0} (P : A → Type 0) → ((a : A) → IsDecided (P a)) → (o : Option A) → IsDecided ((a : A) × (o ≡ Some a) × P a)
of_some P each None = inr (λ h. let fails = h.1 in cc)
of_some P each (Some x) =
    like (λ p. (x, refl, p)) (λ h. subst P (sym (same_Some x h.0 h.1)) h.2) (each x)

-- ---- of lists

-- of every element
pub all_of : {X : Type 0} (P : X → Type 0) → ((x : X) → IsDecided (P x)) → (xs : List X) → IsDecided (All P xs)
all_of {X} P each xs =
    let Fails : X → Type 0 = λ x. ¬ P x in
    let decide : (x : X) → IsDecided (Fails x) = λ x. elim (each x) [ inl p ↦ inr (λ refuses. refuses p) | inr fails ↦ inl fails ] in
    elim (some_or_none Fails decide xs) [
      | inl found ↦ inr (λ h. found.2 (all_in P xs found.0 h found.1))
      | inr none ↦ inl (all_from_in P xs (λ x at. elim (each x) [ inl p ↦ p | inr fails ↦ absurd (none x at fails) ]))
    ]

-- of some element
pub any_of : {X : Type 0} (P : X → Type 0) → ((x : X) → IsDecided (P x)) → (xs : List X) → IsDecided (Any P xs)
any_of P each xs =
    elim (some_or_none P each xs) [
      | inl found ↦
          let at = contains_from_in xs found.0 found.1 in
          inl (at.0, found.0, at.1, at.2, found.2)
      | inr none ↦ inr (λ h. none h.1 (in_from_contains xs h.1 (h.0, h.2, h.3)) h.4)
    ]

-- this is an element
pub is_among : {X : Type 0} (x : X) → ((y : X) → IsDecided (y ≡ x)) → (xs : List X) → IsDecided (In xs x)
is_among x same [] = inr (λ h. elim h [ ])
is_among x same (y ∷ ys) = either (same y) (is_among x same ys)

-- two lists are one
pub same_list : {X : Type 0} → ((x y : X) → IsDecided (x ≡ y)) → (xs ys : List X) → IsDecided (xs ≡ ys)
same_list same [] [] = inl refl
same_list same [] (y ∷ ys) = inr (λ h. cc)
same_list same (x ∷ xs) [] = inr (λ h. cc)
same_list same (x ∷ xs) (y ∷ ys) =
    like (λ h. (λ i. h.0 i ∷ h.1 i)) (λ h. (same_head x y xs ys h, same_tail x y xs ys h)) (both (same x y) (same_list same xs ys))

-- of every number below another
pub all_below : (P : ℕ → Type 0) → ((k : ℕ) → IsDecided (P k)) → (n : ℕ) → IsDecided ((k : ℕ) → k < n → P k)
all_below P each zero = inl (λ k low. absurd (omega arith))
all_below P each (suc n) =
    like
    (λ h k low. elim (cases_lt k n) [ inl below ↦ h.0 k below | inr from ↦ subst P (let e : n ≡ k = omega arith in e) h.1 ])
    (λ h. ((λ k low. h k (omega arith)), h n (omega arith)))
    (both (all_below P each n) (each n))
