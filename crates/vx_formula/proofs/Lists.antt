-- Membership by cases on the list, and what follows for filters, maps and lists in order.
use Rattle.std.proofs.Common.{◌≡◌, ℕ, zero, suc, ◌<◌, ◌⊎◌, Bool, true, List, [], ◌∷◌, map, length, get_or, refl, sym, ◌∙◌, ap, subst, inl, inr, arith}
use Rattle.std.specs.List.{All, AllPairs, Contains, filter}
use Rattle.std.proofs.lemmas.List.Elements.{All-head, All-tail, Contains-get_or}
use Rattle.std.proofs.lemmas.Bool.{cases_Bool, cond-true, cond-false}

-- x is an element, by cases
abbrev pub In : {X : Type 0} → List X → X → Type 0
In [] x = ⊥
In (y ∷ ys) x = (y ≡ x) ⊎ In ys x

in_at : {X : Type 0} (xs : List X) (x : X) (k : ℕ) → k < length xs → get_or xs k x ≡ x → In xs x
in_at [] x k h e = absurd (omega arith)
in_at (y ∷ ys) x zero h e = inl e
in_at (y ∷ ys) x (suc k) h e = inr (in_at ys x k (omega arith) e)

pub in_from_contains : {X : Type 0} (xs : List X) (x : X) → Contains xs x → In xs x
in_from_contains xs x (k, h, e) = in_at xs x k h e

pub contains_from_in : {X : Type 0} (xs : List X) (x : X) → In xs x → Contains xs x
contains_from_in [] x h = elim h [ ]
contains_from_in (y ∷ ys) x (inl e) = (0, omega arith, e)
contains_from_in (y ∷ ys) x (inr h) = let c = contains_from_in ys x h in (suc c.0, omega arith, c.2)

pub in_map : {X Y : Type 0} (f : X → Y) (xs : List X) (y : Y) → In (map f xs) y → (x : X) × In xs x × (f x ≡ y)
in_map f [] y h = elim h [ ]
in_map f (x ∷ xs) y (inl e) = (x, inl refl, e)
in_map f (x ∷ xs) y (inr h) = let r = in_map f xs y h in (r.0, inr r.1, r.2)

pub map_in : {X Y : Type 0} (f : X → Y) (xs : List X) (x : X) → In xs x → In (map f xs) (f x)
map_in f [] x h = elim h [ ]
map_in f (y ∷ ys) x (inl e) = inl (ap f e)
map_in f (y ∷ ys) x (inr h) = inr (map_in f ys x h)

pub in_filter : {X : Type 0} (p : X → Bool) (xs : List X) (x : X) → In (filter p xs) x → In xs x × (p x ≡ true)
in_filter {X} p [] x h = elim h [ ]
in_filter {X} p (y ∷ ys) x h =
    let P : List X → Type 0 = λ zs. In zs x in
    elim (cases_Bool (p y)) [
      | inl passes ↦ elim (subst P (cond-true (p y) (y ∷ filter p ys) (filter p ys) passes) h) [
        | inl e ↦ (inl e, sym (ap p e) ∙ passes)
        | inr later ↦ let r = in_filter p ys x later in (inr r.0, r.1)
      ]
      | inr fails ↦ let r = in_filter p ys x (subst P (cond-false (p y) (y ∷ filter p ys) (filter p ys) fails) h) in (inr r.0, r.1)
    ]

pub filter_in : {X : Type 0} (p : X → Bool) (xs : List X) (x : X) → In xs x → p x ≡ true → In (filter p xs) x
filter_in {X} p [] x h t = elim h [ ]
filter_in {X} p (y ∷ ys) x h t =
    let P : List X → Type 0 = λ zs. In zs x in
    elim (cases_Bool (p y)) [
      | inl passes ↦ subst P (sym (cond-true (p y) (y ∷ filter p ys) (filter p ys) passes)) (elim h [ inl e ↦ inl e | inr later ↦ inr (filter_in p ys x later t) ])
      | inr fails ↦ subst P (sym (cond-false (p y) (y ∷ filter p ys) (filter p ys) fails)) (elim h [ inl e ↦ absurd (cc (ap p e)) | inr later ↦ filter_in p ys x later t ])
    ]

pub all_in : {X : Type 0} (P : X → Type 0) (xs : List X) (x : X) → All P xs → In xs x → P x
all_in P [] x h none = elim none [ ]
all_in P (y ∷ ys) x h (inl e) = subst P e (All-head P y ys h)
all_in P (y ∷ ys) x h (inr later) = all_in P ys x (All-tail P y ys h) later

pub pairs_head : {X : Type 0} (R : X → X → Type 0) (x : X) (xs : List X) → AllPairs R (x ∷ xs) → All (R x) xs
pairs_head R x xs h = λ k d low. h 0 (suc k) d (omega arith) (omega arith)

pub pairs_tail : {X : Type 0} (R : X → X → Type 0) (x : X) (xs : List X) → AllPairs R (x ∷ xs) → AllPairs R xs
pairs_tail R x xs h = λ i j d low high. h (suc i) (suc j) d (omega arith) (omega arith)

pub all_from_in : {X : Type 0} (P : X → Type 0) (xs : List X) → ((x : X) → In xs x → P x) → All P xs
all_from_in P xs h = λ k d low. h (get_or xs k d) (in_from_contains xs (get_or xs k d) (Contains-get_or xs k d low))
