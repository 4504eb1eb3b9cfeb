-- A list that is read value by value: what is left to read after a front of it.
use Rattle.std.proofs.Common.{◌≡◌, ℕ, suc, ◌+◌, ◌<◌, ◌≤◌, List, [], ◌∷◌, ◌++◌, map, length, drop, get_or, Option, Some, None, option_map, refl, ap, sym, ◌∙◌, append_assoc, append-nil, add-one, drop-cons}
use Rattle.std.proofs.lemmas.List.{drop_all}
use Rattle.vx_cert.specs.Form.{all_read, both}

-- a front was read, and the rest decides the whole
abbrev pub HasRead : {A B : Type 0} → (A → Option B) → List A → ℕ → List B → Type 0
HasRead reading xs i front = all_read reading xs ≡ option_map (λ rest. front ++ rest) (all_read reading (drop i xs))

joined : {B : Type 0} (front : List B) (y : B) (o : Option (List B)) → option_map (λ rest. front ++ rest) (both (λ said others. said ∷ others) (Some y) o) ≡ option_map (λ rest. (front ++ y ∷ []) ++ rest) o
joined front y None = refl
joined front y (Some rest) = ap Some (sym (append_assoc front (y ∷ []) rest))

same : {B : Type 0} (o : Option (List B)) → o ≡ option_map (λ rest. [] ++ rest) o
same None = refl
same (Some rest) = refl

-- what is left begins with the next value
next : {A B : Type 0} (reading : A → Option B) (xs : List A) (i : ℕ) (d : A) (o : Option B) → i < length xs → reading (get_or xs i d) ≡ o
    → all_read reading (drop i xs) ≡ both (λ said others. said ∷ others) o (all_read reading (drop (suc i) xs))
next reading xs i d o h r = ap (all_read reading) (drop-cons xs i d h) ∙ ap (λ p. both (λ said others. said ∷ others) p (all_read reading (drop (suc i) xs))) r

-- nothing was read
pub HasRead_start : {A B : Type 0} (reading : A → Option B) (xs : List A) → HasRead reading xs 0 []
HasRead_start reading xs = same (all_read reading xs)

-- one more value was read
pub HasRead_step : {A B : Type 0} (reading : A → Option B) (xs : List A) (i : ℕ) (front : List B) (d : A) (y : B) → i < length xs → reading (get_or xs i d) ≡ Some y → HasRead reading xs i front → HasRead reading xs (i + 1) (front ++ y ∷ [])
HasRead_step reading xs i front d y h r left =
    rw add-one (left ∙ (ap (option_map (λ rest. front ++ rest)) (next reading xs i d (Some y) h r) ∙ joined front y (all_read reading (drop (suc i) xs))))

-- a value says nothing
pub HasRead_none : {A B : Type 0} (reading : A → Option B) (xs : List A) (i : ℕ) (front : List B) (d : A) → i < length xs → reading (get_or xs i d) ≡ None → HasRead reading xs i front → all_read reading xs ≡ None
HasRead_none reading xs i front d h r left = left ∙ ap (option_map (λ rest. front ++ rest)) (next reading xs i d None h r)

-- all was read
pub HasRead_end : {A B : Type 0} (reading : A → Option B) (xs : List A) (i : ℕ) (front : List B) → length xs ≤ i → HasRead reading xs i front → all_read reading xs ≡ Some front
HasRead_end reading xs i front h left =
    left ∙ (ap (λ rest. option_map (λ more. front ++ more) (all_read reading rest)) (drop_all i xs h) ∙ ap Some (append-nil front))

-- a reading of what a function gives
pub all_read_map : {A B C : Type 0} (reading : B → Option C) (f : A → B) (xs : List A) → all_read reading (map f xs) ≡ all_read (λ x. reading (f x)) xs
all_read_map reading f [] = refl
all_read_map reading f (x ∷ xs) = ap (both (λ said others. said ∷ others) (reading (f x))) (all_read_map reading f xs)
