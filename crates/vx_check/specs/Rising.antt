-- Lists in rising order of a key, each key once. This project's own.
use Rattle.std.specs.Prelude.{◌≡◌, ◌≢◌, ℕ, zero, suc, ◌+◌, ◌<◌, ◌≤◌, ◌==◌, nat_lt, Bool, true, false, List, [], ◌∷◌, length, Option, Result, MatchResult, find}
use Rattle.std.specs.List.Sorted.{IsPartitionPoint}

-- each key is at least the low one, and above all before it
abbrev pub RisesFrom : {X : Type 0} → (X → ℕ) → ℕ → List X → Type 0
RisesFrom key low [] = Unit {0}
RisesFrom key low (x ∷ xs) = (low ≤ key x) × RisesFrom key (key x + 1) xs

-- the keys rise, each once
abbrev pub Rises : {X : Type 0} → (X → ℕ) → List X → Type 0
Rises key xs = RisesFrom key 0 xs

-- the item has this key
abbrev pub has_key : {X : Type 0} → (X → ℕ) → ℕ → X → Bool
has_key key k x = key x == k

-- the item of a key
abbrev pub item_at : {X : Type 0} → (X → ℕ) → ℕ → List X → Option X
item_at key k xs = find (has_key key k) xs

-- the item at this place has the key, and those before it have lower ones
abbrev pub StandsAt : {X : Type 0} → (X → ℕ) → ℕ → ℕ → List X → Type 0
StandsAt key k place [] = ⊥
StandsAt key k zero (x ∷ xs) = key x ≡ k
StandsAt key k (suc place) (x ∷ xs) = (key x < k) × StandsAt key k place xs

-- the item at this place has the key
abbrev pub HasKeyAt : {X : Type 0} → (X → ℕ) → ℕ → ℕ → List X → Type 0
HasKeyAt key k place [] = ⊥
HasKeyAt key k zero (x ∷ xs) = key x ≡ k
HasKeyAt key k (suc place) (x ∷ xs) = HasKeyAt key k place xs

-- no item has the key, and one that has it would stand at this place
abbrev pub FitsAt : {X : Type 0} → (X → ℕ) → ℕ → ℕ → List X → Type 0
FitsAt key k zero [] = Unit {0}
FitsAt key k zero (x ∷ xs) = k < key x
FitsAt key k (suc place) [] = ⊥
FitsAt key k (suc place) (x ∷ xs) = (key x < k) × FitsAt key k place xs

-- the place of the item of a key, or else where one would stand
abbrev pub IsPlaceOfKey : {X : Type 0} → (X → ℕ) → ℕ → List X → Result ℕ ℕ → Type 0
IsPlaceOfKey key k xs place =
    Rises key xs → MatchResult place (λ n. StandsAt key k n xs) (λ n. FitsAt key k n xs)

-- the place of an item, or one at which an item can be put
abbrev pub IsPlaceWithin : {X : Type 0} → List X → Result ℕ ℕ → Type 0
IsPlaceWithin xs place = MatchResult place (λ n. n < length xs) (λ n. n ≤ length xs)

-- the place from which on no key is lower
abbrev pub IsPlaceFrom : {X : Type 0} → (X → ℕ) → ℕ → List X → ℕ → Type 0
IsPlaceFrom key k xs place =
    Rises key xs → IsPartitionPoint (λ x. nat_lt (key x) k ≡ true) (λ x. nat_lt (key x) k ≡ false) xs place

-- a list in rising order with this item at a key, or with none, and otherwise the items of an old one
pub record IsWith {X : Type 0} (key : X → ℕ) (k : ℕ) (item : Option X) (old new : List X) : Type 0 where
  pub rises : Rises key new
  pub at_key : item_at key k new ≡ item
  pub others : (other : ℕ) → other ≢ k → item_at key other new ≡ item_at key other old
