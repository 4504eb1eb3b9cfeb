-- What inserting, removing and overwriting at a key's place do to a list in rising order.
use Rattle.std.proofs.Common.{◌≡◌, ◌≢◌, ℕ, zero, suc, ◌+◌, ◌<◌, ◌≤◌, ◌==◌, true, false, cond, List, [], ◌∷◌, length, get_or, set, Option, Some, None}
use Rattle.std.proofs.Common.{refl, sym, ◌∙◌, ap, subst, inl, inr, arith}
use Rattle.std.specs.List.{insert, remove}
use Rattle.std.specs.List.Sorted.{IsPartitionPoint, IsPartitionedBy, IsNonDecreasingBy}
use Rattle.std.proofs.lemmas.Bool.{cases_order, cases_eq, eq-eqb, ne_eqb, ltb-true, ltb-false}
use Rattle.std.proofs.lemmas.List.Sorted.{IsPartitionedBy-ltb}
use Rattle.std.specs.Prelude.{nat_lt, option_map}
use Rattle.vx_check.specs.Rising.{RisesFrom, Rises, item_at, StandsAt, HasKeyAt, FitsAt, IsWith}

module _ {X : Type 0} (key : X → ℕ) where
  -- ---- the item of a key

  pub item_here : (k : ℕ) (x : X) (xs : List X) → key x ≡ k → item_at key k (x ∷ xs) ≡ Some x
  item_here k x xs e = let t : (key x == k) ≡ true = eq-eqb (key x) k e in rw t refl

  pub item_past : (k : ℕ) (x : X) (xs : List X) → (key x ≡ k → ⊥) → item_at key k (x ∷ xs) ≡ item_at key k xs
  item_past k x xs e = let t : (key x == k) ≡ false = ne_eqb (key x) k e in rw t refl

  same_tail : (k : ℕ) (x : X) (xs ys : List X) → item_at key k xs ≡ item_at key k ys → item_at key k (x ∷ xs) ≡ item_at key k (x ∷ ys)
  same_tail k x xs ys e = ap (λ o. cond (key x == k) (Some x) o) e

  pub none_below : (low k : ℕ) (xs : List X) → RisesFrom key low xs → k < low → item_at key k xs ≡ None
  none_below low k [] r h = refl
  none_below low k (x ∷ xs) r h =
      let a : low ≤ key x = r.0 in
      item_past k x xs (λ e. absurd (omega arith)) ∙ none_below (key x + 1) k xs r.1 (omega arith)

  pub rises_weaker : (low lower : ℕ) (xs : List X) → lower ≤ low → RisesFrom key low xs → RisesFrom key lower xs
  rises_weaker low lower [] h r = tt
  rises_weaker low lower (x ∷ xs) h r = let a : low ≤ key x = r.0 in (omega arith, r.1)

  -- ---- lists in rising order with the same items are the same

  pub same_from_items : (low other : ℕ) (xs ys : List X) → RisesFrom key low xs → RisesFrom key other ys
      → ((k : ℕ) → item_at key k xs ≡ item_at key k ys) → xs ≡ ys
  same_from_items low other [] [] r s h = refl
  same_from_items low other [] (y ∷ ys) r s h =
      let e : None ≡ Some y = h (key y) ∙ item_here (key y) y ys refl in absurd (cc e)
  same_from_items low other (x ∷ xs) [] r s h =
      let e : Some x ≡ None = sym (item_here (key x) x xs refl) ∙ h (key x) in absurd (cc e)
  same_from_items low other (x ∷ xs) (y ∷ ys) r s h =
      elim (cases_order (key x) (key y)) [
        | inl e ↦
            let both : Some x ≡ Some y = sym (item_here (key x) x xs refl) ∙ h (key x) ∙ item_here (key x) y ys (sym e) in
            let heads : x ≡ y = cc both in
            let tails : xs ≡ ys = same_from_items (key x + 1) (key y + 1) xs ys r.1 s.1 (λ k. tail_items k e) in
            ap (λ z. z ∷ xs) heads ∙ ap (λ zs. y ∷ zs) tails
        | inr apart ↦ elim apart [
          | inl less ↦
              let e : Some x ≡ None = sym (item_here (key x) x xs refl) ∙ h (key x) ∙ none_below (key y) (key x) (y ∷ ys) (omega arith, s.1) less in
              absurd (cc e)
          | inr more ↦
              let e : Some y ≡ None = sym (item_here (key y) y ys refl) ∙ sym (h (key y)) ∙ none_below (key x) (key y) (x ∷ xs) (omega arith, r.1) more in
              absurd (cc e)
        ]
      ]
    where
      tail_items : (k : ℕ) → key x ≡ key y → item_at key k xs ≡ item_at key k ys
      tail_items k e =
          elim (cases_eq (key x) k) [
            | inl at ↦ none_below (key x + 1) k xs r.1 (omega arith) ∙ sym (none_below (key y + 1) k ys s.1 (omega arith))
            | inr past ↦ sym (item_past k x xs past) ∙ h k ∙ item_past k y ys (λ f. past (e ∙ f))
          ]

  -- ---- an insert at the place where the key fits

  insert_rises : (y : X) (place low : ℕ) (xs : List X) → FitsAt key (key y) place xs → RisesFrom key low xs → low ≤ key y
      → RisesFrom key low (insert xs place y)
  insert_rises y zero low [] f r h = (h, tt)
  insert_rises y zero low (x ∷ xs) f r h = let a : key y < key x = f in (h, (omega arith, r.1))
  insert_rises y (suc place) low [] f r h = absurd f
  insert_rises y (suc place) low (x ∷ xs) f r h =
      let a : key x < key y = f.0 in (r.0, insert_rises y place (key x + 1) xs f.1 r.1 (omega arith))

  insert_at : (y : X) (place : ℕ) (xs : List X) → FitsAt key (key y) place xs → item_at key (key y) (insert xs place y) ≡ Some y
  insert_at y zero [] f = item_here (key y) y [] refl
  insert_at y zero (x ∷ xs) f = item_here (key y) y (x ∷ xs) refl
  insert_at y (suc place) [] f = absurd f
  insert_at y (suc place) (x ∷ xs) f =
      let a : key x < key y = f.0 in
      item_past (key y) x (insert xs place y) (λ e. absurd (omega arith)) ∙ insert_at y place xs f.1

  insert_others : (y : X) (k : ℕ) → (key y ≡ k → ⊥) → (place : ℕ) (xs : List X) → FitsAt key (key y) place xs
      → item_at key k (insert xs place y) ≡ item_at key k xs
  insert_others y k ne zero [] f = item_past k y [] ne
  insert_others y k ne zero (x ∷ xs) f = item_past k y (x ∷ xs) ne
  insert_others y k ne (suc place) [] f = absurd f
  insert_others y k ne (suc place) (x ∷ xs) f = same_tail k x (insert xs place y) xs (insert_others y k ne place xs f.1)

  pub with_inserted : (y : X) (place : ℕ) (xs : List X) → FitsAt key (key y) place xs → Rises key xs → IsWith key (key y) (Some y) xs (insert xs place y)
  with_inserted y place xs f r = record {
    rises = insert_rises y place 0 xs f r (omega arith);
    at_key = insert_at y place xs f;
    others = λ other ne. insert_others y other (λ e. ne (sym e)) place xs f;
  }

  -- ---- a removal of the item of a key

  remove_rises : (k place low : ℕ) (xs : List X) → StandsAt key k place xs → RisesFrom key low xs → RisesFrom key low (remove xs place)
  remove_rises k place low [] f r = absurd f
  remove_rises k zero low (x ∷ xs) f r = let a : low ≤ key x = r.0 in rises_weaker (key x + 1) low xs (omega arith) r.1
  remove_rises k (suc place) low (x ∷ xs) f r = (r.0, remove_rises k place (key x + 1) xs f.1 r.1)

  remove_at : (k place low : ℕ) (xs : List X) → StandsAt key k place xs → RisesFrom key low xs → item_at key k (remove xs place) ≡ None
  remove_at k place low [] f r = absurd f
  remove_at k zero low (x ∷ xs) f r = let a : key x ≡ k = f in none_below (key x + 1) k xs r.1 (omega arith)
  remove_at k (suc place) low (x ∷ xs) f r =
      let a : key x < k = f.0 in
      item_past k x (remove xs place) (λ e. absurd (omega arith)) ∙ remove_at k place (key x + 1) xs f.1 r.1

  remove_others : (k other : ℕ) → (k ≡ other → ⊥) → (place : ℕ) (xs : List X) → StandsAt key k place xs
      → item_at key other (remove xs place) ≡ item_at key other xs
  remove_others k other ne place [] f = absurd f
  remove_others k other ne zero (x ∷ xs) f = let a : key x ≡ k = f in sym (item_past other x xs (λ e. ne (sym a ∙ e)))
  remove_others k other ne (suc place) (x ∷ xs) f = same_tail other x (remove xs place) xs (remove_others k other ne place xs f.1)

  pub with_removed : (k place : ℕ) (xs : List X) → StandsAt key k place xs → Rises key xs → IsWith key k None xs (remove xs place)
  with_removed k place xs f r = record {
    rises = remove_rises k place 0 xs f r;
    at_key = remove_at k place 0 xs f r;
    others = λ other ne. remove_others k other (λ e. ne (sym e)) place xs f;
  }

  -- ---- another item in the place of a key's

  set_rises : (y : X) (k place low : ℕ) (xs : List X) → key y ≡ k → StandsAt key k place xs → RisesFrom key low xs → RisesFrom key low (set xs place y)
  set_rises y k place low [] e f r = absurd f
  set_rises y k zero low (x ∷ xs) e f r =
      let a : low ≤ key x = r.0 in
      let b : key x ≡ k = f in
      let same : key x ≡ key y = b ∙ sym e in
      (omega arith, rises_weaker (key x + 1) (key y + 1) xs (omega arith) r.1)
  set_rises y k (suc place) low (x ∷ xs) e f r = (r.0, set_rises y k place (key x + 1) xs e f.1 r.1)

  set_at : (y : X) (k place : ℕ) (xs : List X) → key y ≡ k → StandsAt key k place xs → item_at key k (set xs place y) ≡ Some y
  set_at y k place [] e f = absurd f
  set_at y k zero (x ∷ xs) e f = item_here k y xs e
  set_at y k (suc place) (x ∷ xs) e f =
      let a : key x < k = f.0 in
      item_past k x (set xs place y) (λ e. absurd (omega arith)) ∙ set_at y k place xs e f.1

  set_others : (y : X) (k other : ℕ) → (k ≡ other → ⊥) → key y ≡ k → (place : ℕ) (xs : List X) → StandsAt key k place xs
      → item_at key other (set xs place y) ≡ item_at key other xs
  set_others y k other ne e place [] f = absurd f
  set_others y k other ne e zero (x ∷ xs) f =
      let a : key x ≡ k = f in
      item_past other y xs (λ b. ne (sym e ∙ b)) ∙ sym (item_past other x xs (λ b. ne (sym a ∙ b)))
  set_others y k other ne e (suc place) (x ∷ xs) f = same_tail other x (set xs place y) xs (set_others y k other ne e place xs f.1)

  pub with_set : (y : X) (k place : ℕ) (xs : List X) → key y ≡ k → StandsAt key k place xs → Rises key xs → IsWith key k (Some y) xs (set xs place y)
  with_set y k place xs e f r = record {
    rises = set_rises y k place 0 xs e f r;
    at_key = set_at y k place xs e f;
    others = λ other ne. set_others y k other (λ b. ne (sym b)) e place xs f;
  }

  pub with_same : (k : ℕ) (xs : List X) → Rises key xs → IsWith key k (item_at key k xs) xs xs
  with_same k xs r = record { rises = r; at_key = refl; others = λ other ne. refl }

  -- ---- what stands at a place

  pub item_that_stands : (k place : ℕ) (xs : List X) (d : X) → StandsAt key k place xs → item_at key k xs ≡ Some (get_or xs place d)
  item_that_stands k place [] d f = absurd f
  item_that_stands k zero (x ∷ xs) d f = item_here k x xs f
  item_that_stands k (suc place) (x ∷ xs) d f =
      let a : key x < k = f.0 in
      item_past k x xs (λ e. absurd (omega arith)) ∙ item_that_stands k place xs d f.1

  pub none_that_fits : (k place low : ℕ) (xs : List X) → FitsAt key k place xs → RisesFrom key low xs → item_at key k xs ≡ None
  none_that_fits k zero low [] f r = refl
  none_that_fits k zero low (x ∷ xs) f r =
      let a : k < key x = f in none_below (key x) k (x ∷ xs) (omega arith, r.1) a
  none_that_fits k (suc place) low [] f r = absurd f
  none_that_fits k (suc place) low (x ∷ xs) f r =
      let a : key x < k = f.0 in
      item_past k x xs (λ e. absurd (omega arith)) ∙ none_that_fits k place (key x + 1) xs f.1 r.1

  pub key_that_stands : (k place : ℕ) (xs : List X) (d : X) → StandsAt key k place xs → key (get_or xs place d) ≡ k
  key_that_stands k place [] d f = absurd f
  key_that_stands k zero (x ∷ xs) d f = f
  key_that_stands k (suc place) (x ∷ xs) d f = key_that_stands k place xs d f.1

  -- ---- the item at a place

  pub key_at_from : (k place : ℕ) (xs : List X) → place < length xs → ((d : X) → key (get_or xs place d) ≡ k) → HasKeyAt key k place xs
  key_at_from k place [] within at = absurd (omega arith)
  key_at_from k zero (x ∷ xs) within at = at x
  key_at_from k (suc place) (x ∷ xs) within at = key_at_from k place xs (omega arith) at

  pub key_at_is : (k place : ℕ) (xs : List X) (d : X) → HasKeyAt key k place xs → key (get_or xs place d) ≡ k
  key_at_is k place [] d h = absurd h
  key_at_is k zero (x ∷ xs) d h = h
  key_at_is k (suc place) (x ∷ xs) d h = key_at_is k place xs d h

  pub key_at_is_within : (k place : ℕ) (xs : List X) → HasKeyAt key k place xs → place < length xs
  key_at_is_within k place [] h = absurd h
  key_at_is_within k zero (x ∷ xs) h = omega arith
  key_at_is_within k (suc place) (x ∷ xs) h = let a = key_at_is_within k place xs h in omega arith

  key_at_is_least : (k place low : ℕ) (xs : List X) → RisesFrom key low xs → HasKeyAt key k place xs → low ≤ k
  key_at_is_least k place low [] r h = absurd h
  key_at_is_least k zero low (x ∷ xs) r h = let a : low ≤ key x = r.0 in let b : key x ≡ k = h in omega arith
  key_at_is_least k (suc place) low (x ∷ xs) r h =
      let a : low ≤ key x = r.0 in
      let b : key x + 1 ≤ k = key_at_is_least k place (key x + 1) xs r.1 h in
      omega arith

  -- in a rising list those before it have lower keys
  pub stands_where_rises : (k place low : ℕ) (xs : List X) → RisesFrom key low xs → HasKeyAt key k place xs → StandsAt key k place xs
  stands_where_rises k place low [] r h = absurd h
  stands_where_rises k zero low (x ∷ xs) r h = h
  stands_where_rises k (suc place) low (x ∷ xs) r h =
      let a : key x + 1 ≤ k = key_at_is_least k place (key x + 1) xs r.1 h in
      (omega arith, stands_where_rises k place (key x + 1) xs r.1 h)

  -- ---- a binary search

  first_least : (low : ℕ) (xs : List X) → RisesFrom key low xs → (j : ℕ) (d : X) → j < length xs → low ≤ key (get_or xs j d)
  first_least low [] r j d h = absurd (omega arith)
  first_least low (x ∷ xs) r zero d h = r.0
  first_least low (x ∷ xs) r (suc j) d h =
      let a : low ≤ key x = r.0 in
      let b = first_least (key x + 1) xs r.1 j d (omega arith) in
      omega arith

  pub does_not_fall : (low : ℕ) (xs : List X) → RisesFrom key low xs → IsNonDecreasingBy key xs
  does_not_fall low [] r i j d h l = absurd (omega arith)
  does_not_fall low (x ∷ xs) r zero zero d h l = omega arith
  does_not_fall low (x ∷ xs) r zero (suc j) d h l =
      let b = first_least (key x + 1) xs r.1 j d (omega arith) in omega arith
  does_not_fall low (x ∷ xs) r (suc i) zero d h l = absurd (omega arith)
  does_not_fall low (x ∷ xs) r (suc i) (suc j) d h l = does_not_fall (key x + 1) xs r.1 i j d (omega arith) (omega arith)

  pub is_partitioned : (k : ℕ) (xs : List X) → Rises key xs → IsPartitionedBy (λ x. nat_lt (key x) k) xs
  is_partitioned k xs r = IsPartitionedBy-ltb key xs k (does_not_fall 0 xs r)

  fits_from : (k place : ℕ) (xs : List X) → place ≤ length xs → ((j : ℕ) (d : X) → j < place → key (get_or xs j d) < k)
      → ((j : ℕ) (d : X) → place ≤ j → j < length xs → k ≤ key (get_or xs j d))
      → ((d : X) → place < length xs → key (get_or xs place d) ≡ k → ⊥) → FitsAt key k place xs
  fits_from k zero [] within low high other = tt
  fits_from k zero (x ∷ xs) within low high other =
      let a : k ≤ key x = high 0 x (omega arith) (omega arith) in
      let b : key x ≢ k = other x (omega arith) in
      omega arith
  fits_from k (suc place) [] within low high other = absurd (omega arith)
  fits_from k (suc place) (x ∷ xs) within low high other = (
    low 0 x (omega arith),
    fits_from k place xs (omega arith) (λ j d h. low (suc j) d (omega arith)) (λ j d h l. high (suc j) d (omega arith) (omega arith)) (λ d h. other d (omega arith)),
  )

  stands_from : (k place : ℕ) (xs : List X) → place < length xs → ((j : ℕ) (d : X) → j < place → key (get_or xs j d) < k)
      → ((d : X) → key (get_or xs place d) ≡ k) → StandsAt key k place xs
  stands_from k place [] within low at = absurd (omega arith)
  stands_from k zero (x ∷ xs) within low at = at x
  stands_from k (suc place) (x ∷ xs) within low at = (
    low 0 x (omega arith),
    stands_from k place xs (omega arith) (λ j d h. low (suc j) d (omega arith)) at,
  )

  abbrev pub IsFirstFrom : ℕ → ℕ → List X → Type 0
  IsFirstFrom k place xs = IsPartitionPoint (λ x. nat_lt (key x) k ≡ true) (λ x. nat_lt (key x) k ≡ false) xs place

  pub fits_at_first : (k place : ℕ) (xs : List X) → place ≤ length xs → IsFirstFrom k place xs
      → ((d : X) → place < length xs → key (get_or xs place d) ≡ k → ⊥) → FitsAt key k place xs
  fits_at_first k place xs within h other =
      fits_from k place xs within (λ j d l. ltb-true (key (get_or xs j d)) k (h.0 j d (omega arith) l)) (λ j d l m. ltb-false (key (get_or xs j d)) k (h.1 j d l m)) other

  pub stands_at_first : (k place : ℕ) (xs : List X) → place < length xs → IsFirstFrom k place xs → ((d : X) → key (get_or xs place d) ≡ k)
      → StandsAt key k place xs
  stands_at_first k place xs within h at =
      stands_from k place xs within (λ j d l. ltb-true (key (get_or xs j d)) k (h.0 j d (omega arith) l)) at

  -- ---- the item of a key, changed where it stands

  with_item : (k : ℕ) (a b : Option X) (xs ys : List X) → a ≡ b → IsWith key k a xs ys → IsWith key k b xs ys
  with_item k a b xs ys e h = subst (λ (o : Option X). IsWith key k o xs ys) e h

  pub with_changed : (f : X → X) → ((x : X) → key (f x) ≡ key x) → (k place : ℕ) (xs : List X) (x y : X)
      → StandsAt key k place xs → Rises key xs → x ≡ get_or xs place x → y ≡ f x → IsWith key k (option_map f (item_at key k xs)) xs (set xs place y)
  with_changed f keeps k place xs x y s r is e =
      let item : item_at key k xs ≡ Some x = item_that_stands k place xs x s ∙ ap Some (sym is) in
      let its_key : key y ≡ k = ap key e ∙ keeps x ∙ ap key is ∙ key_that_stands k place xs x s in
      with_item k (Some y) (option_map f (item_at key k xs)) xs (set xs place y) (ap Some e ∙ sym (ap (option_map f) item)) (with_set y k place xs its_key s r)

  pub with_none_changed : (f : X → X) (k place : ℕ) (xs : List X) → FitsAt key k place xs → Rises key xs → IsWith key k (option_map f (item_at key k xs)) xs xs
  with_none_changed f k place xs s r =
      let item : item_at key k xs ≡ None = none_that_fits k place 0 xs s r in
      with_item k (item_at key k xs) (option_map f (item_at key k xs)) xs xs (item ∙ sym (ap (option_map f) item)) (with_same k xs r)
