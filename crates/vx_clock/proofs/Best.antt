-- The best of the places seen so far: `W` says which elements count, and `R x y` that x is taken
-- before y.
use Rattle.std.proofs.Common.{◌≡◌, ℕ, ◌+◌, ◌<◌, List, length, get_or, Option, Some, None, MatchOption, All, Contains, subst, sym, ◌∙◌, below_more}
use Rattle.std.proofs.lemmas.List.{get_or_default}

-- none of the first n elements counts
abbrev pub NoneBelow : {X : Type 0} → (X → Type 0) → X → List X → ℕ → Type 0
NoneBelow W d xs n = (k : ℕ) → k < n → ¬ W (get_or xs k d)

-- the element at b counts, and is taken before each of the first n that counts
pub record IsBest {X : Type 0} (W : X → Type 0) (R : X → X → Type 0) (d : X) (xs : List X) (n b : ℕ) : Type 0 where
  pub within : b < length xs
  pub counts : W (get_or xs b d)
  pub first : (k : ℕ) → k < n → W (get_or xs k d) → R (get_or xs b d) (get_or xs k d)

-- what the place says after n elements
abbrev pub IsBestSoFar : {X : Type 0} → (X → Type 0) → (X → X → Type 0) → X → List X → ℕ → Option ℕ → Type 0
IsBestSoFar W R d xs n best = MatchOption best (NoneBelow W d xs n) (IsBest W R d xs n)

module _ {X : Type 0} (W : X → Type 0) (R : X → X → Type 0) (d : X) (xs : List X) (n : ℕ) where
  -- an element that does not count changes nothing
  pub none_after : NoneBelow W d xs n → ¬ W (get_or xs n d) → NoneBelow W d xs (n + 1)
  none_after before here = below_more _ n before here

  pub best_after : (b : ℕ) → IsBest W R d xs n b → ¬ W (get_or xs n d) → IsBest W R d xs (n + 1) b
  best_after b best here = record {
    within = best.within;
    counts = best.counts;
    first = below_more (λ k. W (get_or xs k d) → R (get_or xs b d) (get_or xs k d)) n best.first (λ counts. absurd (here counts));
  }

  -- the best stays before an element that it is taken before
  pub best_kept : (b : ℕ) → IsBest W R d xs n b → R (get_or xs b d) (get_or xs n d) → IsBest W R d xs (n + 1) b
  best_kept b best before = record {
    within = best.within;
    counts = best.counts;
    first = below_more (λ k. W (get_or xs k d) → R (get_or xs b d) (get_or xs k d)) n best.first (λ _. before);
  }

  -- the first that counts is the best
  pub best_first : ((x : X) → R x x) → NoneBelow W d xs n → n < length xs → W (get_or xs n d) → IsBest W R d xs (n + 1) n
  best_first reflexive none there counts = record {
    within = there;
    counts = counts;
    first = below_more (λ k. W (get_or xs k d) → R (get_or xs n d) (get_or xs k d)) n (λ k below is. absurd (none k below is)) (λ _. reflexive (get_or xs n d));
  }

  -- an element that is taken before the best is the best
  pub best_replaced : ((x : X) → R x x) → ((x y z : X) → R x y → R y z → R x z) → (b : ℕ) → IsBest W R d xs n b → n < length xs → W (get_or xs n d) → R (get_or xs n d) (get_or xs b d) → IsBest W R d xs (n + 1) n
  best_replaced reflexive transitive b best there counts before = record {
    within = there;
    counts = counts;
    first = below_more (λ k. W (get_or xs k d) → R (get_or xs n d) (get_or xs k d)) n (λ k below is. transitive _ _ _ before (best.first k below is)) (λ _. reflexive (get_or xs n d));
  }

  -- the same, where it is not known which
  pub skipped : (best : Option ℕ) → IsBestSoFar W R d xs n best → ¬ W (get_or xs n d) → IsBestSoFar W R d xs (n + 1) best
  skipped None before here = none_after before here
  skipped (Some b) before here = best_after b before here

module _ {X : Type 0} (W : X → Type 0) (R : X → X → Type 0) (d : X) (xs : List X) where
  -- over the whole list: none counts
  pub none_counts : NoneBelow W d xs (length xs) → All (λ x. ¬ W x) xs
  none_counts none k e below counts = none k below (subst W (get_or_default xs k e d below) counts)

  -- or the best is an element
  pub best_is_there : (n b : ℕ) → IsBest W R d xs n b → Contains xs (get_or xs b d)
  best_is_there n b best = (b, best.within, get_or_default xs b (get_or xs b d) d best.within)

  -- and is taken before each that counts
  pub best_comes_first : (b : ℕ) → IsBest W R d xs (length xs) b → (other : X) → Contains xs other → W other → R (get_or xs b d) other
  best_comes_first b best other (k, below, is) counts =
      let same : get_or xs k d ≡ other = get_or_default xs k d other below ∙ is in
      subst (λ x. R (get_or xs b d) x) same (best.first k below (subst W (sym same) counts))
