-- The best of those that count, in any list.
use Rattle.std.proofs.Common.{sym, subst, ◌⊎◌, List, [], ◌∷◌, inl, inr, refl}
use Rattle.vx_formula.proofs.Lists.{In}

-- some element counts, or none does
pub some_or_none : {X : Type 0} (W : X → Type 0) → ((x : X) → W x ⊎ ¬ W x) → (xs : List X) → ((x : X) × In xs x × W x) ⊎ ((x : X) → In xs x → ¬ W x)
some_or_none W decide [] = inr (λ x h. elim h [ ])
some_or_none W decide (x ∷ xs) =
    elim (decide x) [
      | inl counts ↦ inl (x, inl refl, counts)
      | inr counts_not ↦ elim (some_or_none W decide xs) [
        | inl found ↦ inl (found.0, inr found.1, found.2)
        | inr none ↦ inr (λ y h. elim h [ inl e ↦ subst (λ z. ¬ W z) e counts_not | inr later ↦ none y later ])
      ]
    ]

module _ {X : Type 0} (W : X → Type 0) (R : X → X → Type 0) where
  -- k counts, and comes before each other one that does
  pub record Best (ks : List X) (k : X) : Type 0 where
    pub among : In ks k
    pub counts : W k
    pub first : (other : X) → In ks other → W other → R k other

  module _ (decide : (k : X) → W k ⊎ ¬ W k) (reflexive : (k : X) → R k k) (total : (a b : X) → R a b ⊎ R b a) (transitive : (a b c : X) → R a b → R b c → R a c) where
    with_found : (k : X) (ks : List X) (b : X) → (W k ⊎ ¬ W k) → Best ks b → (R k b ⊎ R b k) → (c : X) × Best (k ∷ ks) c
    with_found k ks b (inl counts) best (inl before) = (
      k,
      record {
        among = inl refl;
        counts = counts;
        first = λ other h w. elim h [ inl e ↦ subst (R k) e (reflexive k) | inr later ↦ transitive k b other before (best.first other later w) ];
      },
    )
    with_found k ks b (inl counts) best (inr before) = (
      b,
      record {
        among = inr best.among;
        counts = best.counts;
        first = λ other h w. elim h [ inl e ↦ subst (R b) e before | inr later ↦ best.first other later w ];
      },
    )
    with_found k ks b (inr counts_not) best either = (
      b,
      record {
        among = inr best.among;
        counts = best.counts;
        first = λ other h w. elim h [ inl e ↦ absurd (counts_not (subst W (sym e) w)) | inr later ↦ best.first other later w ];
      },
    )

    with_none : (k : X) (ks : List X) → (W k ⊎ ¬ W k) → ((other : X) → In ks other → ¬ W other) → ((c : X) × Best (k ∷ ks) c) ⊎ ((other : X) → In (k ∷ ks) other → ¬ W other)
    with_none k ks (inl counts) none =
        inl (
          k,
          record {
            among = inl refl;
            counts = counts;
            first = λ other h w. elim h [ inl e ↦ subst (R k) e (reflexive k) | inr later ↦ absurd (none other later w) ];
          },
        )
    with_none k ks (inr counts_not) none = inr (λ other h. elim h [ inl e ↦ subst (λ z. ¬ W z) e counts_not | inr later ↦ none other later ])

    -- one of the list is the best of those that count, or none counts
    pub best_or_none : (ks : List X) → ((k : X) × Best ks k) ⊎ ((k : X) → In ks k → ¬ W k)
    best_or_none [] = inr (λ k h. elim h [ ])
    best_or_none (k ∷ ks) =
        elim (best_or_none ks) [
          | inl found ↦ inl (with_found k ks found.0 (decide k) found.1 (total k found.0))
          | inr none ↦ with_none k ks (decide k) none
        ]
