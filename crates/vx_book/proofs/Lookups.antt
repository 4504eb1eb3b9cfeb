-- A map of series by the definition of the same series.
use Rattle.std.proofs.Common.{◌≡◌, Bool, cond, List, [], ◌∷◌, Some, None, Result, Ok, Err, refl, sym, ap, ◌∙◌}
use Rattle.std.specs.Map.{lookup}
use Rattle.std.specs.Option.{IsSome, is_some}
use Rattle.std.specs.Result.{OnErr}
use Rattle.vx_symbol.specs.declared.symbols.Symbol.{Symbol}
use Rattle.vx_feed.specs.Same.{is_same_series}

pub on_err_always : {T E : Type 0} → (r : Result T E) (P : Type 0) → P → OnErr r P
on_err_always (Ok x) P p = tt
on_err_always (Err e) P p = p

module _ {V : Type 0} (eq : Symbol → Symbol → Bool) (same : (a b : Symbol) → eq a b ≡ is_same_series a b) where
  pub lookup_by_parts : (q : Symbol) (es : List (Symbol × V)) → lookup (eq q) es ≡ lookup (is_same_series q) es
  lookup_by_parts q [] = refl
  lookup_by_parts q (e ∷ es) =
      ap (λ b. cond b (Some e.1) (lookup (eq q) es)) (same q e.0) ∙ ap (λ o. cond (is_same_series q e.0) (Some e.1) o) (lookup_by_parts q es)

  pub set_by_parts : (s : Symbol) (one : V) (old new : List (Symbol × V))
      → ((q : Symbol) → lookup (eq q) new ≡ cond (eq s q) (Some one) (lookup (eq q) old))
      → (q : Symbol) → lookup (is_same_series q) new ≡ cond (is_same_series s q) (Some one) (lookup (is_same_series q) old)
  set_by_parts s one old new updates q =
      sym (lookup_by_parts q new) ∙ updates q ∙ ap (λ b. cond b (Some one) (lookup (eq q) old)) (same s q)
      ∙ ap (λ o. cond (is_same_series s q) (Some one) o) (lookup_by_parts q old)

  pub not_there : (P : Type 0) (q : Symbol) (es : List (Symbol × V)) → lookup (eq q) es ≡ None → IsSome (lookup (is_same_series q) es) → P
  not_there P q es none some = absurd (cc (sym (lookup_by_parts q es) ∙ none, ap is_some (sym (lookup_by_parts q es) ∙ none), some))
