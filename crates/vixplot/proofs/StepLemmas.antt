-- The first of some steps that passes a test, where the last one passes.
use Rattle.std.proofs.Common.{◌≡◌, ℕ, Bool, true, false, cond, List, [], ◌∷◌, ◌++◌, Option, Some, refl}
use Rattle.std.specs.List.{find}
use Rattle.std.specs.Option.{option_map, unwrap_or}
use Rattle.std.proofs.lemmas.Iterator.Adapters.{option_map_id}

-- one more in front
more_in_front : (b : Bool) (x last : ℕ) (r : Option ℕ) → r ≡ Some (unwrap_or r last) → cond b (Some x) r ≡ Some (unwrap_or (cond b (Some x) r) last)
more_in_front true x last r h = refl
more_in_front false x last r h = h

-- there is a first one
find_or_last : (test : ℕ → Bool) (last : ℕ) (xs : List ℕ) → test last ≡ true → find test (xs ++ last ∷ []) ≡ Some (unwrap_or (find test (xs ++ last ∷ [])) last)
find_or_last test last [] h = rw h refl
find_or_last test last (x ∷ xs) h = more_in_front (test x) x last (find test (xs ++ last ∷ [])) (find_or_last test last xs h)

-- and it is what was found, or else the last
pub step_found : (test : ℕ → Bool) (last : ℕ) (xs : List ℕ) (r : Option ℕ) (step : ℕ) → option_map (λ x. x) r ≡ find test (xs ++ last ∷ []) → step ≡ unwrap_or r last → test last ≡ true → find test (xs ++ last ∷ []) ≡ Some step
step_found test last xs r step found taken h = let e = find_or_last test last xs h in let same = option_map_id r in cc
