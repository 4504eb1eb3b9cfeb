-- Steps along a list.
use Rattle.std.proofs.Common.{◌≡◌, ◌∙◌, sym, subst, refl, List, [], ◌∷◌, ◌++◌}
use Rattle.vx_drivers.specs.Along.{Along}

-- one step more
pub along_more : {A S : Type 0} (Step : S → A → S → Type 0) (first : S) (xs : List A) (x : A) (between last : S) → Along Step first xs between → Step between x last → Along Step first (xs ++ x ∷ []) last
along_more Step first [] x between last h step = (last, subst (λ s. Step s x last) h step, refl)
along_more Step first (y ∷ xs) x between last (next, h, more) step = (next, h, along_more Step next xs x between last more step)

-- steps that are each one are one together
pub along_one : {A S : Type 0} (Step : S → A → S → Type 0) → ((s : S) (x : A) (a b : S) → Step s x a → Step s x b → a ≡ b)
    → (xs : List A) (first a b : S) → Along Step first xs a → Along Step first xs b → a ≡ b
along_one Step one [] first a b h k = h ∙ sym k
along_one {A} {S} Step one (x ∷ xs) first a b (s, h, p) (t, k, q) =
    along_one Step one xs t a b (subst (λ (u : S). Along Step u xs a) (one first x s t h k) p) q
