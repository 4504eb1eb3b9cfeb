-- Steps along a list.
use Rattle.std.specs.Prelude.{◌≡◌, List, [], ◌∷◌}

-- one step for each element, in their order, leads from the first state to the last
abbrev pub Along : {A S : Type 0} → (S → A → S → Type 0) → S → List A → S → Type 0
Along Step first [] last = last ≡ first
Along {A} {S} Step first (x ∷ xs) last = (next : S) × Step first x next × Along Step next xs last
