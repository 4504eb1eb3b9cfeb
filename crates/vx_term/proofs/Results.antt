-- What a result's value has, where it has one.
use Rattle.std.proofs.Common.{◌≡◌, ◌∙◌, sym, ap}
use Rattle.std.specs.Prelude.{Result, Ok, Err, IfOk}

-- one fact of the value gives another
pub if_ok : {A E : Type 0} {P Q : A → Type 0} (result : Result A E) → IfOk result P → ((a : A) → P a → Q a) → IfOk result Q
if_ok (Ok a) h f = f a h
if_ok (Err e) h f = h

abbrev value_or : {A E : Type 0} → A → Result A E → A
value_or d (Ok a) = a
value_or d (Err e) = d

-- a result has one value
pub same_ok : {A E : Type 0} (r : Result A E) (a b : A) → r ≡ Ok a → r ≡ Ok b → a ≡ b
same_ok r a b p q = sym (ap (value_or a) p) ∙ ap (value_or a) q
