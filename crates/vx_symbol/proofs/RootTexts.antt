-- Texts of six bytes, byte by byte.
use Rattle.std.proofs.Common.{◌≡◌, sym, ℕ, zero, suc, ◌<◌, true, List, [], ◌∷◌, length, get_or, arith}
use Rattle.std.specs.Str.{bytes_eq}
use Rattle.std.proofs.lemmas.List.{ext_get_or}
use Rattle.std.proofs.lemmas.Slice.Eq.{bytes_eq-Decides}

-- a text of six bytes that has each byte of another is that text
pub six_bytes : (text : List ℕ) (a b c d e f : ℕ) → length text ≡ 6
    → get_or text 0 0 ≡ a → get_or text 1 0 ≡ b → get_or text 2 0 ≡ c → get_or text 3 0 ≡ d → get_or text 4 0 ≡ e → get_or text 5 0 ≡ f
    → true ≡ bytes_eq text (a ∷ b ∷ c ∷ d ∷ e ∷ f ∷ [])
six_bytes text a b c d e f six at_a at_b at_c at_d at_e at_f =
    sym ((bytes_eq-Decides text (a ∷ b ∷ c ∷ d ∷ e ∷ f ∷ [])).1 (ext_get_or 0 text (a ∷ b ∷ c ∷ d ∷ e ∷ f ∷ []) six (λ i below. at i (omega arith))))
  where
    at : (i : ℕ) → i < 6 → get_or text i 0 ≡ get_or (a ∷ b ∷ c ∷ d ∷ e ∷ f ∷ []) i 0
    at zero below = at_a
    at (suc zero) below = at_b
    at (suc (suc zero)) below = at_c
    at (suc (suc (suc zero))) below = at_d
    at (suc (suc (suc (suc zero)))) below = at_e
    at (suc (suc (suc (suc (suc zero))))) below = at_f
    at (suc (suc (suc (suc (suc (suc i)))))) below = absurd (omega arith)
