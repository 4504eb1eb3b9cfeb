-- Lines that are written in parts.
use Rattle.std.proofs.Common.{◌≡◌, ◌∙◌, sym, ap, subst, ℕ, ◌≤◌, ℤ, List, [], ◌∷◌, ◌++◌, length, Result, Ok, Err, append_assoc, to_z, of_z, to_z-of_z, w64}
use Rattle.std.specs.Prelude.{FitsSigned, OnOk}
use Rattle.std.specs.Int.{w128}
use Rattle.vx_num.specs.Written.{signed_text}
use Rattle.vx_room.proofs.Lengths.{narrow_signed_short, wide_signed_short}
use Rattle.vx_drivers.specs.Sending.{Text}
use Rattle.vx_cli.specs.OutputLines.{comma_separated, line_of}

-- what holds where a call answers Ok gives what follows from it
pub on_ok : {T E A B : Type 0} (result : Result T E) → (A → B) → OnOk result A → OnOk result B
on_ok (Ok x) f h = f h
on_ok (Err e) f h = h

-- pieces, and a line of more behind a comma
pub pieces_more : (x : Text) (xs : List Text) (y : Text) (ys : List Text) → comma_separated (x ∷ xs) ++ 44 ∷ line_of (y ∷ ys) ≡ line_of (x ∷ xs ++ y ∷ ys)
pieces_more x [] y ys = sym (append_assoc x (44 ∷ comma_separated (y ∷ ys)) (10 ∷ []))
pieces_more x (z ∷ zs) y ys =
    append_assoc x (44 ∷ comma_separated (z ∷ zs)) (44 ∷ line_of (y ∷ ys))
    ∙ ap (λ t. x ++ 44 ∷ t) (pieces_more z zs y ys)
    ∙ sym (append_assoc x (44 ∷ comma_separated (z ∷ zs ++ y ∷ ys)) (10 ∷ []))

-- the same behind a text that is there
pub line_more : (old mid : Text) (x : Text) (xs : List Text) (y : Text) (ys : List Text) → mid ≡ old ++ comma_separated (x ∷ xs)
    → mid ++ 44 ∷ line_of (y ∷ ys) ≡ old ++ line_of (x ∷ xs ++ y ∷ ys)
line_more old mid x xs y ys is =
    ap (λ t. t ++ 44 ∷ line_of (y ∷ ys)) is ∙ append_assoc old (comma_separated (x ∷ xs)) (44 ∷ line_of (y ∷ ys))
    ∙ ap (λ t. old ++ t) (pieces_more x xs y ys)

-- a piece in front of the pieces of a line that stand behind a comma
pub piece_before : (x y : Text) (ys : List Text) (rest : Text) → rest ≡ 44 ∷ line_of (y ∷ ys) → x ++ rest ≡ line_of (x ∷ y ∷ ys)
piece_before x y ys rest is = ap (λ t. x ++ t) is ∙ pieces_more x [] y ys

-- ---- numbers as calls are given them have room

pub narrow_given_short : (z : ℤ) (places : ℕ) → FitsSigned w64 z → places ≤ 12 → length (signed_text (to_z w64 (of_z w64 z)) places) ≤ 21
narrow_given_short z places fits p = subst (λ y. length (signed_text y places) ≤ 21) (sym (to_z-of_z {w = w64} fits)) (narrow_signed_short z places fits p)

pub wide_given_short : (z : ℤ) (places : ℕ) → FitsSigned w128 z → places ≤ 12 → length (signed_text (to_z w128 (of_z w128 z)) places) ≤ 41
wide_given_short z places fits p = subst (λ y. length (signed_text y places) ≤ 41) (sym (to_z-of_z {w = w128} fits)) (wide_signed_short z places fits p)
