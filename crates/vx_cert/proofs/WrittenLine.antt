-- The line that a certificate is written as has no byte below the space, and its length is bounded.
use Rattle.std.proofs.Common.{◌≡◌, refl, ℕ, zero, suc, ◌/◌, ◌%◌, ◌<◌, ◌≤◌, Bool, true, false, cond, List, [], ◌∷◌, ◌++◌, pos, negsuc, arith}
use Rattle.std.specs.Prelude.{◌==◌, nat_le, nat_lt}
use Rattle.std.specs.Char.{digit_char}
use Rattle.std.specs.List.{All, list_all}
use Rattle.std.specs.Fmt.{decimal, digits, digits_onto, digit_glyph}
use Rattle.std.proofs.lemmas.Bool.{and_parts, leb-true}
use Rattle.std.proofs.lemmas.Bool.Decides.{nat_tests}
use Rattle.std.proofs.lemmas.List.Elements.{All-nil, All-cons, All-append}
use Rattle.json.specs.Print.{escape_letter, escape_byte, escape, quoted}
use Rattle.serde_json.specs.Data.{Num, unsigned, negative, float, Data, null, boolean, number, string, array, object, Items, no_items, item, Members, no_members, member}
use Rattle.serde_json.specs.Written.{number_text, compact_text, items_text, members_text, comma_if}

-- a space or above it
abbrev IsVisible : ℕ → Type 0
IsVisible byte = 32 ≤ byte

cons : (b : ℕ) (bs : List ℕ) → 32 ≤ b → All IsVisible bs → All IsVisible (b ∷ bs)
cons b bs h rest = All-cons IsVisible b bs h rest

join : (xs ys : List ℕ) → All IsVisible xs → All IsVisible ys → All IsVisible (xs ++ ys)
join xs ys h k = All-append IsVisible xs ys h k

none : All IsVisible []
none = All-nil IsVisible

-- the same by a test
visible : (xs : List ℕ) → list_all (nat_le 32) xs ≡ true → All IsVisible xs
visible [] h = none
visible (x ∷ xs) h =
    let p = and_parts (nat_le 32 x) (list_all (nat_le 32) xs) h in
    cons x xs (leb-true 32 x p.0) (visible xs p.1)

-- ---- numbers

glyph_visible : (d : ℕ) → d < 10 → 32 ≤ digit_glyph false d
glyph_visible d h = let small : nat_lt d 10 ≡ true = grind (arith, nat_tests) in rw small (omega arith)

either : (t : Bool) (xs ys : List ℕ) → All IsVisible xs → All IsVisible ys → All IsVisible (cond t xs ys)
either true xs ys h k = h
either false xs ys h k = k

glyphs : (k n : ℕ) (rest : List ℕ) → All IsVisible rest → All IsVisible (digits_onto k 10 false n rest)
glyphs zero n rest h = h
glyphs (suc k) n rest h =
    let front = cons (digit_glyph false (n % 10)) rest (glyph_visible (n % 10) (omega arith)) h in
    either (n / 10 == 0) (digit_glyph false (n % 10) ∷ rest) (digits_onto k 10 false (n / 10) (digit_glyph false (n % 10) ∷ rest)) front
    (glyphs k (n / 10) (digit_glyph false (n % 10) ∷ rest) front)

decimal_visible : (n : ℕ) → All IsVisible (decimal n)
unfolding digits
decimal_visible n = glyphs 64 n [] none

number_visible : (n : Num) → All IsVisible (number_text n)
number_visible (unsigned n) = decimal_visible n
number_visible (negative (pos n)) = decimal_visible n
number_visible (negative (negsuc n)) = cons 45 (decimal (suc n)) (omega arith) (decimal_visible (suc n))
number_visible (float x) = none

-- ---- texts

letter_visible : (x : ℕ) → 0 < escape_letter x → 32 ≤ escape_letter x
letter_visible x h = grind (arith, nat_tests)

digit_char_visible : (d : ℕ) → 32 ≤ digit_char d
digit_char_visible d = grind (arith, nat_tests)

escaped : (x l : ℕ) → l ≡ escape_letter x → All IsVisible (cond (nat_lt 0 l) (92 ∷ l ∷ []) (cond (nat_lt x 32) (92 ∷ 117 ∷ 48 ∷ 48 ∷ digit_char (x / 16) ∷ digit_char (x % 16) ∷ []) (x ∷ [])))
escaped x l e = by_letter (nat_lt 0 l) refl
  where
    by_control : (t : Bool) → nat_lt x 32 ≡ t → All IsVisible (cond t (92 ∷ 117 ∷ 48 ∷ 48 ∷ digit_char (x / 16) ∷ digit_char (x % 16) ∷ []) (x ∷ []))
    by_control true f =
        let last = cons (digit_char (x % 16)) [] (digit_char_visible (x % 16)) none in
        let both = cons (digit_char (x / 16)) (digit_char (x % 16) ∷ []) (digit_char_visible (x / 16)) last in
        join (92 ∷ 117 ∷ 48 ∷ 48 ∷ []) (digit_char (x / 16) ∷ digit_char (x % 16) ∷ []) (visible (92 ∷ 117 ∷ 48 ∷ 48 ∷ []) refl) both
    by_control false f = cons x [] (grind (arith, nat_tests)) none

    by_letter : (t : Bool) → nat_lt 0 l ≡ t → All IsVisible (cond t (92 ∷ l ∷ []) (cond (nat_lt x 32) (92 ∷ 117 ∷ 48 ∷ 48 ∷ digit_char (x / 16) ∷ digit_char (x % 16) ∷ []) (x ∷ [])))
    by_letter true f =
        let some : 0 < escape_letter x = grind (arith, nat_tests) in
        let least = letter_visible x some in
        cons 92 (l ∷ []) (omega arith) (cons l [] (omega (arith, e)) none)
    by_letter false f = by_control (nat_lt x 32) refl

byte_visible : (x : ℕ) → All IsVisible (escape_byte x)
unfolding escape_byte
byte_visible x = escaped x (escape_letter x) refl

escape_visible : (xs : List ℕ) → All IsVisible (escape xs)
escape_visible [] = none
escape_visible (x ∷ xs) = join (escape_byte x) (escape xs) (byte_visible x) (escape_visible xs)

quoted_visible : (xs : List ℕ) → All IsVisible (quoted xs)
quoted_visible xs = cons 34 (escape xs ++ 34 ∷ []) (omega arith) (join (escape xs) (34 ∷ []) (escape_visible xs) (cons 34 [] (omega arith) none))

-- ---- values

comma_visible : (later : Bool) → All IsVisible (comma_if later)
comma_visible true = cons 44 [] (omega arith) none
comma_visible false = none

boolean_visible : (b : Bool) → All IsVisible (compact_text (boolean b))
boolean_visible true = visible (116 ∷ 114 ∷ 117 ∷ 101 ∷ []) refl
boolean_visible false = visible (102 ∷ 97 ∷ 108 ∷ 115 ∷ 101 ∷ []) refl

mutual
  -- no byte of a written value is below the space
  pub value_visible : (d : Data) → All IsVisible (compact_text d)
  value_visible null = visible (110 ∷ 117 ∷ 108 ∷ 108 ∷ []) refl
  value_visible (boolean b) = boolean_visible b
  value_visible (number n) = number_visible n
  value_visible (string s) = quoted_visible s
  value_visible (array ds) = cons 91 (items_text false ds) (omega arith) (items_visible false ds)
  value_visible (object ms) = cons 123 (members_text false ms) (omega arith) (members_visible false ms)

  items_visible : (later : Bool) (ds : Items) → All IsVisible (items_text later ds)
  items_visible later no_items = cons 93 [] (omega arith) none
  items_visible later (item d ds) = join (comma_if later) (compact_text d ++ items_text true ds) (comma_visible later) (join (compact_text d) (items_text true ds) (value_visible d) (items_visible true ds))

  members_visible : (later : Bool) (ms : Members) → All IsVisible (members_text later ms)
  members_visible later no_members = cons 125 [] (omega arith) none
  members_visible later (member k d ms) =
      join (comma_if later) (quoted k ++ 58 ∷ (compact_text d ++ members_text true ms)) (comma_visible later)
      (join (quoted k) (58 ∷ (compact_text d ++ members_text true ms)) (quoted_visible k)
      (cons 58 (compact_text d ++ members_text true ms) (omega arith) (join (compact_text d) (members_text true ms) (value_visible d) (members_visible true ms))))
