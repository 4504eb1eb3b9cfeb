-- The line that a certificate is written as is read as the certificate's value of JSON.
use Rattle.std.proofs.Common.{◌≡◌, ℕ, suc, ◌^◌, ◌<◌, ◌≤◌, List, [], ◌∷◌, map, ℤ, pos, negsuc, Option, Some, refl, sym, ap, ap₂, ◌∙◌, arith, append-nil}
use Rattle.std.specs.Prelude.{⊤, max, nat_abs, option_map, option_and_then}
use Rattle.std.specs.List.{All}
use Rattle.std.proofs.lemmas.Int.{ints}
use Rattle.std.proofs.lemmas.List.Elements.{All-head, All-tail}
use Rattle.json.specs.Json as json
use Rattle.json.specs.Print.{IsNumber}
use Rattle.json.specs.Token.{Token}
use Rattle.json.specs.Tree as tree
use Rattle.json.specs.Tree.{HasNumbers, ItemsHaveNumbers, MembersHaveNumbers}
use Rattle.json.proofs.Printed.Decimals.{IsNumber-decimal, IsNumber-signed_decimal}
use Rattle.json.proofs.Printed.Tokens.{tokens-print}
use Rattle.json.proofs.Printed.Trees.{value-json_tokens, ArePrintable-json_tokens}
use Rattle.serde_json.specs.Data.{Num, unsigned, negative, float, Data, null, boolean, number, string, array, object, put}
use Rattle.serde_json.specs.Data.{Items, no_items, item, Members, no_members, member, depth, items_depth, members_depth}
use Rattle.serde_json.specs.Read.{read, max_depth, number_of, of_json, of_items, of_members}
use Rattle.serde_json.specs.View.{items_of}
use Rattle.serde_json.specs.Written.{number_text, outline, items_outline, members_outline, compact_text}
use Rattle.serde_json.proofs.Numbers.{number_of-decimal, number_of-negative}
use Rattle.serde_json.proofs.Texts.{print-outline}
use Rattle.vx_cert.specs.declared.certificate.Certificate.{Certificate}
use Rattle.vx_cert.specs.declared.certificate.CertBody.{CertBody}
use Rattle.vx_cert.specs.declared.certificate.CertBody.TheVariants.{K0, Single, Index, Soq}
use Rattle.vx_cert.specs.declared.certificate.CertTerm.{CertTerm}
use Rattle.vx_cert.specs.declared.certificate.Pair.{Pair}
use Rattle.vx_cert.specs.declared.rows.CertRow.{CertRow}
use Rattle.vx_cert.specs.Ranges.{IsTermInRange, IsBodyInRange, IsCertificateInRange}
use Rattle.vx_cert.specs.ReadBack.{IsReadBack}
use Rattle.vx_cert.specs.Written.{signed_number, wide_number, pair_data, row_data, term_data, data_by_kind, certificate_data, certificate_line}
use Rattle.vx_cert.proofs.ReadRanges.{FitsPair, FitsRow, FitsTerm, FitsBody, read_fits}
use Rattle.vx_cert.proofs.WrittenData.{certificate_depth}

-- ---- values whose text is read as they are

-- a reading puts the members of an object in, one after another
abbrev put_all : Members → Members → Members
put_all no_members found = found
put_all (member k d ms) found = put_all ms (put k d found)

abbrev IsReadNumber : Num → Type 0
IsReadNumber (unsigned n) = n < 2 ^ 64
IsReadNumber (negative (pos n)) = ⊥
IsReadNumber (negative (negsuc n)) = suc n < 2 ^ 63
IsReadNumber (float x) = ⊥

-- each number is whole and fits, and the keys of each object rise
abbrev mutual
  IsRead : Data → Type 0
  IsRead null = ⊤
  IsRead (boolean b) = ⊤
  IsRead (number n) = IsReadNumber n
  IsRead (string s) = ⊤
  IsRead (array ds) = AreItemsRead ds
  IsRead (object ms) = AreMembersRead ms × (put_all ms no_members ≡ ms)

  AreItemsRead : Items → Type 0
  AreItemsRead no_items = ⊤
  AreItemsRead (item d ds) = IsRead d × AreItemsRead ds

  AreMembersRead : Members → Type 0
  AreMembersRead no_members = ⊤
  AreMembersRead (member k d ms) = IsRead d × AreMembersRead ms

number_read : (n : Num) → IsReadNumber n → number_of (number_text n) ≡ Some n
number_read (unsigned n) h = number_of-decimal n h
number_read (negative (pos n)) h = absurd h
number_read (negative (negsuc n)) h = number_of-negative n (omega arith)
number_read (float x) h = absurd h

number_printed : (n : Num) → IsReadNumber n → IsNumber (number_text n)
number_printed (unsigned n) h = IsNumber-decimal n h
number_printed (negative (pos n)) h = absurd h
number_printed (negative (negsuc n)) h = IsNumber-signed_decimal (negsuc n) (omega arith)
number_printed (float x) h = absurd h

mutual
  value_read : (d : Data) → IsRead d → of_json (outline d) ≡ Some d
  value_read null h = refl
  value_read (boolean b) h = refl
  value_read (number n) h = ap (option_map number) (number_read n h)
  value_read (string s) h = refl
  value_read (array ds) h = ap (option_map array) (items_read ds h)
  value_read (object ms) h = ap (option_map object) (members_read ms no_members h.0 ∙ ap Some h.1)

  items_read : (ds : Items) → AreItemsRead ds → of_items (items_outline ds) ≡ Some ds
  items_read no_items h = refl
  items_read (item d ds) h = let first = value_read d h.0 in let rest = items_read ds h.1 in rw first (rw rest refl)

  members_read : (ms found : Members) → AreMembersRead ms → of_members (members_outline ms) found ≡ Some (put_all ms found)
  members_read no_members found h = refl
  members_read (member k d ms) found h = let first = value_read d h.0 in rw first (members_read ms (put k d found) h.1)

mutual
  value_printed : (d : Data) → IsRead d → HasNumbers (outline d)
  value_printed null h = tt
  value_printed (boolean b) h = tt
  value_printed (number n) h = number_printed n h
  value_printed (string s) h = tt
  value_printed (array ds) h = items_printed ds h
  value_printed (object ms) h = members_printed ms h.0

  items_printed : (ds : Items) → AreItemsRead ds → ItemsHaveNumbers (items_outline ds)
  items_printed no_items h = tt
  items_printed (item d ds) h = (value_printed d h.0, items_printed ds h.1)

  members_printed : (ms : Members) → AreMembersRead ms → MembersHaveNumbers (members_outline ms)
  members_printed no_members h = tt
  members_printed (member k d ms) h = (value_printed d h.0, members_printed ms h.1)

mutual
  value_depth : (d : Data) → tree.depth (outline d) ≡ depth d
  value_depth null = refl
  value_depth (boolean b) = refl
  value_depth (number n) = refl
  value_depth (string s) = refl
  value_depth (array ds) = ap suc (all_items_depth ds)
  value_depth (object ms) = ap suc (all_members_depth ms)

  all_items_depth : (ds : Items) → tree.items_depth (items_outline ds) ≡ items_depth ds
  all_items_depth no_items = refl
  all_items_depth (item d ds) = ap₂ max (value_depth d) (all_items_depth ds)

  all_members_depth : (ms : Members) → tree.members_depth (members_outline ms) ≡ members_depth ms
  all_members_depth no_members = refl
  all_members_depth (member k d ms) = ap₂ max (value_depth d) (all_members_depth ms)

-- what a reading makes of the value that stands at the front
abbrev whole : Option (json.Json × List Token) → Option Data
whole o = option_and_then of_json (option_and_then (λ p. json.if_last p.0 p.1) o)

value_is_read : (d : Data) → IsRead d → depth d ≤ max_depth → read (compact_text d) ≡ Some d
value_is_read d h shallow =
    let j = outline d in
    let lexed = tokens-print (tree.json_tokens j) (ArePrintable-json_tokens j (value_printed d h)) ∙ sym (append-nil (tree.json_tokens j)) in
    ap read (sym (print-outline d))
    ∙ ap whole (ap (json.value max_depth) lexed ∙ value-json_tokens j max_depth [] (omega (arith, shallow, value_depth d)))
    ∙ value_read d h

-- ---- the value of a certificate is one of them

signed_is_read : (z : ℤ) → nat_abs z < 2 ^ 63 → IsRead (signed_number z)
signed_is_read (pos n) h = omega arith
signed_is_read (negsuc n) h = omega arith

terms_are_read : (terms : List ℕ) → AreItemsRead (items_of (map (λ term. wide_number (pos term)) terms))
terms_are_read [] = tt
terms_are_read (term ∷ terms) = (tt, terms_are_read terms)

row_is_read : (row : CertRow) → FitsRow row → IsRead (row_data row)
row_is_read row h = (omega (arith, h.strike), (omega (arith, h.d), (omega (arith, h.q4), (tt, (tt, tt)))))

rows_are_read : (rows : List CertRow) → All FitsRow rows → AreItemsRead (items_of (map row_data rows))
rows_are_read [] h = tt
rows_are_read (row ∷ rows) h = (row_is_read row (All-head FitsRow row rows h), rows_are_read rows (All-tail FitsRow row rows h))

pair_is_read : (pair : Pair) → FitsPair pair → IsRead (pair_data pair)
pair_is_read pair h = (omega (arith, h.strike), (signed_is_read pair.d (omega (arith, ints, h.d_low, h.d_high)), tt))

term_is_read : (term : CertTerm) → IsTermInRange term → FitsTerm term → IsRead (term_data term)
term_is_read term h fits =
    let rate = signed_is_read term.rate (omega (arith, ints, h.rate_least, h.rate_greatest)) in (
      (
        tt,
        (
          (tt, (tt, tt)),
          (
            (terms_are_read term.t_lo, (terms_are_read term.t_hi, tt)),
            (
              (tt, (tt, tt)),
              (
                (tt, (tt, tt)),
                (
                  omega (arith, fits.k0),
                  (
                    omega (arith, h.minutes_last),
                    (
                      pair_is_read term.pair fits.pair,
                      (rate, (tt, (rows_are_read term.rows fits.rows, ((tt, (tt, tt)), ((tt, (tt, tt)), tt))))),
                    ),
                  ),
                ),
              ),
            ),
          ),
        ),
      ),
      refl,
    )

by_kind : (c : Certificate) (body : CertBody) → c.line < 2 ^ 64 → c.v < 2 ^ 64 → IsBodyInRange body → FitsBody body → IsRead (data_by_kind c body)
by_kind c (K0 expiry pair k0) line version inside fits = ((tt, (omega (arith, fits.1), (tt, (line, (pair_is_read pair fits.0, (tt, (tt, (version, tt)))))))), refl)
by_kind c (Single term figure) line version inside fits =
    ((omega (arith, inside.1.cents), ((tt, (tt, tt)), (tt, (line, (term_is_read term inside.0 fits, (tt, (version, ((tt, (tt, tt)), tt)))))))), refl)
by_kind c (Index days near next figure) line version inside fits =
    ((omega (arith, inside.3.cents), (omega (arith, inside.0), ((tt, (tt, tt)), (tt, (line, (term_is_read near inside.1 fits.0, (term_is_read next inside.2 fits.1, (tt, (version, ((tt, (tt, tt)), tt)))))))))), refl)
by_kind c (Soq term figure) line version inside fits =
    ((omega (arith, inside.1.cents), ((tt, (tt, tt)), (tt, (line, (term_is_read term inside.0 fits, (tt, (version, ((tt, (tt, tt)), tt)))))))), refl)

-- a certificate that is read back from its value has a line that is read as that value
pub written_line_is_read : (c : Certificate) → IsCertificateInRange c → IsReadBack c → read (certificate_line c) ≡ Some (certificate_data c)
written_line_is_read c h back =
    let fits = read_fits (certificate_data c) c back.read_back in
    value_is_read (certificate_data c) (by_kind c c.body (omega (arith, h.line_last)) (omega (arith, h.version_last)) h.body fits) (certificate_depth c)
