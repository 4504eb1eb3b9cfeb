-- What a value of JSON says where a certificate has a field. A reading gives what is said there, or
-- None where the value has another form or lies out of range. This project's own format.
use Rattle.std.specs.Prelude.{ℕ, ◌-◌, ◌^◌, ℤ, pos, negsuc, neg_ℤ, int_lt, ◌&&◌, ◌==◌, Bool, nat_lt, nat_le, int_le, List, [], ◌∷◌, length, codes, if◌then◌else◌, Option, Some, None, option_map, option_and_then, unwrap_or, true}
use Rattle.std.specs.Result.{result_ok}
use Rattle.std.specs.List.{list_all, list_any}
use Rattle.std.specs.Str.{bytes_eq}
use Rattle.serde_json.specs.Data.{Data, Items, no_items, item, Members, no_members, member}
use Rattle.serde_json.specs.Find.{get, as_number, as_u64, as_i64, as_str, as_array, as_object}
use Rattle.vx_num.specs.Decimal as wide
use Rattle.vx_clock.specs.Clock.{time_of_text}
use Rattle.vx_clock.specs.Day.{day_of_text}
use Rattle.vx_clock.specs.RootText.{root_of_text}
use Rattle.vx_clock.specs.declared.days.DayNo.{DayNo}
use Rattle.vx_clock.specs.declared.terms.Root.{Root}
use Rattle.vx_cert.specs.declared.certificate.Ends.{Ends}
use Rattle.vx_cert.specs.declared.certificate.Pair.{Pair}
use Rattle.vx_cert.specs.declared.rows.CertRow.{CertRow}
use Rattle.vx_cert.specs.declared.limits.TheConstants.{END_BITS, INDEX_END_BITS, TAYLOR_TERMS, ROWS_MAX}
use Rattle.vx_cert.specs.declared.form.Kind.{Kind}
use Rattle.vx_cert.specs.declared.form.Kind.TheVariants.{Level, Single, Index, Soq}

-- the field of an object under a key, by its reading
abbrev pub at : {A : Type 0} → List ℕ → (Data → Option A) → Data → Option A
at key reading d = option_and_then reading (get key d)

-- a JSON whole number from low to high
abbrev pub whole_in : ℕ → ℕ → Data → Option ℕ
whole_in low high d =
    option_and_then (λ n. if nat_le low n && nat_le n high then Some n else None)
    (option_and_then as_u64 (as_number d))

-- a JSON whole number from low to high, with a sign
abbrev pub signed_in : ℤ → ℤ → Data → Option ℤ
signed_in low high d =
    option_and_then (λ z. if int_le low z && int_le z high then Some z else None)
    (option_and_then as_i64 (as_number d))

-- the root that is named
abbrev pub root_in : Data → Option Root
root_in d = option_and_then root_of_text (as_str d)

-- a day `yyyy-mm-dd` of the years 2000 to 2099
abbrev pub date_in : Data → Option DayNo
date_in d = option_and_then (λ text. result_ok (day_of_text text)) (as_str d)

-- the minute of the day that a text `hh:mm` names
abbrev pub time_in : Data → Option ℕ
time_in d = option_and_then time_of_text (as_str d)

-- the values of a list in order
abbrev pub list_of_items : Items → List Data
list_of_items no_items = []
list_of_items (item d ds) = d ∷ list_of_items ds

abbrev pub list_in : Data → Option (List Data)
list_in d = option_map list_of_items (as_array d)

-- what two parts say together, where both say something
abbrev pub both : {A B C : Type 0} → (A → B → C) → Option A → Option B → Option C
both f a b = option_and_then (λ x. option_map (f x) b) a

-- any whole number of 32 bits
abbrev pub word_in : Data → Option ℕ
word_in d = whole_in 0 (2 ^ 32 - 1) d

-- a strike and a difference of half prices
abbrev pub pair_named : List Data → Option Pair
pair_named (strike ∷ d ∷ []) =
    both (λ k z. record { strike = k; d = z }) (word_in strike)
    (signed_in (negsuc (2 ^ 31 - 1)) (pos (2 ^ 31 - 1)) d)
pair_named _ = None

abbrev pub pair_in : Data → Option Pair
pair_in d = option_and_then pair_named (list_in d)

-- the keys of an object
abbrev pub keys_of : Members → List (List ℕ)
keys_of no_members = []
keys_of (member key d ms) = key ∷ keys_of ms

-- a key is one of these
abbrev pub is_among : List (List ℕ) → List ℕ → Bool
is_among names key = list_any (λ name. bytes_eq name key) names

-- an object has no key but these
abbrev pub has_only : List (List ℕ) → Data → Bool
has_only names d = unwrap_or (option_map (λ ms. list_all (is_among names) (keys_of ms)) (as_object d)) true

-- the kind that a text names
abbrev pub kind_named : List ℕ → Option Kind
kind_named text =
    if bytes_eq text (codes "k0") then Some Level
    else (if bytes_eq text (codes "single") then Some Single
    else (if bytes_eq text (codes "index") then Some Index
    else (if bytes_eq text (codes "soq") then Some Soq else None)))

abbrev pub kind_in : Data → Option Kind
kind_in d = option_and_then kind_named (as_str d)

-- a wide number, below 2^126 in absolute value
abbrev pub wide_in : Data → Option ℤ
wide_in d = option_and_then (λ text. result_ok (wide.wide_of text END_BITS)) (as_str d)

-- a number from 0 to 2^64 - 1
abbrev pub part_in_range : ℤ → Option ℕ
part_in_range (pos n) = if nat_lt n (2 ^ 64) then Some n else None
part_in_range (negsuc n) = None

-- a wide number from 0 to 2^64 - 1
abbrev pub part_in : Data → Option ℕ
part_in d = option_and_then part_in_range (wide_in d)

-- a wide number below 2^63 in absolute value
abbrev pub index_end_in : Data → Option ℤ
index_end_in d =
    option_and_then (λ z. if int_lt (neg_ℤ (pos (2 ^ INDEX_END_BITS))) z && int_lt z (pos (2 ^ INDEX_END_BITS))
    then Some z else None) (wide_in d)

-- two wide numbers
abbrev pub ends_named : List Data → Option Ends
ends_named (lo ∷ hi ∷ []) = both (λ l h. record { lo = l; hi = h }) (wide_in lo) (wide_in hi)
ends_named _ = None

abbrev pub ends_in : Data → Option Ends
ends_in d = option_and_then ends_named (list_in d)

-- two ends of an index
abbrev pub index_ends_named : List Data → Option (ℤ × ℤ)
index_ends_named (lo ∷ hi ∷ []) = both (λ l h. (l, h)) (index_end_in lo) (index_end_in hi)
index_ends_named _ = None

abbrev pub index_ends_in : Data → Option (ℤ × ℤ)
index_ends_in d = option_and_then index_ends_named (list_in d)

-- what each value says, where each says something
abbrev pub all_read : {A B : Type 0} → (A → Option B) → List A → Option (List B)
all_read reading [] = Some []
all_read reading (x ∷ xs) = both (λ said others. said ∷ others) (reading x) (all_read reading xs)

-- 14 Taylor terms
abbrev pub taylor_named : List Data → Option (List ℕ)
taylor_named ds = if length ds == TAYLOR_TERMS then all_read part_in ds else None

-- two lists of 14 Taylor terms
abbrev pub taylor_pair : List Data → Option (List ℕ × List ℕ)
taylor_pair (low ∷ high ∷ []) =
    both (λ l h. (l, h)) (option_and_then taylor_named (list_in low))
    (option_and_then taylor_named (list_in high))
taylor_pair _ = None

abbrev pub taylor_in : Data → Option (List ℕ × List ℕ)
taylor_in d = option_and_then taylor_pair (list_in d)

-- a row: strike, doubled width, price and two ends
abbrev pub row_named : List Data → Option CertRow
row_named (strike ∷ d ∷ q4 ∷ lo ∷ hi ∷ []) =
    option_and_then (λ k. option_and_then (λ width. option_and_then (λ price.
    both (λ l h. record { strike = k; d = width; q4 = price; lo = l; hi = h })
    (part_in lo) (part_in hi)) (word_in q4)) (word_in d)) (word_in strike)
row_named _ = None

abbrev pub row_in : Data → Option CertRow
row_in d = option_and_then row_named (list_in d)

-- 1 to 2,000 rows
abbrev pub rows_named : List Data → Option (List CertRow)
rows_named ds =
    if nat_le 1 (length ds) && nat_le (length ds) ROWS_MAX then all_read row_in ds else None

abbrev pub rows_in : Data → Option (List CertRow)
rows_in d = option_and_then rows_named (list_in d)

-- an object
abbrev pub object_in : Data → Option Data
object_in d = option_map (λ _. d) (as_object d)
