-- Lists of values, and the values of JSON that hold them.
use Rattle.std.proofs.Common.{◌≡◌, ℕ, suc, ◌+◌, ◌<◌, ◌≤◌, Bool, List, [], ◌∷◌, map, drop, get_or, length, ◌&&◌, ◌||◌, refl, sym, ap, subst}
use Rattle.std.proofs.lemmas.List.{drop_all, drop_more}
use Rattle.std.specs.Prelude.{String, string_bytes}
use Rattle.std.specs.List.{list_all, list_any}
use Rattle.std.specs.Map.{keys_of as entry_keys}
use Rattle.std.specs.declared.alloc.Global.{Global}
use Rattle.serde.specs.Event.{Log, Logs, seq_ends}
use Rattle.serde_json.specs.Data.{Data}
use Rattle.serde_json.specs.Events.{items_len, SendsValue, SendsItems}
use Rattle.serde_json.specs.View.{items_of, members_view}
use Rattle.serde_json.specs.declared.value.Value.{Value}
use Rattle.vx_cert.specs.Form.{list_of_items, keys_of}

-- the values of a list of JSON are those that it was made of
pub list_of_items_of : (ds : List Data) → list_of_items (items_of ds) ≡ ds
list_of_items_of [] = refl
list_of_items_of (d ∷ ds) = ap (λ xs. d ∷ xs) (list_of_items_of ds)

-- a test of what a function gives, for some element
pub list_any_map : {X Y : Type 0} (test : X → Bool) (f : Y → X) (ys : List Y) → list_any test (map f ys) ≡ list_any (λ y. test (f y)) ys
list_any_map test f [] = refl
list_any_map test f (y ∷ ys) = ap (λ b. test (f y) || b) (list_any_map test f ys)

-- a test of the keys of an object, as bytes and as texts
pub list_all_keys : (test : List ℕ → Bool) (members : List (String Global × Value)) → list_all test (keys_of (members_view members)) ≡ list_all (λ key. test (string_bytes key)) (entry_keys members)
list_all_keys test [] = refl
list_all_keys test (m ∷ ms) = ap (λ b. test (string_bytes m.0) && b) (list_all_keys test ms)

-- a list of values sends as many as it was made of
pub mapped_len : {A : Type 0} (f : A → Data) (xs : List A) → items_len (items_of (map f xs)) ≡ length xs
mapped_len f [] = refl
mapped_len f (x ∷ xs) = ap suc (mapped_len f xs)

-- what ends a list well from an element on ends it well from the next one on
pub sent_item : {A : Type 0} (f : A → Data) (xs ys : List A) (i : ℕ) (d : A) (mid next : Log) (Well : Log → Type 0) → xs ≡ ys → i < length xs → SendsValue (f (get_or xs i d)) mid next
    → ((end : Log) → SendsItems (items_of (map f (drop i ys))) mid end → Well end) → (end : Log) → SendsItems (items_of (map f (drop (i + 1) ys))) next end → Well end
sent_item {A} f xs ys i d mid next Well same h sent =
    subst (λ (zs : List A). ((end : Log) → SendsItems (items_of (map f (drop i zs))) mid end → Well end) → (end : Log) → SendsItems (items_of (map f (drop (i + 1) zs))) next end → Well end) same
    (λ before end rest. before end (subst (λ (zs : List A). SendsItems (items_of (map f zs)) mid end) (sym (drop_more xs i d h)) (next, sent, rest)))

-- behind the last element the mark of the end does so
pub sent_all : {A : Type 0} (f : A → Data) (xs ys : List A) (i : ℕ) (mid end : Log) (Well : Log → Type 0) → xs ≡ ys → length xs ≤ i → ((end : Log) → SendsItems (items_of (map f (drop i ys))) mid end → Well end)
    → Logs mid end seq_ends → Well end
sent_all {A} f xs ys i mid end Well same h before ended =
    let most : length ys ≤ i = subst (λ (zs : List A). length zs ≤ i) same h in
    before end (subst (λ (zs : List A). SendsItems (items_of (map f zs)) mid end) (sym (drop_all i ys most)) ended)
