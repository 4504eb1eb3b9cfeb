-- Rows in rising order: where a row goes, what another price changes, and which row has which number.
use Rattle.std.proofs.Common.{◌≡◌, ◌≢◌, ℕ, zero, suc, ◌+◌, ◌<◌, ◌≤◌, ◌==◌, List, [], ◌∷◌, ◌++◌, map, length, get_or, set, Option, Some, None, refl, sym, ap, subst, ◌∙◌, inl, inr, true, false, cond, arith}
use Rattle.std.specs.Prelude.{nat_le, nat_lt, slice_get, option_map, option_and_then}
use Rattle.std.specs.List.{insert}
use Rattle.std.specs.List.Sorted.{IsPartitionedBy, IsPartitionPoint}
use Rattle.std.proofs.lemmas.Bool.{cases_lt, eq-eqb, ne_eqb, leb-true, leb-false, le-leb}
use Rattle.std.proofs.lemmas.Bool.Decides.{nat_tests}
use Rattle.std.proofs.lemmas.Option.{get_or_from_slice_get, option_and_then_some, slice_get-get_or, slice_get-map, slice_get_within}
use Rattle.std.proofs.lemmas.List.{length-map}
use Rattle.std.proofs.lemmas.List.Edits.{length-insert}
use Rattle.std.proofs.lemmas.List.Elements.{All-map, All-push, All-weaker}
use Rattle.vx_symbol.specs.declared.symbols.Side.{Side}
use Rattle.vx_symbol.specs.declared.rows.Price.{Price}
use Rattle.vx_symbol.specs.declared.rows.StrikeRow.{StrikeRow}
use Rattle.vx_symbol.specs.Rows.{StrikesRise}
use Rattle.vx_feed.specs.NextRows.{insert_row}
use Rattle.vx_book.specs.declared.table.Table.{Table}
use Rattle.vx_book.specs.Tables.{AddsRow, ArePlaces, IsPlaceFor, moved_up, row_with, rows_with, strike_placed}
use Rattle.vx_book.proofs.Places.{get_before, get_inserted, get_insert, get_pushed, moved_up-le}

-- ---- the place of a strike

insert_row-below : (row r : StrikeRow) (rows : List StrikeRow) → row.strike < r.strike → insert_row row (r ∷ rows) ≡ row ∷ r ∷ rows
insert_row-below row r rows h = let t : nat_lt row.strike r.strike ≡ true = grind (arith, nat_tests) in rw t refl

insert_row-above : (row r : StrikeRow) (rows : List StrikeRow) → r.strike ≤ row.strike → insert_row row (r ∷ rows) ≡ r ∷ insert_row row rows
insert_row-above row r rows h = let t : nat_lt row.strike r.strike ≡ false = grind (arith, nat_tests) in rw t refl

inserts_there : (k place : ℕ) (rows : List StrikeRow) (row : StrikeRow) → place ≤ length rows → row.strike ≡ k
    → ((j : ℕ) (d : StrikeRow) → j < place → (get_or rows j d).strike ≤ k)
    → ((j : ℕ) (d : StrikeRow) → place ≤ j → j < length rows → k < (get_or rows j d).strike)
    → insert rows place row ≡ insert_row row rows
inserts_there k zero [] row le is low high = refl
inserts_there k zero (r ∷ rows) row le is low high =
    let above : k < r.strike = high 0 r (omega arith) (omega arith) in
    sym (insert_row-below row r rows (omega arith))
inserts_there k (suc place) [] row le is low high = absurd (omega arith)
inserts_there k (suc place) (r ∷ rows) row le is low high =
    let below : r.strike ≤ k = low 0 r (omega arith) in
    ap (λ l. r ∷ l) (inserts_there k place rows row (omega arith) is (λ j d h. low (suc j) d (omega arith)) (λ j d h l. high (suc j) d (omega arith) (omega arith)))
    ∙ sym (insert_row-above row r rows (omega arith))

pub rising_is_partitioned : (k : ℕ) (rows : List StrikeRow) → StrikesRise rows → IsPartitionedBy (λ row. nat_le row.strike k) rows
rising_is_partitioned k rows rising i j d le within h =
    elim (cases_lt i j) [
      | inl lt ↦
          let up : (get_or rows i d).strike < (get_or rows j d).strike = rising i j d lt within in
          let low = leb-true (get_or rows j d).strike k h in
          le-leb (get_or rows i d).strike k (omega arith)
      | inr ge ↦ (let same : i ≡ j = omega arith in ap (λ n. nat_le (get_or rows n d).strike k) same ∙ h)
    ]

pub place_is_for : (k place : ℕ) (rows : List StrikeRow) → place ≤ length rows
    → IsPartitionPoint (λ row. nat_le row.strike k ≡ true) (λ row. nat_le row.strike k ≡ false) rows place → IsPlaceFor k rows place
place_is_for k place rows le point = (
  le,
  λ row is. inserts_there k place rows row le is
      (λ j d h. leb-true (get_or rows j d).strike k (point.0 j d (omega arith) h))
      (λ j d h l. leb-false (get_or rows j d).strike k (point.1 j d h l)),
)

-- ---- another price of a row

rows_with_same : (k : ℕ) (side : Side) (price : Price) (rows : List StrikeRow)
    → ((j : ℕ) (d : StrikeRow) → j < length rows → (get_or rows j d).strike ≢ k) → rows_with k side price rows ≡ rows
rows_with_same k side price [] h = refl
rows_with_same k side price (r ∷ rows) h =
    let t : (r.strike == k) ≡ false = ne_eqb r.strike k (h 0 r (omega arith)) in
    ap (λ b. cond b (row_with side price r) r ∷ rows_with k side price rows) t
    ∙ ap (λ l. r ∷ l) (rows_with_same k side price rows (λ j d l. h (suc j) d (omega arith)))

pub rows_written : (k : ℕ) (side : Side) (price : Price) (rows : List StrikeRow) (i : ℕ) (row : StrikeRow) → StrikesRise rows
    → slice_get rows i ≡ Some row → row.strike ≡ k → set rows i (row_with side price row) ≡ rows_with k side price rows
rows_written k side price [] i row rising at is = absurd (cc at)
rows_written k side price (r ∷ rows) zero row rising at is =
    let same : r ≡ row = cc at in
    let t : (r.strike == k) ≡ true = eq-eqb r.strike k (ap (λ (x : StrikeRow). x.strike) same ∙ is) in
    ap (λ x. row_with side price x ∷ rows) (sym same)
    ∙ ap (λ l. row_with side price r ∷ l) (sym (rows_with_same k side price rows (λ j d l e.
    let apart : r.strike < (get_or rows j d).strike = rising 0 (suc j) d (omega arith) (omega arith) in
    let at_k = ap (λ (x : StrikeRow). x.strike) same ∙ is in
    omega arith)))
    ∙ ap (λ b. cond b (row_with side price r) r ∷ rows_with k side price rows) (sym t)
rows_written k side price (r ∷ rows) (suc i) row rising at is =
    let within = slice_get_within rows i row at in
    let item : Some (get_or rows i r) ≡ Some row = sym (slice_get-get_or rows i r within) ∙ at in
    let same : get_or rows i r ≡ row = cc item in
    let apart : r.strike < (get_or rows i r).strike = rising 0 (suc i) r (omega arith) (omega arith) in
    let at_k = ap (λ (x : StrikeRow). x.strike) same ∙ is in
    let t : (r.strike == k) ≡ false = ne_eqb r.strike k (λ e. omega arith) in
    ap (λ l. r ∷ l) (rows_written k side price rows i row (λ a b d lt l. rising (suc a) (suc b) d (omega arith) (omega arith)) at is)
    ∙ ap (λ b. cond b (row_with side price r) r ∷ rows_with k side price rows) (sym t)

-- ---- the rows by their numbers

abbrev pub strike_in : List StrikeRow → ℕ → Option ℕ
strike_in rows place = option_map (λ (row : StrikeRow). row.strike) (slice_get rows place)

-- the place of a number, and the row there
pub record HasRow (rows : List StrikeRow) (places : List ℕ) (n k : ℕ) : Type 0 where
  pub place : ℕ
  pub row : StrikeRow
  pub at_number : slice_get places n ≡ Some place
  pub at_place : slice_get rows place ≡ Some row
  pub strike : row.strike ≡ k

strike_of_some : (o : Option StrikeRow) (k : ℕ) → option_map (λ (row : StrikeRow). row.strike) o ≡ Some k → (row : StrikeRow) × (o ≡ Some row) × (row.strike ≡ k)
strike_of_some None k h = absurd (cc h)
strike_of_some (Some row) k h = (row, refl, cc h)

pub has_row : (rows : List StrikeRow) (places : List ℕ) (n k : ℕ) → strike_placed rows places n ≡ Some k → HasRow rows places n k
has_row rows places n k h =
    option_and_then_some (strike_in rows) (slice_get places n) k h (λ place at is.
    let found = strike_of_some (slice_get rows place) k is in
    record { place = place; row = found.0; at_number = at; at_place = found.1; strike = found.2 })

pub strike_from_row : (rows : List StrikeRow) (places : List ℕ) (n k : ℕ) → HasRow rows places n k → strike_placed rows places n ≡ Some k
strike_from_row rows places n k h =
    ap (option_and_then (strike_in rows)) h.at_number ∙ ap (option_map (λ (row : StrikeRow). row.strike)) h.at_place ∙ ap Some h.strike

abbrev pub with_place : ℕ → List ℕ → List ℕ
with_place at places = map (moved_up at) places ++ at ∷ []

pub strike_added : (rows : List StrikeRow) (places : List ℕ) (at : ℕ) (row : StrikeRow) → at ≤ length rows
    → strike_placed (insert rows at row) (with_place at places) (length places) ≡ Some row.strike
strike_added rows places at row le = strike_from_row (insert rows at row) (with_place at places) (length places) row.strike (record {
  place = at;
  row = row;
  at_number = ap (slice_get (with_place at places)) (sym (length-map places (moved_up at))) ∙ get_pushed (map (moved_up at) places) at;
  at_place = get_insert rows at row le;
  strike = refl;
})

pub strike_kept : (rows : List StrikeRow) (places : List ℕ) (at : ℕ) (row : StrikeRow) (n k : ℕ) → at ≤ length rows
    → strike_placed rows places n ≡ Some k → strike_placed (insert rows at row) (with_place at places) n ≡ Some k
strike_kept rows places at row n k le h =
    let has = has_row rows places n k h in
    strike_from_row (insert rows at row) (with_place at places) n k (record {
      place = moved_up at has.place;
      row = has.row;
      at_number = get_before (map (moved_up at) places) (at ∷ []) n (moved_up at has.place) (slice_get-map (moved_up at) places n ∙ ap (option_map (moved_up at)) has.at_number);
      at_place = get_inserted rows at has.place row has.row le has.at_place;
      strike = has.strike;
    })

pub places_added : (rows : List StrikeRow) (places : List ℕ) (at : ℕ) (row : StrikeRow) → at ≤ length rows → ArePlaces rows places
    → ArePlaces (insert rows at row) (with_place at places)
places_added rows places at row le placed =
    let more : length (insert rows at row) ≡ length rows + 1 = length-insert rows at row le in
    let P : ℕ → Type 0 = λ place. place < length (insert rows at row) in
    All-push P (map (moved_up at) places) at
    (All-map P (moved_up at) places (All-weaker (λ place. place < length rows) (λ place. P (moved_up at place)) (λ place h. let h' = moved_up-le at place (length rows) h in omega arith) places placed))
    (omega arith)

pub rows_set : (rows : List StrikeRow) (places : List ℕ) (n k : ℕ) (side : Side) (price : Price) (place : ℕ) (row new : StrikeRow) → StrikesRise rows
    → strike_placed rows places n ≡ Some k → place ≡ get_or places n place → row ≡ get_or rows place row → new ≡ row_with side price row
    → set rows place new ≡ rows_with k side price rows
rows_set rows places n k side price place row new rising at place_is row_is new_is =
    let has = has_row rows places n k at in
    let its_place : place ≡ has.place = place_is ∙ get_or_from_slice_get places n has.place place has.at_number in
    let at_place : slice_get rows place ≡ Some has.row = ap (slice_get rows) its_place ∙ has.at_place in
    let its_row : row ≡ has.row = row_is ∙ get_or_from_slice_get rows place has.row row at_place in
    ap (set rows place) new_is ∙ rows_written k side price rows place row rising (at_place ∙ ap Some (sym its_row)) (ap (λ (r : StrikeRow). r.strike) its_row ∙ has.strike)

pub adds_row : (row : StrikeRow) (old new : Table) (at number : ℕ) → IsPlaceFor row.strike old.rows.items at → ArePlaces old.rows.items old.places.items
    → new.rate ≡ old.rate → new.rows.items ≡ insert old.rows.items at row → new.places.items ≡ with_place at old.places.items
    → number ≡ length old.places.items → AddsRow row old new number
adds_row row old new at number place placed rate rows places is =
    let from = old.rows.items in
    let numbers = old.places.items in
    record {
      rate = rate;
      rows = rows ∙ place.1 row refl;
      placed = (let P : List StrikeRow → Type 0 = λ l. ArePlaces l new.places.items in subst P (sym rows) (subst (ArePlaces (insert from at row)) (sym places) (places_added from numbers at row place.0 placed)));
      its_strike = ap (λ l. strike_placed l new.places.items number) rows ∙ ap (λ l. strike_placed (insert from at row) l number) places ∙ ap (strike_placed (insert from at row) (with_place at numbers)) is
          ∙ strike_added from numbers at row place.0;
      others = λ n k h. ap (λ l. strike_placed l new.places.items n) rows ∙ ap (λ l. strike_placed (insert from at row) l n) places ∙ strike_kept from numbers at row n k place.0 h;
    }
