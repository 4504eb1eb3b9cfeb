-- One table after a series is listed or quoted.
use Rattle.std.proofs.Common.{◌≡◌, ℕ, Bool, true, false, cond, List, get_or, Option, Some, None, Result, Ok, Err, refl, sym, ◌∙◌, ap, subst}
use Rattle.std.specs.Prelude.{is_ok, OnOk, OnErr, option_map}
use Rattle.std.specs.List.{insert, remove}
use Rattle.vx_symbol.specs.declared.symbols.Side.{Side}
use Rattle.vx_symbol.specs.declared.symbols.Side.TheVariants.{Call, Put}
use Rattle.vx_symbol.specs.declared.rows.Price.{Price}
use Rattle.vx_symbol.specs.declared.rows.StrikeRow.{StrikeRow}
use Rattle.vx_feed.specs.Same.{is_same_side}
use Rattle.vx_feed.specs.Listed.{no_price}
use Rattle.vx_check.specs.declared.table.Half.{Half}
use Rattle.vx_check.specs.Rising.{Rises, item_at, StandsAt, FitsAt, IsWith}
use Rattle.vx_check.specs.Tables.{row_strike, half_strike, joined, row_once_listed, half_when_listed, row_with_price, half_with_price}
use Rattle.vx_check.specs.Tables.{half_when_quoted, ListsSeries}
use Rattle.vx_check.proofs.Rising.{item_that_stands, key_that_stands, none_that_fits, with_inserted, with_removed, with_same}

pub on_ok : {A E : Type 0} (r : Result A E) (P : Type 0) → (is_ok r ≡ true → P) → OnOk r P
on_ok (Ok a) P h = h refl
on_ok (Err e) P h = tt

pub on_ok_from : {A E : Type 0} (r : Result A E) (P Q : Type 0) → (P → Q) → OnOk r P → OnOk r Q
on_ok_from (Ok a) P Q f h = f h
on_ok_from (Err e) P Q f h = tt

pub on_err_from : {A E : Type 0} (r : Result A E) (P Q : Type 0) → (P → Q) → OnErr r P → OnErr r Q
on_err_from (Ok a) P Q f h = tt
on_err_from (Err e) P Q f h = f h

pub row_keeps_strike : (side : Side) (price : Price) (row : StrikeRow) → row_strike (row_with_price side price row) ≡ row_strike row
row_keeps_strike Put price row = refl
row_keeps_strike Call price row = refl

pub half_keeps_strike : (side : Side) (price : Price) (half : Half) → half_strike (half_with_price side price half) ≡ half_strike half
half_keeps_strike side price half = chosen (is_same_side half.side side) where
  chosen : (b : Bool) → half_strike (cond b (record { strike = half.strike; side = half.side; price = price }) half) ≡ half_strike half
  chosen true = refl
  chosen false = refl

joined_strike : (half : Half) (side : Side) → row_strike (joined half side) ≡ half_strike half
joined_strike half Put = refl
joined_strike half Call = refl

-- the strike's other side was listed
pub lists_second : (side : Side) (k place : ℕ) (rows new_rows : List StrikeRow) (halves new_halves : List Half) (half : Half) (row : StrikeRow)
    → StandsAt half_strike k place halves → Rises half_strike halves → half ≡ get_or halves place half → row ≡ joined half side
    → IsWith row_strike row.strike (Some row) rows new_rows → new_halves ≡ remove halves place → ListsSeries side k rows new_rows halves new_halves
lists_second side k place rows new_rows halves new_halves half row s r is e with_row removed =
    let item : item_at half_strike k halves ≡ Some half = item_that_stands half_strike k place halves half s ∙ ap Some (sym is) in
    let its_strike : row.strike ≡ k = ap row_strike e ∙ joined_strike half side ∙ ap half_strike is ∙ key_that_stands half_strike k place halves half s in
    let at_strike : IsWith row_strike k (Some row) rows new_rows = subst (λ n. IsWith row_strike n (Some row) rows new_rows) its_strike with_row in
    let in_rows : IsWith row_strike k (Some (joined half side)) rows new_rows = subst (λ (o : StrikeRow). IsWith row_strike k (Some o) rows new_rows) e at_strike in
    let in_halves : IsWith half_strike k None halves new_halves = subst (λ (l : List Half). IsWith half_strike k None halves l) (sym removed) (with_removed half_strike k place halves s r) in
    let Both : Option Half → Type 0 = λ o. (IsWith row_strike k (row_once_listed side o (item_at row_strike k rows)) rows new_rows) × IsWith half_strike k (half_when_listed side k o) halves new_halves in
    let both = subst Both (sym item) (in_rows, in_halves) in
    record { in_rows = both.0; in_halves = both.1 }

-- neither side was
pub lists_first : (side : Side) (k place : ℕ) (rows : List StrikeRow) (halves new_halves : List Half)
    → FitsAt half_strike k place halves → Rises row_strike rows → Rises half_strike halves
    → new_halves ≡ insert halves place (record { strike = k; side = side; price = no_price }) → ListsSeries side k rows rows halves new_halves
lists_first side k place rows halves new_halves s rows_rise r added =
    let half : Half = record { strike = k; side = side; price = no_price } in
    let item : item_at half_strike k halves ≡ None = none_that_fits half_strike k place 0 halves s r in
    let in_rows : IsWith row_strike k (item_at row_strike k rows) rows rows = with_same row_strike k rows rows_rise in
    let in_halves : IsWith half_strike k (Some half) halves new_halves = subst (λ (l : List Half). IsWith half_strike k (Some half) halves l) (sym added) (with_inserted half_strike half place halves s r) in
    let Both : Option Half → Type 0 = λ o. (IsWith row_strike k (row_once_listed side o (item_at row_strike k rows)) rows rows) × IsWith half_strike k (half_when_listed side k o) halves new_halves in
    let both = subst Both (sym item) (in_rows, in_halves) in
    record { in_rows = both.0; in_halves = both.1 }

-- a strike that has a row has no side alone
pub quoted_in_row : (side : Side) (price : Price) (k place : ℕ) (rows : List StrikeRow) (halves : List Half) (row : StrikeRow)
    → StandsAt row_strike k place rows → Rises half_strike halves → IsWith half_strike k (half_when_quoted side price (item_at row_strike k rows) (item_at half_strike k halves)) halves halves
quoted_in_row side price k place rows halves row s r =
    let item : item_at row_strike k rows ≡ Some (get_or rows place row) = item_that_stands row_strike k place rows row s in
    subst (λ (o : Option StrikeRow). IsWith half_strike k (half_when_quoted side price o (item_at half_strike k halves)) halves halves) (sym item) (with_same half_strike k halves r)

pub quoted_alone : (side : Side) (price : Price) (k place : ℕ) (rows : List StrikeRow) (halves new_halves : List Half)
    → FitsAt row_strike k place rows → Rises row_strike rows → IsWith half_strike k (option_map (half_with_price side price) (item_at half_strike k halves)) halves new_halves
    → IsWith half_strike k (half_when_quoted side price (item_at row_strike k rows) (item_at half_strike k halves)) halves new_halves
quoted_alone side price k place rows halves new_halves s r h =
    let item : item_at row_strike k rows ≡ None = none_that_fits row_strike k place 0 rows s r in
    subst (λ (o : Option StrikeRow). IsWith half_strike k (half_when_quoted side price o (item_at half_strike k halves)) halves new_halves) (sym item) h
