-- The tables of the expiries after one more event.
use Rattle.std.proofs.Common.{◌≡◌, ◌≢◌, ◌∙◌, sym, ap, subst, refl, inl, inr, ℕ, ℤ, ◌+◌, ◌<◌, true, false, ◌&&◌, List, [], ◌∷◌, ◌++◌, length, set, Option, Some, None, arith}
use Rattle.std.specs.Prelude.{IsSomeAnd, slice_get}
use Rattle.std.proofs.lemmas.Bool.{cases_Bool}
use Rattle.std.proofs.lemmas.List.{length-set}
use Rattle.std.proofs.lemmas.Option.{slice_get_within}
use Rattle.std.proofs.lemmas.Bool.Decides.{Decides-int_eq}
use Rattle.vx_clock.specs.declared.terms.Expiry.{Expiry}
use Rattle.vx_clock.specs.declared.terms.Root.{Root}
use Rattle.vx_clock.specs.declared.terms.Root.TheVariants.{Spx, Spxw}
use Rattle.vx_symbol.specs.declared.rows.StrikeRow.{StrikeRow}
use Rattle.vx_feed.specs.declared.events.Event.{Event}
use Rattle.vx_feed.specs.Same.{is_same_day, is_same_expiry, is_same_root}
use Rattle.vx_feed.specs.Standing.{standing_rate}
use Rattle.vx_feed.specs.Listed.{listed_rows}
use Rattle.vx_feed.proofs.SameLemmas.{expiry_from_same}
use Rattle.vx_book.specs.declared.table.Table.{Table}
use Rattle.vx_book.specs.StandsFor.{AreDistinct, Shows, TableStandsFor, TablesStandFor}
use Rattle.vx_book.proofs.Places.{get_before, get_of_pushed, get_pushed, get_unwritten, get_written}

-- ---- an item that may be there

module _ {X : Type 0} where
  pub and_here : (o : Option X) (P : X → Type 0) (y : X) → o ≡ Some y → P y → IsSomeAnd o P
  and_here o P y is p = subst (λ (v : Option X). IsSomeAnd v P) (sym is) p

  pub and_there : (o : Option X) (P : X → Type 0) (R : Type 0) → IsSomeAnd o P → ((y : X) → o ≡ Some y → P y → R) → R
  and_there None P R h goes = absurd h
  and_there (Some y) P R h goes = goes y refl h

-- ---- an expiry is the same as itself

root_itself : (r : Root) → is_same_root r r ≡ true
root_itself Spx = refl
root_itself Spxw = refl

pub expiry_itself : (x : Expiry) → is_same_expiry x x ≡ true
expiry_itself x = ap (λ b. b && is_same_day x.date x.date) (root_itself x.root) ∙ (Decides-int_eq (x.date).0 (x.date).0).1 refl

-- ---- what is shown

pub shows_next : (rate_due rate_next : Option ℤ) (rows_due rows_next : List StrikeRow) (rate : Option ℤ) (rows : List StrikeRow) → rate_next ≡ rate_due → rows_next ≡ rows_due
    → Shows rate_due rows_due rate rows → Shows rate_next rows_next rate rows
shows_next rate_due rate_next rows_due rows_next rate rows same_rate same_rows h = record {
  rate_is = h.rate_is ∙ sym same_rate;
  rate_in_range = h.rate_in_range;
  rows_are = h.rows_are ∙ sym same_rows;
  rows_lawful = h.rows_lawful;
}

-- the event leaves the rate and the rows of the expiry as they are
pub record LeavesTerm (x : Expiry) (events : List Event) (e : Event) : Type 0 where
  pub rate : standing_rate x (events ++ e ∷ []) ≡ standing_rate x events
  pub rows : listed_rows x (events ++ e ∷ []) ≡ listed_rows x events

pub table_left : (x : Expiry) (events : List Event) (e : Event) (table : Table) → LeavesTerm x events e → TableStandsFor x events table → TableStandsFor x (events ++ e ∷ []) table
table_left x events e table left h = record {
  shows = shows_next (standing_rate x events) (standing_rate x (events ++ e ∷ [])) (listed_rows x events) (listed_rows x (events ++ e ∷ [])) table.rate table.rows.items left.rate left.rows h.shows;
  placed = h.placed;
}

-- no expiry's rate or rows change
pub tables_left : (xs : List Expiry) (tables : List Table) (events : List Event) (e : Event) → ((x : Expiry) → LeavesTerm x events e)
    → TablesStandFor xs tables events → TablesStandFor xs tables (events ++ e ∷ [])
tables_left xs tables events e left h = record {
  as_many = h.as_many;
  each = λ i x at.
      and_there (slice_get tables i) (TableStandsFor x events) (IsSomeAnd (slice_get tables i) (TableStandsFor x (events ++ e ∷ []))) (h.each i x at)
      (λ table there stands. and_here (slice_get tables i) (TableStandsFor x (events ++ e ∷ [])) table there (table_left x events e table (left x) stands));
}

-- the table of one expiry changes
pub tables_changed : (xs : List Expiry) (tables : List Table) (events : List Event) (e : Event) (i : ℕ) (x : Expiry) (new : Table)
    → AreDistinct xs → slice_get xs i ≡ Some x → TablesStandFor xs tables events → TableStandsFor x (events ++ e ∷ []) new
    → ((y : Expiry) → is_same_expiry y x ≡ false → LeavesTerm y events e) → TablesStandFor xs (set tables i new) (events ++ e ∷ [])
tables_changed xs tables events e i x new distinct own_place h own others = record {
  as_many = length-set tables i new ∙ h.as_many;
  each = λ j y at.
      let Goal : Type 0 = IsSomeAnd (slice_get (set tables i new) j) (TableStandsFor y (events ++ e ∷ [])) in
      elim (cases_Bool (is_same_expiry y x)) [
        | inl same ↦
            let is : y ≡ x = expiry_from_same y x same in
            let place : j ≡ i = distinct j i x (at ∙ ap Some is) own_place in
            let within : i < length tables = (let less = slice_get_within xs i x own_place in let many = h.as_many in omega arith) in
            and_here (slice_get (set tables i new) j) (TableStandsFor y (events ++ e ∷ [])) new (ap (slice_get (set tables i new)) place ∙ get_written tables i new within)
            (let P : Expiry → Type 0 = λ z. TableStandsFor z (events ++ e ∷ []) new in subst P (sym is) own)
        | inr other ↦
            let elsewhere : j ≢ i = λ same. (
            let both : Some y ≡ Some x = sym at ∙ ap (slice_get xs) same ∙ own_place in
            let is : y ≡ x = cc both in
            let no : true ≡ false = sym (expiry_itself x) ∙ ap (λ z. is_same_expiry z x) (sym is) ∙ other in
            absurd (cc no)) in
            let kept = get_unwritten tables i j new elsewhere in
            and_there (slice_get tables j) (TableStandsFor y events) Goal (h.each j y at)
            (λ table there stands. and_here (slice_get (set tables i new) j) (TableStandsFor y (events ++ e ∷ [])) table (kept ∙ there) (table_left y events e table (others y other) stands))
      ];
}

-- one expiry more
pub tables_added : (xs : List Expiry) (tables : List Table) (events : List Event) (e : Event) (x : Expiry) (new : Table)
    → TablesStandFor xs tables events → TableStandsFor x (events ++ e ∷ []) new → ((y : Expiry) → LeavesTerm y events e)
    → TablesStandFor (xs ++ x ∷ []) (tables ++ new ∷ []) (events ++ e ∷ [])
tables_added xs tables events e x new h own left = record {
  as_many = (let many = h.as_many in let a = more xs x in let b = more tables new in omega arith);
  each = λ i y at.
      let Goal : Type 0 = IsSomeAnd (slice_get (tables ++ new ∷ []) i) (TableStandsFor y (events ++ e ∷ [])) in
      get_of_pushed Goal xs x i y at
      (λ old. and_there (slice_get tables i) (TableStandsFor y events) Goal (h.each i y old)
      (λ table there stands. and_here (slice_get (tables ++ new ∷ []) i) (TableStandsFor y (events ++ e ∷ [])) table (get_before tables (new ∷ []) i table there) (table_left y events e table (left y) stands)))
      (λ last is. and_here (slice_get (tables ++ new ∷ []) i) (TableStandsFor y (events ++ e ∷ [])) new
      (ap (slice_get (tables ++ new ∷ [])) (last ∙ sym h.as_many) ∙ get_pushed tables new)
      (let P : Expiry → Type 0 = λ z. TableStandsFor z (events ++ e ∷ []) new in subst P is own));
}
  where
    more : {Y : Type 0} (ys : List Y) (y : Y) → length (ys ++ y ∷ []) ≡ length ys + 1
    more [] y = refl
    more (z ∷ ys) y = (let m = more ys y in omega arith)

-- no expiry stands at two places, and a new one at its own
pub distinct_added : (xs : List Expiry) (x : Expiry) → AreDistinct xs → ((i : ℕ) → slice_get xs i ≢ Some x) → AreDistinct (xs ++ x ∷ [])
distinct_added xs x distinct new i j y at_i at_j =
    get_of_pushed (i ≡ j) xs x i y at_i
    (λ old_i. get_of_pushed (i ≡ j) xs x j y at_j (λ old_j. distinct i j y old_i old_j) (λ last is. absurd (new i (old_i ∙ ap Some (sym is)))))
    (λ last is. get_of_pushed (i ≡ j) xs x j y at_j (λ old_j. absurd (new j (old_j ∙ ap Some (sym is)))) (λ also same. last ∙ sym also))
