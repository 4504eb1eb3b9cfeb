-- The tables of all expiries after one more event.
use Rattle.std.proofs.Common.{◌≡◌, ◌≢◌, ℕ, Bool, true, false, cond, not, ◌||◌, List, [], ◌∷◌, ◌++◌, map, Option, Some, None, option_and_then}
use Rattle.std.proofs.Common.{option_to_list, refl, sym, ◌∙◌, ap, subst, inl, inr}
use Rattle.std.specs.Prelude.{ℤ, find}
use Rattle.std.specs.List.{list_any}
use Rattle.std.specs.Option.{option_or, option_map_or}
use Rattle.std.proofs.lemmas.Bool.{cases_Bool}
use Rattle.std.proofs.lemmas.List.{append-nil}
use Rattle.vx_clock.specs.declared.terms.Expiry.{Expiry}
use Rattle.vx_symbol.specs.declared.symbols.Symbol.{Symbol}
use Rattle.vx_symbol.specs.declared.rows.StrikeRow.{StrikeRow}
use Rattle.vx_feed.specs.declared.events.Event.{Event}
use Rattle.vx_feed.specs.declared.events.Event.TheVariants as event
use Rattle.vx_feed.specs.Same.{is_same_expiry}
use Rattle.vx_feed.specs.Standing.{rate_of, standing_rate}
use Rattle.vx_feed.specs.Listed.{declared_expiries, declared_expiry, expiry_of, is_declared, is_listed, price_of}
use Rattle.vx_feed.specs.Order.{IsLawfulNext}
use Rattle.vx_feed.specs.Ranges.{IsPrice}
use Rattle.vx_feed.proofs.NextEvent.{next_rate}
use Rattle.vx_feed.proofs.SameAfter.{rate_same}
use Rattle.vx_feed.proofs.SameLemmas.{expiry_from_same}
use Rattle.vx_check.specs.declared.table.Half.{Half}
use Rattle.vx_check.specs.declared.table.Table.{Table}
use Rattle.vx_check.specs.Kept.{is_table_of}
use Rattle.vx_check.specs.Tables.{AreBoth, AreRising, IsEmptyTable, IsTableKept, SetsRate, ListsInTable, QuotesInTable, TradesInTable, ChangesTable}
use Rattle.vx_check.specs.Tables.{SameTables, TakesTables, expiry_of_table, PutsPrice}
use Rattle.vx_check.proofs.Pushes.{not_undeclared, not_duplicate}
use Rattle.vx_check.proofs.TableLists.{expiry_self}
use Rattle.vx_check.proofs.NextSeries.{Keeps, IsQuietAt, listed_rows_still_rise, keeps_quiet, keeps_listed, keeps_quoted, apart_listing, apart_quote}

abbrev pub rate_in : Option Table → Option ℤ
rate_in o = option_and_then (λ (table : Table). table.rate) o

abbrev pub rows_in : Option Table → List StrikeRow
rows_in o = option_map_or (λ (table : Table). table.rows.items) o []

abbrev pub halves_in : Option Table → List Half
halves_in o = option_map_or (λ (table : Table). table.halves.items) o []

-- what an expiry's table, if there is one, says of it
pub record Says (o : Option Table) (x : Expiry) (events : List Event) : Type 0 where
  pub rate_is : rate_in o ≡ standing_rate x events
  pub keeps : Keeps x events (rows_in o) (halves_in o)

says_quiet : (o : Option Table) (x : Expiry) (events : List Event) (e : Event) → rate_of x e ≡ None → ((k : ℕ) → IsQuietAt x k e) → Says o x events
    → Says o x (events ++ e ∷ [])
says_quiet o x events e none quiet h = record {
  rate_is = h.rate_is ∙ sym (rate_same x events e none);
  keeps = keeps_quiet x events e (rows_in o) (halves_in o) quiet h.keeps;
}

same_keeps : (x : Expiry) (events : List Event) (rows new_rows : List StrikeRow) (halves new_halves : List Half) → new_rows ≡ rows
    → new_halves ≡ halves → Keeps x events rows halves → Keeps x events new_rows new_halves
same_keeps x events rows new_rows halves new_halves r s h =
    subst (λ (l : List StrikeRow). Keeps x events l new_halves) (sym r) (subst (λ (l : List Half). Keeps x events rows l) (sym s) h)

-- ---- an empty table more

says_empty : (b : Bool) (t : Table) (x y : Expiry) (events : List Event) → IsEmptyTable y t → Says None x events → Says (cond b (Some t) None) x events
says_empty true t x y events empty h = record {
  rate_is = empty.rate ∙ h.rate_is;
  keeps = same_keeps x events [] t.rows.items [] t.halves.items empty.rows empty.halves h.keeps;
}
says_empty false t x y events empty h = h

found_or : (x : Expiry) (tables : List Table) (t : Table) (events : List Event) (y : Expiry) → IsEmptyTable y t
    → Says (find (is_table_of x) tables) x events → Says (find (is_table_of x) (tables ++ t ∷ [])) x events
found_or x [] t events y empty h = says_empty (is_table_of x t) t x y events empty h
found_or x (z ∷ zs) t events y empty h = by_test (is_table_of x z) (found_or x zs t events y empty) h where
  by_test : (b : Bool) → (Says (find (is_table_of x) zs) x events → Says (find (is_table_of x) (zs ++ t ∷ [])) x events)
      → Says (cond b (Some z) (find (is_table_of x) zs)) x events → Says (cond b (Some z) (find (is_table_of x) (zs ++ t ∷ []))) x events
  by_test true more h = h
  by_test false more h = more h

-- ---- the table of a declared expiry is there

pub none_declared : (x : Expiry) (tables : List Table) → find (is_table_of x) tables ≡ None → list_any (is_same_expiry x) (map expiry_of_table tables) ≡ false
none_declared x [] h = refl
none_declared x (z ∷ zs) h = by_test (is_table_of x z) (none_declared x zs) h where
  by_test : (b : Bool) → (find (is_table_of x) zs ≡ None → list_any (is_same_expiry x) (map expiry_of_table zs) ≡ false)
      → cond b (Some z) (find (is_table_of x) zs) ≡ None → (b || list_any (is_same_expiry x) (map expiry_of_table zs)) ≡ false
  by_test true more h = absurd (cc h)
  by_test false more h = more h

yes_from_not : (b : Bool) → not b ≡ false → b ≡ true
yes_from_not true h = refl
yes_from_not false h = absurd (cc h)

pub declared_if_there : (x : Expiry) (tables : List Table) (t : Table) → find (is_table_of x) tables ≡ Some t
    → list_any (is_same_expiry x) (map expiry_of_table tables) ≡ true
declared_if_there x [] t h = absurd (cc h)
declared_if_there x (z ∷ zs) t h = by_test (is_table_of x z) (declared_if_there x zs t) h where
  by_test : (b : Bool) → (find (is_table_of x) zs ≡ Some t → list_any (is_same_expiry x) (map expiry_of_table zs) ≡ true)
      → cond b (Some z) (find (is_table_of x) zs) ≡ Some t → (b || list_any (is_same_expiry x) (map expiry_of_table zs)) ≡ true
  by_test true more h = refl
  by_test false more h = more h

declared_there : (x : Expiry) (tables : List Table) (events : List Event) → map expiry_of_table tables ≡ declared_expiries events
    → not (is_declared x events) ≡ false → find (is_table_of x) tables ≢ None
declared_there x tables events same declared none =
    let yes : is_declared x events ≡ true = yes_from_not (is_declared x events) declared in
    let no : is_declared x events ≡ false = sym (ap (list_any (is_same_expiry x)) same) ∙ none_declared x tables none in
    let q : true ≡ false = sym yes ∙ no in
    cc q

-- ---- a rate

says_after_rate : (o new : Option Table) (x : Expiry) (rate : ℤ) (events : List Event) → o ≢ None → AreBoth (SetsRate rate) o new → Says o x events
    → Says new x (events ++ event.Rate x rate ∷ [])
says_after_rate None new x rate events there both h = absurd (there refl)
says_after_rate (Some t) None x rate events there both h = absurd both
says_after_rate (Some t) (Some u) x rate events there both h =
    let its : rate_of x (event.Rate x rate) ≡ Some rate = said (is_same_expiry x x) (expiry_self x) in
    let standing : standing_rate x (events ++ event.Rate x rate ∷ []) ≡ Some rate = next_rate x events (event.Rate x rate) ∙ ap (λ o. option_or o (standing_rate x events)) its in
    record {
      rate_is = both.rate_is ∙ sym standing;
      keeps = keeps_quiet x events (event.Rate x rate) u.rows.items u.halves.items (λ k side. (refl, refl))
          (same_keeps x events t.rows.items u.rows.items t.halves.items u.halves.items both.rows both.halves h.keeps);
    } where
      said : (b : Bool) → b ≡ true → cond b (Some rate) None ≡ Some rate
      said true e = refl
      said false e = absurd (cc e)

-- ---- a series

says_listed : (o new : Option Table) (s : Symbol) (events : List Event) → is_listed s events ≡ false → o ≢ None
    → AreBoth (ListsInTable s.side s.strike) o new → Says o (expiry_of s) events → Says new (expiry_of s) (events ++ event.Series s ∷ [])
says_listed None new s events unlisted there both h = absurd (there refl)
says_listed (Some t) None s events unlisted there both h = absurd both
says_listed (Some t) (Some u) s events unlisted there both h =
    let x = expiry_of s in
    let rising : AreRising t = record { rows = listed_rows_still_rise x events t.rows.items t.halves.items h.keeps; halves = h.keeps.halves_are.rises } in
    record {
      rate_is = both.rate ∙ h.rate_is ∙ sym (rate_same x events (event.Series s) refl);
      keeps = keeps_listed s events t.rows.items u.rows.items t.halves.items u.halves.items unlisted h.keeps (both.series rising);
    }

-- ---- a quote

none_quoted : (s : Symbol) (bid ask : ℕ) → PutsPrice s.side s.strike (price_of bid ask) [] [] [] []
none_quoted s bid ask = record {
  in_rows = record { rises = tt; at_key = refl; others = λ other ne. refl };
  in_halves = record { rises = tt; at_key = refl; others = λ other ne. refl };
}

says_quoted : (o new : Option Table) (time : ℕ) (s : Symbol) (bid ask : ℕ) (events : List Event) → IsPrice bid → IsPrice ask
    → AreBoth (QuotesInTable s.side s.strike bid ask) o new → Says o (expiry_of s) events → Says new (expiry_of s) (events ++ event.Quote time s bid ask ∷ [])
says_quoted None None time s bid ask events low high both h = record {
  rate_is = h.rate_is ∙ sym (rate_same (expiry_of s) events (event.Quote time s bid ask) refl);
  keeps = keeps_quoted time s bid ask events [] [] [] [] h.keeps (none_quoted s bid ask);
}
says_quoted None (Some u) time s bid ask events low high both h = absurd both
says_quoted (Some t) None time s bid ask events low high both h = absurd both
says_quoted (Some t) (Some u) time s bid ask events low high both h =
    let x = expiry_of s in
    let rising : AreRising t = record { rows = listed_rows_still_rise x events t.rows.items t.halves.items h.keeps; halves = h.keeps.halves_are.rises } in
    record {
      rate_is = both.rate ∙ h.rate_is ∙ sym (rate_same x events (event.Quote time s bid ask) refl);
      keeps = keeps_quoted time s bid ask events t.rows.items u.rows.items t.halves.items u.halves.items h.keeps (both.series low high rising);
    }

-- ---- a trade

says_traded : (o new : Option Table) (time : ℕ) (s : Symbol) (cents : ℕ) (events : List Event)
    → AreBoth (TradesInTable s.side s.strike cents) o new → Says o (expiry_of s) events → Says new (expiry_of s) (events ++ event.Trade time s cents ∷ [])
says_traded None None time s cents events both h = says_quiet None (expiry_of s) events (event.Trade time s cents) refl (λ k side. (refl, refl)) h
says_traded None (Some u) time s cents events both h = absurd both
says_traded (Some t) None time s cents events both h = absurd both
says_traded (Some t) (Some u) time s cents events both h =
    let x = expiry_of s in
    let e = event.Trade time s cents in
    record {
      rate_is = both.rate ∙ h.rate_is ∙ sym (rate_same x events e refl);
      keeps = keeps_quiet x events e u.rows.items u.halves.items (λ k side. (refl, refl))
          (same_keeps x events t.rows.items u.rows.items t.halves.items u.halves.items both.rows both.halves h.keeps);
    }

-- ---- any event

abbrev pub AllSay : List Table → List Event → Type 0
AllSay tables events = (x : Expiry) → Says (find (is_table_of x) tables) x events

-- one table is changed, and all others say what they said
all_after : (y : Expiry) (R : Table → Table → Type 0) (old new : List Table) (events : List Event) (e : Event) → ChangesTable y R old new
    → ((x : Expiry) → is_same_expiry x y ≡ false → rate_of x e ≡ None) → ((x : Expiry) → is_same_expiry x y ≡ false → (k : ℕ) → IsQuietAt x k e)
    → Says (find (is_table_of y) new) y (events ++ e ∷ []) → AllSay old events → AllSay new (events ++ e ∷ [])
all_after y R old new events e h none quiet own all x =
    elim (cases_Bool (is_same_expiry x y)) [
      | inl same ↦ subst (λ z. Says (find (is_table_of z) new) z (events ++ e ∷ [])) (sym (expiry_from_same x y same)) own
      | inr apart ↦ subst (λ (o : Option Table). Says o x (events ++ e ∷ [])) (sym (h.others x apart)) (says_quiet (find (is_table_of x) old) x events e (none x apart) (quiet x apart) (all x))
    ]

unsaid : (b : Bool) (rate : ℤ) → b ≡ false → cond b (Some rate) None ≡ None
unsaid true rate e = absurd (cc e)
unsaid false rate e = refl

same_all : (old new : List Table) (events : List Event) (e : Event) → ((x : Expiry) → rate_of x e ≡ None) → ((x : Expiry) (k : ℕ) → IsQuietAt x k e)
    → new ≡ old → AllSay old events → AllSay new (events ++ e ∷ [])
same_all old new events e none quiet same all x =
    subst (λ (l : List Table). Says (find (is_table_of x) l) x (events ++ e ∷ [])) (sym same) (says_quiet (find (is_table_of x) old) x events e (none x) (quiet x) (all x))

pub all_say_after : (opened : Bool) (old new : List Table) (events : List Event) (e : Event)
    → IsLawfulNext events e → map expiry_of_table old ≡ declared_expiries events → TakesTables opened e old new → AllSay old events → AllSay new (events ++ e ∷ [])
all_say_after opened old new events (event.Header day) lawful same h all = same_all old new events (event.Header day) (λ x. refl) (λ x k side. (refl, refl)) h all
all_say_after true old new events (event.Trade time s price) lawful same h all = same_all old new events (event.Trade time s price) (λ x. refl) (λ x k side. (refl, refl)) h all
all_say_after false old new events (event.Trade time s price) lawful same h all =
    let y = expiry_of s in
    all_after y (TradesInTable s.side s.strike price) old new events (event.Trade time s price) h (λ x apart. refl) (λ x apart k side. (refl, refl))
    (says_traded (find (is_table_of y) old) (find (is_table_of y) new) time s price events h.own (all y)) all
all_say_after opened old new events (event.Tick time) lawful same h all = same_all old new events (event.Tick time) (λ x. refl) (λ x k side. (refl, refl)) h all
all_say_after opened old new events (event.Opening time) lawful same h all = same_all old new events (event.Opening time) (λ x. refl) (λ x k side. (refl, refl)) h all
all_say_after opened old new events (event.End count) lawful same h all = same_all old new events (event.End count) (λ x. refl) (λ x k side. (refl, refl)) h all
all_say_after opened old new events (event.Expiry y) lawful same h all = λ x.
    let e = event.Expiry y in
    subst (λ (l : List Table). Says (find (is_table_of x) l) x (events ++ e ∷ [])) (sym h.added)
    (found_or x old h.table (events ++ e ∷ []) y h.is_empty (says_quiet (find (is_table_of x) old) x events e refl (λ k side. (refl, refl)) (all x)))
all_say_after opened old new events (event.Rate y rate) lawful same h all =
    let e = event.Rate y rate in
    let there = declared_there y old events same (not_undeclared events e lawful) in
    all_after y (SetsRate rate) old new events e h (λ x apart. unsaid (is_same_expiry x y) rate apart) (λ x apart k side. (refl, refl))
    (says_after_rate (find (is_table_of y) old) (find (is_table_of y) new) y rate events there h.own (all y)) all
all_say_after opened old new events (event.Series s) lawful same h all =
    let e = event.Series s in
    let y = expiry_of s in
    let there = declared_there y old events same (not_undeclared events e lawful) in
    all_after y (ListsInTable s.side s.strike) old new events e h (λ x apart. refl) (λ x apart. apart_listing x s apart)
    (says_listed (find (is_table_of y) old) (find (is_table_of y) new) s events (not_duplicate events e lawful) there h.own (all y)) all
all_say_after opened old new events (event.Quote time s bid ask) lawful same h all =
    let e = event.Quote time s bid ask in
    let y = expiry_of s in
    let range = lawful.in_range in
    all_after y (QuotesInTable s.side s.strike bid ask) old new events e h (λ x apart. refl) (λ x apart. apart_quote x time s bid ask apart)
    (says_quoted (find (is_table_of y) old) (find (is_table_of y) new) time s bid ask events range.2 range.3 h.own (all y)) all

-- ---- the expiries of the tables

expiries_added : (xs : List Table) (t : Table) (y : Expiry) → t.expiry ≡ y → map expiry_of_table (xs ++ t ∷ []) ≡ map expiry_of_table xs ++ y ∷ []
expiries_added [] t y e = ap (λ x. x ∷ []) e
expiries_added (z ∷ zs) t y e = ap (λ l. z.expiry ∷ l) (expiries_added zs t y e)

same_or_more : (old new : List Table) → map expiry_of_table new ≡ map expiry_of_table old → map expiry_of_table new ≡ map expiry_of_table old ++ []
same_or_more old new e = e ∙ sym (append-nil (map expiry_of_table old))

pub expiries_after : (opened : Bool) (old new : List Table) (e : Event) → TakesTables opened e old new
    → map expiry_of_table new ≡ map expiry_of_table old ++ option_to_list (declared_expiry e)
expiries_after opened old new (event.Header day) h = same_or_more old new (ap (map expiry_of_table) h)
expiries_after true old new (event.Trade time s price) h = same_or_more old new (ap (map expiry_of_table) h)
expiries_after false old new (event.Trade time s price) h = same_or_more old new h.expiries
expiries_after opened old new (event.Tick time) h = same_or_more old new (ap (map expiry_of_table) h)
expiries_after opened old new (event.Opening time) h = same_or_more old new (ap (map expiry_of_table) h)
expiries_after opened old new (event.End count) h = same_or_more old new (ap (map expiry_of_table) h)
expiries_after opened old new (event.Expiry y) h = ap (map expiry_of_table) h.added ∙ expiries_added old h.table y h.is_empty.expiry
expiries_after opened old new (event.Rate y rate) h = same_or_more old new h.expiries
expiries_after opened old new (event.Series s) h = same_or_more old new h.expiries
expiries_after opened old new (event.Quote time s bid ask) h = same_or_more old new h.expiries

-- ---- nothing changed

says_same : (o new : Option Table) (x : Expiry) (events : List Event) → AreBoth IsTableKept o new → Says o x events → Says new x events
says_same None None x events both h = h
says_same None (Some u) x events both h = absurd both
says_same (Some t) None x events both h = absurd both
says_same (Some t) (Some u) x events both h = record {
  rate_is = both.rate ∙ h.rate_is;
  keeps = same_keeps x events t.rows.items u.rows.items t.halves.items u.halves.items both.rows both.halves h.keeps;
}

pub all_say_still : (old new : List Table) (events : List Event) → SameTables old new → AllSay old events → AllSay new events
all_say_still old new events h all x = says_same (find (is_table_of x) old) (find (is_table_of x) new) x events (h.each x) (all x)
