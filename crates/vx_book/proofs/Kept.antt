-- What is kept of the series after one more event.
use Rattle.std.proofs.Common.{◌≡◌, ◌∙◌, sym, ap, subst, refl, ℕ, Bool, true, false, cond, ◌&&◌, ◌==◌, List, [], ◌∷◌, ◌++◌, Option, Some, None}
use Rattle.std.specs.Prelude.{is_some, slice_get}
use Rattle.std.specs.List.{list_any}
use Rattle.std.specs.Option.{option_or}
use Rattle.std.proofs.lemmas.Bool.{and_parts, eq-eqb, eqb-true}
use Rattle.vx_clock.specs.declared.terms.Expiry.{Expiry}
use Rattle.vx_symbol.specs.declared.symbols.Side.{Side}
use Rattle.vx_symbol.specs.declared.symbols.Side.TheVariants.{Call, Put}
use Rattle.vx_symbol.specs.declared.symbols.Symbol.{Symbol}
use Rattle.vx_feed.specs.declared.events.Event.{Event}
use Rattle.vx_feed.specs.declared.events.Event.TheVariants as event
use Rattle.vx_feed.specs.Same.{is_same_expiry, is_same_series, is_same_side}
use Rattle.vx_feed.specs.Standing.{BidAsk, is_opening, lists_series, opening_trade, quote_of, standing_quote, trade_of}
use Rattle.vx_feed.specs.Listed.{expiry_of, is_listed, opposite, other_side, quoted_price, standing_price, price_of}
use Rattle.vx_feed.specs.Next.{quote_after, trade_after}
use Rattle.vx_feed.proofs.NextEvent.{next_quote, next_trade}
use Rattle.vx_feed.proofs.SameLemmas.{expiry_from_same, series-sym}
use Rattle.vx_book.specs.declared.series.Place.{Place}
use Rattle.vx_book.specs.declared.series.Place.TheVariants.{Alone, Row}
use Rattle.vx_book.specs.declared.series.Series.{Series}
use Rattle.vx_book.specs.declared.table.Table.{Table}
use Rattle.vx_book.specs.StandsFor.{KeptStandsFor, PlaceStandsFor, SeriesStandsFor, strike_kept}
use Rattle.vx_feed.proofs.SameAfter.{listed_same, listed_still, price_same, trade_opened, trade_same}
use Rattle.vx_book.proofs.Terms.{expiry_itself}

-- the event lists neither the series nor the one on its other side, and leaves its trade as it is, and its price where it is kept by itself
pub record LeavesSeries (s : Symbol) (events : List Event) (e : Event) : Type 0 where
  pub unlisted : lists_series s e ≡ false
  pub other : lists_series (other_side s) e ≡ false
  pub trade : opening_trade s (events ++ e ∷ []) ≡ opening_trade s events
  pub price : is_listed (other_side s) events ≡ false → standing_price (events ++ e ∷ []) s ≡ standing_price events s

-- an event that says nothing of the series
pub says_nothing : (s : Symbol) (events : List Event) (e : Event) → lists_series s e ≡ false → lists_series (other_side s) e ≡ false
    → quote_of s e ≡ None → trade_of s e ≡ None → LeavesSeries s events e
says_nothing s events e unlisted other quote trade = record {
  unlisted = unlisted;
  other = other;
  trade = trade_same s events e trade;
  price = λ alone. price_same s events e quote;
}

-- the expiries and the rows by their numbers, where none goes
pub record KeepsPlaces (xs xs_next : List Expiry) (tables tables_next : List Table) : Type 0 where
  pub expiries : (i : ℕ) (x : Expiry) → slice_get xs i ≡ Some x → slice_get xs_next i ≡ Some x
  pub strikes : (i n k : ℕ) → strike_kept tables i n ≡ Some k → strike_kept tables_next i n ≡ Some k

pub keeps_all : (xs : List Expiry) (tables : List Table) → KeepsPlaces xs xs tables tables
keeps_all xs tables = record { expiries = λ i x h. h; strikes = λ i n k h. h }

module _ (xs xs_next : List Expiry) (tables tables_next : List Table) (keeps : KeepsPlaces xs xs_next tables tables_next) (events : List Event) (e : Event) (s : Symbol) where
  pub place_left : (i : ℕ) (place : Place) → lists_series (other_side s) e ≡ false
      → (is_listed (other_side s) events ≡ false → standing_price (events ++ e ∷ []) s ≡ standing_price events s) → PlaceStandsFor tables events s i place → PlaceStandsFor tables_next (events ++ e ∷ []) s i place
  place_left i (Alone price) other same h = (listed_same (other_side s) events e other ∙ h.0, h.1 ∙ sym (same h.0), h.2)
  place_left i (Row n) other same h = (listed_still (other_side s) events e h.0, keeps.strikes i n s.strike h.1)

  pub kept_left : (one : Series) → LeavesSeries s events e → KeptStandsFor xs tables events s one → KeptStandsFor xs_next tables_next (events ++ e ∷ []) s one
  kept_left one left h = record {
    listed = listed_still s events e h.listed;
    expiry = keeps.expiries one.expiry (expiry_of s) h.expiry;
    traded = h.traded ∙ sym left.trade;
    trade_in_range = h.trade_in_range;
    place = place_left one.expiry one.place left.other left.price h.place;
  }

  pub series_left : (o : Option Series) → LeavesSeries s events e → SeriesStandsFor xs tables events s o → SeriesStandsFor xs_next tables_next (events ++ e ∷ []) s o
  series_left None left h = listed_same s events e left.unlisted ∙ h
  series_left (Some one) left h = kept_left one left h

-- what is kept of a listed series
pub listed_kept : (xs : List Expiry) (tables : List Table) (events : List Event) (s : Symbol) (o : Option Series) (one : Series) → o ≡ Some one
    → SeriesStandsFor xs tables events s o → KeptStandsFor xs tables events s one
listed_kept xs tables events s o one is h = subst (SeriesStandsFor xs tables events s) is h

pub unlisted_kept : (xs : List Expiry) (tables : List Table) (events : List Event) (s : Symbol) (o : Option Series) → o ≡ None
    → SeriesStandsFor xs tables events s o → is_listed s events ≡ false
unlisted_kept xs tables events s o is h = subst (SeriesStandsFor xs tables events s) is h

-- a series is listed just where something is kept of it
pub listed_by : (xs : List Expiry) (tables : List Table) (events : List Event) (s : Symbol) (o : Option Series) → SeriesStandsFor xs tables events s o → is_listed s events ≡ is_some o
listed_by xs tables events s None h = h
listed_by xs tables events s (Some one) h = h.listed

-- ---- the same series, and the one on the other side

side_from_same : (a b : Side) → is_same_side a b ≡ true → a ≡ b
side_from_same Call Call h = refl
side_from_same Call Put h = cc
side_from_same Put Call h = cc
side_from_same Put Put h = refl

side_itself : (a : Side) → is_same_side a a ≡ true
side_itself Call = refl
side_itself Put = refl

abbrev series_of : Expiry → Side → ℕ → Symbol
series_of x side k = record { root = x.root; date = x.date; side = side; strike = k }

pub series_from_same : (a b : Symbol) → is_same_series a b ≡ true → a ≡ b
series_from_same a b h =
    let first = and_parts (is_same_expiry (expiry_of a) (expiry_of b) && is_same_side a.side b.side) (a.strike == b.strike) h in
    let second = and_parts (is_same_expiry (expiry_of a) (expiry_of b)) (is_same_side a.side b.side) first.0 in
    ap (λ x. series_of x a.side a.strike) (expiry_from_same (expiry_of a) (expiry_of b) second.0)
    ∙ ap (λ side. series_of (expiry_of b) side a.strike) (side_from_same a.side b.side second.1)
    ∙ ap (series_of (expiry_of b) b.side) (eqb-true a.strike b.strike first.1)

pub series_itself : (s : Symbol) → is_same_series s s ≡ true
series_itself s =
    ap (λ b. b && is_same_side s.side s.side && (s.strike == s.strike)) (expiry_itself (expiry_of s))
    ∙ ap (λ b. b && (s.strike == s.strike)) (side_itself s.side) ∙ eq-eqb s.strike s.strike refl

side_flipped : (a b : Side) → is_same_side (opposite a) b ≡ is_same_side a (opposite b)
side_flipped Call Call = refl
side_flipped Call Put = refl
side_flipped Put Call = refl
side_flipped Put Put = refl

pub other_flipped : (t s : Symbol) → is_same_series (other_side t) s ≡ is_same_series t (other_side s)
other_flipped t s = ap (λ b. is_same_expiry (expiry_of t) (expiry_of s) && b && (t.strike == s.strike)) (side_flipped t.side s.side)

side_apart : (a : Side) → is_same_side (opposite a) a ≡ false
side_apart Call = refl
side_apart Put = refl

-- no series is its own other side
pub other_apart : (s : Symbol) → is_same_series (other_side s) s ≡ false
other_apart s =
    ap (λ b. b && is_same_side (opposite s.side) s.side && (s.strike == s.strike)) (expiry_itself (expiry_of s))
    ∙ ap (λ b. b && (s.strike == s.strike)) (side_apart s.side)

side_twice : (a : Side) → opposite (opposite a) ≡ a
side_twice Call = refl
side_twice Put = refl

pub other_twice : (s : Symbol) → other_side (other_side s) ≡ s
other_twice s = ap (λ side. series_of (expiry_of s) side s.strike) (side_twice s.side)

-- ---- what an event that may quote a series, trade it or list it leaves of each

-- a series that is not listed is left as it is by every quote and trade
abbrev pub ListsNone : Event → Type 0
ListsNone e = (t : Symbol) → lists_series t e ≡ false

quote_none : (q said : Option BidAsk) → quote_after false q said ≡ q
quote_none q None = refl
quote_none q (Some quote) = refl

trade_of_unlisted : (opened : Bool) (first said : Option ℕ) → trade_after opened false first said ≡ first
trade_of_unlisted true first said = refl
trade_of_unlisted false first said = refl

pub unlisted_left : (s : Symbol) (events : List Event) (e : Event) → ListsNone e → is_listed s events ≡ false → LeavesSeries s events e
unlisted_left s events e lists none = record {
  unlisted = lists s;
  other = lists (other_side s);
  trade = next_trade s events e ∙ ap (λ b. trade_after (list_any is_opening events) b (opening_trade s events) (trade_of s e)) none
      ∙ trade_of_unlisted (list_any is_opening events) (opening_trade s events) (trade_of s e);
  price = λ alone. ap quoted_price (next_quote s events e ∙ ap (λ b. quote_after b (standing_quote s events) (quote_of s e)) none ∙ quote_none (standing_quote s events) (quote_of s e));
}

quoted_apart : (t s : Symbol) (time bid ask : ℕ) → is_same_series t s ≡ false → quote_of t (event.Quote time s bid ask) ≡ None
quoted_apart t s time bid ask h = ap (λ b. cond b (Some (record { bid = bid; ask = ask })) None) h

pub quote_leaves : (t s : Symbol) (events : List Event) (time bid ask : ℕ) → is_same_series t s ≡ false → LeavesSeries t events (event.Quote time s bid ask)
quote_leaves t s events time bid ask h = says_nothing t events (event.Quote time s bid ask) refl refl (quoted_apart t s time bid ask h) refl

-- a series whose strike has a row does not keep its price by itself
pub row_leaves : (s : Symbol) (events : List Event) (time bid ask : ℕ) → is_listed (other_side s) events ≡ true → LeavesSeries s events (event.Quote time s bid ask)
row_leaves s events time bid ask both = record {
  unlisted = refl;
  other = refl;
  trade = trade_same s events (event.Quote time s bid ask) refl;
  price = λ alone. (let no : true ≡ false = sym both ∙ alone in absurd (cc no));
}

-- the price of a listed series that is quoted
pub price_quoted : (s : Symbol) (events : List Event) (time bid ask : ℕ) → is_listed s events ≡ true
    → standing_price (events ++ event.Quote time s bid ask ∷ []) s ≡ price_of bid ask
price_quoted s events time bid ask listed =
    let quote : BidAsk = record { bid = bid; ask = ask } in
    ap quoted_price (next_quote s events (event.Quote time s bid ask)
    ∙ ap (λ b. quote_after b (standing_quote s events) (quote_of s (event.Quote time s bid ask))) listed
    ∙ ap (λ b. quote_after true (standing_quote s events) (cond b (Some quote) None)) (series_itself s))

traded_apart : (t s : Symbol) (time price : ℕ) → is_same_series t s ≡ false → trade_of t (event.Trade time s price) ≡ None
traded_apart t s time price h = ap (λ b. cond b (Some price) None) h

pub trade_leaves : (t s : Symbol) (events : List Event) (time price : ℕ) → is_same_series t s ≡ false → LeavesSeries t events (event.Trade time s price)
trade_leaves t s events time price h = says_nothing t events (event.Trade time s price) refl refl refl (traded_apart t s time price h)

-- no trade counts once the opening was taken
pub late_trade_leaves : (t s : Symbol) (events : List Event) (time price : ℕ) → list_any is_opening events ≡ true → LeavesSeries t events (event.Trade time s price)
late_trade_leaves t s events time price opened = record {
  unlisted = refl;
  other = refl;
  trade = trade_opened t events (event.Trade time s price) opened;
  price = λ alone. price_same t events (event.Trade time s price) refl;
}

-- the opening trade of a listed series that trades before the opening
pub trade_taken : (s : Symbol) (events : List Event) (time price : ℕ) → list_any is_opening events ≡ false → is_listed s events ≡ true
    → opening_trade s (events ++ event.Trade time s price ∷ []) ≡ option_or (opening_trade s events) (Some price)
trade_taken s events time price opened listed =
    next_trade s events (event.Trade time s price)
    ∙ ap (λ b. trade_after b (is_listed s events) (opening_trade s events) (trade_of s (event.Trade time s price))) opened
    ∙ ap (λ b. trade_after false b (opening_trade s events) (trade_of s (event.Trade time s price))) listed
    ∙ ap (λ b. option_or (opening_trade s events) (cond b (Some price) None)) (series_itself s)

pub listing_leaves : (t s : Symbol) (events : List Event) → is_same_series t s ≡ false → is_same_series t (other_side s) ≡ false → LeavesSeries t events (event.Series s)
listing_leaves t s events apart other = says_nothing t events (event.Series s) apart (other_flipped t s ∙ other) refl refl

-- ---- one that is set

pub after_set : (P : Option Series → Type 0) (same : Bool) (one : Series) (old new : Option Series) → new ≡ cond same (Some one) old
    → (same ≡ true → P (Some one)) → (same ≡ false → P old) → P new
after_set P true one old new is there elsewhere = subst P (sym is) (there refl)
after_set P false one old new is there elsewhere = subst P (sym is) (elsewhere refl)

-- what stands for a series stands for the same one
pub at_same : (xs : List Expiry) (tables : List Table) (events : List Event) (s t : Symbol) (one : Series) → is_same_series s t ≡ true
    → KeptStandsFor xs tables events s one → KeptStandsFor xs tables events t one
at_same xs tables events s t one same h = (let P : Symbol → Type 0 = λ q. KeptStandsFor xs tables events q one in subst P (series_from_same s t same) h)

pub apart_turned : (s t : Symbol) → is_same_series s t ≡ false → is_same_series t s ≡ false
apart_turned s t h = series-sym t s ∙ h
