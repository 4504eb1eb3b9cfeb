-- The rows and the single sides of an expiry after one more event.
use Rattle.std.proofs.Common.{◌≡◌, ◌≢◌, ℕ, Bool, true, false, cond, ◌||◌, List, [], ◌∷◌, ◌++◌, Option, Some, None, refl, sym, ◌∙◌, ap, subst, inl, inr}
use Rattle.std.specs.Prelude.{option_map}
use Rattle.std.proofs.lemmas.Bool.{cases_eq}
use Rattle.std.proofs.Math.Bool.{or-true}
use Rattle.vx_clock.specs.declared.terms.Expiry.{Expiry}
use Rattle.vx_symbol.specs.declared.symbols.Side.{Side}
use Rattle.vx_symbol.specs.declared.symbols.Side.TheVariants.{Call, Put}
use Rattle.vx_symbol.specs.declared.symbols.Symbol.{Symbol}
use Rattle.vx_symbol.specs.declared.rows.Price.{Price}
use Rattle.vx_symbol.specs.declared.rows.StrikeRow.{StrikeRow}
use Rattle.vx_feed.specs.declared.events.Event.{Event}
use Rattle.vx_feed.specs.declared.events.Event.TheVariants as event
use Rattle.vx_feed.specs.Same.{is_same_side, is_same_series, is_same_expiry}
use Rattle.vx_feed.specs.Standing.{BidAsk, if_standing, lists_series, quote_of, standing_quote}
use Rattle.vx_feed.specs.Listed.{expiry_of, is_listed, listed_rows, no_price, quoted_price, series_at, standing_price, price_of}
use Rattle.vx_feed.specs.Next.{quote_after}
use Rattle.vx_feed.proofs.NextEvent.{next_listed, next_quote, unlisted_has_none}
use Rattle.vx_feed.proofs.NextRows.{apart_series, other_strike, own_strike}
use Rattle.vx_feed.proofs.SameAfter.{listed_same, price_same}
use Rattle.vx_check.specs.declared.table.Half.{Half}
use Rattle.vx_check.specs.Rising.{Rises, item_at, IsWith}
use Rattle.vx_check.specs.Tables.{row_strike, half_strike, row_once_listed, half_when_listed, row_with_price, half_when_quoted, ListsSeries}
use Rattle.vx_check.specs.Tables.{PutsPrice}
use Rattle.vx_check.specs.StandsFor.{only_side, listed_half, AreListedHalves}
use Rattle.vx_check.specs.NextRows.{both_sides, listed_row}
use Rattle.vx_check.proofs.Rising.{same_from_items}
use Rattle.vx_check.proofs.TableLists.{expiry_self}
use Rattle.vx_check.proofs.Strikes.{listed_rows_rise_by_strike, listed_item}

-- what a table keeps of the series of its expiry
pub record Keeps (x : Expiry) (events : List Event) (rows : List StrikeRow) (halves : List Half) : Type 0 where
  pub rows_are : rows ≡ listed_rows x events
  pub halves_are : AreListedHalves x events halves

pub listed_rows_still_rise : (x : Expiry) (events : List Event) (rows : List StrikeRow) (halves : List Half) → Keeps x events rows halves → Rises row_strike rows
listed_rows_still_rise x events rows halves h = subst (λ (l : List StrikeRow). Rises row_strike l) (sym h.rows_are) (listed_rows_rise_by_strike x events)

pub row_item : (x : Expiry) (events : List Event) (rows : List StrikeRow) (halves : List Half) → Keeps x events rows halves → (k : ℕ)
    → item_at row_strike k rows ≡ listed_row x events k
row_item x events rows halves h k = ap (item_at row_strike k) h.rows_are ∙ listed_item x events k

-- it keeps them for more events where it has the rows and the single sides of each strike
keeps_from : (x : Expiry) (events : List Event) (rows : List StrikeRow) (halves : List Half) → Rises row_strike rows → Rises half_strike halves
    → ((k : ℕ) → item_at row_strike k rows ≡ listed_row x events k) → ((k : ℕ) → item_at half_strike k halves ≡ listed_half x events k) → Keeps x events rows halves
keeps_from x events rows halves r s row half = record {
  rows_are = same_from_items row_strike 0 0 rows (listed_rows x events) r (listed_rows_rise_by_strike x events) (λ k. row k ∙ sym (listed_item x events k));
  halves_are = record { rises = s; each = half };
}

-- ---- what is listed of a strike, and with which prices

pub record SaysOfStrike (x : Expiry) (events : List Event) (k : ℕ) (lp lc : Bool) (pp pc : Price) : Type 0 where
  pub put_listed : is_listed (series_at x Put k) events ≡ lp
  pub call_listed : is_listed (series_at x Call k) events ≡ lc
  pub put_price : standing_price events (series_at x Put k) ≡ pp
  pub call_price : standing_price events (series_at x Call k) ≡ pc

-- the events say of the strike what these others do
abbrev SaysLike : Expiry → List Event → List Event → ℕ → Type 0
SaysLike x events others k =
    SaysOfStrike x events k (is_listed (series_at x Put k) others) (is_listed (series_at x Call k) others)
    (standing_price others (series_at x Put k)) (standing_price others (series_at x Call k))

says_now : (x : Expiry) (events : List Event) (k : ℕ) → SaysLike x events events k
says_now x events k = record { put_listed = refl; call_listed = refl; put_price = refl; call_price = refl }

four : {X : Type 0} (f : Bool → Bool → Price → Price → X) (a a' b b' : Bool) (p p' q q' : Price) → a ≡ a' → b ≡ b' → p ≡ p' → q ≡ q' → f a b p q ≡ f a' b' p' q'
four f a a' b b' p p' q q' ea eb ep eq =
    ap (λ z. f z b p q) ea ∙ ap (λ z. f a' z p q) eb ∙ ap (λ z. f a' b' z q) ep ∙ ap (f a' b' p') eq

row_says : (x : Expiry) (events : List Event) (k : ℕ) (lp lc : Bool) (pp pc : Price) → SaysOfStrike x events k lp lc pp pc
    → listed_row x events k ≡ both_sides k lp lc pp pc
row_says x events k lp lc pp pc h = four (both_sides k) _ lp _ lc _ pp _ pc h.put_listed h.call_listed h.put_price h.call_price

half_says : (x : Expiry) (events : List Event) (k : ℕ) (lp lc : Bool) (pp pc : Price) → SaysOfStrike x events k lp lc pp pc
    → listed_half x events k ≡ only_side k lp lc pp pc
half_says x events k lp lc pp pc h = four (only_side k) _ lp _ lc _ pp _ pc h.put_listed h.call_listed h.put_price h.call_price

-- ---- one series after one more event

price_if_unlisted : (t : Symbol) (events : List Event) → is_listed t events ≡ false → standing_price events t ≡ no_price
price_if_unlisted t events h = ap quoted_price (unlisted_has_none t events h).0

-- the event says nothing of the strike's series
abbrev pub IsQuietAt : Expiry → ℕ → Event → Type 0
IsQuietAt x k e = (side : Side) → (lists_series (series_at x side k) e ≡ false) × (quote_of (series_at x side k) e ≡ None)

says_as_before : (x : Expiry) (events : List Event) (e : Event) (k : ℕ) → IsQuietAt x k e
    → SaysLike x (events ++ e ∷ []) events k
says_as_before x events e k quiet = record {
  put_listed = listed_same (series_at x Put k) events e (quiet Put).0;
  call_listed = listed_same (series_at x Call k) events e (quiet Call).0;
  put_price = price_same (series_at x Put k) events e (quiet Put).1;
  call_price = price_same (series_at x Call k) events e (quiet Call).1;
}

-- an event that says nothing of the expiry's series
pub keeps_quiet : (x : Expiry) (events : List Event) (e : Event) (rows : List StrikeRow) (halves : List Half)
    → ((k : ℕ) → IsQuietAt x k e) → Keeps x events rows halves → Keeps x (events ++ e ∷ []) rows halves
keeps_quiet x events e rows halves quiet h =
    keeps_from x (events ++ e ∷ []) rows halves (listed_rows_still_rise x events rows halves h) h.halves_are.rises
    (λ k. row_item x events rows halves h k ∙ sym (row_says x (events ++ e ∷ []) k _ _ _ _ (says_as_before x events e k (quiet k))))
    (λ k. h.halves_are.each k ∙ sym (half_says x (events ++ e ∷ []) k _ _ _ _ (says_as_before x events e k (quiet k))))

-- ---- a series of the expiry and one at the same strike

-- at its own expiry and strike a series is that of its side
pub same_strike : (s : Symbol) (side : Side) → is_same_series (series_at (expiry_of s) side s.strike) s ≡ is_same_side side s.side
same_strike s side = own_strike (expiry_of s) s side (expiry_self (expiry_of s))

some_if : (b : Bool) (q : BidAsk) → b ≡ false → cond b (Some q) None ≡ None
some_if true q h = absurd (cc h)
some_if false q h = refl

-- a series listed or quoted says nothing of other expiries
pub apart_listing : (x : Expiry) (s : Symbol) → is_same_expiry x (expiry_of s) ≡ false → (k : ℕ) → IsQuietAt x k (event.Series s)
apart_listing x s h k side = (apart_series x s side k h, refl)

pub apart_quote : (x : Expiry) (time : ℕ) (s : Symbol) (bid ask : ℕ) → is_same_expiry x (expiry_of s) ≡ false → (k : ℕ)
    → IsQuietAt x k (event.Quote time s bid ask)
apart_quote x time s bid ask h k side = (refl, some_if (is_same_series (series_at x side k) s) (record { bid = bid; ask = ask }) (apart_series x s side k h))

-- nor of other strikes
other_listing : (s : Symbol) (k : ℕ) → k ≢ s.strike → IsQuietAt (expiry_of s) k (event.Series s)
other_listing s k ne side = (other_strike (expiry_of s) s side k ne, refl)

other_quote : (time : ℕ) (s : Symbol) (bid ask k : ℕ) → k ≢ s.strike → IsQuietAt (expiry_of s) k (event.Quote time s bid ask)
other_quote time s bid ask k ne side = (refl, some_if (is_same_series (series_at (expiry_of s) side k) s) (record { bid = bid; ask = ask }) (other_strike (expiry_of s) s side k ne))

-- rows and sides that change at one strike alone, and there to what is then listed
changes_at : (s : Symbol) (events : List Event) (e : Event) (rows new_rows : List StrikeRow) (halves new_halves : List Half) (row : Option StrikeRow) (half : Option Half)
    → ((k : ℕ) → k ≢ s.strike → IsQuietAt (expiry_of s) k e) → Keeps (expiry_of s) events rows halves
    → IsWith row_strike s.strike row rows new_rows → IsWith half_strike s.strike half halves new_halves
    → row ≡ listed_row (expiry_of s) (events ++ e ∷ []) s.strike → half ≡ listed_half (expiry_of s) (events ++ e ∷ []) s.strike
    → Keeps (expiry_of s) (events ++ e ∷ []) new_rows new_halves
changes_at s events e rows new_rows halves new_halves row half quiet h in_rows in_halves row_is half_is =
    let x = expiry_of s in
    keeps_from x (events ++ e ∷ []) new_rows new_halves in_rows.rises in_halves.rises
    (λ k. elim (cases_eq k s.strike) [
      | inl at ↦ subst (λ n. item_at row_strike n new_rows ≡ listed_row x (events ++ e ∷ []) n) (sym at) (in_rows.at_key ∙ row_is)
      | inr past ↦ in_rows.others k past ∙ row_item x events rows halves h k ∙ sym (row_says x (events ++ e ∷ []) k _ _ _ _ (says_as_before x events e k (quiet k past)))
    ])
    (λ k. elim (cases_eq k s.strike) [
      | inl at ↦ subst (λ n. item_at half_strike n new_halves ≡ listed_half x (events ++ e ∷ []) n) (sym at) (in_halves.at_key ∙ half_is)
      | inr past ↦ in_halves.others k past ∙ h.halves_are.each k ∙ sym (half_says x (events ++ e ∷ []) k _ _ _ _ (says_as_before x events e k (quiet k past)))
    ])

-- ---- a series is listed

put_rows : (k : ℕ) (lc : Bool) (pc : Price)
    → row_once_listed Put (only_side k false lc no_price pc) (both_sides k false lc no_price pc) ≡ both_sides k true lc no_price pc
put_rows k true pc = refl
put_rows k false pc = refl

put_halves : (k : ℕ) (lc : Bool) (pc : Price) → half_when_listed Put k (only_side k false lc no_price pc) ≡ only_side k true lc no_price pc
put_halves k true pc = refl
put_halves k false pc = refl

call_rows : (k : ℕ) (lp : Bool) (pp : Price)
    → row_once_listed Call (only_side k lp false pp no_price) (both_sides k lp false pp no_price) ≡ both_sides k lp true pp no_price
call_rows k true pp = refl
call_rows k false pp = refl

call_halves : (k : ℕ) (lp : Bool) (pp : Price) → half_when_listed Call k (only_side k lp false pp no_price) ≡ only_side k lp true pp no_price
call_halves k true pp = refl
call_halves k false pp = refl

module _ (x : Expiry) (k : ℕ) (events : List Event) where
  abbrev listed : Side → Bool
  listed side = is_listed (series_at x side k) events

  abbrev price : Side → Price
  price side = standing_price events (series_at x side k)

  -- the put is listed
  abbrev put_event : Event
  put_event = event.Series (series_at x Put k)

  abbrev call_event : Event
  call_event = event.Series (series_at x Call k)

  listed_now : (side : Side) → is_listed (series_at x side k) (events ++ event.Series (series_at x side k) ∷ []) ≡ true
  listed_now side =
      next_listed (series_at x side k) events (event.Series (series_at x side k))
      ∙ ap (λ b. listed side || b) (same_strike (series_at x side k) side ∙ side_self side) ∙ or-true (listed side) where
        side_self : (side : Side) → is_same_side side side ≡ true
        side_self Put = refl
        side_self Call = refl

  put_before : listed Put ≡ false → SaysOfStrike x events k false (listed Call) no_price (price Call)
  put_before h = record { put_listed = h; call_listed = refl; put_price = price_if_unlisted (series_at x Put k) events h; call_price = refl }

  put_after : listed Put ≡ false → SaysOfStrike x (events ++ put_event ∷ []) k true (listed Call) no_price (price Call)
  put_after h = record {
    put_listed = listed_now Put;
    call_listed = listed_same (series_at x Call k) events put_event (same_strike (series_at x Put k) Call);
    put_price = price_same (series_at x Put k) events put_event refl ∙ price_if_unlisted (series_at x Put k) events h;
    call_price = price_same (series_at x Call k) events put_event refl;
  }

  call_before : listed Call ≡ false → SaysOfStrike x events k (listed Put) false (price Put) no_price
  call_before h = record { put_listed = refl; call_listed = h; put_price = refl; call_price = price_if_unlisted (series_at x Call k) events h }

  call_after : listed Call ≡ false → SaysOfStrike x (events ++ call_event ∷ []) k (listed Put) true (price Put) no_price
  call_after h = record {
    put_listed = listed_same (series_at x Put k) events call_event (same_strike (series_at x Call k) Put);
    call_listed = listed_now Call;
    put_price = price_same (series_at x Put k) events call_event refl;
    call_price = price_same (series_at x Call k) events call_event refl ∙ price_if_unlisted (series_at x Call k) events h;
  }

  listing_row : (side : Side) → listed side ≡ false
      → row_once_listed side (listed_half x events k) (listed_row x events k) ≡ listed_row x (events ++ event.Series (series_at x side k) ∷ []) k
  listing_row Put h =
      ap (λ o. row_once_listed Put o (listed_row x events k)) (half_says x events k _ _ _ _ (put_before h))
      ∙ ap (row_once_listed Put (only_side k false (listed Call) no_price (price Call))) (row_says x events k _ _ _ _ (put_before h))
      ∙ put_rows k (listed Call) (price Call) ∙ sym (row_says x (events ++ put_event ∷ []) k _ _ _ _ (put_after h))
  listing_row Call h =
      ap (λ o. row_once_listed Call o (listed_row x events k)) (half_says x events k _ _ _ _ (call_before h))
      ∙ ap (row_once_listed Call (only_side k (listed Put) false (price Put) no_price)) (row_says x events k _ _ _ _ (call_before h))
      ∙ call_rows k (listed Put) (price Put) ∙ sym (row_says x (events ++ call_event ∷ []) k _ _ _ _ (call_after h))

  listing_half : (side : Side) → listed side ≡ false
      → half_when_listed side k (listed_half x events k) ≡ listed_half x (events ++ event.Series (series_at x side k) ∷ []) k
  listing_half Put h =
      ap (half_when_listed Put k) (half_says x events k _ _ _ _ (put_before h)) ∙ put_halves k (listed Call) (price Call)
      ∙ sym (half_says x (events ++ put_event ∷ []) k _ _ _ _ (put_after h))
  listing_half Call h =
      ap (half_when_listed Call k) (half_says x events k _ _ _ _ (call_before h)) ∙ call_halves k (listed Put) (price Put)
      ∙ sym (half_says x (events ++ call_event ∷ []) k _ _ _ _ (call_after h))

pub keeps_listed : (s : Symbol) (events : List Event) (rows new_rows : List StrikeRow) (halves new_halves : List Half)
    → is_listed s events ≡ false → Keeps (expiry_of s) events rows halves → ListsSeries s.side s.strike rows new_rows halves new_halves
    → Keeps (expiry_of s) (events ++ event.Series s ∷ []) new_rows new_halves
keeps_listed s events rows new_rows halves new_halves unlisted h lists =
    let x = expiry_of s in
    let row = row_item x events rows halves h s.strike in
    let half = h.halves_are.each s.strike in
    changes_at s events (event.Series s) rows new_rows halves new_halves _ _ (other_listing s) h lists.in_rows lists.in_halves
    (ap (λ o. row_once_listed s.side o (item_at row_strike s.strike rows)) half ∙ ap (row_once_listed s.side (listed_half x events s.strike)) row ∙ listing_row x s.strike events s.side unlisted)
    (ap (half_when_listed s.side s.strike) half ∙ listing_half x s.strike events s.side unlisted)

-- ---- a series is quoted

put_row_quoted : (k : ℕ) (lp lc : Bool) (price pp pc : Price)
    → option_map (row_with_price Put price) (both_sides k lp lc pp pc) ≡ both_sides k lp lc (cond lp price pp) pc
put_row_quoted k true true price pp pc = refl
put_row_quoted k true false price pp pc = refl
put_row_quoted k false true price pp pc = refl
put_row_quoted k false false price pp pc = refl

call_row_quoted : (k : ℕ) (lp lc : Bool) (price pp pc : Price)
    → option_map (row_with_price Call price) (both_sides k lp lc pp pc) ≡ both_sides k lp lc pp (cond lc price pc)
call_row_quoted k true true price pp pc = refl
call_row_quoted k true false price pp pc = refl
call_row_quoted k false true price pp pc = refl
call_row_quoted k false false price pp pc = refl

put_half_quoted : (k : ℕ) (lp lc : Bool) (price pp pc : Price)
    → half_when_quoted Put price (both_sides k lp lc pp pc) (only_side k lp lc pp pc) ≡ only_side k lp lc (cond lp price pp) pc
put_half_quoted k true true price pp pc = refl
put_half_quoted k true false price pp pc = refl
put_half_quoted k false true price pp pc = refl
put_half_quoted k false false price pp pc = refl

call_half_quoted : (k : ℕ) (lp lc : Bool) (price pp pc : Price)
    → half_when_quoted Call price (both_sides k lp lc pp pc) (only_side k lp lc pp pc) ≡ only_side k lp lc pp (cond lc price pc)
call_half_quoted k true true price pp pc = refl
call_half_quoted k true false price pp pc = refl
call_half_quoted k false true price pp pc = refl
call_half_quoted k false false price pp pc = refl

module _ (x : Expiry) (k time bid ask : ℕ) (events : List Event) where
  abbrev quote_event : Side → Event
  quote_event side = event.Quote time (series_at x side k) bid ask

  abbrev is_there : Side → Bool
  is_there side = is_listed (series_at x side k) events

  abbrev old_price : Side → Price
  old_price side = standing_price events (series_at x side k)

  quoted_after : (listed : Bool) (q : Option BidAsk) (new : BidAsk)
      → quoted_price (quote_after listed q (Some new)) ≡ cond listed (quoted_price (if_standing new)) (quoted_price q)
  quoted_after true q new = refl
  quoted_after false q new = refl

  quote_own : (side : Side) → quote_of (series_at x side k) (quote_event side) ≡ Some (record { bid = bid; ask = ask })
  quote_own side = some_yes (is_same_series (series_at x side k) (series_at x side k)) (record { bid = bid; ask = ask }) (same_strike (series_at x side k) side ∙ side_self side) where
    side_self : (side : Side) → is_same_side side side ≡ true
    side_self Put = refl
    side_self Call = refl

    some_yes : (b : Bool) (q : BidAsk) → b ≡ true → cond b (Some q) None ≡ Some q
    some_yes true q h = refl
    some_yes false q h = absurd (cc h)

  price_quoted : (side : Side)
      → standing_price (events ++ quote_event side ∷ []) (series_at x side k) ≡ cond (is_there side) (price_of bid ask) (old_price side)
  price_quoted side =
      ap quoted_price (next_quote (series_at x side k) events (quote_event side) ∙ ap (quote_after (is_there side) (standing_quote (series_at x side k) events)) (quote_own side))
      ∙ quoted_after (is_there side) (standing_quote (series_at x side k) events) (record { bid = bid; ask = ask })

  put_quoted : SaysOfStrike x (events ++ quote_event Put ∷ []) k (is_there Put) (is_there Call) (cond (is_there Put) (price_of bid ask) (old_price Put)) (old_price Call)
  put_quoted = record {
    put_listed = listed_same (series_at x Put k) events (quote_event Put) refl;
    call_listed = listed_same (series_at x Call k) events (quote_event Put) refl;
    put_price = price_quoted Put;
    call_price = price_same (series_at x Call k) events (quote_event Put)
        (some_if (is_same_series (series_at x Call k) (series_at x Put k)) (record { bid = bid; ask = ask }) (same_strike (series_at x Put k) Call));
  }

  call_quoted : SaysOfStrike x (events ++ quote_event Call ∷ []) k (is_there Put) (is_there Call) (old_price Put) (cond (is_there Call) (price_of bid ask) (old_price Call))
  call_quoted = record {
    put_listed = listed_same (series_at x Put k) events (quote_event Call) refl;
    call_listed = listed_same (series_at x Call k) events (quote_event Call) refl;
    put_price = price_same (series_at x Put k) events (quote_event Call)
        (some_if (is_same_series (series_at x Put k) (series_at x Call k)) (record { bid = bid; ask = ask }) (same_strike (series_at x Call k) Put));
    call_price = price_quoted Call;
  }

  quoted_row : (side : Side) → option_map (row_with_price side (price_of bid ask)) (listed_row x events k) ≡ listed_row x (events ++ quote_event side ∷ []) k
  quoted_row Put = put_row_quoted k (is_there Put) (is_there Call) (price_of bid ask) (old_price Put) (old_price Call) ∙ sym (row_says x (events ++ quote_event Put ∷ []) k _ _ _ _ put_quoted)
  quoted_row Call = call_row_quoted k (is_there Put) (is_there Call) (price_of bid ask) (old_price Put) (old_price Call) ∙ sym (row_says x (events ++ quote_event Call ∷ []) k _ _ _ _ call_quoted)

  quoted_half : (side : Side)
      → half_when_quoted side (price_of bid ask) (listed_row x events k) (listed_half x events k) ≡ listed_half x (events ++ quote_event side ∷ []) k
  quoted_half Put = put_half_quoted k (is_there Put) (is_there Call) (price_of bid ask) (old_price Put) (old_price Call) ∙ sym (half_says x (events ++ quote_event Put ∷ []) k _ _ _ _ put_quoted)
  quoted_half Call = call_half_quoted k (is_there Put) (is_there Call) (price_of bid ask) (old_price Put) (old_price Call) ∙ sym (half_says x (events ++ quote_event Call ∷ []) k _ _ _ _ call_quoted)

pub keeps_quoted : (time : ℕ) (s : Symbol) (bid ask : ℕ) (events : List Event) (rows new_rows : List StrikeRow) (halves new_halves : List Half)
    → Keeps (expiry_of s) events rows halves → PutsPrice s.side s.strike (price_of bid ask) rows new_rows halves new_halves
    → Keeps (expiry_of s) (events ++ event.Quote time s bid ask ∷ []) new_rows new_halves
keeps_quoted time s bid ask events rows new_rows halves new_halves h sets =
    let x = expiry_of s in
    let row = row_item x events rows halves h s.strike in
    let half = h.halves_are.each s.strike in
    let price = price_of bid ask in
    changes_at s events (event.Quote time s bid ask) rows new_rows halves new_halves _ _ (λ k ne. other_quote time s bid ask k ne) h sets.in_rows sets.in_halves
    (ap (option_map (row_with_price s.side price)) row ∙ quoted_row x s.strike time bid ask events s.side)
    (ap (λ o. half_when_quoted s.side price o (item_at half_strike s.strike halves)) row ∙ ap (half_when_quoted s.side price (listed_row x events s.strike)) half
    ∙ quoted_half x s.strike time bid ask events s.side)

-- the rows of the expiry after an event that says nothing of its series
pub rows_as_before : (x : Expiry) (events : List Event) (e : Event) → ((k : ℕ) → IsQuietAt x k e) → listed_rows x (events ++ e ∷ []) ≡ listed_rows x events
rows_as_before x events e quiet =
    same_from_items row_strike 0 0 (listed_rows x (events ++ e ∷ [])) (listed_rows x events) (listed_rows_rise_by_strike x (events ++ e ∷ [])) (listed_rows_rise_by_strike x events)
    (λ k. listed_item x (events ++ e ∷ []) k ∙ row_says x (events ++ e ∷ []) k _ _ _ _ (says_as_before x events e k (quiet k)) ∙ sym (listed_item x events k))
