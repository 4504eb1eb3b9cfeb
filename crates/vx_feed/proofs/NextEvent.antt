-- What one more event changes.
use Rattle.std.proofs.Common.{◌≡◌, ◌∙◌, sym, ap, subst, refl, ◌<◌, ◌⊎◌, inl, inr, ℕ, Bool, true, false, cond, ◌||◌, ◌==◌, nat_lt, List, [], ◌∷◌, ◌++◌, Option, Some, None, arith}
use Rattle.std.specs.List.{list_any, filter_map, cons_option}
use Rattle.vx_feed.specs.declared.events.Event.TheVariants as event
use Rattle.std.specs.Option.{option_or, option_to_list, option_and_then}
use Rattle.std.proofs.lemmas.Bool.{cases_lt}
use Rattle.std.proofs.lemmas.Bool.Decides.{nat_tests}
use Rattle.std.proofs.lemmas.List.Folds.{list_any-append}
use Rattle.std.proofs.lemmas.List.Elements.{filter_map-append}
use Rattle.vx_symbol.specs.declared.symbols.Symbol.{Symbol}
use Rattle.vx_feed.specs.declared.events.Event.{Event}
use Rattle.vx_feed.specs.Said.{first_said, last_said}
use Rattle.vx_feed.specs.Standing.{before_opening, if_standing, is_opening, lists_series, opening_trade, quote_of, rate_of, since_listed, trade_of}
use Rattle.vx_feed.specs.Listed.{declared_expiry, header_day, insert_strike, is_listed, listed_strike, strikes_of, with_strike}
use Rattle.vx_feed.specs.Next.{NextQuote, NextRate, NextTrade, UnlistedHasNone, NextBeforeOpening, NextListed, NextDeclared, NextTradeDate, NextStrikes, quote_after, trade_after}

pub or-false : (b : Bool) → (b || false) ≡ b
or-false true = refl
or-false false = refl

pub option_or-none : {A : Type 0} → (o : Option A) → option_or o None ≡ o
option_or-none None = refl
option_or-none (Some x) = refl

option_or-assoc : {A : Type 0} → (a b c : Option A) → option_or a (option_or b c) ≡ option_or (option_or a b) c
option_or-assoc None b c = refl
option_or-assoc (Some x) b c = refl

-- a test of any element, with one element more
pub any-push : {X : Type 0} → (p : X → Bool) (xs : List X) (x : X) → list_any p (xs ++ x ∷ []) ≡ (list_any p xs || p x)
any-push p xs x = list_any-append p xs (x ∷ []) ∙ ap (λ b. list_any p xs || b) (or-false (p x))

pub first_said-push : {X A : Type 0} → (says : X → Option A) (xs : List X) (x : X) → first_said says (xs ++ x ∷ []) ≡ option_or (first_said says xs) (says x)
first_said-push says [] x = option_or-none (says x)
first_said-push says (y ∷ ys) x = ap (option_or (says y)) (first_said-push says ys x) ∙ option_or-assoc (says y) (first_said says ys) (says x)

pub last_said-push : {X A : Type 0} → (says : X → Option A) (xs : List X) (x : X) → last_said says (xs ++ x ∷ []) ≡ option_or (says x) (last_said says xs)
last_said-push says [] x = sym (option_or-none (says x))
last_said-push says (y ∷ ys) x = ap (λ o. option_or o (says y)) (last_said-push says ys x) ∙ sym (option_or-assoc (says x) (last_said says ys) (says y))

-- the events since the series was listed, with one event more
since_listed-push : (s : Symbol) (events : List Event) (e : Event) → since_listed s (events ++ e ∷ []) ≡ cond (is_listed s events) (since_listed s events ++ e ∷ []) []
since_listed-push s [] e = elim (lists_series s e) as (λ b. cond {A = List Event} b [] [] ≡ []) [ true ↦ refl | false ↦ refl ]
since_listed-push s (y ∷ ys) e =
    elim (lists_series s y) as (λ b. cond {A = List Event} b (ys ++ e ∷ []) (since_listed s (ys ++ e ∷ [])) ≡ cond {A = List Event} (b || is_listed s ys) (cond {A = List Event} b ys (since_listed s ys) ++ e ∷ []) [])
    [ true ↦ refl | false ↦ since_listed-push s ys e ]

none_step : (b c : Bool) (ys zs : List Event) → (c ≡ false → zs ≡ []) → (b || c) ≡ false → cond b ys zs ≡ []
none_step true c ys zs more h = cc
none_step false c ys zs more h = more h

pub since_listed-none : (s : Symbol) (events : List Event) → is_listed s events ≡ false → since_listed s events ≡ []
since_listed-none s [] h = refl
since_listed-none s (y ∷ ys) h = none_step (lists_series s y) (is_listed s ys) ys (since_listed s ys) (since_listed-none s ys) h

-- a quote more of a series, since it was listed
quote_push : (s : Symbol) (listed : Bool) (since : List Event) (e : Event) → (listed ≡ false → since ≡ [])
    → option_and_then if_standing (last_said (quote_of s) (cond listed (since ++ e ∷ []) []))
    ≡ quote_after listed (option_and_then if_standing (last_said (quote_of s) since)) (quote_of s e)
quote_push s true since e none =
    ap (option_and_then if_standing) (last_said-push (quote_of s) since e)
    ∙ (elim (quote_of s e) as (λ said. option_and_then if_standing (option_or said (last_said (quote_of s) since)) ≡ quote_after true (option_and_then if_standing (last_said (quote_of s) since)) said)
    [ None ↦ refl | Some q ↦ refl ])
quote_push s false since e none =
    (let P : List Event → Type 0 = λ l. None ≡ option_and_then if_standing (last_said (quote_of s) l) in subst P (sym (none refl)) refl)
    ∙ (elim (quote_of s e) as (λ said. option_and_then if_standing (last_said (quote_of s) since) ≡ quote_after false (option_and_then if_standing (last_said (quote_of s) since)) said)
    [ None ↦ refl | Some q ↦ refl ])

pub next_quote : NextQuote
next_quote s events e =
    ap (λ l. option_and_then if_standing (last_said (quote_of s) l)) (since_listed-push s events e)
    ∙ quote_push s (is_listed s events) (since_listed s events) e (since_listed-none s events)

pub next_rate : NextRate
next_rate x events e = last_said-push (rate_of x) events e

pub next_listed : NextListed
next_listed s events e = any-push (lists_series s) events e

pub next_trade_date : NextTradeDate
next_trade_date events e = first_said-push header_day events e

cons_option-none : {A : Type 0} → (o : Option A) → cons_option o [] ≡ option_to_list o
cons_option-none None = refl
cons_option-none (Some x) = refl

pub next_declared : NextDeclared
next_declared events e = filter_map-append declared_expiry events (e ∷ []) ∙ ap (λ l. filter_map declared_expiry events ++ l) (cons_option-none (declared_expiry e))

cons-cond : (y : Event) (a o : Bool) (p q r : List Event) → y ∷ cond a p (cond o q r) ≡ cond a (y ∷ p) (cond o (y ∷ q) (y ∷ r))
cons-cond y true o p q r = refl
cons-cond y false true p q r = refl
cons-cond y false false p q r = refl

pub next_before_opening : NextBeforeOpening
next_before_opening [] e = elim (is_opening e) as (λ b. cond {A = List Event} b [] (e ∷ []) ≡ cond {A = List Event} b [] (e ∷ [])) [ true ↦ refl | false ↦ refl ]
next_before_opening (y ∷ ys) e =
    elim (is_opening y) as (λ b. cond {A = List Event} b [] (y ∷ before_opening (ys ++ e ∷ []))
    ≡ cond {A = List Event} (b || list_any is_opening ys) (cond {A = List Event} b [] (y ∷ before_opening ys)) (cond {A = List Event} (is_opening e) (y ∷ ys) (y ∷ (ys ++ e ∷ [])))) [
      | true ↦ refl
      | false ↦ ap (λ l. y ∷ l) (next_before_opening ys e) ∙ cons-cond y (list_any is_opening ys) (is_opening e) (before_opening ys) ys (ys ++ e ∷ [])
    ]

open_step : (y : Event) (b c : Bool) (ys zs : List Event) → (c ≡ false → zs ≡ ys) → (b || c) ≡ false → cond b [] (y ∷ zs) ≡ y ∷ ys
open_step y true c ys zs more h = cc
open_step y false c ys zs more h = ap (λ l. y ∷ l) (more h)

-- where no opening was taken, all events are before it
pub before_opening-all : (events : List Event) → list_any is_opening events ≡ false → before_opening events ≡ events
before_opening-all [] h = refl
before_opening-all (y ∷ ys) h = open_step y (is_opening y) (list_any is_opening ys) ys (before_opening ys) (before_opening-all ys) h

-- an opening is no trade
trade_of-opening : (s : Symbol) (e : Event) → is_opening e ≡ true → trade_of s e ≡ None
trade_of-opening s (event.Opening time) h = refl
trade_of-opening s (event.Trade time t price) h = cc
trade_of-opening s (event.Header day) h = refl
trade_of-opening s (event.Expiry x) h = refl
trade_of-opening s (event.Rate x rate) h = refl
trade_of-opening s (event.Series t) h = refl
trade_of-opening s (event.Quote time t bid ask) h = refl
trade_of-opening s (event.Tick time) h = refl
trade_of-opening s (event.End count) h = refl

-- a trade more of a series before the opening, since it was listed
trade_push : (s : Symbol) (listed : Bool) (since : List Event) (e : Event) → (listed ≡ false → since ≡ [])
    → first_said (trade_of s) (cond listed (since ++ e ∷ []) []) ≡ trade_after false listed (first_said (trade_of s) since) (trade_of s e)
trade_push s true since e none = first_said-push (trade_of s) since e
trade_push s false since e none = let P : List Event → Type 0 = λ l. None ≡ first_said (trade_of s) l in subst P (sym (none refl)) refl

trade_none : (s : Symbol) (listed : Bool) (first : Option ℕ) → first ≡ trade_after false listed first None
trade_none s true first = sym (option_or-none first)
trade_none s false first = refl

trade_open : (s : Symbol) (events : List Event) (e : Event) (o : Bool) → is_opening e ≡ o
    → first_said (trade_of s) (since_listed s (cond o events (events ++ e ∷ []))) ≡ trade_after false (is_listed s events) (first_said (trade_of s) (since_listed s events)) (trade_of s e)
trade_open s events e true is =
    trade_none s (is_listed s events) (first_said (trade_of s) (since_listed s events))
    ∙ ap (trade_after false (is_listed s events) (first_said (trade_of s) (since_listed s events))) (sym (trade_of-opening s e is))
trade_open s events e false is =
    ap (first_said (trade_of s)) (since_listed-push s events e)
    ∙ trade_push s (is_listed s events) (since_listed s events) e (since_listed-none s events)

trade_by : (s : Symbol) (events : List Event) (e : Event) (opened : Bool) → list_any is_opening events ≡ opened
    → first_said (trade_of s) (since_listed s (cond opened (before_opening events) (cond (is_opening e) events (events ++ e ∷ []))))
    ≡ trade_after opened (is_listed s events) (opening_trade s events) (trade_of s e)
trade_by s events e true is = refl
trade_by s events e false is =
    trade_open s events e (is_opening e) refl
    ∙ ap (λ l. trade_after false (is_listed s events) (first_said (trade_of s) (since_listed s l)) (trade_of s e)) (sym (before_opening-all events is))

pub next_trade : NextTrade
next_trade s events e =
    ap (λ l. first_said (trade_of s) (since_listed s l)) (next_before_opening events e)
    ∙ trade_by s events e (list_any is_opening events) refl

-- what is not listed now was not listed before the opening
unlisted-before : (s : Symbol) (events : List Event) → is_listed s events ≡ false → is_listed s (before_opening events) ≡ false
unlisted-before s [] h = refl
unlisted-before s (y ∷ ys) h =
    elim (is_opening y) as (λ b. is_listed s (cond {A = List Event} b [] (y ∷ before_opening ys)) ≡ false)
    [ true ↦ refl | false ↦ either_false (lists_series s y) (is_listed s ys) (is_listed s (before_opening ys)) (unlisted-before s ys) h ]
  where
    either_false : (a b c : Bool) → (b ≡ false → c ≡ false) → (a || b) ≡ false → (a || c) ≡ false
    either_false true b c more h = h
    either_false false b c more h = more h

pub unlisted_has_none : UnlistedHasNone
unlisted_has_none s events h = (
  ap (λ l. option_and_then if_standing (last_said (quote_of s) l)) (since_listed-none s events h),
  ap (first_said (trade_of s)) (since_listed-none s (before_opening events) (unlisted-before s events h)),
)

pub insert_strike-below : (k j : ℕ) (js : List ℕ) → k < j → insert_strike k (j ∷ js) ≡ k ∷ j ∷ js
insert_strike-below k j js h = let t : nat_lt k j ≡ true = grind (arith, nat_tests) in rw t refl

pub insert_strike-at : (k j : ℕ) (js : List ℕ) → k ≡ j → insert_strike k (j ∷ js) ≡ j ∷ js
insert_strike-at k j js h = let t : nat_lt k j ≡ false = grind (arith, nat_tests) in let u : (k == j) ≡ true = grind (arith, nat_tests) in rw (t, u) refl

pub insert_strike-above : (k j : ℕ) (js : List ℕ) → j < k → insert_strike k (j ∷ js) ≡ j ∷ insert_strike k js
insert_strike-above k j js h = let t : nat_lt k j ≡ false = grind (arith, nat_tests) in let u : (k == j) ≡ false = grind (arith, nat_tests) in rw (t, u) refl

pub three_ways : (a b : ℕ) → (a < b) ⊎ ((a ≡ b) ⊎ (b < a))
three_ways a b = elim (cases_lt a b) [ inl below ↦ inl below | inr le ↦ elim (cases_lt b a) [ inl above ↦ inr (inr above) | inr ge ↦ inr (inl (omega arith)) ] ]

insert_strike-comm_below : (a b : ℕ) → a < b → (ks : List ℕ) → insert_strike a (insert_strike b ks) ≡ insert_strike b (insert_strike a ks)
insert_strike-comm_below a b lt [] = grind (arith, nat_tests)
insert_strike-comm_below a b lt (k ∷ ks) =
    elim (three_ways b k) [
      | inl b_below ↦
          ap (insert_strike a) (insert_strike-below b k ks b_below) ∙ insert_strike-below a b (k ∷ ks) lt
          ∙ sym (ap (insert_strike b) (insert_strike-below a k ks (omega arith)) ∙ insert_strike-above b a (k ∷ ks) lt ∙ ap (λ js. a ∷ js) (insert_strike-below b k ks b_below))
      | inr other ↦ elim other [
        | inl b_at ↦
            ap (insert_strike a) (insert_strike-at b k ks b_at) ∙ insert_strike-below a k ks (omega arith)
            ∙ sym (ap (insert_strike b) (insert_strike-below a k ks (omega arith)) ∙ insert_strike-above b a (k ∷ ks) lt ∙ ap (λ js. a ∷ js) (insert_strike-at b k ks b_at))
        | inr b_above ↦ ap (insert_strike a) (insert_strike-above b k ks b_above) ∙
            (elim (three_ways a k) [
              | inl a_below ↦
                  insert_strike-below a k (insert_strike b ks) a_below
                  ∙ sym (ap (insert_strike b) (insert_strike-below a k ks a_below) ∙ insert_strike-above b a (k ∷ ks) lt ∙ ap (λ js. a ∷ js) (insert_strike-above b k ks b_above))
              | inr a_other ↦ elim a_other [
                | inl a_at ↦
                    insert_strike-at a k (insert_strike b ks) a_at
                    ∙ sym (ap (insert_strike b) (insert_strike-at a k ks a_at) ∙ insert_strike-above b k ks b_above)
                | inr a_above ↦
                    insert_strike-above a k (insert_strike b ks) a_above ∙ ap (λ js. k ∷ js) (insert_strike-comm_below a b lt ks)
                    ∙ sym (ap (insert_strike b) (insert_strike-above a k ks a_above) ∙ insert_strike-above b k (insert_strike a ks) b_above)
              ]
            ])
      ]
    ]

insert_strike-comm : (a b : ℕ) (ks : List ℕ) → insert_strike a (insert_strike b ks) ≡ insert_strike b (insert_strike a ks)
insert_strike-comm a b ks =
    elim (three_ways a b) [
      | inl lt ↦ insert_strike-comm_below a b lt ks
      | inr other ↦ elim other [
        | inl same ↦ (let P : ℕ → Type 0 = λ c. insert_strike a (insert_strike c ks) ≡ insert_strike c (insert_strike a ks) in subst P same refl)
        | inr gt ↦ sym (insert_strike-comm_below b a gt ks)
      ]
    ]

with_strike-comm : (a b : Option ℕ) (ks : List ℕ) → with_strike a (with_strike b ks) ≡ with_strike b (with_strike a ks)
with_strike-comm None b ks = refl
with_strike-comm (Some j) None ks = refl
with_strike-comm (Some j) (Some k) ks = insert_strike-comm j k ks

pub next_strikes : NextStrikes
next_strikes x [] e = refl
next_strikes x (y ∷ ys) e = ap (with_strike (listed_strike x y)) (next_strikes x ys e) ∙ with_strike-comm (listed_strike x y) (listed_strike x e) (strikes_of x ys)
