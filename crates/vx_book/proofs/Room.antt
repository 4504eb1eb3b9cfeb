-- How many strikes an expiry has after an event that is lawful next.
use Rattle.std.proofs.Common.{◌≡◌, ◌∙◌, sym, ap, subst, refl, inl, inr, ℕ, ◌+◌, ◌<◌, ◌≤◌, Bool, true, false, cond, ◌||◌, ◌==◌, List, [], ◌∷◌, ◌++◌, length, Some, None, arith}
use Rattle.std.specs.List.{list_any}
use Rattle.std.specs.Option.{option_to_list}
use Rattle.std.proofs.lemmas.Bool.{cases_Bool, cases_order, eq-eqb, eqb-true, ne_eqb, or_parts}
use Rattle.std.proofs.lemmas.List.Folds.{list_any-append}
use Rattle.vx_clock.specs.declared.terms.Expiry.{Expiry}
use Rattle.vx_symbol.specs.declared.limits.TheConstants.{ROWS_MAX}
use Rattle.vx_symbol.specs.declared.symbols.Side.TheVariants.{Put}
use Rattle.vx_symbol.specs.declared.symbols.Symbol.{Symbol}
use Rattle.vx_feed.specs.declared.events.Event.{Event}
use Rattle.vx_feed.specs.declared.events.Event.TheVariants as event
use Rattle.vx_feed.specs.Same.{is_same_expiry}
use Rattle.vx_feed.specs.Standing.{rate_of}
use Rattle.vx_feed.specs.Listed.{declared_expiries, declared_expiry, expiry_of, insert_strike, is_declared, is_listed, listed_strike, other_side, series_at, strikes_of, with_strike}
use Rattle.vx_feed.specs.Order.{IsLawfulNext}
use Rattle.vx_feed.proofs.NextEvent.{next_declared, next_strikes}
use Rattle.vx_feed.proofs.FaultLemmas.{room_for_strike}
use Rattle.vx_feed.proofs.NoCauses.{no_causes}
use Rattle.vx_feed.proofs.SameLemmas.{expiry_from_same}
use Rattle.vx_feed.proofs.StrikeLemmas.{has_strike, has-strike_of, length-strike_more}
use Rattle.vx_book.specs.StandsFor.{AreOrderly}
use Rattle.vx_feed.proofs.RisingStrikes.{RisesFrom, strikes_rise}
use Rattle.vx_feed.proofs.SameAfter.{rate_same, strikes_same}

-- ---- rising strikes that are the same ones

has_below : (q low : ℕ) (ks : List ℕ) → RisesFrom low ks → q < low → has_strike q ks ≡ false
has_below q low [] r h = refl
has_below q low (k ∷ ks) r h =
    let at : low ≤ k = r.0 in
    let other : (k == q) ≡ false = ne_eqb k q (λ e. omega arith) in
    ap (λ b. b || has_strike q ks) other ∙ has_below q (k + 1) ks r.1 (omega arith)

has_first : (k : ℕ) (ks : List ℕ) → has_strike k (k ∷ ks) ≡ true
has_first k ks = ap (λ b. b || has_strike k ks) (eq-eqb k k refl)

same_strikes : (low other : ℕ) (js ks : List ℕ) → RisesFrom low js → RisesFrom other ks → ((q : ℕ) → has_strike q js ≡ has_strike q ks) → js ≡ ks
same_strikes low other [] [] r s h = refl
same_strikes low other [] (b ∷ ks) r s h = absurd (cc (h b ∙ has_first b ks))
same_strikes low other (a ∷ js) [] r s h = absurd (cc (sym (h a) ∙ has_first a js))
same_strikes low other (a ∷ js) (b ∷ ks) r s h =
    elim (cases_order a b) [
      | inl same ↦ ap (λ l. a ∷ l) (same_strikes (a + 1) (b + 1) js ks r.1 s.1 (λ q. tails q same)) ∙ ap (λ k. k ∷ ks) same
      | inr apart ↦ elim apart [
        | inl less ↦
            let no : true ≡ false = sym (has_first a js) ∙ h a ∙ has_below a b (b ∷ ks) (omega arith, s.1) less in
            absurd (cc no)
        | inr more ↦
            let no : true ≡ false = sym (has_first b ks) ∙ sym (h b) ∙ has_below b a (a ∷ js) (omega arith, r.1) more in
            absurd (cc no)
      ]
    ]
  where
    tails : (q : ℕ) → a ≡ b → has_strike q js ≡ has_strike q ks
    tails q same =
        elim (cases_Bool (a == q)) [
          | inl at ↦ (let is = eqb-true a q at in has_below q (a + 1) js r.1 (omega arith) ∙ sym (has_below q (b + 1) ks s.1 (omega arith)))
          | inr past ↦ sym (ap (λ c. c || has_strike q js) past) ∙ h q ∙ ap (λ c. c || has_strike q ks) (ap (λ k. k == q) (sym same) ∙ past)
        ]

-- two lists of events that list the same series have the same strikes
pub strikes_alike : (x : Expiry) (a b : List Event) → ((s : Symbol) → is_listed s a ≡ is_listed s b) → strikes_of x a ≡ strikes_of x b
strikes_alike x a b same =
    same_strikes 0 0 (strikes_of x a) (strikes_of x b) (strikes_rise x a) (strikes_rise x b)
    (λ q.
    let s = series_at x Put q in
    has-strike_of s a ∙ ap (λ t. t || is_listed (other_side s) a) (same s) ∙ ap (λ t. is_listed s b || t) (same (other_side s)) ∙ sym (has-strike_of s b))

-- ---- one strike more

more_step : (has : Bool) (n m : ℕ) → n ≤ ROWS_MAX → (has ≡ false → n < ROWS_MAX) → m ≡ n + cond has 0 1 → m ≤ ROWS_MAX
more_step true n m few room is = omega arith
more_step false n m few room is = let less = room refl in omega arith

-- the strikes after a series is listed that may be listed next after another list of events with the same listed series
pub few_with_series : (x : Expiry) (events lawful : List Event) (s : Symbol) → ((t : Symbol) → is_listed t events ≡ is_listed t lawful)
    → IsLawfulNext lawful (event.Series s) → length (strikes_of x events) ≤ ROWS_MAX → length (strikes_of x (events ++ event.Series s ∷ [])) ≤ ROWS_MAX
few_with_series x events lawful s same next few =
    let ks = strikes_of x events in
    let Few : List ℕ → Type 0 = λ l. length l ≤ ROWS_MAX in
    elim (cases_Bool (is_same_expiry x (expiry_of s))) [
      | inr other ↦ subst Few (sym (strikes_same x events (event.Series s) (ap (λ b. cond b (Some s.strike) None) other))) few
      | inl own ↦
          let is : x ≡ expiry_of s = expiry_from_same x (expiry_of s) own in
          let alike : ks ≡ strikes_of (expiry_of s) lawful = strikes_alike x events lawful same ∙ ap (λ y. strikes_of y lawful) is in
          let room : has_strike s.strike ks ≡ false → length ks < ROWS_MAX = λ new.
          subst (λ (l : List ℕ). length l < ROWS_MAX) (sym alike)
          (room_for_strike lawful s (no_causes lawful (event.Series s) next.in_order).few (sym (ap (has_strike s.strike) alike) ∙ new)) in
          subst Few (sym (next_strikes x events (event.Series s) ∙ ap (λ b. with_strike (cond b (Some s.strike) None) ks) own))
          (more_step (has_strike s.strike ks) (length ks) (length (insert_strike s.strike ks)) few room (length-strike_more x s.strike events))
    ]

-- ---- order after one more event

pub declared_next : (x : Expiry) (events : List Event) (e : Event) → is_declared x (events ++ e ∷ []) ≡ (is_declared x events || list_any (is_same_expiry x) (option_to_list (declared_expiry e)))
declared_next x events e =
    ap (list_any (is_same_expiry x)) (next_declared events e) ∙ list_any-append (is_same_expiry x) (declared_expiries events) (option_to_list (declared_expiry e))

pub undeclared_before : (x : Expiry) (events : List Event) (e : Event) → is_declared x (events ++ e ∷ []) ≡ false → is_declared x events ≡ false
undeclared_before x events e h =
    (or_parts (is_declared x events) (list_any (is_same_expiry x) (option_to_list (declared_expiry e))) (sym (declared_next x events e) ∙ h)).0

-- an event that lists no strike and gives no rate to an expiry that is not declared
pub orderly_next : (events : List Event) (e : Event) → ((x : Expiry) → length (strikes_of x (events ++ e ∷ [])) ≤ ROWS_MAX)
    → ((x : Expiry) → is_declared x events ≡ false → rate_of x e ≡ None) → AreOrderly events → AreOrderly (events ++ e ∷ [])
orderly_next events e few rates h = record {
  few = few;
  undeclared = λ x none.
      let before = undeclared_before x events e none in
      rate_same x events e (rates x before) ∙ h.undeclared x before;
}

pub few_still : (events : List Event) (e : Event) → ((x : Expiry) → listed_strike x e ≡ None) → AreOrderly events → (x : Expiry) → length (strikes_of x (events ++ e ∷ [])) ≤ ROWS_MAX
few_still events e none h x = (let Few : List ℕ → Type 0 = λ l. length l ≤ ROWS_MAX in subst Few (sym (strikes_same x events e (none x))) (h.few x))
