-- The opening of a lawful feed stands at one line, the one that the book keeps.
use Rattle.std.proofs.Common.{◌≡◌, ◌↔◌, ℕ, zero, suc, ◌-◌, ◌||◌, Bool, true, false, cond, IsTrue, MatchOption, IsSomeAnd, option_map, option_and_then}
use Rattle.std.proofs.Common.{List, [], ◌∷◌, ◌++◌, length, Option, Some, None, refl, sym, ◌∙◌, ap, subst, arith}
use Rattle.std.specs.List.{slice_get, list_any}
use Rattle.std.proofs.lemmas.List.Folds.{list_any-append}
use Rattle.std.proofs.lemmas.Option.{same_Some}
use Rattle.std.proofs.lemmas.Bool.{cond-true}
use Rattle.std.proofs.Math.Bool.{or-true}
use Rattle.vx_clock.specs.declared.days.DayNo.{DayNo}
use Rattle.vx_clock.specs.declared.terms.Expiry.{Expiry}
use Rattle.vx_feed.specs.declared.events.Event.{Event}
use Rattle.vx_feed.specs.declared.events.Event.TheVariants as event
use Rattle.vx_feed.specs.Standing.{is_opening, before_opening}
use Rattle.vx_feed.specs.Opening.{opening_time, opening_line}
use Rattle.vx_feed.specs.Order.{IsLawfulNext, AreLawfulAfter, AreLawful}
use Rattle.vx_feed.specs.Listed.{trade_date, is_declared}
use Rattle.vx_feed.proofs.NoCauses.{no_causes}
use Rattle.vx_cert.specs.declared.certificate.CertTerm.{CertTerm}
use Rattle.vx_formula.specs.Level.{StrikesRise}
use Rattle.vx_formula.specs.Term.{TermFacts}
use Rattle.vx_claims.specs.Seen.{IsOpeningAt, opening_expiry, opening_term_facts, opening_term_of, opening_facts}
use Rattle.vx_claims.proofs.OpeningPlaces.{opening_stands}
use Rattle.vx_claims.proofs.RisingRows.{listed_rows_rise}
use Rattle.vx_claims.specs.declared.acceptance.Test.{Test}
use Rattle.vx_claims.specs.TermTests.{TermMeets}
use Rattle.vx_claims.specs.Accepts.{scale_of, IsOpeningExpiry, OpeningTermMeets}
use Rattle.vx_check.specs.declared.book.PlainBook.{PlainBook}
use Rattle.vx_check.specs.declared.opening.Opening.{Opening}
use Rattle.vx_check.specs.declared.opening.OpeningTerm.{OpeningTerm}
use Rattle.vx_check.specs.Opening.{IsOpeningOfEvents, facts_of_term}
use Rattle.vx_check.specs.StandsFor.{PlainStandsFor}
use Rattle.vx_check.specs.Reached.{IsAtOpening}

any_more : (xs ys : List Event) → list_any is_opening xs ≡ true → list_any is_opening (xs ++ ys) ≡ true
any_more xs ys h = list_any-append is_opening xs ys ∙ ap (λ b. b || list_any is_opening ys) h

any_last : (xs : List Event) (time : ℕ) → list_any is_opening (xs ++ event.Opening time ∷ []) ≡ true
any_last xs time = list_any-append is_opening xs (event.Opening time ∷ []) ∙ or-true (list_any is_opening xs)

-- none comes after one
no_second : (before events : List Event) (n time : ℕ) → list_any is_opening before ≡ true → AreLawfulAfter before events
    → slice_get events n ≡ Some (event.Opening time) → ⊥
no_second before [] n time opened h at = cc
no_second before (e ∷ events) zero time opened h at =
    let same : e ≡ event.Opening time = cc in
    let next : IsLawfulNext before (event.Opening time) = subst (IsLawfulNext before) same h.0 in
    let none : list_any is_opening before ≡ false = (no_causes before (event.Opening time) next.in_order).first_opening in
    cc
no_second before (e ∷ events) (suc n) time opened h at = no_second (before ++ e ∷ []) events n time (any_more before (e ∷ []) opened) h.1 at

-- one that stands at a place is the first
module _ (time : ℕ) where
  abbrev IsFirst : List Event → ℕ → Type 0
  IsFirst events n = (opening_time events ≡ Some time) × (length (before_opening events) ≡ n)

  first_opening : (before events : List Event) (n : ℕ) → AreLawfulAfter before events → slice_get events n ≡ Some (event.Opening time) → IsFirst events n
  first_opening before [] n h at = absurd cc
  first_opening before (e ∷ events) zero h at =
      let same : event.Opening time ≡ e = cc in
      subst (λ (d : Event). IsFirst (d ∷ events) 0) same (refl, refl)
  first_opening before (event.Opening t ∷ events) (suc n) h at =
      absurd (no_second (before ++ event.Opening t ∷ []) events n time (any_last before t) h.1 at)
  first_opening before (event.Header day ∷ events) (suc n) h at =
      let r = first_opening (before ++ event.Header day ∷ []) events n h.1 at in (r.0, omega (arith, r.1))
  first_opening before (event.Expiry x ∷ events) (suc n) h at =
      let r = first_opening (before ++ event.Expiry x ∷ []) events n h.1 at in (r.0, omega (arith, r.1))
  first_opening before (event.Rate x rate ∷ events) (suc n) h at =
      let r = first_opening (before ++ event.Rate x rate ∷ []) events n h.1 at in (r.0, omega (arith, r.1))
  first_opening before (event.Series s ∷ events) (suc n) h at =
      let r = first_opening (before ++ event.Series s ∷ []) events n h.1 at in (r.0, omega (arith, r.1))
  first_opening before (event.Quote t s bid ask ∷ events) (suc n) h at =
      let r = first_opening (before ++ event.Quote t s bid ask ∷ []) events n h.1 at in (r.0, omega (arith, r.1))
  first_opening before (event.Trade t s price ∷ events) (suc n) h at =
      let r = first_opening (before ++ event.Trade t s price ∷ []) events n h.1 at in (r.0, omega (arith, r.1))
  first_opening before (event.Tick t ∷ events) (suc n) h at =
      let r = first_opening (before ++ event.Tick t ∷ []) events n h.1 at in (r.0, omega (arith, r.1))
  first_opening before (event.End count ∷ events) (suc n) h at =
      let r = first_opening (before ++ event.End count ∷ []) events n h.1 at in (r.0, omega (arith, r.1))

pub opening_of_line : (events : List Event) (line time : ℕ) → AreLawful events → IsOpeningAt events line time
    → (opening_time events ≡ Some time) × (opening_line events ≡ line)
opening_of_line events line time lawful at =
    let first = first_opening time [] events (line - 1) lawful at.1 in
    let low = at.0 in
    (first.0, omega (arith, low, first.1))

-- ---- what the book keeps of it

module _ (book : PlainBook) (events : List Event) (stands : PlainStandsFor book events) (lawful : AreLawful events) (line time : ℕ) where
  -- the book's opening is at the line where the events have it there
  pub place_at : (o : Opening) → book.opening ≡ Some o → (b : Bool) → (IsTrue b ↔ ((o.line ≡ line) × (o.time ≡ time)))
      → (IsTrue b ↔ IsOpeningAt events line time)
  place_at o is b both =
      let kept : IsOpeningOfEvents events o = subst (λ (k : Option Opening). MatchOption k (opening_time events ≡ None) (IsOpeningOfEvents events)) is stands.opening in (
        λ t. let same = both.0 t in
            let taken : opening_time events ≡ Some time = kept.time ∙ ap Some same.1 in
            subst (λ (k : ℕ). IsOpeningAt events k time) (sym kept.line ∙ same.0) (opening_stands events time taken),
        λ at. let found = opening_of_line events line time lawful at in
            both.1 (kept.line ∙ found.1, same_Some o.time time (sym kept.time ∙ found.0)),
      )

  pub no_place : book.opening ≡ None → IsOpeningAt events line time → ⊥
  no_place is at =
      let none : opening_time events ≡ None = subst (λ (k : Option Opening). MatchOption k (opening_time events ≡ None) (IsOpeningOfEvents events)) is stands.opening in
      let found = opening_of_line events line time lawful at in
      let e : None ≡ Some time = sym none ∙ found.0 in
      cc e

term_of : (events : List Event) (time : ℕ) (k : Option Opening) → MatchOption k (opening_time events ≡ None) (IsOpeningOfEvents events)
    → opening_time events ≡ Some time
    → option_map facts_of_term (option_and_then (λ (o : Opening). o.term) k) ≡ (opening_facts events).term
term_of events time None none taken = let e : None ≡ Some time = sym none ∙ taken in absurd (cc e)
term_of events time (Some o) kept taken = kept.term

some_chosen : {A : Type 0} (b : Bool) (x y : A) → cond b (Some x) None ≡ Some y → (b ≡ true) × (x ≡ y)
some_chosen true x y e = (refl, same_Some x y e)
some_chosen false x y e = absurd (cc e)

module _ (book : PlainBook) (events : List Event) (line time : ℕ) (h : IsAtOpening book events line time) where
  abbrev shown : Option OpeningTerm
  shown = option_and_then (λ (o : Opening). o.term) book.opening

  shown_is : option_map facts_of_term shown ≡ (opening_facts events).term
  shown_is = term_of events time book.opening h.stands.opening (opening_of_line events line time h.lawful h.is_opening).0

  -- the term that the book keeps is that of the trade date
  module _ (day : DayNo) (stands : trade_date events ≡ Some day) (t : OpeningTerm) (is : shown ≡ Some t) where
    both_parts : (is_declared (opening_expiry day) (before_opening events) ≡ true) × (opening_term_facts events day ≡ facts_of_term t)
    both_parts =
        let e : opening_term_of events day ≡ Some (facts_of_term t) =
        sym (ap (option_and_then (opening_term_of events)) stands) ∙ sym shown_is ∙ ap (option_map facts_of_term) is in
        some_chosen (is_declared (opening_expiry day) (before_opening events)) (opening_term_facts events day) (facts_of_term t) e

    pub facts_shown : facts_of_term t ≡ opening_term_facts events day
    facts_shown = sym both_parts.1

    pub opening_rise : StrikesRise t.rows.items
    opening_rise = subst (λ (f : TermFacts). StrikesRise f.rows) (sym facts_shown) (listed_rows_rise (opening_expiry day) events).1

    pub expiry_at : (x : Expiry) (b : Bool) → (IsTrue b ↔ (x ≡ opening_expiry day)) → (IsTrue b ↔ IsOpeningExpiry events x)
    expiry_at x b both = (
      λ t. record {
        day = day;
        day_is = stands;
        expiry_is = both.0 t;
        declared = subst (λ (y : Expiry). IsTrue (is_declared y (before_opening events))) (sym (both.0 t)) both_parts.0;
      },
      λ (m : IsOpeningExpiry events x). both.1 (m.expiry_is ∙ ap opening_expiry (same_Some m.day day (sym m.day_is ∙ stands))),
    )

    pub opening_meets_at : (version : ℕ) (term : CertTerm) (test : Test) (b : Bool) → (IsTrue b ↔ TermMeets (scale_of version) (facts_of_term t) term test)
        → (IsTrue b ↔ OpeningTermMeets events version term test)
    opening_meets_at version term test b both =
        let F : TermFacts → Type 0 = λ f. TermMeets (scale_of version) f term test in
        let G : DayNo → Type 0 = λ d. TermMeets (scale_of version) (opening_term_facts events d) term test in (
          λ t. record { day = day; day_is = stands; meets = subst F facts_shown (both.0 t) },
          λ (m : OpeningTermMeets events version term test). both.1 (subst F (sym facts_shown) (subst G (same_Some m.day day (sym m.day_is ∙ stands)) m.meets)),
        )

  -- where it keeps none, none was declared
  pub no_expiry : (x : Expiry) → shown ≡ None → IsOpeningExpiry events x → ⊥
  no_expiry x is m =
      let declared : is_declared (opening_expiry m.day) (before_opening events) ≡ true = subst (λ (y : Expiry). IsTrue (is_declared y (before_opening events))) m.expiry_is m.declared in
      let there : opening_term_of events m.day ≡ Some (opening_term_facts events m.day) = cond-true (is_declared (opening_expiry m.day) (before_opening events)) _ _ declared in
      let e : None ≡ Some (opening_term_facts events m.day) =
      sym (ap (option_map facts_of_term) is) ∙ shown_is ∙ ap (option_and_then (opening_term_of events)) m.day_is ∙ there in
      cc e

  pub no_expiry_day : (x : Expiry) → book.day ≡ None → IsOpeningExpiry events x → ⊥
  no_expiry_day x is m = let e : None ≡ Some m.day = sym is ∙ h.stands.day ∙ m.day_is in cc e

  -- the expiry is the opening's where it is so many days after the trade date
  module _ (t : OpeningTerm) (is : shown ≡ Some t) (x : Expiry) (b : Bool) where
    by_day : (k : Option DayNo) → book.day ≡ k → (IsTrue b ↔ IsSomeAnd k (λ d. x ≡ opening_expiry d)) → (IsTrue b ↔ IsOpeningExpiry events x)
    by_day None day_is both = (λ t. absurd (both.0 t), λ m. absurd (no_expiry_day x day_is m))
    by_day (Some d) day_is both = expiry_at d (sym h.stands.day ∙ day_is) t is x b both

    pub expiry_by_day : (IsTrue b ↔ IsSomeAnd book.day (λ d. x ≡ opening_expiry d)) → (IsTrue b ↔ IsOpeningExpiry events x)
    expiry_by_day both = by_day book.day refl both
