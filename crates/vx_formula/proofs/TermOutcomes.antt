-- Each term is answered: refused, undecided or sound.
use Rattle.std.proofs.Common.{◌≡◌, refl, sym, ap, ◌∙◌, subst, ℕ, ◌+◌, ◌<◌, ◌≤◌, ◌⊎◌, cond, eqb, ℤ, List, [], Option, Some, None, inl, inr, arith}
use Rattle.std.specs.List.{Contains}
use Rattle.std.specs.Option.{IfSome}
use Rattle.std.proofs.lemmas.Bool.{cases_lt}
use Rattle.vx_symbol.specs.declared.rows.StrikeRow.{StrikeRow}
use Rattle.vx_symbol.specs.Rows.{IsRateInRange}
use Rattle.vx_formula.specs.Pair.{Pair, live_pairs, IsClosestPair}
use Rattle.vx_formula.specs.Term.{TermFacts, Term, IsTermOf, HasSmallExponent}
use Rattle.vx_formula.specs.Level.{IsLevel}
use Rattle.vx_formula.specs.Refusal.{IsBelowAll, HasNoneAbove, LacksMoney, HasNoPut, HasNoCall, IsTooLarge, AtLevel, HasNoneBelow, TermReason}
use Rattle.vx_formula.specs.Refusal.{no_rate, no_pair, no_strike_below, no_strike_above, no_money, no_put, no_call, strip_too_large, TermRefuses}
use Rattle.vx_formula.specs.Refusal.{term_place}
use Rattle.vx_formula.proofs.Lists.{in_from_contains}
use Rattle.vx_formula.proofs.PairLemmas.{closest_pair_is_one, closest_pair_is_there}
use Rattle.vx_formula.proofs.LevelLemmas.{level_is_one, level_is_not_below_all}
use Rattle.vx_formula.proofs.RangeLemmas.{exponent_is_small}
use Rattle.vx_formula.specs.TermOutcomes.{AreFactsInRange, TermOfFactsIsOne, AreForwardEnds, IsRefused, IsUndecided, IsSound, TermIsAnswered, RefusedIsNotSound, UndecidedComesFirst}
use Rattle.vx_formula.proofs.EndLemmas.{ends_decide_or_not}
use Rattle.vx_formula.proofs.RowDecisions.{none_above_or_not, money_or_not, put_or_not, call_or_not, large_or_not}

-- ---- the places of reasons

reason_at : ℕ → TermReason
reason_at n =
    cond (eqb n 1) no_rate (cond (eqb n 2) no_pair (cond (eqb n 4) no_strike_below (cond (eqb n 5) no_strike_above
    (cond (eqb n 6) no_money (cond (eqb n 7) no_put (cond (eqb n 8) no_call strip_too_large))))))

reason_at-place : (r : TermReason) → reason_at (term_place r) ≡ r
unfolding reason_at
reason_at-place no_rate = refl
reason_at-place no_pair = refl
reason_at-place no_strike_below = refl
reason_at-place no_strike_above = refl
reason_at-place no_money = refl
reason_at-place no_put = refl
reason_at-place no_call = refl
reason_at-place strip_too_large = refl

pub place_in_range : (r : TermReason) → (1 ≤ term_place r) × (term_place r ≤ 9)
place_in_range no_rate = (omega arith, omega arith)
place_in_range no_pair = (omega arith, omega arith)
place_in_range no_strike_below = (omega arith, omega arith)
place_in_range no_strike_above = (omega arith, omega arith)
place_in_range no_money = (omega arith, omega arith)
place_in_range no_put = (omega arith, omega arith)
place_in_range no_call = (omega arith, omega arith)
place_in_range strip_too_large = (omega arith, omega arith)

pub place_is_not_3 : (r : TermReason) → term_place r ≡ 3 → ⊥
place_is_not_3 no_rate e = omega arith
place_is_not_3 no_pair e = omega arith
place_is_not_3 no_strike_below e = omega arith
place_is_not_3 no_strike_above e = omega arith
place_is_not_3 no_money e = omega arith
place_is_not_3 no_put e = omega arith
place_is_not_3 no_call e = omega arith
place_is_not_3 strip_too_large e = omega arith

-- ---- one term of facts

pub term_of_facts_is_one : TermOfFactsIsOne
term_of_facts_is_one facts a b rise h l =
    let rows : a.rows ≡ b.rows = h.rows_are ∙ sym l.rows_are in
    let rates : Some a.rate ≡ Some b.rate = sym h.rate_stands ∙ l.rate_stands in
    let rate : a.rate ≡ b.rate = cc in
    let minutes : a.minutes ≡ b.minutes = h.minutes_are ∙ sym l.minutes_are in
    let P : List StrikeRow → Type 0 = λ rs. IsClosestPair rs a.pair in
    let Q : List StrikeRow → Type 0 = λ rs. IsClosestPair rs b.pair in
    let pair : a.pair ≡ b.pair = closest_pair_is_one facts.rows a.pair b.pair rise (subst P h.rows_are h.pair_is_closest) (subst Q l.rows_are l.pair_is_closest) in
    let by_rows : a ≡ record { rows = b.rows; rate = a.rate; minutes = a.minutes; pair = a.pair } = ap (λ rs. record { rows = rs; rate = a.rate; minutes = a.minutes; pair = a.pair }) rows in
    let by_rate : record { rows = b.rows; rate = a.rate; minutes = a.minutes; pair = a.pair } ≡ record { rows = b.rows; rate = b.rate; minutes = a.minutes; pair = a.pair } =
    ap (λ z. record { rows = b.rows; rate = z; minutes = a.minutes; pair = a.pair }) rate in
    let by_minutes : record { rows = b.rows; rate = b.rate; minutes = a.minutes; pair = a.pair } ≡ record { rows = b.rows; rate = b.rate; minutes = b.minutes; pair = a.pair } =
    ap (λ n. record { rows = b.rows; rate = b.rate; minutes = n; pair = a.pair }) minutes in
    let by_pair : record { rows = b.rows; rate = b.rate; minutes = b.minutes; pair = a.pair } ≡ b =
    ap (λ p. record { rows = b.rows; rate = b.rate; minutes = b.minutes; pair = p }) pair in
    by_rows ∙ by_rate ∙ by_minutes ∙ by_pair

-- ---- what is refused

module _ (P : ℕ) (facts : TermFacts) where
  -- nothing before a place refuses
  NoneBefore : ℕ → Type 0
  NoneBefore n = (r : TermReason) → term_place r < n → ¬ TermRefuses P facts r

  none_at_first : NoneBefore 1
  unfolding NoneBefore
  none_at_first r low = let range = place_in_range r in absurd (omega arith)

  -- nor does the reason of that place
  none_after : (s : TermReason) (n : ℕ) → term_place s ≡ n → NoneBefore n → ¬ TermRefuses P facts s → NoneBefore (n + 1)
  unfolding NoneBefore
  none_after s n at none refuses_not r low =
      elim (cases_lt (term_place r) n) [
        | inl less ↦ none r less
        | inr fine ↦
            let places : term_place r ≡ term_place s = omega arith in
            let same : s ≡ r = sym (reason_at-place s) ∙ ap reason_at (sym places) ∙ reason_at-place r in
            subst (λ t. ¬ TermRefuses P facts t) same refuses_not
      ]

  none_after_3 : NoneBefore 3 → NoneBefore 4
  unfolding NoneBefore
  none_after_3 none r low =
      elim (cases_lt (term_place r) 3) [ inl less ↦ none r less | inr fine ↦ absurd (place_is_not_3 r (omega arith)) ]

  first : (r : TermReason) → TermRefuses P facts r → NoneBefore (term_place r) → IsRefused P facts
  unfolding NoneBefore
  first r holds none = (r, record { holds = holds; none_earlier = none })

  module _ (term : Term) (of : IsTermOf facts term) (range : AreFactsInRange facts) where
    rate_of_term : (o : Option ℤ) → o ≡ Some term.rate → IfSome o IsRateInRange → IsRateInRange term.rate
    rate_of_term None e h = absurd cc
    rate_of_term (Some rate) e h = let same : rate ≡ term.rate = cc in subst IsRateInRange same h

    small : HasSmallExponent term
    small = let minutes = range.minutes in let same = of.minutes_are in (exponent_is_small term (rate_of_term facts.rate of.rate_stands range.rate) (omega arith)).1

    -- a level excludes that every strike is above the forward, and is the only one
    none_below_not : (k : ℕ) → IsLevel term k → ¬ HasNoneBelow facts
    none_below_not k level h =
        level_is_not_below_all term k small level (subst IsBelowAll (term_of_facts_is_one facts h.term term range.rising h.is_of_facts of) h.below_all)

    at_level : (Q : List StrikeRow → ℕ → Type 0) (k : ℕ) → IsLevel term k → AtLevel facts Q → Q term.rows k
    at_level Q k level h =
        let same : h.term ≡ term = term_of_facts_is_one facts h.term term range.rising h.is_of_facts of in
        let L : Term → Type 0 = λ t. IsLevel t h.level in
        let R : Term → Type 0 = λ t. Q t.rows h.level in
        subst (Q term.rows) (level_is_one term h.level k small (subst L same h.is_level) level) (subst R same h.holds)

    refuses_at : (Q : List StrikeRow → ℕ → Type 0) (k : ℕ) → IsLevel term k → Q term.rows k → AtLevel facts Q
    refuses_at Q k level holds = record { term = term; is_of_facts = of; level = k; is_level = level; holds = holds }

    sound : (k : ℕ) → IsLevel term k → NoneBefore 10 → IsSound P facts
    unfolding NoneBefore
    sound k level none10 = record {
      term = term;
      is_of_facts = of;
      level = k;
      is_level = level;
      none_refuses = λ r. let range = place_in_range r in none10 r (omega arith);
    }

    -- the answer at a level: where both sides are selected, and before
    with_sides : (k : ℕ) → IsLevel term k → NoneBefore 9 → IsRefused P facts ⊎ IsSound P facts
    with_sides k level none9 =
        elim (large_or_not P term.rows k) [
          | inl q ↦ inl (first strip_too_large (refuses_at (IsTooLarge P) k level q) none9)
          | inr q_not ↦ inr (sound k level (none_after strip_too_large 9 refl none9 (λ h. q_not (at_level (IsTooLarge P) k level h))))
        ]

    with_level : (k : ℕ) → IsLevel term k → NoneBefore 5 → IsRefused P facts ⊎ IsSound P facts
    with_level k level none5 =
        elim (none_above_or_not term.rows k) [
          | inl q ↦ inl (first no_strike_above (refuses_at HasNoneAbove k level q) none5)
          | inr q_not ↦
              let none6 = none_after no_strike_above 5 refl none5 (λ h. q_not (at_level HasNoneAbove k level h)) in
              elim (money_or_not term.rows k) [
                | inl q ↦ inl (first no_money (refuses_at LacksMoney k level q) none6)
                | inr q_not ↦
                    let none7 = none_after no_money 6 refl none6 (λ h. q_not (at_level LacksMoney k level h)) in
                    elim (put_or_not term.rows k) [
                      | inl q ↦ inl (first no_put (refuses_at HasNoPut k level q) none7)
                      | inr q_not ↦
                          let none8 = none_after no_put 7 refl none7 (λ h. q_not (at_level HasNoPut k level h)) in
                          elim (call_or_not term.rows k) [
                            | inl q ↦ inl (first no_call (refuses_at HasNoCall k level q) none8)
                            | inr q_not ↦ with_sides k level (none_after no_call 8 refl none8 (λ h. q_not (at_level HasNoCall k level h)))
                          ]
                    ]
              ]
        ]

    with_term : (lo hi : ℤ) → AreForwardEnds facts lo hi → NoneBefore 3 → IsRefused P facts ⊎ (IsUndecided P facts lo hi ⊎ IsSound P facts)
    unfolding NoneBefore
    with_term lo hi ends none3 =
        elim (ends_decide_or_not term lo hi (ends.between term of) ends.narrow) [
          | inl found ↦ inr (inl (record { term = term; is_of_facts = of; strike = found.0; undecided = found.1; none_earlier = none3 }))
          | inr decided ↦ elim decided [
            | inl below ↦ inl (first no_strike_below (record { term = term; is_of_facts = of; below_all = below }) (none_after_3 none3))
            | inr level ↦
                elim (with_level level.0 level.1 (none_after no_strike_below 4 refl (none_after_3 none3) (none_below_not level.0 level.1))) [
                  | inl refused ↦ inl refused
                  | inr sound ↦ inr (inr sound)
                ]
          ]
        ]

  -- by the rate and the pair
  by_pair : (lo hi : ℤ) → AreFactsInRange facts → AreForwardEnds facts lo hi → (rate : ℤ) → facts.rate ≡ Some rate → NoneBefore 2
      → ((live_pairs facts.rows ≡ []) ⊎ ((p : Pair) × IsClosestPair facts.rows p)) → IsRefused P facts ⊎ (IsUndecided P facts lo hi ⊎ IsSound P facts)
  by_pair lo hi range ends rate stands none2 (inl none) = inl (first no_pair none none2)
  by_pair lo hi range ends rate stands none2 (inr (pair, closest)) =
      let term : Term = record { rows = facts.rows; rate = rate; minutes = facts.minutes; pair = pair } in
      let of : IsTermOf facts term = record { rows_are = refl; rate_stands = stands; minutes_are = refl; pair_is_closest = closest } in
      with_term term of range lo hi ends (none_after no_pair 2 refl none2 (λ none. no_live facts.rows pair closest none))
    where
      no_live : (rows : List StrikeRow) (pair : Pair) → IsClosestPair rows pair → live_pairs rows ≡ [] → ⊥
      no_live rows pair closest none =
          let M : List Pair → Type 0 = λ ps. Contains ps pair in
          elim (in_from_contains [] pair (subst M none closest.among)) [ ]

  by_rate : (lo hi : ℤ) → AreFactsInRange facts → AreForwardEnds facts lo hi → (o : Option ℤ) → facts.rate ≡ o → IsRefused P facts ⊎ (IsUndecided P facts lo hi ⊎ IsSound P facts)
  by_rate lo hi range ends None e = inl (first no_rate e none_at_first)
  by_rate lo hi range ends (Some rate) e =
      by_pair lo hi range ends rate e (none_after no_rate 1 refl none_at_first (λ none. let both : Some rate ≡ None = sym e ∙ none in absurd cc)) (closest_pair_is_there facts.rows)

pub term_is_answered : TermIsAnswered
term_is_answered P facts lo hi range ends = by_rate P facts lo hi range ends facts.rate refl

pub refused_is_not_sound : RefusedIsNotSound
refused_is_not_sound P facts (reason, h) sound = sound.none_refuses reason h.holds

pub undecided_comes_first : UndecidedComesFirst
undecided_comes_first P facts lo hi reason h l =
    elim (cases_lt (term_place reason) 3) [
      | inl less ↦ absurd (h.none_earlier reason less l.holds)
      | inr fine ↦ elim (cases_lt 3 (term_place reason)) [ inl more ↦ more | inr at ↦ absurd (place_is_not_3 reason (omega arith)) ]
    ]
