-- The first cause that holds is answered.
use Rattle.std.proofs.Common.{◌≡◌, ◌∙◌, sym, ap, refl, ℕ, ◌↔◌, Bool, true, false, not, ◌&&◌, eqb, List, [], ◌∷◌, ◌++◌, take, drop, Some, None, inl, inr}
use Rattle.std.proofs.lemmas.Bool.{cases_Bool, cond-true, cond-false, both_ways, and_parts, not-true, eq-eqb}
use Rattle.vx_feed.specs.declared.faults.FeedFault.{FeedFault}
use Rattle.vx_feed.specs.declared.faults.FeedFault.TheVariants as fault
use Rattle.vx_feed.specs.Order.{is_misplaced, is_after_end, is_time_back, is_duplicate_expiry, is_duplicate_series, is_undeclared, is_too_many, is_other_count, is_out_of_days, is_second_opening, first_fault, order_causes}
use Rattle.vx_feed.specs.NextEvents.{NoneHolds, HoldsFirst, tests_of, IsFirstCause, FaultIsOfFirstCause, InOrderHasNoCause, FaultsByCause}

abbrev Cause : Type 0
Cause = Bool × FeedFault

answers : (c : Cause) (cs : List Cause) → c.0 ≡ true → first_fault (c ∷ cs) ≡ Some c.1
answers c cs h = cond-true c.0 (Some c.1) (first_fault cs) h

passes : (c : Cause) (cs : List Cause) → c.0 ≡ false → first_fault (c ∷ cs) ≡ first_fault cs
passes c cs h = cond-false c.0 (Some c.1) (first_fault cs) h

-- ---- the first cause of a list

first_to : (cs : List Cause) (f : FeedFault) → first_fault cs ≡ Some f → IsFirstCause cs f
first_to [] f h = absurd cc
first_to (c ∷ cs) f h =
    elim (cases_Bool c.0) [
      | inl holds ↦
          let said : Some c.1 ≡ Some f = sym (answers c cs holds) ∙ h in
          let same : c.1 ≡ f = cc in
          record { earlier = []; test = c.0; later = cs; parts = ap (λ g. (c.0, g) ∷ cs) same; first = record { holds = holds; none_earlier = tt } }
      | inr fails ↦
          let more = first_to cs f (sym (passes c cs fails) ∙ h) in
          record {
            earlier = c ∷ more.earlier;
            test = more.test;
            later = more.later;
            parts = ap (λ l. c ∷ l) more.parts;
            first = record { holds = more.first.holds; none_earlier = (fails, more.first.none_earlier) };
          }
    ]

first_from : (front : List Cause) (test : Bool) (f : FeedFault) (later : List Cause) → HoldsFirst (tests_of front) test → first_fault (front ++ (test, f) ∷ later) ≡ Some f
first_from [] test f later h = answers (test, f) later h.holds
first_from (c ∷ front) test f later h =
    passes c (front ++ (test, f) ∷ later) h.none_earlier.0
    ∙ first_from front test f later (record { holds = h.holds; none_earlier = h.none_earlier.1 })

none_to : (cs : List Cause) → first_fault cs ≡ None → NoneHolds (tests_of cs)
none_to [] h = tt
none_to (c ∷ cs) h =
    elim (cases_Bool c.0) [
      | inl holds ↦ let said : Some c.1 ≡ None = sym (answers c cs holds) ∙ h in absurd cc
      | inr fails ↦ (fails, none_to cs (sym (passes c cs fails) ∙ h))
    ]

none_from : (cs : List Cause) → NoneHolds (tests_of cs) → first_fault cs ≡ None
none_from [] h = refl
none_from (c ∷ cs) h = passes c cs h.0 ∙ none_from cs h.1

pub fault_is_of_first_cause : FaultIsOfFirstCause
fault_is_of_first_cause before e f = (
  first_to (order_causes before e) f,
  (λ h. ap first_fault h.parts ∙ first_from h.earlier h.test f h.later h.first),
)

pub in_order_has_no_cause : InOrderHasNoCause
in_order_has_no_cause before e = (none_to (order_causes before e), none_from (order_causes before e))

-- ---- the ten faults, told apart by a number of each

number : FeedFault → ℕ
number fault.NoMemory = 0
number fault.Byte = 1
number fault.Kind = 2
number fault.Fields = 3
number (fault.Field n) = 4
number fault.NotFirst = 5
number fault.AfterEnd = 6
number fault.TimeBack = 7
number fault.DuplicateExpiry = 8
number fault.DuplicateSeries = 9
number fault.UndeclaredExpiry = 10
number fault.TooMany = 11
number fault.EndCount = 12
number fault.TimeRange = 13
number fault.SecondOpening = 14

-- the fault is none of these causes'
absent : FeedFault → List Cause → Bool
absent f [] = true
absent f (c ∷ cs) = not (eqb (number c.1) (number f)) && absent f cs

apart : (c : Cause) (cs : List Cause) (f : FeedFault) → absent f (c ∷ cs) ≡ true → (Some c.1 ≡ Some f) → ⊥
unfolding absent
apart c cs f a h =
    let same : c.1 ≡ f = cc in
    both_ways (eqb (number c.1) (number f)) (not-true (eqb (number c.1) (number f)) (and_parts (not (eqb (number c.1) (number f))) (absent f cs) a).0)
    (eq-eqb (number c.1) (number f) (ap number same))

rest_absent : (c : Cause) (cs : List Cause) (f : FeedFault) → absent f (c ∷ cs) ≡ true → absent f cs ≡ true
unfolding absent
rest_absent c cs f a = (and_parts (not (eqb (number c.1) (number f))) (absent f cs) a).1

not_answered : (f : FeedFault) (cs : List Cause) → absent f cs ≡ true → first_fault cs ≡ Some f → ⊥
not_answered f [] a h = cc
not_answered f (c ∷ cs) a h =
    elim (cases_Bool c.0) [
      | inl holds ↦ apart c cs f a (sym (answers c cs holds) ∙ h)
      | inr fails ↦ not_answered f cs (rest_absent c cs f a) (sym (passes c cs fails) ∙ h)
    ]

holds_to : (front : List Cause) (test : Bool) (f : FeedFault) (later : List Cause) → absent f front ≡ true → absent f later ≡ true → first_fault (front ++ (test, f) ∷ later) ≡ Some f → HoldsFirst (tests_of front) test
holds_to [] test f later a b h =
    elim (cases_Bool test) [
      | inl holds ↦ record { holds = holds; none_earlier = tt }
      | inr fails ↦ absurd (not_answered f later b (sym (passes (test, f) later fails) ∙ h))
    ]
holds_to (c ∷ front) test f later a b h =
    elim (cases_Bool c.0) [
      | inl holds ↦ absurd (apart c front f a (sym (answers c (front ++ (test, f) ∷ later) holds) ∙ h))
      | inr fails ↦
          let more = holds_to front test f later (rest_absent c front f a) b (sym (passes c (front ++ (test, f) ∷ later) fails) ∙ h) in
          record { holds = more.holds; none_earlier = (fails, more.none_earlier) }
    ]

-- a cause between those before it and those after it, of which none has its fault
by_cause : (front : List Cause) (test : Bool) (f : FeedFault) (later : List Cause) → absent f front ≡ true → absent f later ≡ true
    → (first_fault (front ++ (test, f) ∷ later) ≡ Some f) ↔ HoldsFirst (tests_of front) test
by_cause front test f later a b = (holds_to front test f later a b, first_from front test f later)

pub faults_by_cause : FaultsByCause
unfolding absent number
faults_by_cause = record {
  not_first = λ before e. by_cause (take 0 (order_causes before e)) (is_misplaced before e) fault.NotFirst (drop 1 (order_causes before e)) refl refl;
  after_end = λ before e. by_cause (take 1 (order_causes before e)) (is_after_end before e) fault.AfterEnd (drop 2 (order_causes before e)) refl refl;
  time_back = λ before e. by_cause (take 2 (order_causes before e)) (is_time_back before e) fault.TimeBack (drop 3 (order_causes before e)) refl refl;
  duplicate_expiry = λ before e. by_cause (take 3 (order_causes before e)) (is_duplicate_expiry before e) fault.DuplicateExpiry (drop 4 (order_causes before e)) refl refl;
  duplicate_series = λ before e. by_cause (take 4 (order_causes before e)) (is_duplicate_series before e) fault.DuplicateSeries (drop 5 (order_causes before e)) refl refl;
  undeclared_expiry = λ before e. by_cause (take 5 (order_causes before e)) (is_undeclared before e) fault.UndeclaredExpiry (drop 6 (order_causes before e)) refl refl;
  too_many = λ before e. by_cause (take 6 (order_causes before e)) (is_too_many before e) fault.TooMany (drop 7 (order_causes before e)) refl refl;
  end_count = λ before e. by_cause (take 7 (order_causes before e)) (is_other_count before e) fault.EndCount (drop 8 (order_causes before e)) refl refl;
  time_range = λ before e. by_cause (take 8 (order_causes before e)) (is_out_of_days before e) fault.TimeRange (drop 9 (order_causes before e)) refl refl;
  second_opening = λ before e. by_cause (take 9 (order_causes before e)) (is_second_opening before e) fault.SecondOpening (drop 10 (order_causes before e)) refl refl;
}
