-- A lawful list with an END ends with it.
use Rattle.std.proofs.Common.{◌≡◌, refl, sym, ap, ◌∙◌, ℕ, ◌-◌, Bool, true, false, ◌||◌, eqb, List, [], ◌∷◌, ◌++◌, length, append_assoc, inl, inr}
use Rattle.std.specs.List.{list_any}
use Rattle.std.proofs.lemmas.Bool.{cases_Bool, both_ways, or_right, not-false, eqb-true}
use Rattle.std.proofs.lemmas.List.{append-nil}
use Rattle.vx_feed.specs.declared.events.Event.{Event}
use Rattle.vx_feed.specs.declared.events.Event.TheVariants as event
use Rattle.vx_feed.specs.Order.{is_end, IsLawfulNext, AreLawfulAfter}
use Rattle.vx_feed.proofs.NextEvent.{any-push}
use Rattle.vx_feed.specs.NextEvents.{EndIsLast}
use Rattle.vx_feed.proofs.NoCauses.{no_causes}

-- after an END nothing may come
pub nothing_after_end : (before : List Event) (e : Event) → list_any is_end before ≡ true → ¬ IsLawfulNext before e
nothing_after_end before e ended next = both_ways (list_any is_end before) (no_causes before e next.in_order).before_end ended

-- an END that may come counts the events between the first and it
count_is : (before : List Event) (n : ℕ) → IsLawfulNext before (event.End n) → n ≡ length before - 1
count_is before n next =
    eqb-true n (length before - 1) (not-false (eqb n (length before - 1)) (no_causes before (event.End n) next.in_order).counted)

-- the events after earlier ones, of which the last is an END
record EndsAfter (before events : List Event) : Type 0 where
  front : List Event
  parts : events ≡ front ++ event.End (length (before ++ front) - 1) ∷ []
  none_before : list_any is_end front ≡ false

ends_here : (before : List Event) (e : Event) → is_end e ≡ true → IsLawfulNext before e → EndsAfter before (e ∷ [])
ends_here before (event.End n) is next =
    record { front = []; parts = ap (λ k. event.End k ∷ []) (count_is before n next ∙ ap (λ l. length l - 1) (sym (append-nil before))); none_before = refl }
ends_here before (event.Header day) is next = absurd cc
ends_here before (event.Expiry x) is next = absurd cc
ends_here before (event.Rate x rate) is next = absurd cc
ends_here before (event.Series s) is next = absurd cc
ends_here before (event.Quote time s bid ask) is next = absurd cc
ends_here before (event.Trade time s price) is next = absurd cc
ends_here before (event.Tick time) is next = absurd cc
ends_here before (event.Opening time) is next = absurd cc

ends_later : (before events : List Event) (e : Event) → is_end e ≡ false → EndsAfter (before ++ e ∷ []) events → EndsAfter before (e ∷ events)
ends_later before events e is_not h = record {
  front = e ∷ h.front;
  parts = ap (λ l. e ∷ l) (h.parts ∙ ap (λ l. h.front ++ event.End (length l - 1) ∷ []) (append_assoc before (e ∷ []) h.front));
  none_before = neither (is_end e) (list_any is_end h.front) is_not h.none_before;
}
  where
    neither : (a b : Bool) → a ≡ false → b ≡ false → (a || b) ≡ false
    neither a b p q = ap (λ c. c || b) p ∙ q

second_true : (a b : Bool) → a ≡ false → (a || b) ≡ true → b ≡ true
second_true a b p h = ap (λ c. c || b) (sym p) ∙ h

ends_after : (events before : List Event) → list_any is_end before ≡ false → AreLawfulAfter before events → list_any is_end events ≡ true → EndsAfter before events
ends_after [] before none lawful any = absurd cc
ends_after (e ∷ []) before none lawful any =
    elim (cases_Bool (is_end e)) [
      | inl is ↦ ends_here before e is lawful.0
      | inr is_not ↦ let later : false ≡ true = second_true (is_end e) false is_not any in absurd cc
    ]
ends_after (e ∷ (next ∷ events)) before none lawful any =
    elim (cases_Bool (is_end e)) [
      | inl is ↦
          absurd (nothing_after_end (before ++ e ∷ []) next (any-push is_end before e ∙ or_right (list_any is_end before) (is_end e) is) lawful.1.0)
      | inr is_not ↦ ends_later before (next ∷ events) e is_not
          (ends_after (next ∷ events) (before ++ e ∷ []) (any-push is_end before e ∙ ap (λ c. c || is_end e) none ∙ is_not) lawful.1
          (second_true (is_end e) (list_any is_end (next ∷ events)) is_not any))
    ]

pub end_is_last : EndIsLast
end_is_last events lawful any =
    let h = ends_after events [] refl lawful any in
    record { front = h.front; parts = h.parts; none_before = h.none_before }
