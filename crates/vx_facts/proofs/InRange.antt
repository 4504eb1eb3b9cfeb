-- A part of a lawful list of events is lawful.
use Rattle.std.proofs.Common.{ℕ, zero, suc, take, List, [], ◌∷◌, ◌++◌, sym, subst, inl, inr}
use Rattle.std.proofs.lemmas.Bool.{cases_Bool, cond-true, cond-false}
use Rattle.vx_feed.specs.declared.events.Event.{Event}
use Rattle.vx_feed.specs.Standing.{is_opening, before_opening}
use Rattle.vx_feed.specs.Order.{AreLawfulAfter, AreLawful}

before_after : (before events : List Event) → AreLawfulAfter before events → AreLawfulAfter before (before_opening events)
before_after before [] h = tt
before_after before (d ∷ events) h =
    let P : List Event → Type 0 = λ xs. AreLawfulAfter before xs in
    elim (cases_Bool (is_opening d)) [
      | inl opens ↦ subst P (sym (cond-true (is_opening d) [] (d ∷ before_opening events) opens)) tt
      | inr other ↦ subst P (sym (cond-false (is_opening d) [] (d ∷ before_opening events) other)) (h.0, before_after (before ++ d ∷ []) events h.1)
    ]

-- the events before the opening are lawful where all are
pub before_is_lawful : (events : List Event) → AreLawful events → AreLawful (before_opening events)
before_is_lawful events h = before_after [] events h

take_after : (n : ℕ) (before events : List Event) → AreLawfulAfter before events → AreLawfulAfter before (take n events)
take_after zero before [] h = tt
take_after (suc n) before [] h = tt
take_after zero before (d ∷ events) h = tt
take_after (suc n) before (d ∷ events) h = (h.0, take_after n (before ++ d ∷ []) events h.1)

-- the first events of a lawful list are lawful
pub take_is_lawful : (n : ℕ) (events : List Event) → AreLawful events → AreLawful (take n events)
take_is_lawful n events h = take_after n [] events h
