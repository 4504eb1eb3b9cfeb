-- Lawful lists, event by event.
use Rattle.std.proofs.Common.{sym, subst, List, [], ◌∷◌, ◌++◌, append_assoc}
use Rattle.std.proofs.lemmas.List.{append-nil}
use Rattle.vx_feed.specs.declared.events.Event.{Event}
use Rattle.vx_feed.specs.Order.{IsLawfulNext, AreLawfulAfter, AreLawful}
use Rattle.vx_feed.specs.NextEvents.{LeadingPartsAreLawful, OneMoreIsLawful}

leading_after : (before a b : List Event) → AreLawfulAfter before (a ++ b) → AreLawfulAfter before a
leading_after before [] b h = tt
leading_after before (e ∷ a) b h = (h.0, leading_after (before ++ e ∷ []) a b h.1)

one_more_to : (before a : List Event) (e : Event) → AreLawfulAfter before (a ++ e ∷ []) → AreLawfulAfter before a × IsLawfulNext (before ++ a) e
one_more_to before [] e h = let P : List Event → Type 0 = λ l. IsLawfulNext l e in (tt, subst P (sym (append-nil before)) h.0)
one_more_to before (x ∷ a) e h =
    let P : List Event → Type 0 = λ l. IsLawfulNext l e in
    let more = one_more_to (before ++ x ∷ []) a e h.1 in
    ((h.0, more.0), subst P (append_assoc before (x ∷ []) a) more.1)

one_more_from : (before a : List Event) (e : Event) → AreLawfulAfter before a → IsLawfulNext (before ++ a) e → AreLawfulAfter before (a ++ e ∷ [])
one_more_from before [] e h next = let P : List Event → Type 0 = λ l. IsLawfulNext l e in (subst P (append-nil before) next, tt)
one_more_from before (x ∷ a) e h next =
    let P : List Event → Type 0 = λ l. IsLawfulNext l e in
    (h.0, one_more_from (before ++ x ∷ []) a e h.1 (subst P (sym (append_assoc before (x ∷ []) a)) next))

pub leading_parts_are_lawful : LeadingPartsAreLawful
leading_parts_are_lawful a b h = leading_after [] a b h

pub lawful_with_one_more : (events : List Event) (e : Event) → AreLawful events → IsLawfulNext events e → AreLawful (events ++ e ∷ [])
lawful_with_one_more events e h next = one_more_from [] events e h next

pub one_more_is_lawful : OneMoreIsLawful
one_more_is_lawful events e = (one_more_to [] events e, (λ h. one_more_from [] events e h.0 h.1))
