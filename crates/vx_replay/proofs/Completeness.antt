-- What is clear is answered.
use Rattle.std.proofs.Common.{◌≡◌, ◌∙◌, sym, ap, subst, refl, ℕ, ◌-◌, ◌<◌, ◌≤◌, ℤ, List, Option, Some, None, arith}
use Rattle.std.proofs.lemmas.Option.{same_Some}
use Rattle.vx_clock.specs.declared.days.DayNo.{DayNo}
use Rattle.vx_clock.specs.declared.terms.Moment.{Moment}
use Rattle.vx_clock.specs.Minutes.{minutes_between}
use Rattle.vx_feed.specs.declared.events.Event.{Event}
use Rattle.vx_feed.specs.Listed.{declared_expiries}
use Rattle.vx_feed.specs.Order.{AreLawful}
use Rattle.vx_formula.specs.Term.{TermFacts, IsTermOf}
use Rattle.vx_formula.specs.Index.{TwoTerms}
use Rattle.vx_formula.specs.Refusal.{TickFacts, TickReason, no_near_term, no_next_term, of_near, of_next, negative_variance, TickRefuses, tick_place, FirstRefusal, near_undecided_place, next_undecided_place, cents_undecided_place}
use Rattle.vx_formula.proofs.FigureLemmas.{clear_index_is_decided}
use Rattle.vx_formula.proofs.RefusalLemmas.{first_refusal_is_one}
use Rattle.vx_formula.proofs.RefusalPlaces.{not_before, past_forward, place_range}
use Rattle.vx_claims.specs.declared.limits.TheConstants.{SCALE}
use Rattle.vx_claims.specs.Seen.{events_before, moment_of, term_facts, AreNearFacts, AreNextFacts, AreTickFacts}
use Rattle.vx_claims.specs.Answers.{RefusesTick, LeavesCents, LeavesNearForward, LeavesNextForward}
use Rattle.vx_facts.proofs.ShownProofs.{standing_is_lawful}
use Rattle.vx_facts.proofs.InRange.{take_is_lawful}
use Rattle.vx_term.specs.declared.answer.TermAnswer.{TermAnswer}
use Rattle.vx_term.specs.declared.answer.TermAnswer.TheVariants as term
use Rattle.vx_term.specs.Ranges.{AreFactsLawful}
use Rattle.vx_term.specs.Tight.{IsForwardDecided}
use Rattle.vx_accepted.specs.Clear.{HasClearForward, HasClearIndex}
use Rattle.vx_accepted.specs.Picked.{AreMinutesOfPicked}
use Rattle.vx_accepted.proofs.ClearTerms.{clear_forward_is_decided, exponent_of_facts_is_small}
use Rattle.vx_accepted.proofs.PickedMinutes.{picked_minutes_are_in_range}
use Rattle.vx_replay.specs.declared.answer.TickAnswer.{TickAnswer}
use Rattle.vx_replay.specs.declared.answer.TickAnswer.TheVariants.{Published, UndecidedCents, UndecidedForward, Refused}
use Rattle.vx_replay.specs.declared.answer.Which.TheVariants.{Near, Next, Both}
use Rattle.vx_replay.specs.Joined.{IsJoined}
use Rattle.vx_replay.specs.Ticks.{IsAnswerOfTerms}
use Rattle.vx_replay.specs.Lawful.{IsLawfulAnswer}
use Rattle.vx_replay.specs.Complete.{IsTickAnswered, ClearTickIsPublished, FirstRefusalIsAnswered}
use Rattle.vx_replay.proofs.LawfulTicks.{tick_answer_is_lawful}
use Rattle.vx_clock.proofs.TermsAreOne.{near_is_one, next_is_one}

-- ---- the facts of a tick are one

near_chosen : (before : List Event) (now : Moment) (days window : ℕ) (c d : Option TermFacts) → AreNearFacts before now days window c → AreNearFacts before now days window d → c ≡ d
near_chosen before now days window None None h k = refl
near_chosen before now days window None (Some g) h (x, is, at) = absurd (h x is.declared is.in_window)
near_chosen before now days window (Some f) None (x, is, at) k = absurd (k x is.declared is.in_window)
near_chosen before now days window (Some f) (Some g) (x, is, at) (y, also, there) =
    ap (λ z. Some z) (at ∙ ap (term_facts before now) (near_is_one now.day days window (declared_expiries before) x y is also) ∙ sym there)

next_chosen : (before : List Event) (now : Moment) (days window : ℕ) (c d : Option TermFacts) → AreNextFacts before now days window c → AreNextFacts before now days window d → c ≡ d
next_chosen before now days window None None h k = refl
next_chosen before now days window None (Some g) h (x, is, at) = absurd (h x is.declared is.in_window)
next_chosen before now days window (Some f) None (x, is, at) k = absurd (k x is.declared is.in_window)
next_chosen before now days window (Some f) (Some g) (x, is, at) (y, also, there) =
    ap (λ z. Some z) (at ∙ ap (term_facts before now) (next_is_one now.day days window (declared_expiries before) x y is also) ∙ sym there)

facts_from : (a b : TickFacts) → a.near ≡ b.near → a.next ≡ b.next → a.target ≡ b.target → a ≡ b
facts_from a b near next target = λ i. record { near = near i; next = next i; target = target i }

facts_are_one : (events : List Event) (line time days window : ℕ) (a b : TickFacts) → AreTickFacts events line time days window a → AreTickFacts events line time days window b → a ≡ b
facts_are_one events line time days window a b h k =
    let before = events_before events line in
    let same : k.day ≡ h.day = same_Some k.day h.day (sym k.day_is ∙ h.day_is) in
    let near = subst (λ (d : DayNo). AreNearFacts before (moment_of d time) days window b.near) same k.near_facts in
    let next = subst (λ (d : DayNo). AreNextFacts before (moment_of d time) days window b.next) same k.next_facts in
    facts_from a b (near_chosen before (moment_of h.day time) days window a.near b.near h.near_facts near)
    (next_chosen before (moment_of h.day time) days window a.next b.next h.next_facts next) (h.target_is ∙ sym k.target_is)

-- ---- a decided term leaves no undecided forward

module _ (line time days : ℕ) (strike : ℕ) (lo hi : ℤ) where
  near_is_decided : (near next : TermAnswer SCALE) → IsForwardDecided SCALE near → IsJoined line time days near next (UndecidedForward Near strike lo hi) → ⊥
  near_is_decided (term.Run a) (term.Run b) decided joined = joined
  near_is_decided (term.Run a) (term.Refused refusal) decided joined = cc
  near_is_decided (term.Run a) (term.UndecidedForward s l h) decided joined = cc
  near_is_decided (term.Refused refusal) next decided joined = cc
  near_is_decided (term.UndecidedForward s l h) next decided joined = decided

  next_is_decided : (near next : TermAnswer SCALE) → IsForwardDecided SCALE next → IsJoined line time days near next (UndecidedForward Next strike lo hi) → ⊥
  next_is_decided (term.Run a) (term.Run b) decided joined = joined
  next_is_decided (term.Run a) (term.Refused refusal) decided joined = cc
  next_is_decided (term.Run a) (term.UndecidedForward s l h) decided joined = decided
  next_is_decided (term.Refused refusal) next decided joined = cc
  next_is_decided (term.UndecidedForward s l h) next decided joined = cc

-- ---- a tick

module _ (days window : ℕ) (events : List Event) (line time : ℕ) (facts : TickFacts) (answer : TickAnswer) (is : IsTickAnswered days window events line time facts answer) where
  abbrev before : List Event
  before = events_before events line

  abbrev day : DayNo
  day = (is.is_answer).day

  abbrev now : Moment
  now = moment_of day time

  before_lawful : AreLawful before
  before_lawful = take_is_lawful (line - 1) events is.lawful

  same_day : (is.are_facts).day ≡ day
  same_day = same_Some (is.are_facts).day day (sym (is.are_facts).day_is ∙ (is.is_answer).day_is)

  module _ (h : IsAnswerOfTerms before now line days window answer) where
    near_are : facts.near ≡ Some (term_facts before now h.near)
    near_are =
        near_chosen before now days window facts.near (Some (term_facts before now h.near))
        (subst (λ (d : DayNo). AreNearFacts before (moment_of d time) days window facts.near) same_day (is.are_facts).near_facts) (h.near, h.is_near, refl)

    next_are : facts.next ≡ Some (term_facts before now h.next)
    next_are =
        next_chosen before now days window facts.next (Some (term_facts before now h.next))
        (subst (λ (d : DayNo). AreNextFacts before (moment_of d time) days window facts.next) same_day (is.are_facts).next_facts) (h.next, h.is_next, refl)

    picked : AreMinutesOfPicked days (minutes_between now h.near) (minutes_between now h.next)
    picked = picked_minutes_are_in_range days window now (declared_expiries before) h.near h.next is.in_days is.in_window h.is_near h.is_next

    near_lawful : AreFactsLawful (term_facts before now h.near)
    near_lawful = let shown = standing_is_lawful h.near before before_lawful in record { rows = shown.rows_are; rate = shown.rate_is; minutes = picked.near }

    next_lawful : AreFactsLawful (term_facts before now h.next)
    next_lawful = let shown = standing_is_lawful h.next before before_lawful in record { rows = shown.rows_are; rate = shown.rate_is; minutes = picked.next }

    near_decided : HasClearForward facts.near → IsForwardDecided SCALE h.near_answer
    near_decided clear = clear_forward_is_decided facts.near h.near (term_facts before now h.near) near_are near_lawful clear h.near_answer h.is_near_answer

    next_decided : HasClearForward facts.next → IsForwardDecided SCALE h.next_answer
    next_decided clear = clear_forward_is_decided facts.next h.next (term_facts before now h.next) next_are next_lawful clear h.next_answer h.is_next_answer

    -- with a clear index the figure is not undecided
    cents_are_decided : HasClearIndex facts → (lo hi : ℤ) → LeavesCents events line time days window lo hi → ⊥
    cents_are_decided clear lo hi leaves =
        let same : leaves.facts ≡ facts = facts_are_one events line time days window leaves.facts facts leaves.are_facts is.are_facts in
        let basis = leaves.is_basis in
        let near_is : Some (term_facts before now h.near) ≡ Some basis.near_facts = sym near_are ∙ ap (λ (t : TickFacts). t.near) (sym same) ∙ basis.near_is in
        let next_is : Some (term_facts before now h.next) ≡ Some basis.next_facts = sym next_are ∙ ap (λ (t : TickFacts). t.next) (sym same) ∙ basis.next_is in
        let near_facts = same_Some (term_facts before now h.near) basis.near_facts near_is in
        let next_facts = same_Some (term_facts before now h.next) basis.next_facts next_is in
        let near_of = subst (λ (f : TermFacts). IsTermOf f leaves.near) (sym near_facts) basis.near_of in
        let next_of = subst (λ (f : TermFacts). IsTermOf f leaves.next) (sym next_facts) basis.next_of in
        let small_near = exponent_of_facts_is_small (term_facts before now h.near) leaves.near near_lawful near_of in
        let small_next = exponent_of_facts_is_small (term_facts before now h.next) leaves.next next_lawful next_of in
        let here : HasClearIndex leaves.facts = subst HasClearIndex (sym same) clear in
        clear_index_is_decided (TwoTerms leaves.near leaves.next leaves.facts.target) lo hi (small_near, small_next) (here leaves.near leaves.next basis) leaves.undecided

  lawful_answer : IsLawfulAnswer days window events line time answer
  lawful_answer = tick_answer_is_lawful days window events line time answer is.in_days is.in_window is.lawful is.is_answer

  -- the refusal of the answer is one of these facts
  refusal_of_facts : (reason : TickReason) → RefusesTick events line time days window reason → FirstRefusal SCALE facts reason
  refusal_of_facts reason refuses = subst (λ (f : TickFacts). FirstRefusal SCALE f reason) (facts_are_one events line time days window refuses.facts facts refuses.are_facts is.are_facts) refuses.is_first

  -- what holds of no earlier place of other facts of the tick holds of these
  none_of_facts : (other : TickFacts) (place : ℕ) → AreTickFacts events line time days window other → ((reason : TickReason) → tick_place reason < place → ¬ TickRefuses SCALE other reason)
      → (reason : TickReason) → tick_place reason < place → ¬ TickRefuses SCALE facts reason
  none_of_facts other place are none reason less refuses =
      none reason less (subst (λ (f : TickFacts). TickRefuses SCALE f reason) (sym (facts_are_one events line time days window other facts are is.are_facts)) refuses)

-- where nothing is refused and all is clear, a figure is published
pub clear_tick_is_published : ClearTickIsPublished
clear_tick_is_published days window events line time facts (Published cents lo hi certificate) is none near next index = tt
clear_tick_is_published days window events line time facts (UndecidedCents lo hi) is none near next index =
    cents_are_decided days window events line time facts (UndecidedCents lo hi) is (is.is_answer).answered index lo hi (lawful_answer days window events line time facts (UndecidedCents lo hi) is)
clear_tick_is_published days window events line time facts (UndecidedForward Near strike lo hi) is none near next index =
    let h = (is.is_answer).answered in
    near_is_decided line time days strike lo hi h.near_answer h.next_answer (near_decided days window events line time facts (UndecidedForward Near strike lo hi) is h near) h.joined
clear_tick_is_published days window events line time facts (UndecidedForward Next strike lo hi) is none near next index =
    let h = (is.is_answer).answered in
    next_is_decided line time days strike lo hi h.near_answer h.next_answer (next_decided days window events line time facts (UndecidedForward Next strike lo hi) is h next) h.joined
clear_tick_is_published days window events line time facts (UndecidedForward Both strike lo hi) is none near next index =
    lawful_answer days window events line time facts (UndecidedForward Both strike lo hi) is
clear_tick_is_published days window events line time facts (Refused reason which) is none near next index =
    let refused = lawful_answer days window events line time facts (Refused reason which) is in
    none refused.0 (refusal_of_facts days window events line time facts (Refused reason which) is refused.0 refused.2).holds

-- a refusal at the place of the figure or later is that of a negative variance
late_tick_is_negative : (reason : TickReason) → cents_undecided_place ≤ tick_place reason → reason ≡ negative_variance
late_tick_is_negative no_near_term late = absurd (omega (arith, late))
late_tick_is_negative no_next_term late = absurd (omega (arith, late))
late_tick_is_negative (of_near reason) late = let r = place_range reason in absurd (omega (arith, late, r.1))
late_tick_is_negative (of_next reason) late = let r = place_range reason in absurd (omega (arith, late, r.1))
late_tick_is_negative negative_variance late = refl

-- no refusal stands at the place of an undecided forward
not_near_place : (reason : TickReason) → near_undecided_place ≤ tick_place reason → near_undecided_place < tick_place reason
not_near_place no_near_term late = omega (arith, late)
not_near_place no_next_term late = omega (arith, late)
not_near_place (of_near reason) late = past_forward 2 reason late
not_near_place (of_next reason) late = let r = place_range reason in omega (arith, r.0)
not_near_place negative_variance late = omega arith

not_next_place : (reason : TickReason) → next_undecided_place ≤ tick_place reason → next_undecided_place < tick_place reason
not_next_place no_near_term late = omega (arith, late)
not_next_place no_next_term late = omega (arith, late)
not_next_place (of_near reason) late = let r = place_range reason in omega (arith, late, r.1)
not_next_place (of_next reason) late = past_forward 11 reason late
not_next_place negative_variance late = omega arith

-- the first refusal is answered where what comes before it is clear
pub first_refusal_is_answered : FirstRefusalIsAnswered
first_refusal_is_answered days window events line time facts (Refused reason which) refusal is first near next index =
    let refused = lawful_answer days window events line time facts (Refused reason which) is in
    let same = first_refusal_is_one SCALE facts refused.0 refusal (refusal_of_facts days window events line time facts (Refused reason which) is refused.0 refused.2) first in
    refused.1 ∙ ap (λ r. Some r) same
first_refusal_is_answered days window events line time facts (Published cents lo hi certificate) refusal is first near next index =
    let published = lawful_answer days window events line time facts (Published cents lo hi certificate) is in
    let same = facts_are_one events line time days window published.facts facts published.are_facts is.are_facts in
    published.none_refuses refusal (subst (λ (f : TickFacts). TickRefuses SCALE f refusal) (sym same) first.holds)
first_refusal_is_answered days window events line time facts (UndecidedCents lo hi) refusal is first near next index =
    let answer : TickAnswer = UndecidedCents lo hi in
    let leaves : LeavesCents events line time days window lo hi = lawful_answer days window events line time facts (UndecidedCents lo hi) is in
    let none = none_of_facts days window events line time facts (UndecidedCents lo hi) is leaves.facts cents_undecided_place leaves.are_facts leaves.none_earlier in
    let late = not_before tick_place (TickRefuses SCALE facts) cents_undecided_place refusal first.holds none in
    cents_are_decided days window events line time facts (UndecidedCents lo hi) is (is.is_answer).answered (index (late_tick_is_negative refusal late)) lo hi leaves
first_refusal_is_answered days window events line time facts (UndecidedForward Near strike lo hi) refusal is first near next index =
    let h = (is.is_answer).answered in
    let leaves : LeavesNearForward events line time days window strike lo hi = lawful_answer days window events line time facts (UndecidedForward Near strike lo hi) is in
    let none = none_of_facts days window events line time facts (UndecidedForward Near strike lo hi) is leaves.facts near_undecided_place leaves.are_facts (leaves.leaves).none_earlier in
    let late = not_near_place refusal (not_before tick_place (TickRefuses SCALE facts) near_undecided_place refusal first.holds none) in
    near_is_decided line time days strike lo hi h.near_answer h.next_answer (near_decided days window events line time facts (UndecidedForward Near strike lo hi) is h (near late)) h.joined
first_refusal_is_answered days window events line time facts (UndecidedForward Next strike lo hi) refusal is first near next index =
    let h = (is.is_answer).answered in
    let leaves : LeavesNextForward events line time days window strike lo hi = lawful_answer days window events line time facts (UndecidedForward Next strike lo hi) is in
    let none = none_of_facts days window events line time facts (UndecidedForward Next strike lo hi) is leaves.facts next_undecided_place leaves.are_facts (leaves.leaves).none_earlier in
    let late = not_next_place refusal (not_before tick_place (TickRefuses SCALE facts) next_undecided_place refusal first.holds none) in
    next_is_decided line time days strike lo hi h.near_answer h.next_answer (next_decided days window events line time facts (UndecidedForward Next strike lo hi) is h (next late)) h.joined
first_refusal_is_answered days window events line time facts (UndecidedForward Both strike lo hi) refusal is first near next index =
    lawful_answer days window events line time facts (UndecidedForward Both strike lo hi) is
