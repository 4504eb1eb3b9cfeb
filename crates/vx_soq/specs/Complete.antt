-- What the opening is sure to be answered: a figure, or the first refusal, where all is far from every boundary.
use Rattle.std.specs.Prelude.{◌≡◌, ◌<◌, List}
use Rattle.vx_feed.specs.declared.events.Event.{Event}
use Rattle.vx_feed.specs.Order.{AreLawful}
use Rattle.vx_formula.specs.Refusal.{OpeningReason, negative_opening, OpeningRefuses, opening_place, opening_undecided_place}
use Rattle.vx_claims.specs.declared.limits.TheConstants.{SCALE}
use Rattle.vx_claims.specs.Seen.{opening_facts}
use Rattle.vx_claims.specs.Answers.{RefusesOpening}
use Rattle.vx_accepted.specs.Clear.{HasClearForward, HasClearOpeningIndex}
use Rattle.vx_soq.specs.declared.answer.OpeningAnswer.{OpeningAnswer}
use Rattle.vx_soq.specs.declared.answer.OpeningAnswer.TheVariants.{Published, Refused}
use Rattle.vx_soq.specs.Openings.{IsOpeningAnswer}
use Rattle.vx_soq.specs.Lawful.{opening_reason}

-- the answer is a figure
abbrev pub IsOpeningPublished : OpeningAnswer → Type 0
IsOpeningPublished (Published figure) = Unit {0}
IsOpeningPublished _ = ⊥

-- the answer is this refusal
abbrev pub IsOpeningRefusedFor : OpeningReason → OpeningAnswer → Type 0
IsOpeningRefusedFor refusal (Refused reason) = opening_reason reason ≡ refusal
IsOpeningRefusedFor refusal _ = ⊥

-- where no refusal holds, and the forward and the index are clear, it is a figure
abbrev pub PublishesWhereClear : List Event → OpeningAnswer → Type 0
PublishesWhereClear events answer =
    ((reason : OpeningReason) → ¬ OpeningRefuses SCALE (opening_facts events) reason) →
    HasClearForward (opening_facts events).term → HasClearOpeningIndex (opening_facts events) → IsOpeningPublished answer

-- where a refusal is the first that holds, and the forward is clear if its undecided answer comes before it, it is that
-- refusal; for a negative variance the index is to be clear too
abbrev pub RefusesWhereClear : List Event → OpeningAnswer → Type 0
RefusesWhereClear events answer = (reason : OpeningReason) → RefusesOpening events reason →
    (opening_undecided_place < opening_place reason → HasClearForward (opening_facts events).term) →
    (reason ≡ negative_opening → HasClearOpeningIndex (opening_facts events)) → IsOpeningRefusedFor reason answer

-- the answer to the opening of lawful events is so
abbrev pub ClearOpeningIsPublished : Type 0
ClearOpeningIsPublished = (events : List Event) (answer : OpeningAnswer) →
    AreLawful events → IsOpeningAnswer events answer → PublishesWhereClear events answer

abbrev pub FirstOpeningRefusalIsAnswered : Type 0
FirstOpeningRefusalIsAnswered = (events : List Event) (answer : OpeningAnswer) →
    AreLawful events → IsOpeningAnswer events answer → RefusesWhereClear events answer
