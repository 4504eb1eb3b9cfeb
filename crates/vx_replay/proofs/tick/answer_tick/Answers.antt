-- Where no next term is picked there is none among the declared expiries.
use Rattle.std.proofs.Common.{◌≡◌, ◌∙◌, sym}
use Rattle.std.proofs.lemmas.Option.{same_Some}
use Rattle.vx_replay.proofs.TickSteps.{next_is_missing}
use Rattle.vx_replay.proofs.tick.answer_tick.Goals as goal

pub returns-in-Err-Next-clause-answer : goal.returns-in-Err-Next-clause-answer
returns-in-Err-Next-clause-answer g c = λ events day stands day_is.
    let xs = c.args.book.now.expiries.items in
    let shown : c.in-Some.day ≡ day = same_Some c.in-Some.day day (sym c.in-Some.is ∙ c.day.ensures.value events stands ∙ day_is) in
    next_is_missing events day c.in-Some.day xs c.expiries.result.now (sym shown) stands.expiries c.expiries.ensures.kept (c.pick_terms.ensures.no_next.0 cc)
