use Rattle.std.proofs.Common.{◌∙◌, subst, refl, [], ◌∷◌, ◌++◌}
use Rattle.vx_drivers.specs.TickSteps.{GivesTexts, SendsBoth}
use Rattle.vx_drivers.proofs.TickLemmas.{no_tick, tick_sent}
use Rattle.vx_drivers.proofs.tick_run.TickRun.answer_last.Goals as goal

pub returns-in-Ok-None-clause-gives : goal.returns-in-Ok-None-clause-gives
returns-in-Ok-None-clause-gives g c = λ held feed stand event at.
    let events = stand.events ++ event ∷ [] in
    let stands = c.taker.ensures held feed events (g.D.Desk.told c.args.desk.now) at.at in
    let gives = subst (λ found. GivesTexts g.T.AnswersTicks.rules events c.answer.new.certificate.items
    c.answer.new.line.items found) c.in-Ok-None.field-0-is
    (c.in-Ok-None.ensures events stands at.at.taken_up.lawful) in
    no_tick g.T.AnswersTicks.rules g.T.TakesEvents.StandsFor held feed stand event c.args.self.now
    (record c.args.self.now { certificate = c.answer.new.certificate; line = c.answer.new.line })
    (g.D.Desk.told c.args.desk.now) at refl refl refl refl gives

pub returns-clause-gives : goal.returns-clause-gives
returns-clause-gives g c = λ held feed stand event at.
    let events = stand.events ++ event ∷ [] in
    let stands = c.taker.ensures held feed events (g.D.Desk.told c.args.desk.now) at.at in
    let gives = subst (λ found. GivesTexts g.T.AnswersTicks.rules events c.answer.new.certificate.items
    c.answer.new.line.items found) c.in-Ok-Some.field-0-is
    (c.in-Ok-Some.ensures events stands at.at.taken_up.lawful) in
    let first = subst (λ t. SendsBoth t c.as_slice-2.result.now (g.D.Desk.told c.args.desk.now)
    (g.D.Desk.told c.send_both.new.desk) c.send_both.result) (c.as_slice.ensures.value ∙ c.count.ensures.certificate)
    c.send_both.ensures.sends in
    let sends = subst (λ t. SendsBoth c.answer.new.certificate.items t (g.D.Desk.told c.args.desk.now)
    (g.D.Desk.told c.send_both.new.desk) c.send_both.result) (c.as_slice-2.ensures.value ∙ c.count.ensures.line)
    first in
    tick_sent g.T.AnswersTicks.rules g.T.TakesEvents.StandsFor held feed stand event c.args.self.now c.count.new.self
    c.answer.new.certificate.items c.answer.new.line.items c.in-Ok-Some.tally
    (g.D.Desk.told c.args.desk.now) (g.D.Desk.told c.send_both.new.desk)
    c.send_both.result at c.count.ensures.feed c.count.ensures.published c.count.ensures.undecided
    c.count.ensures.refused c.count.ensures.few
    gives c.send_both.ensures.feed sends
