use Rattle.std.proofs.Common.{subst, List, [], ◌∷◌, ◌++◌}
use Rattle.vx_feed.specs.declared.events.Event.{Event}
use Rattle.vx_feed.specs.declared.events.Event.TheVariants.{Tick}
use Rattle.vx_feed.specs.Noted as noted
use Rattle.vx_feed.specs.Order.{IsLawfulNext}
use Rattle.vx_replay.proofs.replay.kept_tests.holds_after_line.Goals as goal

pub returns : goal.returns
returns c =
    let events : List Event = (c.requires).0 in
    let lawful = subst (λ (e : Event). IsLawfulNext events e) c.in-Tick.is (c.in_ok-event.ensures.lawful events (c.requires).1) in
    let seen = subst (λ (e : Event). noted.StandsFor c.note.new.self (events ++ e ∷ [])) c.in-Tick.is (c.in_ok-note.ensures.noted events (c.requires).1) in
    (events ++ Tick c.in-Tick.time ∷ [], seen, c.in_ok-holds_after.ensures events (c.requires).2 lawful)
