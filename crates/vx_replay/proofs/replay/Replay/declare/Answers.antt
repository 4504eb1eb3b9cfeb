-- With one new strip the replay stands for the events with the declared expiry at their end.
use Rattle.std.proofs.Common.{◌∙◌, ap, refl, [], ◌∷◌, ◌++◌, None}
use Rattle.vx_feed.specs.declared.events.Event.TheVariants.{Expiry}
use Rattle.vx_replay.specs.StripsAfter.{Holding}
use Rattle.vx_replay.proofs.NextReplay.{steps_declared}
use Rattle.vx_replay.proofs.replay.Replay.declare.Goals as goal

pub returns-in-Ok-clause-stands : goal.returns-in-Ok-clause-stands
returns-in-Ok-clause-stands c =
    let old = c.args.self.now in
    let strip : Holding = None in
    steps_declared old (record old { book = c.apply.new.self; kept = c.push.new.self }) (Expiry c.args.expiry) c.in-Ok.ensures.applied c.args.expiry refl strip
    (c.in_ok-push.ensures.items ∙ ap (λ (s : Holding). old.kept.items ++ s ∷ []) c.in_ok-new.ensures)
