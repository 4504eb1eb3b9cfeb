-- An event that is no tick is not answered.
use Rattle.vx_replay.proofs.QuietEvents.{no_tick_is_unanswered}
use Rattle.vx_replay.proofs.replay.Replay.step_counted.Goals as goal

pub returns-in_ok-take_up-in_default : goal.returns-in_ok-take_up-in_default
returns-in_ok-take_up-in_default g c =
    let e = c.args.e.now in
    record {
      stands = c.in_ok-take_up-in_default.ensures.stands;
      refused = tt;
      answer = λ events h next. (no_tick_is_unanswered e c.in_default.not-Tick).answers_none events;
      kept = λ events h next. c.in_ok-take_up-in_default.ensures.kept events c.args.steps.now;
    }
