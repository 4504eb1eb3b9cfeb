-- With the strips as they were, the replay stands for one event more.
use Rattle.std.proofs.Common.{refl}
use Rattle.vx_replay.proofs.NextReplay.{steps_undeclared}
use Rattle.vx_replay.proofs.QuietEvents.{quiet}
use Rattle.vx_replay.proofs.replay.Replay.take_up.Goals as goal

pub returns-in_ok-apply-in_default : goal.returns-in_ok-apply-in_default
returns-in_ok-apply-in_default c =
    let old = c.args.self.now in
    let e = c.args.e.now in
    let is_quiet = quiet e c.requires.no_tick c.in_default.not-Expiry in
    record {
      stands = steps_undeclared old (record old { book = c.apply.new.self }) e c.in_ok-apply-in_default.ensures.applied is_quiet.declares_none refl;
      refused = tt;
      kept = λ events count. is_quiet.leaves_strips events old.kept.items count;
      same = tt;
    }
