use Rattle.std.proofs.Common.{rules, ◌≡◌, sym, subst, [], ◌∷◌, ◌++◌, Option, Some, None}
use Rattle.vx_cli.specs.declared.replay.TimedAnswer.{TimedAnswer}
use Rattle.vx_cli.specs.LastAnswer.{GivesTimed}
use Rattle.vx_feed.specs.Order.{tick_minute}
use Rattle.vx_cli.proofs.AnswerLemmas.{is_answered, no_tick}
use Rattle.vx_cli.proofs.replay.TimedAnswer.of_event.Goals as goal

pub returns-in_err-time : goal.returns-in_err-time
returns-in_err-time c =
    let none : tick_minute c.args.event ≡ None = search rules in
    let nothing : c.from_residual.result ≡ None = search rules in
    record {
      gives = λ events h. subst (λ (r : Option TimedAnswer). GivesTimed (events ++ c.args.event ∷ []) r) (sym nothing) (no_tick events c.args.event none);
    }

pub returns : goal.returns
returns c =
    let minute : tick_minute c.args.event ≡ Some c.in_ok-time.time = search rules in
    let answered : c.args.answer ≡ Some c.in_ok-answer.answer = search rules in
    record {
      gives = λ events h. is_answered events c.args.event c.in_ok-time.time c.in_ok-answer.answer c.args.answer minute answered h;
    }
