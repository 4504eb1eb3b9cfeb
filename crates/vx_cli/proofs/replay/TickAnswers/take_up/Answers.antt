-- Behind an event that is no tick there is no answer.
use Rattle.std.proofs.Common.{rules, ◌≡◌, sym, subst, [], ◌∷◌, ◌++◌, Option, None}
use Rattle.vx_replay.specs.declared.replay.Replay.{Replay}
use Rattle.vx_replay.specs.StandsFor.{ReplayStandsFor}
use Rattle.vx_cli.specs.declared.replay.TimedAnswer.{TimedAnswer}
use Rattle.vx_cli.specs.LastAnswer.{GivesTimed}
use Rattle.vx_cli.proofs.AnswerLemmas.{is_no_tick, no_tick}
use Rattle.vx_cli.proofs.replay.TickAnswers.take_up.Goals as goal

pub take_up-requires-clause-no_tick : goal.take_up-requires-clause-no_tick
take_up-requires-clause-no_tick c = is_no_tick c.args.event c.requires.no_tick

pub returns-clause-taken : goal.returns-clause-taken
returns-clause-taken c = λ events h next. record {
  stands = subst (λ (r : Replay). ReplayStandsFor r (events ++ c.args.event ∷ [])) (sym c.let_go.ensures.replay)
      (c.in_ok-take_up.ensures.stands events h.stands next);
  gives = subst (λ (o : Option TimedAnswer). GivesTimed (events ++ c.args.event ∷ []) o) (sym c.let_go.ensures.none)
      (no_tick events c.args.event c.requires.no_tick);
}

pub returns-then-is_none-clause-taken : goal.returns-then-is_none-clause-taken
returns-then-is_none-clause-taken c = λ events h next.
    let none : c.args.self.now.last ≡ None = search rules in
    record {
      stands = c.in_ok-take_up.ensures.stands events h.stands next;
      gives = subst (λ (o : Option TimedAnswer). GivesTimed (events ++ c.args.event ∷ []) o) (sym none)
          (no_tick events c.args.event c.requires.no_tick);
    }
