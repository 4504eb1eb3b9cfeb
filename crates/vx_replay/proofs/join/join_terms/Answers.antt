-- The certificate of two runs' figure is in range.
use Rattle.std.proofs.Common.{subst}
use Rattle.std.proofs.lemmas.Result.{IfOk-weaker}
use Rattle.vx_term.specs.declared.answer.TermAnswer.{TermAnswer}
use Rattle.vx_replay.specs.Joinable.{AreJoinable, CanBeWritten, IsJoinableWithRun}
use Rattle.vx_replay.specs.Joined.{IsJoinedWithRun}
use Rattle.vx_replay.proofs.Joining.{run_joined_can_be_written}
use Rattle.vx_replay.proofs.join.join_terms.Goals as goal

pub returns-in-Run-clause-in_range : goal.returns-in-Run-clause-in_range
returns-in-Run-clause-in_range g c =
    let P = g.row.P in
    let next = c.args.next.now in
    let near = c.in-Run.near in
    let joinable : IsJoinableWithRun P c.args.days near next = subst (λ (a : TermAnswer P). AreJoinable P c.args.days a next) c.in-Run.is c.requires.joinable in
    IfOk-weaker c.join_with_run.result (IsJoinedWithRun c.args.line c.args.time c.args.days near next) CanBeWritten
    (run_joined_can_be_written P c.args.line c.args.time c.args.days c.requires.line c.requires.time c.requires.days near next joinable) c.join_with_run.ensures
