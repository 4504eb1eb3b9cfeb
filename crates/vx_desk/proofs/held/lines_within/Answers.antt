use Rattle.std.proofs.Common.{ap, take}
use Rattle.vx_desk.proofs.HeldLemmas.{window_lines, window_none}
use Rattle.vx_desk.proofs.held.lines_within.Goals as goal

pub returns-in-Some-clause-lines : goal.returns-in-Some-clause-lines
returns-in-Some-clause-lines c = window_lines c.args.limit c.args.bytes.now _ _ c.in-Some.at (ap (λ n. take n c.args.bytes.now) c.min.ensures) c.memrchr.ensures c.in-Some.is

pub returns-in-None-clause-none : goal.returns-in-None-clause-none
returns-in-None-clause-none c = λ zero. window_none c.args.limit c.args.bytes.now _ _ (ap (λ n. take n c.args.bytes.now) c.min.ensures) c.memrchr.ensures c.in-None.is
