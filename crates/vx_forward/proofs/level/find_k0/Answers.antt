use Rattle.std.proofs.Common.{rules}
use Rattle.vx_forward.proofs.Printed.{answer_holds}
use Rattle.vx_forward.proofs.level.find_k0.Goals as goal

pub returns-clause-answer : goal.returns-clause-answer
returns-clause-answer g c = search rules

pub returns-clause-level : goal.returns-clause-level
returns-clause-level g c = λ forward m. answer_holds g.row.P c.args.term.now.rows.now c.args.f.now forward c.k0_between.result m (returns-clause-answer g c)
