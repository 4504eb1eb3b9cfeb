use Rattle.vx_bounds.specs.Exponential.{high_term, high_sum_to}
use Rattle.vx_bounds.proofs.Loops.{Collects}
use Rattle.vx_bounds.proofs.exponential.high_terms.Given as goal

abbrev pub invariant-loop-k : goal.invariant-loop-k
invariant-loop-k l = Collects (high_term l.first l.p l.q) (high_sum_to l.first l.p l.q) l.k l.terms l.term l.sum
