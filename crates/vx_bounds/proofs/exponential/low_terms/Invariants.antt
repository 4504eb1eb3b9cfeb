use Rattle.vx_bounds.specs.Exponential.{low_term, low_sum_to}
use Rattle.vx_bounds.proofs.Loops.{Collects}
use Rattle.vx_bounds.proofs.exponential.low_terms.Given as goal

abbrev pub invariant-loop-k : goal.invariant-loop-k
invariant-loop-k l = Collects (low_term l.first l.p l.q) (low_sum_to l.first l.p l.q) l.k l.terms l.term l.sum
