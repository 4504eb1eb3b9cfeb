use Rattle.std.proofs.Common.{arith, rules}
use Rattle.std.proofs.lemmas.Int.{ints}
use Rattle.vx_interval.proofs.Enclosures.{exact_encloses}
use Rattle.vx_interval.proofs.interval.Iv.exact.Goals as goal

pub returns-clause-ends : goal.returns-clause-ends
returns-clause-ends g c = search rules

pub returns-clause-encloses : goal.returns-clause-encloses
returns-clause-encloses g c = rw (returns-clause-ends g c) (exact_encloses g.row.P c.args.n)

pub returns-clause-width : goal.returns-clause-width
returns-clause-width g c = rw (returns-clause-ends g c) (omega (arith, ints))
