use Rattle.std.proofs.Common.{◌∙◌, arith}
use Rattle.std.proofs.lemmas.Int.{ints}
use Rattle.vx_interval.proofs.EndsLemmas.{same_ends}
use Rattle.vx_interval.proofs.Enclosures.{sub_encloses}
use Rattle.vx_interval.proofs.Widths.{sub_width}
use Rattle.vx_interval.proofs.interval.Iv.sub.Goals as goal

pub returns-clause-ends : goal.returns-clause-ends
returns-clause-ends g c = c.new.ensures.ends ∙ same_ends _ _ (omega (arith, ints)) (omega (arith, ints))

pub returns-clause-encloses : goal.returns-clause-encloses
returns-clause-encloses g c = rw (returns-clause-ends g c) (λ f h mf mh. sub_encloses g.row.P c.args.self.now c.args.o.now f h mf mh)

pub returns-clause-width : goal.returns-clause-width
returns-clause-width g c = rw (returns-clause-ends g c) (sub_width c.args.self.now c.args.o.now)
