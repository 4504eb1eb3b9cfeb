use Rattle.std.proofs.Common.{◌≡◌, ap, arith}
use Rattle.vx_claims.specs.declared.acceptance.Test.TheVariants.{Exponential, Excess, Contributions, Total}
use Rattle.vx_claims.specs.Test.{test_number}
use Rattle.vx_tests.proofs.TermRanges.{exponential_range, excess_range, total_range}
use Rattle.vx_tests.proofs.term.meets.Goals as goal

pub encloses_forward-requires-clause-exponential : goal.encloses_forward-requires-clause-exponential
encloses_forward-requires-clause-exponential c =
    let t = c.args.term.now in
    let n : test_number c.args.test ≡ 8 = ap test_number c.in-Forward.is in
    exponential_range c.args.scale t.rate t.t_lo t.t_hi t.e (c.requires.earlier Exponential (omega arith) (omega arith))

pub encloses_variance-requires-clause-exponential : goal.encloses_variance-requires-clause-exponential
encloses_variance-requires-clause-exponential c =
    let t = c.args.term.now in
    let n : test_number c.args.test ≡ 14 = ap test_number c.in-Variance.is in
    exponential_range c.args.scale t.rate t.t_lo t.t_hi t.e (c.requires.earlier Exponential (omega arith) (omega arith))

pub encloses_variance-requires-clause-excess : goal.encloses_variance-requires-clause-excess
encloses_variance-requires-clause-excess c =
    let t = c.args.term.now in
    let n : test_number c.args.test ≡ 14 = ap test_number c.in-Variance.is in
    excess_range c.args.scale t.f t.k0 t.g (c.requires.earlier Excess (omega arith) (omega arith))

pub encloses_variance-requires-clause-total : goal.encloses_variance-requires-clause-total
encloses_variance-requires-clause-total c =
    let t = c.args.term.now in
    let n : test_number c.args.test ≡ 14 = ap test_number c.in-Variance.is in
    total_range c.args.scale t.rows t.s (c.requires.earlier Contributions (omega arith) (omega arith)) (c.requires.earlier Total (omega arith) (omega arith))
