use Rattle.std.proofs.Common.{◌≡◌, ap, arith}
use Rattle.vx_claims.specs.declared.acceptance.Test.{Test}
use Rattle.vx_claims.specs.declared.acceptance.Test.TheVariants.{Variance, Square}
use Rattle.vx_claims.specs.Test.{test_number}
use Rattle.vx_claims.specs.Accepts.{scale_of, SingleMeets}
use Rattle.vx_tests.proofs.TermRanges.{variance_range}
use Rattle.vx_check.proofs.EachKind.{tick_before, later_test, no_square, single_rest}
use Rattle.vx_check.proofs.single.single_meets.Goals as goal

-- ---- the ranges that earlier tests gave

pub single_figure_meets-requires-clause-variance : goal.single_figure_meets-requires-clause-variance
single_figure_meets-requires-clause-variance c = λ is.
    let t = c.args.term.now in
    let n : test_number c.args.test ≡ 15 = ap test_number is in
    variance_range (scale_of c.args.c.now.v) t.e t.g t.s t.w (c.requires Variance (omega arith)).0

pub single_figure_meets-requires-clause-square : goal.single_figure_meets-requires-clause-square
single_figure_meets-requires-clause-square c = λ is.
    let n : test_number c.args.test ≡ 16 = ap test_number is in
    (c.requires Square (omega arith)).1

pub single_term_meets-requires : goal.single_term_meets-requires
single_term_meets-requires c = λ other high low. (c.requires other low).0

-- ---- the tests of the one term

pub returns-in_default-clause-exact : goal.returns-in_default-clause-exact
returns-in_default-clause-exact c = λ events reached before.
    let a = c.args in
    let cert = c.args.c.now in
    let term = c.args.term.now in
    let figure = c.args.figure.now in
    let not = c.in_default in
    let M : Test → Type 0 = λ t. SingleMeets events cert.v cert.line cert.time term figure t in
    let h = tick_before a.book.now events cert.line cert.time M (λ m. m) reached a.test (later_test a.test not.not-Place) before in
    let rest = single_rest events cert.v cert.line cert.time term figure a.test not.not-Place not.not-Terms not.not-Square not.not-IndexEnds in
    let met = c.single_term_meets.ensures.exact events cert.line h in
    (λ t. rest.1 (met.0 t), λ m. met.1 (rest.0 m))

pub returns-in_default-clause-numbers : goal.returns-in_default-clause-numbers
returns-in_default-clause-numbers c = λ t.
    (c.single_term_meets.ensures.numbers t, no_square (scale_of c.args.c.now.v) c.args.figure.now c.args.test c.in_default.not-Square)
