use Rattle.std.proofs.Common.{◌≡◌, ap, arith}
use Rattle.vx_claims.specs.declared.acceptance.Test.TheVariants.{Place, Terms, Variance, Square}
use Rattle.vx_claims.specs.Test.{test_number}
use Rattle.vx_claims.specs.Accepts.{scale_of}
use Rattle.vx_tests.proofs.TermRanges.{variance_range}
use Rattle.vx_check.specs.Reached.{IsAtOpening}
use Rattle.vx_check.proofs.EachKind.{second_test, no_square, soq_rest}
use Rattle.vx_check.proofs.soq.soq_meets.Goals as goal

-- ---- the ranges that earlier tests gave

pub single_figure_meets-requires-clause-variance : goal.single_figure_meets-requires-clause-variance
single_figure_meets-requires-clause-variance c = λ is.
    let t = c.args.term.now in
    let n : test_number c.args.test ≡ 15 = ap test_number is in
    variance_range (scale_of c.args.c.now.v) t.e t.g t.s t.w (c.requires Variance (omega arith)).0

pub single_figure_meets-requires-clause-square : goal.single_figure_meets-requires-clause-square
single_figure_meets-requires-clause-square c = λ is.
    let n : test_number c.args.test ≡ 16 = ap test_number is in
    (c.requires Square (omega arith)).1

pub opening_term_meets-requires : goal.opening_term_meets-requires
opening_term_meets-requires c = λ other high low. (c.requires other low).0

-- ---- the tests of the opening's term

pub returns-in_default-clause-exact : goal.returns-in_default-clause-exact
returns-in_default-clause-exact c = λ events reached lawful before.
    let a = c.args in
    let cert = c.args.c.now in
    let term = c.args.term.now in
    let figure = c.args.figure.now in
    let not = c.in_default in
    let later = second_test a.test not.not-Place not.not-Terms in
    let h : IsAtOpening a.book.now events cert.line cert.time =
    record { stands = reached.stands; lawful = lawful; is_opening = before Place (omega arith) } in
    let rest = soq_rest events cert.v cert.line cert.time term figure a.test not.not-Place not.not-Terms not.not-Square not.not-IndexEnds in
    let met = c.opening_term_meets.ensures.exact events cert.line cert.time h (before Terms (omega arith)) in
    (λ t. rest.1 (met.0 t), λ m. met.1 (rest.0 m))

pub returns-in_default-clause-numbers : goal.returns-in_default-clause-numbers
returns-in_default-clause-numbers c = λ t.
    (c.opening_term_meets.ensures.numbers t, no_square (scale_of c.args.c.now.v) c.args.figure.now c.args.test c.in_default.not-Square)
