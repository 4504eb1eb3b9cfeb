use Rattle.std.proofs.Common.{◌≡◌, ◌↔◌, IsTrue, sym, subst, ap, arith}
use Rattle.vx_cert.specs.declared.certificate.CertBody.{CertBody}
use Rattle.vx_claims.specs.declared.acceptance.Test.{Test}
use Rattle.vx_claims.specs.declared.acceptance.Test.TheVariants.{Variance, Square}
use Rattle.vx_claims.specs.Test.{test_number}
use Rattle.vx_claims.specs.Accepts.{scale_of, IndexMeets}
use Rattle.vx_tests.proofs.TermRanges.{variance_range}
use Rattle.vx_check.specs.Answers.{AreMetBefore, BodyMeetsAsIndex}
use Rattle.vx_check.specs.Numbers.{IndexNumbersMeet}
use Rattle.vx_check.proofs.EachKind.{tick_before, later_test, no_square, index_rest, level_kind, single_kind, soq_kind}
use Rattle.vx_check.proofs.index.index_meets.Goals as goal

-- ---- the ranges that earlier tests gave

pub figure_meets-requires-clause-near : goal.figure_meets-requires-clause-near
figure_meets-requires-clause-near c = λ is.
    let P = scale_of c.args.c.now.v in
    let n : test_number c.args.test ≡ 15 = ap test_number is in
    let earlier = subst (λ (body : CertBody). AreMetBefore (IndexNumbersMeet P body) c.args.test) c.in-Index.is c.requires.earlier in
    let t = c.in-Index.near in
    variance_range P t.e t.g t.s t.w (earlier Variance (omega arith)).0

pub figure_meets-requires-clause-next : goal.figure_meets-requires-clause-next
figure_meets-requires-clause-next c = λ is.
    let P = scale_of c.args.c.now.v in
    let n : test_number c.args.test ≡ 15 = ap test_number is in
    let earlier = subst (λ (body : CertBody). AreMetBefore (IndexNumbersMeet P body) c.args.test) c.in-Index.is c.requires.earlier in
    let t = c.in-Index.next in
    variance_range P t.e t.g t.s t.w (earlier Variance (omega arith)).1

pub figure_meets-requires-clause-square : goal.figure_meets-requires-clause-square
figure_meets-requires-clause-square c = λ is.
    let P = scale_of c.args.c.now.v in
    let n : test_number c.args.test ≡ 16 = ap test_number is in
    let earlier = subst (λ (body : CertBody). AreMetBefore (IndexNumbersMeet P body) c.args.test) c.in-Index.is c.requires.earlier in
    (earlier Square (omega arith)).2

pub both_meet-requires-clause-near : goal.both_meet-requires-clause-near
both_meet-requires-clause-near c = λ other high low.
    (subst (λ (body : CertBody). AreMetBefore (IndexNumbersMeet (scale_of c.args.c.now.v) body) c.args.test) c.in-Index.is c.requires.earlier other low).0

pub both_meet-requires-clause-next : goal.both_meet-requires-clause-next
both_meet-requires-clause-next c = λ other high low.
    (subst (λ (body : CertBody). AreMetBefore (IndexNumbersMeet (scale_of c.args.c.now.v) body) c.args.test) c.in-Index.is c.requires.earlier other low).1

-- ---- the tests of both terms

pub returns-in_default-clause-exact : goal.returns-in_default-clause-exact
returns-in_default-clause-exact c = λ events reached.
    let a = c.args in
    let cert = c.args.c.now in
    let i = c.in-Index in
    let not = c.in_default in
    let M : Test → Type 0 = λ t. IndexMeets a.days a.window events cert.v cert.line cert.time i.stated i.near i.next i.figure t in
    let rest = index_rest a.days a.window events cert.v cert.line cert.time i.stated i.near i.next i.figure a.test not.not-Place not.not-Terms not.not-Square not.not-IndexEnds in
    let Says : CertBody → Type 0 = λ body. AreMetBefore (BodyMeetsAsIndex a.days a.window events cert.v cert.line cert.time body) a.test
    → (IsTrue c.both_meet.result ↔ BodyMeetsAsIndex a.days a.window events cert.v cert.line cert.time body a.test) in
    let here : AreMetBefore M a.test → (IsTrue c.both_meet.result ↔ M a.test) = λ before.
    (let h = tick_before a.book.now events cert.line cert.time M (λ m. m.0) reached a.test (later_test a.test not.not-Place) before in
    let met = c.both_meet.ensures.exact events cert.line h in
    (λ t. rest.1 (met.0 t), λ m. met.1 (rest.0 m))) in
    subst Says (sym i.is) here

pub returns-in_default-clause-numbers : goal.returns-in_default-clause-numbers
returns-in_default-clause-numbers c = λ t.
    let P = scale_of c.args.c.now.v in
    let both = c.both_meet.ensures.numbers t in
    subst (λ (body : CertBody). IndexNumbersMeet P body c.args.test) (sym c.in-Index.is)
    (both.0, both.1, no_square P c.in-Index.figure c.args.test c.in_default.not-Square)

-- ---- the other kinds

pub returns-in-K0-clause-exact : goal.returns-in-K0-clause-exact
returns-in-K0-clause-exact c = λ events reached before.
    let a = c.args in
    let cert = c.args.c.now in
    level_kind a.days a.window events cert.v cert.line cert.time cert.body c.in-K0.is c.is_later.result a.test c.is_later.ensures

pub returns-in-Single-clause-exact : goal.returns-in-Single-clause-exact
returns-in-Single-clause-exact c = λ events reached before.
    let a = c.args in
    let cert = c.args.c.now in
    single_kind a.days a.window events cert.v cert.line cert.time cert.body c.in-Single.is c.is_later-in-Single.result a.test c.is_later-in-Single.ensures

pub returns-in-Soq-clause-exact : goal.returns-in-Soq-clause-exact
returns-in-Soq-clause-exact c = λ events reached before.
    let a = c.args in
    let cert = c.args.c.now in
    soq_kind a.days a.window events cert.v cert.line cert.time cert.body c.in-Soq.is c.is_later-in-Soq.result a.test c.is_later-in-Soq.ensures
