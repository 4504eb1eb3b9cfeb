use Rattle.std.proofs.Common.{◌≡◌, ◌↔◌, IsTrue, List, sym, subst, ◌∙◌, ap, arith}
use Rattle.vx_symbol.specs.declared.rows.StrikeRow.{StrikeRow}
use Rattle.vx_formula.specs.Pair.{IsClosestPair}
use Rattle.vx_claims.specs.declared.acceptance.Test.{Test}
use Rattle.vx_claims.specs.Test.{test_number}
use Rattle.vx_claims.specs.TermTests.{stated_pair, IsLevelOfEnds}
use Rattle.vx_claims.specs.Accepts.{scale_of, zero_rate_forward, K0Meets}
use Rattle.vx_check.proofs.AtTick.{rate_is, rows_are}
use Rattle.vx_check.proofs.EachKind.{tick_before}
use Rattle.vx_check.proofs.level.level_meets.Goals as goal

pub returns-in-Rate : goal.returns-in-Rate
returns-in-Rate c = λ events reached before.
    let a = c.args in
    let cert = c.args.c.now in
    let n : test_number a.test ≡ 4 = ap test_number c.in-Rate.is in
    let M : Test → Type 0 = λ t. K0Meets events cert.v cert.line cert.time a.expiry a.pair a.k0 t in
    let h = tick_before a.book.now events cert.line cert.time M (λ m. m) reached a.test (omega arith) before in
    let e = c.rate.ensures ∙ rate_is a.book.now events cert.line cert.time h a.expiry in
    let met = c.is_zero.ensures in
    let F : Test → Type 0 = λ t. IsTrue c.is_zero.result ↔ M t in
    subst F (sym c.in-Rate.is) (λ t. sym e ∙ met.0 t, λ m. met.1 (e ∙ m))

pub returns-in-ClosestPair : goal.returns-in-ClosestPair
returns-in-ClosestPair c = λ events reached before.
    let a = c.args in
    let cert = c.args.c.now in
    let n : test_number a.test ≡ 7 = ap test_number c.in-ClosestPair.is in
    let M : Test → Type 0 = λ t. K0Meets events cert.v cert.line cert.time a.expiry a.pair a.k0 t in
    let h = tick_before a.book.now events cert.line cert.time M (λ m. m) reached a.test (omega arith) before in
    let e = c.rows.ensures ∙ rows_are a.book.now events cert.line cert.time h a.expiry in
    let G : List StrikeRow → Type 0 = λ rows. IsTrue c.is_closest.result ↔ IsClosestPair rows (stated_pair a.pair) in
    let F : Test → Type 0 = λ t. IsTrue c.is_closest.result ↔ M t in
    subst F (sym c.in-ClosestPair.is) (subst G e c.is_closest.ensures)

pub returns-in-Level : goal.returns-in-Level
returns-in-Level c = λ events reached before.
    let a = c.args in
    let cert = c.args.c.now in
    let n : test_number a.test ≡ 9 = ap test_number c.in-Level.is in
    let M : Test → Type 0 = λ t. K0Meets events cert.v cert.line cert.time a.expiry a.pair a.k0 t in
    let h = tick_before a.book.now events cert.line cert.time M (λ m. m) reached a.test (omega arith) before in
    let e = c.rows-in-Level.ensures ∙ rows_are a.book.now events cert.line cert.time h a.expiry in
    let P = scale_of cert.v in
    let G : List StrikeRow → Type 0 = λ rows. IsTrue c.is_zero_rate_level.result ↔ IsLevelOfEnds P rows (zero_rate_forward P a.pair) a.k0 in
    let F : Test → Type 0 = λ t. IsTrue c.is_zero_rate_level.result ↔ M t in
    subst F (sym c.in-Level.is) (subst G e c.is_zero_rate_level.ensures)
